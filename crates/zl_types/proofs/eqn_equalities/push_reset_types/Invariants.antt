use Rattle.std.proofs.Common.{◌≡◌, ◌++◌, drop, map}
use Rattle.zl_value.specs.declared.value.Ty.TheVariants as ty
use Rattle.zl_ast.specs.TypeEqualities.{fixed, reset_places}
use Rattle.zl_types.proofs.eqn_equalities.push_reset_types.Given as goal

abbrev pub invariant-loop-reset : goal.invariant-loop-reset
invariant-loop-reset l = l.list ++ map (fixed l.at ty.Float) (reset_places (drop l.reset-index l.resets)) ≡ l.initial.list ++ map (fixed l.at ty.Float) (reset_places l.resets)
