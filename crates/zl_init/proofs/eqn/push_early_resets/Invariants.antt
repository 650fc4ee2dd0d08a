use Rattle.std.proofs.Common.{◌≡◌, ◌++◌, drop}
use Rattle.zl_ast.specs.declared.constraint.Asked.TheVariants as asked
use Rattle.zl_ast.specs.Initialised.{ask_each, reset_places}
use Rattle.zl_init.proofs.eqn.push_early_resets.Given as goal

abbrev pub invariant-loop-reset : goal.invariant-loop-reset
invariant-loop-reset l = l.out.items ++ ask_each l.at asked.Early (reset_places (drop l.reset-index l.resets)) ≡ l.initial.out.items ++ ask_each l.at asked.Early (reset_places l.resets)
