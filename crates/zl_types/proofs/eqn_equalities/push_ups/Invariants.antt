use Rattle.std.proofs.Common.{◌≡◌, ◌++◌, drop}
use Rattle.zl_ast.specs.TypeEqualities.{ups_equalities}
use Rattle.zl_types.specs.Environments.{environment_of}
use Rattle.zl_types.proofs.eqn_equalities.push_ups.Given as goal

abbrev pub invariant-loop-up : goal.invariant-loop-up
invariant-loop-up l = l.list ++ ups_equalities (environment_of l.env) (drop l.up-index l.ups) ≡ l.initial.list ++ ups_equalities (environment_of l.env) l.ups
