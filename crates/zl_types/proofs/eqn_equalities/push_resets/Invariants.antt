use Rattle.std.proofs.Common.{◌≡◌, ◌++◌, drop, map}
use Rattle.zl_ast.specs.Assignments.{joined}
use Rattle.zl_ast.specs.TypeEqualities.{reset_arm_equalities}
use Rattle.zl_types.specs.Environments.{environment_of}
use Rattle.zl_types.proofs.eqn_equalities.push_resets.Given as goal

abbrev pub invariant-loop-reset : goal.invariant-loop-reset
invariant-loop-reset l = l.list ++ joined (map (reset_arm_equalities (environment_of l.env)) (drop l.reset-index l.resets)) ≡ l.initial.list ++ joined (map (reset_arm_equalities (environment_of l.env)) l.resets)
