use Rattle.std.proofs.Common.{◌≡◌, ◌++◌, drop, map}
use Rattle.zl_ast.specs.Assignments.{joined}
use Rattle.zl_ast.specs.TypeEqualities.{eqns_equalities, arm_equalities, state_equalities}
use Rattle.zl_types.specs.Environments.{environment_of}
use Rattle.zl_types.proofs.eqn_equalities.+eqn_equalities.Given as goal

abbrev pub invariant-push_eqns-loop-eqn : goal.invariant-push_eqns-loop-eqn
invariant-push_eqns-loop-eqn l =
    l.list ++ eqns_equalities (environment_of l.env) (drop l.eqn-index l.eqns) ≡ l.initial.list ++ eqns_equalities (environment_of l.env) l.eqns

abbrev pub invariant-push_arms-loop-arm : goal.invariant-push_arms-loop-arm
invariant-push_arms-loop-arm l =
    l.list ++ joined (map (arm_equalities (environment_of l.env)) (drop l.arm-index l.arms))
    ≡ l.initial.list ++ joined (map (arm_equalities (environment_of l.env)) l.arms)

abbrev pub invariant-push_states-loop-state : goal.invariant-push_states-loop-state
invariant-push_states-loop-state l =
    l.list ++ joined (map (state_equalities (environment_of l.env)) (drop l.state-index l.states))
    ≡ l.initial.list ++ joined (map (state_equalities (environment_of l.env)) l.states)
