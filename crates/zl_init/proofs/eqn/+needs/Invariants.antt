use Rattle.std.proofs.Common.{◌≡◌, ◌++◌, drop, map}
use Rattle.zl_ast.specs.Initialised.{all_needs, arm_needs, state_needs, eqns_needs}
use Rattle.zl_init.specs.Kept.{known_of, setting_of}
use Rattle.zl_init.proofs.eqn.+needs.Given as goal

abbrev pub invariant-push_eqns-loop-eqn : goal.invariant-push_eqns-loop-eqn
invariant-push_eqns-loop-eqn l =
    (l.out.items ++ eqns_needs (known_of l.known) (drop l.eqn-index l.eqns) (setting_of l.setting l.initial.inside l.own)
    ≡ l.initial.out.items ++ eqns_needs (known_of l.known) l.eqns (setting_of l.setting l.initial.inside l.own))
    × (l.inside ≡ l.initial.inside)

abbrev pub invariant-push_arms-loop-arm : goal.invariant-push_arms-loop-arm
invariant-push_arms-loop-arm l =
    (l.out.items ++ all_needs (map (arm_needs (known_of l.known)) (drop l.arm-index l.arms)) (setting_of l.setting l.initial.inside l.own)
    ≡ l.initial.out.items ++ all_needs (map (arm_needs (known_of l.known)) l.arms) (setting_of l.setting l.initial.inside l.own))
    × (l.inside ≡ l.initial.inside)

abbrev pub invariant-push_states-loop-state : goal.invariant-push_states-loop-state
invariant-push_states-loop-state l =
    (l.out.items ++ all_needs (map (state_needs (known_of l.known)) (drop l.state-index l.states)) (setting_of l.setting l.initial.inside l.own)
    ≡ l.initial.out.items ++ all_needs (map (state_needs (known_of l.known)) l.states) (setting_of l.setting l.initial.inside l.own))
    × (l.inside ≡ l.initial.inside)
