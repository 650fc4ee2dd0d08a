use Rattle.std.proofs.Common.{◌≡◌, drop, map, None}
use Rattle.zl_ast.specs.Anchored.{together, defined_ids, eqn_given, arm_given, state_given}
use Rattle.zl_init.specs.Kept.{with_defined, with_locals, common_after, shared_with_each}
use Rattle.zl_init.proofs.anchored.+given.Given as goal

abbrev pub invariant-give_eqns-loop-eqn : goal.invariant-give_eqns-loop-eqn
invariant-give_eqns-loop-eqn l =
    (with_defined l.list (together (map eqn_given (drop l.eqn-index l.eqns))) ≡ with_defined l.initial.list (together (map eqn_given l.eqns)))
    × (with_locals l.locals (together (map eqn_given (drop l.eqn-index l.eqns))) ≡ with_locals l.initial.locals (together (map eqn_given l.eqns)))

abbrev pub invariant-give_arms-loop-arm : goal.invariant-give_arms-loop-arm
invariant-give_arms-loop-arm l =
    (shared_with_each (defined_ids (map arm_given (drop l.arm-index l.arms))) l.ids ≡ shared_with_each (defined_ids (map arm_given l.arms)) l.initial.ids)
    × (with_locals l.locals (together (map arm_given (drop l.arm-index l.arms))) ≡ with_locals l.initial.locals (together (map arm_given l.arms)))

abbrev pub invariant-give_states-loop-state : goal.invariant-give_states-loop-state
invariant-give_states-loop-state l =
    (common_after l.found (defined_ids (map state_given (drop l.state-index l.states))) ≡ common_after None (defined_ids (map state_given l.states)))
    × (with_locals l.locals (together (map state_given (drop l.state-index l.states))) ≡ with_locals l.initial.locals (together (map state_given l.states)))
