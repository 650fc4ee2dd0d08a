use Rattle.std.proofs.Common.{◌≡◌, [], drop, map}
use Rattle.zl_ast.specs.NamesDefined.{together, list_from, states_among, eqn_outline, arm_outline, state_outline}
use Rattle.zl_names.specs.Earliest.{earliest}
use Rattle.zl_names.specs.Kept.{kept, joined}
use Rattle.zl_names.proofs.defined.+outlines.Given as goal

abbrev pub invariant-outline_eqns-loop-eqn : goal.invariant-outline_eqns-loop-eqn
invariant-outline_eqns-loop-eqn l =
    (joined l.all (kept (list_from l.valued l.started (map eqn_outline (drop l.eqn-index l.eqns)))) ≡ kept (list_from [] [] (map eqn_outline l.eqns)))
    × (earliest l.first.found (list_from l.valued l.started (map eqn_outline (drop l.eqn-index l.eqns))).broken ≡ earliest l.initial.first.found (list_from [] [] (map eqn_outline l.eqns)).broken)

abbrev pub invariant-outline_arms-loop-arm : goal.invariant-outline_arms-loop-arm
invariant-outline_arms-loop-arm l =
    (joined l.all (kept (together (map arm_outline (drop l.arm-index l.arms)))) ≡ kept (together (map arm_outline l.arms)))
    × (earliest l.first.found (together (map arm_outline (drop l.arm-index l.arms))).broken ≡ earliest l.initial.first.found (together (map arm_outline l.arms)).broken)

abbrev pub invariant-outline_states-loop-state : goal.invariant-outline_states-loop-state
invariant-outline_states-loop-state l =
    (joined l.all (kept (states_among l.ids (map state_outline (drop l.state-index l.states)))) ≡ kept (states_among l.ids (map state_outline l.states)))
    × (earliest l.first.found (states_among l.ids (map state_outline (drop l.state-index l.states))).broken ≡ earliest l.initial.first.found (states_among l.ids (map state_outline l.states)).broken)
