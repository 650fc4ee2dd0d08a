use Rattle.std.proofs.Common.{◌≡◌, drop, map}
use Rattle.zl_ast.specs.NamesUsed.{all_uses, eqns_uses, arm_uses, state_uses}
use Rattle.zl_names.specs.Kept.{known_of}
use Rattle.zl_names.specs.Earliest.{earliest}
use Rattle.zl_names.proofs.used_eqn.+equation_uses.Given as goal

abbrev pub invariant-note_eqns-loop-eqn : goal.invariant-note_eqns-loop-eqn
invariant-note_eqns-loop-eqn l =
    (earliest l.first.found (eqns_uses (known_of l.known) (drop l.eqn-index l.eqns) l.initial.visible) ≡ earliest l.initial.first.found (eqns_uses (known_of l.known) l.eqns l.initial.visible))
    × (l.visible ≡ l.initial.visible)

abbrev pub invariant-note_arms-loop-arm : goal.invariant-note_arms-loop-arm
invariant-note_arms-loop-arm l =
    (earliest l.first.found (all_uses (map (arm_uses (known_of l.known)) (drop l.arm-index l.arms)) l.initial.visible) ≡ earliest l.initial.first.found (all_uses (map (arm_uses (known_of l.known)) l.arms) l.initial.visible))
    × (l.visible ≡ l.initial.visible)

abbrev pub invariant-note_states-loop-state : goal.invariant-note_states-loop-state
invariant-note_states-loop-state l =
    (earliest l.first.found (all_uses (map (state_uses (known_of l.known)) (drop l.state-index l.states)) l.initial.visible) ≡ earliest l.initial.first.found (all_uses (map (state_uses (known_of l.known)) l.states) l.initial.visible))
    × (l.visible ≡ l.initial.visible)
