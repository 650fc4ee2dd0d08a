use Rattle.std.proofs.Common.{◌≡◌, drop, map}
use Rattle.zl_flat.specs.Sizes as spec
use Rattle.zl_flat.specs.Capped.{capped}
use Rattle.zl_expand.specs.KeptDecls.{infos_in, known_in}
use Rattle.zl_expand.proofs.eqn_size.+eqn_sizes.Given as goal

abbrev pub invariant-eqns_size-loop-eqn : goal.invariant-eqns_size-loop-eqn
invariant-eqns_size-loop-eqn l =
    (capped (spec.plus l.size (spec.total (map (spec.eqn_size (infos_in l.known) (known_in l.known)) (drop l.eqn-index l.eqns)))) ≡ capped (spec.total (map (spec.eqn_size (infos_in l.known) (known_in l.known)) l.eqns)))
    × (l.size ≡ capped l.size)

abbrev pub invariant-arms_size-loop-arm : goal.invariant-arms_size-loop-arm
invariant-arms_size-loop-arm l =
    (capped (spec.plus l.size (spec.total (map (spec.arm_size (infos_in l.known) (known_in l.known)) (drop l.arm-index l.arms)))) ≡ capped (spec.total (map (spec.arm_size (infos_in l.known) (known_in l.known)) l.arms)))
    × (l.size ≡ capped l.size)

abbrev pub invariant-states_size-loop-state : goal.invariant-states_size-loop-state
invariant-states_size-loop-state l =
    (capped (spec.plus l.size (spec.total (map (spec.state_size (infos_in l.known) (known_in l.known)) (drop l.state-index l.states)))) ≡ capped (spec.total (map (spec.state_size (infos_in l.known) (known_in l.known)) l.states)))
    × (l.size ≡ capped l.size)
