use Rattle.zl_flat.specs.Numbering as spec
use Rattle.zl_expand.specs.KeptDecls.{infos_in, known_in}
use Rattle.zl_expand.proofs.NumberingSums.{TurnWithin}
use Rattle.zl_expand.proofs.numbering.+numbering.Given as goal

abbrev pub invariant-number_eqns-loop-eqn : goal.invariant-number_eqns-loop-eqn
invariant-number_eqns-loop-eqn l = TurnWithin (spec.eqn_numbering (infos_in l.known) (known_in l.known)) l.eqns l.eqn-index l.initial.places l.places

abbrev pub invariant-number_arms-loop-arm : goal.invariant-number_arms-loop-arm
invariant-number_arms-loop-arm l = TurnWithin (spec.arm_numbering (infos_in l.known) (known_in l.known)) l.arms l.arm-index l.initial.places l.places

abbrev pub invariant-number_states-loop-state : goal.invariant-number_states-loop-state
invariant-number_states-loop-state l = TurnWithin (spec.state_numbering (infos_in l.known) (known_in l.known)) l.states l.state-index l.initial.places l.places
