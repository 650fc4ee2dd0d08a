use Rattle.zl_flat.specs.Numbering as spec
use Rattle.zl_expand.proofs.NumberingSums.{TurnWithin}
use Rattle.zl_expand.proofs.numbering.number_params.Given as goal

abbrev pub invariant-loop-param : goal.invariant-loop-param
invariant-loop-param l = TurnWithin (λ p. spec.a_variable) l.params l._param-index l.initial.places l.places
