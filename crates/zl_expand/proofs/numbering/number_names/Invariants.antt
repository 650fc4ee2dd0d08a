use Rattle.zl_flat.specs.Numbering as spec
use Rattle.zl_expand.specs.KeptDecls.{infos_in, known_in}
use Rattle.zl_expand.proofs.NumberingSums.{TurnWithin}
use Rattle.zl_expand.proofs.numbering.number_names.Given as goal

abbrev pub invariant-loop-name : goal.invariant-loop-name
invariant-loop-name l = TurnWithin (spec.of_name (infos_in l.known) (known_in l.known)) l.names l.name-index l.initial.places l.places
