use Rattle.std.proofs.Common.{◌≡◌, drop, map}
use Rattle.zl_flat.specs.Sizes as spec
use Rattle.zl_flat.specs.Capped.{capped}
use Rattle.zl_expand.specs.KeptDecls.{infos_in, known_in}
use Rattle.zl_expand.proofs.eqn_size.names_size.Given as goal

abbrev pub invariant-loop-name : goal.invariant-loop-name
invariant-loop-name l =
    (capped (spec.plus l.size (spec.total (map (spec.name_size (infos_in l.known) (known_in l.known)) (drop l.name-index l.names)))) ≡ capped (spec.total (map (spec.name_size (infos_in l.known) (known_in l.known)) l.names)))
    × (l.size ≡ capped l.size)
