use Rattle.std.proofs.Common.{◌≡◌, drop, map}
use Rattle.zl_flat.specs.Sizes as spec
use Rattle.zl_flat.specs.Capped.{capped}
use Rattle.zl_expand.specs.KeptDecls.{infos_in, known_in}
use Rattle.zl_expand.proofs.eqn_size.moves_size.Given as goal

abbrev pub invariant-loop-one : goal.invariant-loop-one
invariant-loop-one l =
    (capped (spec.plus l.size (spec.total (map (spec.move_size (infos_in l.known) (known_in l.known)) (drop l.one-index l.moves)))) ≡ capped (spec.total (map (spec.move_size (infos_in l.known) (known_in l.known)) l.moves)))
    × (l.size ≡ capped l.size)
