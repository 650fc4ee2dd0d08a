use Rattle.std.proofs.Common.{◌≡◌, drop, map}
use Rattle.zl_flat.specs.Sizes as spec
use Rattle.zl_flat.specs.Capped.{capped}
use Rattle.zl_expand.specs.KeptDecls.{infos_in, known_in}
use Rattle.zl_expand.proofs.eqn_size.ups_size.Given as goal

abbrev pub invariant-loop-up : goal.invariant-loop-up
invariant-loop-up l =
    (capped (spec.plus l.size (spec.total (map (spec.up_size (infos_in l.known) (known_in l.known)) (drop l.up-index l.ups)))) ≡ capped (spec.total (map (spec.up_size (infos_in l.known) (known_in l.known)) l.ups)))
    × (l.size ≡ capped l.size)
