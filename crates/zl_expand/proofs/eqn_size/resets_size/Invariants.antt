use Rattle.std.proofs.Common.{◌≡◌, drop, map}
use Rattle.zl_flat.specs.Sizes as spec
use Rattle.zl_flat.specs.Capped.{capped}
use Rattle.zl_expand.specs.KeptDecls.{infos_in, known_in}
use Rattle.zl_expand.proofs.eqn_size.resets_size.Given as goal

abbrev pub invariant-loop-reset : goal.invariant-loop-reset
invariant-loop-reset l =
    (capped (spec.plus l.size (spec.total (map (spec.reset_arm_size (infos_in l.known) (known_in l.known)) (drop l.reset-index l.resets)))) ≡ capped (spec.total (map (spec.reset_arm_size (infos_in l.known) (known_in l.known)) l.resets)))
    × (l.size ≡ capped l.size)
