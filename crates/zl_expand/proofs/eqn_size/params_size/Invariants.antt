use Rattle.std.proofs.Common.{◌≡◌, drop, map}
use Rattle.zl_flat.specs.Sizes as spec
use Rattle.zl_flat.specs.Capped.{capped}
use Rattle.zl_expand.proofs.eqn_size.params_size.Given as goal

abbrev pub invariant-loop-param : goal.invariant-loop-param
invariant-loop-param l =
    (capped (spec.plus l.size (spec.total (map (λ p. spec.a_place) (drop l._param-index l.params)))) ≡ capped (spec.total (map (λ p. spec.a_place) l.params)))
    × (l.size ≡ capped l.size)
