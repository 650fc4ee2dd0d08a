use Rattle.std.proofs.Common.{◌≡◌, ◌++◌, drop, map}
use Rattle.zl_types.proofs.environment.param_places.Given as goal

abbrev pub invariant-loop-param : goal.invariant-loop-param
invariant-loop-param l = l.places.items ++ map (λ p. p.name.at) (drop l.param-index l.params) ≡ map (λ p. p.name.at) l.params
