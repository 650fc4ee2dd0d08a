use Rattle.std.proofs.Common.{◌≡◌, ◌++◌, drop, map}
use Rattle.zl_expand.proofs.known.index_scopes.Given as goal

abbrev pub invariant-loop-infos : goal.invariant-loop-infos
invariant-loop-infos l = l.vars.items ++ map (λ infos. map (λ v. v.name) infos) (drop l.infos-index l.scopes) ≡ map (λ infos. map (λ v. v.name) infos) l.scopes
