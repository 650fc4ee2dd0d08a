use Rattle.std.proofs.Common.{◌≡◌, drop, map}
use Rattle.zl_ast.specs.declared.expr.Link.{out-Link}
use Rattle.zl_ast.specs.NamesRules.{last_place}
use Rattle.zl_ast.proofs.place.last_place.Given as goal

abbrev pub invariant-loop-link : goal.invariant-loop-link
invariant-loop-link l = last_place l.at (map (λ l. (out-Link l).at) (drop l.link-index l.links)) ≡ last_place l.initial.at (map (λ l. (out-Link l).at) l.links)
