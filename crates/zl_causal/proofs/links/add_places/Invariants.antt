use Rattle.std.proofs.Common.{◌≡◌, ◌++◌, drop}
use Rattle.zl_causal.specs.FormLinks as spec
use Rattle.zl_causal.proofs.links.add_places.Given as goal

abbrev pub invariant-loop-place : goal.invariant-loop-place
invariant-loop-place l = l.links.items ++ spec.places_links l.p l.d (drop l.place-index l.places) ≡ l.initial.links.items ++ spec.places_links 0 0 l.places
