use Rattle.zl_causal.specs.Refused.{HasPlaces}
use Rattle.zl_causal.proofs.ranking.add_places.Given as goal

abbrev pub invariant-loop-index : goal.invariant-loop-index
invariant-loop-index l = HasPlaces l.index l.fn.links.items l.links.items
