use Rattle.zl_causal.specs.Ranking.{ArePlaceNumbers}
use Rattle.zl_causal.proofs.ranking.place_ranks.Given as goal

abbrev pub invariant-loop-index : goal.invariant-loop-index
invariant-loop-index l = ArePlaceNumbers l.circles.numbers l.index l.ranks.items
