use Rattle.zl_causal.specs.Ranking.{AreBlockNumbers}
use Rattle.zl_causal.proofs.ranking.block_ranks.Given as goal

abbrev pub invariant-loop-index : goal.invariant-loop-index
invariant-loop-index l = AreBlockNumbers l.circles.numbers l.index l.ranks.items
