use Rattle.zl_causal.specs.Ranking.{NoBlock}
use Rattle.zl_causal.proofs.ranking.has_block.Given as goal

abbrev pub invariant-loop-index : goal.invariant-loop-index
invariant-loop-index l = NoBlock l.circles.marks l.index
