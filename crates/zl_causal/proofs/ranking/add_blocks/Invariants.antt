use Rattle.zl_causal.specs.Refused.{HasBlocks}
use Rattle.zl_causal.proofs.ranking.add_blocks.Given as goal

abbrev pub invariant-loop-index : goal.invariant-loop-index
invariant-loop-index l = HasBlocks l.circles.marks l.index l.fn.links.items l.links.items
