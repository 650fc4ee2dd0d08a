use Rattle.zl_causal.specs.Ranking.{NoPlace}
use Rattle.zl_causal.proofs.ranking.first_circled.Given as goal

abbrev pub invariant-loop-index : goal.invariant-loop-index
invariant-loop-index l = NoPlace l.circles.marks l.index
