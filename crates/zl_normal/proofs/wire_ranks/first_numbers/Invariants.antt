use Rattle.zl_normal.specs.WireLinks.{AreFirstNumbers}
use Rattle.zl_normal.proofs.wire_ranks.first_numbers.Given as goal

abbrev pub invariant-loop-index : goal.invariant-loop-index
invariant-loop-index l = AreFirstNumbers l.circles.numbers l.index l.ranks.items
