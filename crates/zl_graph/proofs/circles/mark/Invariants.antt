use Rattle.std.proofs.Common.{◌≡◌, length, take}
use Rattle.zl_graph.specs.Circles.{AreLoops}
use Rattle.zl_graph.proofs.circles.mark.Given as goal

abbrev pub invariant-loop-link : goal.invariant-loop-link
invariant-loop-link l = record {
  size : length l.marks.items ≡ length l.numbers;
  loops : AreLoops (take l.link-index l.links) l.numbers l.marks.items;
}
