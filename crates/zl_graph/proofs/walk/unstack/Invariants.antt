use Rattle.std.proofs.Common.{◌≡◌, ◌≤◌, length, take}
use Rattle.zl_graph.specs.Walking.{AreClosed}
use Rattle.zl_graph.proofs.walk.unstack.Given as goal

abbrev pub invariant-loop-stack : goal.invariant-loop-stack
invariant-loop-stack l = record {
  more : l.first ≤ length l.stack.items;
  within : length l.stack.items ≤ length l.fn.stack.items;
  is : l.stack.items ≡ take (length l.stack.items) l.fn.stack.items;
  closed : AreClosed (length l.stack.items) l.number l.fn.marks l.marks;
}

abbrev pub decreases-loop-stack : goal.decreases-loop-stack
decreases-loop-stack l = length l.stack.items
