use Rattle.std.proofs.Common.{◌≤◌}
use Rattle.zl_types.specs.Forest.{IsRelinked, IsSameClass}
use Rattle.zl_types.proofs.forest.root.Given as goal

abbrev pub invariant-loop-at : goal.invariant-loop-at
invariant-loop-at l =
    record {
      relinked : IsRelinked l.fn.links.items l.links.items;
      same : IsSameClass l.links.items l.node l.at;
      older : l.at ≤ l.node;
    }

abbrev pub decreases-loop-at : goal.decreases-loop-at
decreases-loop-at l = l.at
