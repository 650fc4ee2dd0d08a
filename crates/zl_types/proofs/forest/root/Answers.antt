use Rattle.std.proofs.Common.{arith}
use Rattle.zl_types.proofs.ForestLemmas.{relinked_again, same_after}
use Rattle.zl_types.proofs.forest.root.Goals as goal

pub loop-at-preserved : goal.loop-at-preserved
loop-at-preserved c =
    let h = c.loop-at.invariant in
    let e = c.halve-at.ensures in
    record {
      relinked = relinked_again _ _ _ h.relinked e.relinked;
      same = same_after _ _ _ _ _ e.relinked h.same e.same;
      older = omega (arith, h.older, e.older, h.relinked.forest c.loop-at.at);
    }
