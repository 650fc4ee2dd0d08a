use Rattle.std.proofs.Common.{length, ap, arith}
use Rattle.zl_script.proofs.ItemLemmas.{said_next, skipped_next, ended_next}
use Rattle.zl_script.proofs.item.next_item.Goals as goal

pub returns-in-Some-said-clause-items : goal.returns-in-Some-said-clause-items
returns-in-Some-said-clause-items c =
    said_next _ _ _ _ c.without_return.result.now _ _ c.loop-ended.invariant.same c.in-Some.ensures.lines c.without_return.ensures c.in-Some-said.ensures.0 c.in-Some-said.ensures.1

pub loop-ended-preserved : goal.loop-ended-preserved
loop-ended-preserved c = record {
  same = skipped_next _ _ _ _ c.without_return.result.now _ c.loop-ended.invariant.same c.in-Some.ensures.lines c.without_return.ensures c.in_default-said.ensures;
  count = omega (arith, ap length c.in-Some.ensures.lines, c.loop-ended.invariant.count);
  later = omega arith;
  within = omega (arith, c.in-Some.ensures.shorter, c.loop-ended.invariant.within);
}

pub returns-clause-items : goal.returns-clause-items
returns-clause-items c = ended_next _ _ _ c.loop-ended.invariant.same c.in_default.ensures.lines
