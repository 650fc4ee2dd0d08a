use Rattle.std.proofs.Common.{sym, ◌∙◌}
use Rattle.zl_script.proofs.FaultLemmas.{order_more, order_stop, order_end}
use Rattle.zl_script.proofs.fault.out_of_order.Goals as goal

pub returns-then-not-is_in_order : goal.returns-then-not-is_in_order
returns-then-not-is_in_order c =
    sym (c.loop-line.invariant
    ∙ order_stop c.args.horizon c.loop-line.before c.args.lines.now c.loop-line.line-index c.line-item.result c.loop-line-test.true c.line-item.is
    (sym c.is_in_order.ensures ∙ c.if-not-is_in_order.true))

pub loop-line-preserved : goal.loop-line-preserved
loop-line-preserved c =
    c.loop-line.invariant
    ∙ order_more c.args.horizon c.loop-line.before c.args.lines.now c.loop-line.line-index c.line-item.result c.loop-line-test.true c.line-item.is
    (sym c.is_in_order.ensures ∙ c.if-not-is_in_order.false)

pub returns : goal.returns
returns c =
    sym (c.loop-line.invariant ∙ order_end c.args.horizon c.loop-line.before c.args.lines.now c.loop-line.line-index c.loop-line-test.false)
