use Rattle.std.proofs.Common.{sym, ◌∙◌}
use Rattle.zl_script.proofs.FaultLemmas.{fault_more, fault_stop, fault_end}
use Rattle.zl_script.proofs.fault.input_fault.Goals as goal

pub returns-then-not-is_some : goal.returns-then-not-is_some
returns-then-not-is_some c =
    sym (c.loop-line.invariant
    ∙ fault_stop c.args.lines.now c.loop-line.line-index c.line-item.result c.loop-line-test.true c.line-item.is (sym c.is_some.ensures ∙ c.if-not-is_some.true))

pub loop-line-preserved : goal.loop-line-preserved
loop-line-preserved c =
    c.loop-line.invariant
    ∙ fault_more c.args.lines.now c.loop-line.line-index c.line-item.result c.loop-line-test.true c.line-item.is (sym c.is_some.ensures ∙ c.if-not-is_some.false)

pub returns : goal.returns
returns c = sym (c.loop-line.invariant ∙ fault_end c.args.lines.now c.loop-line.line-index c.loop-line-test.false)
