use Rattle.std.proofs.Common.{arith}
use Rattle.zl_value.proofs.RatioLemmas.{too_long}
use Rattle.zl_value.proofs.ratio_text.short_number.Goals as goal

pub overflow_mul-number : goal.overflow_mul-number
overflow_mul-number c = omega arith

pub overflow_add-number : goal.overflow_add-number
overflow_add-number c = omega arith

pub returns-then-number-ge-FULL-clause-value : goal.returns-then-number-ge-FULL-clause-value
returns-then-number-ge-FULL-clause-value c =
    too_long c.args.text.now c.loop-c.c-index c.loop-c.number c.loop-c.invariant c.loop-c-test.true c.if-number-ge-FULL.true
