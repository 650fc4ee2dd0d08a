use Rattle.std.proofs.Common.{◌+◌, ◌-◌, ◌*◌, get_or, arith}
use Rattle.zl_lexer.proofs.NumberLemmas.{digit_at, past}
use Rattle.zl_lexer.proofs.number.int_kind.Goals as goal

pub overflow_sub-number : goal.overflow_sub-number
overflow_sub-number c = (digit_at c.args.digits.now c.loop-digit.digit-index c.requires c.loop-digit-test.true).low

pub returns-then-number-clause-value : goal.returns-then-number-clause-value
returns-then-number-clause-value c =
    let turn = digit_at c.args.digits.now c.loop-digit.digit-index c.requires c.loop-digit-test.true in
    past c.args.digits.now (c.loop-digit.digit-index + 1) (c.loop-digit.number * 10 + (get_or c.args.digits.now c.loop-digit.digit-index 0 - 48))
    (omega (arith, turn.next, c.loop-digit.invariant.0)) c.if-number.true

pub loop-digit-preserved : goal.loop-digit-preserved
loop-digit-preserved c =
    let turn = digit_at c.args.digits.now c.loop-digit.digit-index c.requires c.loop-digit-test.true in
    (omega (arith, turn.next, c.loop-digit.invariant.0), omega arith)
