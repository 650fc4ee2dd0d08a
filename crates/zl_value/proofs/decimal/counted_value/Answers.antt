use Rattle.std.proofs.lemmas.Str.Parse.{digit_at}
use Rattle.zl_value.proofs.Decimals.{counted_step}
use Rattle.zl_value.proofs.decimal.counted_value.Goals as goal

pub overflow_sub-digit : goal.overflow_sub-digit
overflow_sub-digit c = (digit_at c.args.digits.now c.loop-digit.digit-index c.requires c.loop-digit-test.true).0

pub loop-digit-preserved : goal.loop-digit-preserved
loop-digit-preserved c =
    counted_step c.args.digits.now c.loop-digit.digit-index c.loop-digit.number _ _ _ c.requires c.loop-digit-test.true c.loop-digit.invariant
    c.saturating_mul.ensures c.from.ensures c.saturating_add-number.ensures
