use Rattle.zl_value.proofs.Significands.{digit_in, long_in_the_end}
use Rattle.zl_value.proofs.significand.Significand.with_digits.Goals as goal

pub with_digit-requires-clause-digit : goal.with_digit-requires-clause-digit
with_digit-requires-clause-digit c =
    digit_in c.args.digits.now c.loop-digit.digit-index c.requires.digits c.loop-digit-test.true

pub returns-in_err-significand : goal.returns-in_err-significand
returns-in_err-significand c =
    rw c.from_residual.ensures
    (long_in_the_end _ _ _ _ c.loop-digit.invariant.rest_is c.requires.digits c.loop-digit-test.true c.in_err-significand.ensures)
