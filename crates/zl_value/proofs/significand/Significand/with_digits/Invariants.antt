use Rattle.std.proofs.Common.{◌≡◌, ◌+◌, ◌≤◌, drop}
use Rattle.std.specs.Str.Parse.{digits_value_after}
use Rattle.zl_value.specs.Significand.{with_zeros}
use Rattle.zl_value.proofs.significand.Significand.with_digits.Given as goal

abbrev pub invariant-loop-digit : goal.invariant-loop-digit
invariant-loop-digit l = record {
  rest_is : digits_value_after 10 (with_zeros l.significand.number l.significand.zeros) (drop l.digit-index l.digits) ≡ digits_value_after 10 (with_zeros l.fn.self.number l.fn.self.zeros) l.digits;
  zeros : l.significand.zeros ≤ l.fn.self.zeros + l.digit-index;
}
