use Rattle.std.proofs.Common.{◌≡◌, ◌+◌, ◌<◌, ◌≤◌, ◌^◌, ◌++◌, length, pos, ◌+ℤ◌, ◌-ℤ◌, to_z, of_z, FitsSigned, sym, ◌∙◌, arith, rules}
use Rattle.std.specs.Int.{w128}
use Rattle.std.proofs.lemmas.Int.{to_z-of_z}
use Rattle.zl_value.specs.Significand.{with_zeros}
use Rattle.zl_value.proofs.Decimals.{parts_long, parts_read, none_read, value_both, long_before, long_behind}
use Rattle.zl_value.proofs.decimal.read_parts.Goals as goal

pub returns-in_err-with_digits-clause-value : goal.returns-in_err-with_digits-clause-value
returns-in_err-with_digits-clause-value c = λ x _.
    let start : with_zeros c.new.result.number c.new.result.zeros ≡ 0 = none_read _ _ c.new.ensures.number in
    rw c.from_residual.ensures
    (sym (parts_long (c.args.before.now ++ c.args.behind.now) (length c.args.behind.now) x (long_before _ c.args.before.now c.args.behind.now start c.in_err-with_digits.ensures c.requires.behind)))

pub returns-in_err-significand-clause-value : goal.returns-in_err-significand-clause-value
returns-in_err-significand-clause-value c = λ x _.
    let start : with_zeros c.new.result.number c.new.result.zeros ≡ 0 = none_read _ _ c.new.ensures.number in
    rw c.from_residual-in_err-significand.ensures
    (sym (parts_long (c.args.before.now ++ c.args.behind.now) (length c.args.behind.now) x (long_behind _ _ c.args.before.now c.args.behind.now start c.in_ok-with_digits.ensures.0 c.in_err-significand.ensures)))

pub returns-clause-value : goal.returns-clause-value
returns-clause-value c = λ x counted_is.
    let start : with_zeros c.new.result.number c.new.result.zeros ≡ 0 = none_read _ _ c.new.ensures.number in
    let before_short : length c.args.before.now < 2 ^ 63 = omega arith in
    let behind_short : length c.args.behind.now < 2 ^ 63 = omega arith in
    let few : c.in_ok-significand.significand.zeros ≤ length c.args.before.now + length c.args.behind.now =
    omega (arith, c.new.ensures.zeros, c.in_ok-with_digits.ensures.1, c.in_ok-significand.ensures.1) in
    let value = value_both _ _ _ c.args.before.now c.args.behind.now start c.in_ok-with_digits.ensures.0 c.in_ok-significand.ensures.0 in
    let power_fits : FitsSigned w128 c.power_of.result = search rules in
    let power : to_z w128 (of_z w128 c.power_of.result) ≡ c.args.exponent -ℤ pos (length c.args.behind.now) +ℤ pos c.in_ok-significand.significand.zeros =
    to_z-of_z w128 c.power_of.result power_fits ∙ (rw (to_z-of_z w128 c.args.exponent c.ranges.exponent) at c.power_of.ensures) in
    c.scaled.ensures.value
    ∙ parts_read c.args.before.now c.args.behind.now _ _ x c.args.exponent _ c.in_ok-significand.significand.last value few before_short behind_short counted_is power
