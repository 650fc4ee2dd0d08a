use Rattle.std.proofs.Common.{◌≡◌, ◌<◌, ◌^◌, pos, to_z, arith, rules}
use Rattle.std.specs.Int.{w128}
use Rattle.std.proofs.Math.Facts.{to_z_pos}
use Rattle.zl_value.proofs.AcceptedNumbers.{power_short, result_ok-fitted_ratio}
use Rattle.zl_value.proofs.decimal.over_ten_to.Goals as goal

pub pow-requires : goal.pow-requires
pow-requires c = omega (arith, power_short c.args.exponent c.requires.exponent)

pub overflow_cast-pow : goal.overflow_cast-pow
overflow_cast-pow c =
    let short : c.pow.result < 2 ^ 127 = omega (arith, power_short c.args.exponent c.requires.exponent) in
    search rules

pub make-requires-clause-den : goal.make-requires-clause-den
make-requires-clause-den c =
    let short : c.pow.result < 2 ^ 127 = omega (arith, power_short c.args.exponent c.requires.exponent) in
    search rules

pub returns-clause-value : goal.returns-clause-value
returns-clause-value c =
    let short : c.pow.result < 2 ^ 127 = omega (arith, power_short c.args.exponent c.requires.exponent) in
    let fits : c.args.number < 2 ^ 127 = omega arith in
    let num : to_z w128 c.args.number ≡ pos c.args.number = to_z_pos w128 fits in
    let den : to_z w128 c.pow.result ≡ pos (10 ^ c.args.exponent) = rw (← c.pow.ensures) (to_z_pos w128 short) in
    rw (c.ok.ensures.value, c.make.ensures.value) (result_ok-fitted_ratio _ _ _ _ num den)
