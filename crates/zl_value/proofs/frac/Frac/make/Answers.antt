use Rattle.std.proofs.Common.{arith}
use Rattle.std.proofs.lemmas.Int.{ints, to_z-of_z}
use Rattle.std.specs.Prelude.{pos, ◌-ℤ◌, FitsSigned}
use Rattle.zl_value.proofs.Fractions.{fitted_ratio_by_zero, fitted_ratio_by_negative, fitted_ratio_by_positive}
use mir.Syntax.{w128}
use Rattle.zl_value.proofs.frac.Frac.make.Goals as goal

pub returns-then-den-eq0-clause-value : goal.returns-then-den-eq0-clause-value
returns-then-den-eq0-clause-value c =
    fitted_ratio_by_zero c.args.num c.args.den (omega (arith, ints, c.if-den-eq0.true))

pub returns-then-den-lt0-clause-value : goal.returns-then-den-lt0-clause-value
returns-then-den-lt0-clause-value c =
    let fits : FitsSigned w128 (pos 0 -ℤ c.args.num) = omega (arith, ints) in
    let turned = to_z-of_z w128 (pos 0 -ℤ c.args.num) fits in
    let num = to_z-of_z w128 c.args.num c.ranges.num in
    let den = to_z-of_z w128 c.args.den c.ranges.den in
    let answer = fitted_ratio_by_negative c.args.num c.args.den (omega (arith, ints)) in
    cc

pub returns-else-den-lt0-clause-value : goal.returns-else-den-lt0-clause-value
returns-else-den-lt0-clause-value c =
    let num = to_z-of_z w128 c.args.num c.ranges.num in
    let den = to_z-of_z w128 c.args.den c.ranges.den in
    let answer = fitted_ratio_by_positive c.args.num c.args.den (omega (arith, ints, c.if-den-eq0.false)) in
    cc
