use Rattle.std.proofs.Common.{arith, rules, w64}
use Rattle.std.proofs.lemmas.Int.{ints, to_z-of_z}
use mir.Syntax.{w128}
use Rattle.std.specs.Prelude.{FitsSigned}
use Rattle.zl_value.specs.Fraction.{over}
use Rattle.zl_value.proofs.Fractions.{IsFrac-over, fitted_ok, fitted_err}
use Rattle.zl_value.proofs.frac.fit.Goals as goal

pub of_parts-requires : goal.of_parts-requires
of_parts-requires c =
    let wide = to_z-of_z w128 c.args.num c.ranges.num in
    let fits : FitsSigned w64 c.word.result = search rules in
    let parts = c.if-is_in_width.ensures in
    rw (to_z-of_z w64 c.word.result fits, c.word.ensures, wide) (IsFrac-over c.args.num c.args.den c.requires (omega (arith, ints, c.if-is_in_width.ensures)) (omega (arith, c.if-is_in_width.ensures)))

pub returns-then-is_in_width-clause-value : goal.returns-then-is_in_width-clause-value
returns-then-is_in_width-clause-value c =
    let wide = to_z-of_z w128 c.args.num c.ranges.num in
    let bits : FitsSigned w64 c.word.result = search rules in
    let num = to_z-of_z w64 c.word.result bits in
    let answer = fitted_ok (over c.args.num c.args.den) cc in
    cc

pub returns-else-is_in_width-clause-value : goal.returns-else-is_in_width-clause-value
returns-else-is_in_width-clause-value c =
    let wide = to_z-of_z w128 c.args.num c.ranges.num in
    fitted_err (over c.args.num c.args.den) cc
