use Rattle.std.proofs.Common.{subst, arith, sym, rules, ◌≡◌, w64}
use Rattle.std.proofs.lemmas.Int.{ints, to_z-of_z}
use mir.Syntax.{w128}
use Rattle.std.specs.Prelude.{FitsSigned}
use Rattle.zl_value.specs.Fraction.{IsReduced, over, reduced}
use Rattle.zl_value.proofs.Fractions.{IsFrac-reduced, IsReduced-one, reduced-lowest, fitted_ok}
use Rattle.zl_value.proofs.frac.reduce.Goals as goal

pub fit-requires : goal.fit-requires
fit-requires c =
    rw (to_z-of_z w128 c.args.num c.ranges.num) (subst (λ d. IsReduced (over c.args.num d)) (sym c.if-den-eq1.true) (IsReduced-one c.args.num))

pub returns-then-den-eq1-clause-value : goal.returns-then-den-eq1-clause-value
returns-then-den-eq1-clause-value c =
    let wide = to_z-of_z w128 c.args.num c.ranges.num in
    let lowest = subst (λ d. reduced c.args.num d ≡ over c.args.num d) (sym c.if-den-eq1.true) (reduced-lowest (over c.args.num 1) (IsReduced-one c.args.num)) in
    cc

pub returns-then-is_in_width-clause-value : goal.returns-then-is_in_width-clause-value
returns-then-is_in_width-clause-value c =
    let wide = to_z-of_z w128 c.args.num c.ranges.num in
    let bits : FitsSigned w64 c.word.result = search rules in
    let num = to_z-of_z w64 c.word.result bits in
    let kept = IsFrac-reduced c.args.num c.args.den (omega arith) (omega (arith, ints, c.if-is_in_width.ensures)) (omega (arith, c.if-is_in_width.ensures)) in
    let answer = fitted_ok (reduced c.args.num c.args.den) kept.fits in
    cc
