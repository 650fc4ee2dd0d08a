use Rattle.std.proofs.Common.{arith, ap₂, ◌*◌, ◌∙◌, ◌<◌}
use native.Mathlib.Nat.{mul-pos}
use Rattle.std.proofs.Math.Nat.{mul-le-mul}
use Rattle.std.specs.Prelude.{pos}
use Rattle.zl_value.specs.Fraction.{reduced}
use Rattle.zl_value.proofs.Fractions.{IsReduced-reduced}
use Rattle.zl_value.proofs.WideNumbers.{ratio_is, size_above}
use Rattle.zl_value.proofs.wide.Wide.ratio.Goals as goal

pub invariant_of-result : goal.invariant_of-result
invariant_of-result c =
    let above : 0 < c.numerator_size-2.result = omega (arith, size_above c.args.a c.requires.positive, c.numerator_size-2.ensures.value) in
    let top = mul-le-mul c.numerator_size.ensures.bound c.denominator.ensures.bound in
    let bottom = mul-le-mul c.denominator-2.ensures.bound c.numerator_size-2.ensures.bound in
    (mul-pos c.denominator-2.ensures.above above, omega (arith, top), omega (arith, bottom))

pub returns-clause-value : goal.returns-clause-value
returns-clause-value c =
    ap₂ (λ x y. reduced (pos x) y) (ap₂ (λ x y. x * y) c.numerator_size.ensures.value c.denominator.ensures.value) (ap₂ (λ x y. x * y) c.denominator-2.ensures.value c.numerator_size-2.ensures.value)
    ∙ ratio_is c.args.v c.args.a c.requires.negative c.requires.positive

pub returns-clause-kept : goal.returns-clause-kept
returns-clause-kept c =
    let above : 0 < c.numerator_size-2.result = omega (arith, size_above c.args.a c.requires.positive, c.numerator_size-2.ensures.value) in
    IsReduced-reduced (pos (c.numerator_size.result * c.denominator.result)) (c.denominator-2.result * c.numerator_size-2.result) (mul-pos c.denominator-2.ensures.above above)
