use Rattle.std.proofs.Common.{ap, ap₂, subst, ◌*◌, ◌<◌, ◌∙◌}
use native.Mathlib.Nat.{mul-pos}
use Rattle.std.specs.Prelude.{pos}
use Rattle.zl_value.specs.Order.{below}
use Rattle.zl_value.specs.Times.{nought}
use Rattle.zl_value.proofs.Fractions.{IsReduced-reduced}
use Rattle.zl_value.proofs.WideNumbers.{difference_is, difference_above}
use Rattle.zl_value.proofs.wide.Wide.difference.Goals as goal

pub returns-clause-value : goal.returns-clause-value
returns-clause-value c =
    difference_is c.args.a c.args.b c.difference_over_product.result (c.denominator.result * c.denominator-2.result)
    c.difference_over_product.ensures.value (ap₂ (λ x y. x * y) c.denominator.ensures.value c.denominator-2.ensures.value)

pub returns-clause-positive : goal.returns-clause-positive
returns-clause-positive c =
    ap (below nought) (returns-clause-value c) ∙ difference_above c.args.a c.args.b
    (subst (λ d. 0 < d) c.denominator.ensures.value c.denominator.ensures.above) (subst (λ d. 0 < d) c.denominator-2.ensures.value c.denominator-2.ensures.above)

pub returns-clause-kept : goal.returns-clause-kept
returns-clause-kept c =
    IsReduced-reduced (pos c.difference_over_product.result) (c.denominator.result * c.denominator-2.result) (mul-pos c.denominator.ensures.above c.denominator-2.ensures.above)
