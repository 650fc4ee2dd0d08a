use Rattle.std.proofs.Common.{sym, ◌∙◌, ap}
use Rattle.zl_value.specs.Fraction.{whole}
use Rattle.zl_value.specs.Decimal.{if_fits}
use Rattle.zl_value.proofs.AcceptedNumbers.{product_within, product_past, result_ok-fitted, if_fits-past}
use Rattle.zl_value.proofs.decimal.times_ten_to.Goals as goal

pub returns-in-Ok-clause-value : goal.returns-in-Ok-clause-value
returns-in-Ok-clause-value c =
    let product = product_within _ _ _ _ c.in-Ok.product c.pow.ensures c.saturating_mul.ensures c.in-Ok.ensures.0 c.in-Ok.ensures.1 in
    rw (c.ok.ensures.value, c.of_int.ensures.value) (result_ok-fitted _ ∙ ap (λ z. if_fits (whole z)) product)

pub returns-in-Err-clause-value : goal.returns-in-Err-clause-value
returns-in-Err-clause-value c =
    sym (if_fits-past _ (product_past _ _ _ _ c.pow.ensures c.saturating_mul.ensures c.in-Err.ensures))
