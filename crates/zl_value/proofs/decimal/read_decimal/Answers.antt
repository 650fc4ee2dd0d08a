use Rattle.std.proofs.Common.{◌≡◌, ◌<◌, length, sym, ◌∙◌, ap, arith}
use Rattle.std.proofs.lemmas.Bool.{eqb-true, eqb-false}
use Rattle.zl_value.specs.Decimal.{run}
use Rattle.zl_value.proofs.Decimals.{decimal_value-none, decimal_value-some}
use Rattle.zl_value.proofs.decimal.read_decimal.Goals as goal

pub returns-then-is_empty-clause-value : goal.returns-then-is_empty-clause-value
returns-then-is_empty-clause-value c =
    let none : length (run c.args.text.now) ≡ 0 =
    ap length (sym c.split_digits.ensures.digits) ∙ eqb-true (length c.split_digits.result.0.now) 0 (sym c.is_empty.ensures ∙ c.if-is_empty.true) in
    sym (decimal_value-none c.args.text.now none)

pub returns-clause-value : goal.returns-clause-value
returns-clause-value c =
    let some : 0 < length (run c.args.text.now) =
    omega (arith, ap length c.split_digits.ensures.digits, eqb-false (length c.split_digits.result.0.now) 0 (sym c.is_empty.ensures ∙ c.if-is_empty.false)) in
    rw (decimal_value-some c.args.text.now some, ← c.split_digits.ensures.digits, ← c.split_digits.ensures.behind) c.read_behind_digits.ensures.value
