use Rattle.std.proofs.Common.{◌≡◌, length, pos, refl, sym, ◌∙◌, ap}
use Rattle.std.proofs.lemmas.Bool.{eqb-true}
use Rattle.zl_value.specs.Decimal.{after_run}
use Rattle.zl_value.proofs.Decimals.{behind_point-end}
use Rattle.zl_value.proofs.decimal.read_behind_point.Goals as goal

pub returns-then-is_empty-clause-value : goal.returns-then-is_empty-clause-value
returns-then-is_empty-clause-value c =
    let none : length (after_run c.args.text.now) ≡ 0 =
    ap length (sym c.split_digits.ensures.behind) ∙ eqb-true (length c.split_digits.result.1.now) 0 (sym c.is_empty.ensures ∙ c.if-is_empty.true) in
    rw (behind_point-end c.args.before.now _ (after_run c.args.text.now) none, ← c.split_digits.ensures.digits) (c.read_parts.ensures.value (pos 0) refl)
