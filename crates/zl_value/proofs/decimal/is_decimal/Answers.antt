use Rattle.std.proofs.Common.{length, not, sym, ap, ◌∙◌, arith, is_some}
use Rattle.std.proofs.lemmas.Bool.{eqb-true, eqb-false}
use Rattle.zl_value.specs.Decimal.{run, after_run, behind_digits}
use Rattle.zl_value.proofs.Decimals.{float_parts-some, float_parts-none}
use Rattle.zl_value.proofs.decimal.is_decimal.Goals as goal

pub returns-then-not-is_empty : goal.returns-then-not-is_empty
returns-then-not-is_empty c =
    c.is_behind_digits.ensures (run c.args.text.now)
    ∙ ap (λ t. is_some (behind_digits (run c.args.text.now) t)) c.split_digits.ensures.behind
    ∙ ap is_some (sym (float_parts-some c.args.text.now (omega (arith, ap length c.split_digits.ensures.digits, eqb-false _ _ (sym c.if-not-is_empty.ensures)))))

pub returns-else-not-is_empty : goal.returns-else-not-is_empty
returns-else-not-is_empty c =
    ap not c.if-not-is_empty.false
    ∙ ap is_some (sym (float_parts-none c.args.text.now (omega (arith, ap length c.split_digits.ensures.digits, eqb-true _ _ (sym c.if-not-is_empty.ensures)))))
