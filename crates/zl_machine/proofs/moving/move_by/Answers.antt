-- How far it moves, and where it comes to, are in the width or not.
use Rattle.std.specs.Prelude.{◌≡◌, true, Some}
use Rattle.std.proofs.Common.{sym, ap, ◌∙◌, subst}
use Rattle.zl_value.specs.Fraction.{Fraction, add, mul, fits}
use Rattle.zl_value.specs.declared.value.Value.TheVariants.{F}
use Rattle.zl_machine.proofs.Totals.{fitted_ok, fitted_err, one_fits, one_wide}
use Rattle.zl_machine.proofs.moving.move_by.Goals as goal

pub returns-in-Ok-add : goal.returns-in-Ok-add
returns-in-Ok-add c at =
    let a = fitted_ok (mul c.args.by c.args.slope) c.in-Ok.increment c.in-Ok.ensures.value in
    let b = fitted_ok (add c.args.from c.in-Ok.increment) c.in-Ok-add.there c.in-Ok-add.ensures.value in
    (one_fits (mul c.args.by c.args.slope) at a.0, one_fits (add c.args.from (mul c.args.by c.args.slope)) at (subst (λ (x : Fraction). fits (add c.args.from x) ≡ true) a.1 b.0), ap (λ (x : Fraction). Some (F x)) (b.1 ∙ ap (λ (x : Fraction). add c.args.from x) a.1))

pub returns-in-Err-add : goal.returns-in-Err-add
returns-in-Err-add c at =
    let a = fitted_ok (mul c.args.by c.args.slope) c.in-Ok.increment c.in-Ok.ensures.value in
    let b = fitted_err (add c.args.from c.in-Ok.increment) c.in-Err-add.field-0 c.in-Err-add.ensures.value in
    (one_fits (mul c.args.by c.args.slope) at a.0, one_wide (add c.args.from (mul c.args.by c.args.slope)) at (ap (λ (x : Fraction). fits (add c.args.from x)) (sym a.1) ∙ b))

pub returns-in-Err : goal.returns-in-Err
returns-in-Err c at = one_wide (mul c.args.by c.args.slope) at (fitted_err (mul c.args.by c.args.slope) c.in-Err.field-0 c.in-Err.ensures.value)
