-- What is put for a run is what the flat form means.
use Rattle.std.specs.Prelude.{◌*ℤ◌, not, ◌++◌, ◌≡◌, ℕ, pos, unsigned_abs, Bool, true, false, ◌&&◌, ◌==◌, if◌then◌else◌, List, [], ◌∷◌, Result, Ok, Err}
use Rattle.std.specs.List.{concat}
use Rattle.std.proofs.Common.{refl, sym, ap, ap₂, ◌∙◌, arith, subst, eqb-true}
use Rattle.zl_value.specs.Fraction.{Fraction, IsReduced, IsFrac, fits}
use Rattle.std.proofs.lemmas.Int.{ints}
use Rattle.zl_value.specs.Lines.{ending_line}
use Rattle.zl_value.specs.Lists.{when}
use Rattle.zl_value.specs.Script.{IsTime}
use Rattle.zl_value.specs.Times.{nought, is_same}
use Rattle.zl_value.specs.declared.arith.Arith.{Arith}
use Rattle.zl_value.specs.declared.arith.Arith.TheVariants.{Range}
use Rattle.zl_value.specs.declared.script.Ending.{Ending}
use Rattle.zl_value.specs.declared.script.Ending.TheVariants.{Horizon}
use Rattle.zl_value.specs.declared.script.Mark.TheVariants.{Step, Left}
use Rattle.zl_value.specs.declared.thin.Thin.{Thin}
use Rattle.zl_value.proofs.Fractions.{fitted_ok, fitted_err, lowest-unique}
use Rattle.zl_value.proofs.Ring.{zero_of_abs}
use Rattle.zl_value.proofs.FractionLaws.{IsReduced-whole}
use Rattle.zl_value.proofs.FractionOrder.{same_parts, same_parts-self}
use Rattle.zl_driver.specs.ThinRun.{value_at, start_and, flow_end, flow_lines, line_at, thin_end, thin_lines}
use Rattle.zl_meaning.specs.ThinForm.{increment, arrival, thin_line, thin_run_end, thin_run_lines, thin_form, thin_grades, horizon_script, HasOneTrace}
use Rattle.zl_meaning.proofs.ThinForm.{end_by, stays_at_zero, thin_runs}
use Rattle.zl_cli.specs.ThinMeaning.{IsRunAsMeant}

-- the value at the horizon, by whether what moves is in the width
value_by : (thin : Thin) (horizon : Fraction) (x y : Bool) → fits (increment thin horizon) ≡ x → fits (arrival thin horizon) ≡ y → value_at thin horizon ≡ (if x && y then Ok (arrival thin horizon) else Err Range)
value_by thin horizon true true p q = ap (λ r. start_and thin.start r) (sym (fitted_ok (increment thin horizon) p)) ∙ sym (fitted_ok (arrival thin horizon) q)
value_by thin horizon true false p q = ap (λ r. start_and thin.start r) (sym (fitted_ok (increment thin horizon) p)) ∙ sym (fitted_err (arrival thin horizon) q)
value_by thin horizon false y p q = ap (λ r. start_and thin.start r) (sym (fitted_err (increment thin horizon) p))

-- the horizon is 0 where its numerator is
zero_is : (horizon : Fraction) → IsReduced horizon → (w z : Bool) → (unsigned_abs horizon.num == 0) ≡ w → is_same nought horizon ≡ z → w ≡ z
zero_is horizon r true true p q = refl
zero_is horizon r false false p q = refl
zero_is horizon r true false p q =
    let none : horizon.num ≡ pos 0 = zero_of_abs horizon.num (eqb-true (unsigned_abs horizon.num) 0 p) in
    let crossed : pos 0 *ℤ pos horizon.den ≡ horizon.num *ℤ pos 1 = omega (arith, ints, none) in
    let same : nought ≡ horizon = lowest-unique nought horizon (IsReduced-whole (pos 0)) r crossed in
    let clash : true ≡ false = sym (same_parts-self nought) ∙ ap (λ x. is_same nought x) same ∙ q in absurd cc
zero_is horizon r false true p q =
    let clash : true ≡ false = ap (λ x. unsigned_abs x.num == 0) (same_parts nought horizon q) ∙ p in absurd cc

-- the end and the lines that are put, from these
abbrev value_of : Thin → Fraction → Bool → Result Fraction Arith
value_of thin horizon b = if b then Ok (arrival thin horizon) else Err Range

abbrev put_end : Thin → Bool → Result Fraction Arith → Ending
put_end thin z r = if z then Horizon else flow_end thin r

abbrev put_lines : Thin → Fraction → Bool → Result Fraction Arith → List (List ℕ)
put_lines thin horizon z r =
    line_at thin nought (Step 0) thin.start ∷ (if z then ending_line Horizon ∷ [] else flow_lines thin horizon r)

abbrev run_lines : Thin → Fraction → Bool → Bool → List (List ℕ)
run_lines thin horizon z b =
    thin_line thin nought (Step 0) thin.start ∷ when (not z && b) (thin_line thin horizon Left (arrival thin horizon)) ++ ending_line (end_by thin b) ∷ []

same_end : (thin : Thin) (horizon : Fraction) (z b : Bool) → (z ≡ true → b ≡ true) → put_end thin z (value_of thin horizon b) ≡ end_by thin b
same_end thin horizon true true e = refl
same_end thin horizon true false e = let clash : false ≡ true = e refl in absurd cc
same_end thin horizon false true e = refl
same_end thin horizon false false e = refl

same_lines : (thin : Thin) (horizon : Fraction) (z b : Bool) → (z ≡ true → b ≡ true) → put_lines thin horizon z (value_of thin horizon b) ≡ run_lines thin horizon z b
same_lines thin horizon true true e = refl
same_lines thin horizon true false e = let clash : false ≡ true = e refl in absurd cc
same_lines thin horizon false true e = refl
same_lines thin horizon false false e = refl

module _ (thin : Thin) (horizon : Fraction) (k : IsFrac thin.slope) (a : IsFrac thin.start) (t : IsTime horizon) where
  zero_same : (unsigned_abs horizon.num == 0) ≡ is_same nought horizon
  zero_same = zero_is horizon t.number.reduced (unsigned_abs horizon.num == 0) (is_same nought horizon) refl refl

  value_same : value_at thin horizon ≡ value_of thin horizon (fits (increment thin horizon) && fits (arrival thin horizon))
  value_same = value_by thin horizon (fits (increment thin horizon)) (fits (arrival thin horizon)) refl refl

  pub end_is : thin_run_end thin horizon ≡ thin_end thin horizon
  end_is =
      sym (ap₂ (λ z r. put_end thin z r) zero_same value_same
      ∙ same_end thin horizon (is_same nought horizon) (fits (increment thin horizon) && fits (arrival thin horizon)) (stays_at_zero thin horizon a k))

  pub lines_are : thin_run_lines thin horizon ≡ thin_lines thin horizon
  lines_are =
      sym (ap₂ (λ z r. put_lines thin horizon z r) zero_same value_same
      ∙ same_lines thin horizon (is_same nought horizon) (fits (increment thin horizon) && fits (arrival thin horizon)) (stays_at_zero thin horizon a k))

pub run_as_meant : IsRunAsMeant
run_as_meant thin text names horizon steps k a t named =
    let T : Ending → List ℕ → Type 0 = λ e l. HasOneTrace (thin_form thin text) thin_grades names (horizon_script horizon steps) e l in
    let U : Ending → Type 0 = λ e. T e (concat (thin_run_lines thin horizon)) in
    let V : List (List ℕ) → Type 0 = λ l. T (thin_end thin horizon) (concat l) in
    subst V (lines_are thin horizon k a t) (subst U (end_is thin horizon k a t) (thin_runs thin text names horizon steps k a t named))
