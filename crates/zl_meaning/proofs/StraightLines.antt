-- Numbers that stand still or move on straight lines, as values that may be missing.
use Rattle.std.specs.Prelude.{◌≡◌, Bool, true, false, if◌then◌else◌, Option, Some, None}
use Rattle.std.proofs.Common.{refl, sym, ap, ap₂, ◌∙◌}
use Rattle.zl_value.specs.Fraction.{Fraction, IsReduced, add, mul}
use Rattle.zl_value.specs.Times.{nought, unit}
use Rattle.zl_value.specs.Operators.{answered}
use Rattle.zl_value.specs.declared.value.Value.{Value}
use Rattle.zl_value.specs.declared.value.Value.TheVariants.{F}
use Rattle.zl_value.proofs.FractionLaws.{IsReduced-add, IsReduced-mul, sub-self}
use Rattle.zl_value.proofs.LinearLaws.{line_at_zero, line_still, line_slope}
use Rattle.zl_meaning.specs.Places.{moved}
use Rattle.zl_meaning.specs.Occurrences.{given}
use Rattle.zl_meaning.specs.KeepsGrades.{on_line}

-- nothing, or a fraction in lowest terms
pub data IsNumber : Option Value → Type 0 where
  Nowhere : IsNumber None
  Reduced : (a : Fraction) → IsReduced a → IsNumber (Some (F a))

pub number-if : (b : Bool) (x y : Option Value) → IsNumber x → IsNumber y → IsNumber (if b then x else y)
number-if true x y p q = p
number-if false x y p q = q

pub number-moved : (x k : Option Value) (s : Fraction) → IsReduced s → IsNumber x → IsNumber k → IsNumber (moved x k s)
number-moved _ _ s r (Reduced a p) (Reduced k q) = Reduced (add a (mul s k)) (IsReduced-add a (mul s k) p.above (IsReduced-mul s k r.above q.above).above)
number-moved _ _ s r (Reduced a p) Nowhere = Nowhere
number-moved _ k s r Nowhere q = Nowhere

pub answered-given : (x : Option Value) → answered (given x) ≡ x
answered-given None = refl
answered-given (Some v) = refl

-- what stands still is on a line
pub still-line : (x : Option Value) (s : Fraction) → IsReduced s → IsNumber x → x ≡ on_line x x s
still-line _ s r Nowhere = refl
still-line _ s r (Reduced a p) = ap (λ y. Some (F y)) (sym (line_still a s p r) ∙ ap (λ k. add a (mul s k)) (sym (sub-self a p.above)))

-- what moves from a number with a slope starts there, and is on a line
pub moved-start : (x : Option Value) (k : Fraction) → IsNumber x → IsReduced k → moved x (Some (F k)) nought ≡ x
moved-start _ k Nowhere q = refl
moved-start _ k (Reduced a p) q = ap (λ y. Some (F y)) (line_at_zero a k p q)

pub moved-line : (x : Option Value) (k s : Fraction) → IsNumber x → IsReduced k → IsReduced s → moved x (Some (F k)) s ≡ on_line (moved x (Some (F k)) nought) (moved x (Some (F k)) unit) s
moved-line _ k s Nowhere q r = refl
moved-line _ k s (Reduced a p) q r = ap (λ y. Some (F y)) (ap₂ (λ b c. add b (mul s c)) (sym (line_at_zero a k p q)) (sym (line_slope a k p q)))
