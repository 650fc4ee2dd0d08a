-- Sites that move along lines cross as the lines do.
use Rattle.std.specs.Prelude.{◌≡◌, ℕ, suc, ◌+◌, ◌<◌, pos, Bool, true, false, not, ◌&&◌, ◌||◌, List, [], ◌∷◌, length, get_or, Option, Some, None}
use Rattle.std.specs.List.{list_any, list_all}
use Rattle.std.proofs.Common.{refl, sym, ap, ap₂, ◌∙◌, arith}
use Rattle.zl_value.specs.Fraction.{Fraction, IsReduced}
use Rattle.zl_value.specs.Lists.{listed}
use Rattle.zl_value.specs.Times.{nought, is_negative, is_below, is_above}
use Rattle.zl_value.specs.Crossings.{SiteValues, is_reached, is_kept, any_reached, all_kept}
use Rattle.zl_value.specs.declared.line.Line.{Line}
use Rattle.zl_value.proofs.FractionLaws.{IsReduced-whole}
use Rattle.zl_value.proofs.LinearLaws.{line_at_zero}
use Rattle.zl_crossing.specs.FirstCrossing.{value_at, has_crossed, any_crossed}
use Rattle.zl_crossing.specs.Courses.{value_on, IsLine, AreCourses}

-- a test of the elements and one of their numbers that agree
any_by_number : {X : Type 0} (p : Option X → Bool) (q : ℕ → Bool) (xs : List (Option X)) (k : ℕ) → ((i : ℕ) → i < length xs → p (get_or xs i None) ≡ q (k + i)) → list_any p xs ≡ list_any q (listed (length xs) k (λ n. n))
any_by_number p q [] k same = refl
any_by_number p q (x ∷ xs) k same =
    ap₂ (λ a b. a || b) (same 0 (omega arith) ∙ ap q (omega arith))
    (any_by_number p q xs (suc k) (λ i inside. same (suc i) (omega arith) ∙ ap q (omega arith)))

-- all pass the one where none passes the other
all_by_number : {X : Type 0} (p : Option X → Bool) (q : ℕ → Bool) (xs : List (Option X)) (k : ℕ) → ((i : ℕ) → i < length xs → q (k + i) ≡ not (p (get_or xs i None))) → list_any p xs ≡ false → list_all q (listed (length xs) k (λ n. n)) ≡ true
all_by_number p q [] k opposite none = refl
all_by_number p q (x ∷ xs) k opposite none =
    ap₂ (λ a b. a && b) (ap q (omega arith) ∙ opposite 0 (omega arith) ∙ ap not (or_parts (p x) (list_any p xs) none).0)
    (all_by_number p q xs (suc k) (λ i inside. ap q (omega arith) ∙ opposite (suc i) (omega arith)) (or_parts (p x) (list_any p xs) none).1)
  where
    or_parts : (a b : Bool) → (a || b) ≡ false → (a ≡ false) × (b ≡ false)
    or_parts true b e = absurd cc
    or_parts false b e = (refl, e)

-- a site is reached at a moment where its line has crossed
reached_on : (line : Option Line) (s : Fraction) → IsLine line → has_crossed s line ≡ (is_below (value_on nought line) && is_above (value_on s line))
reached_on None s low = refl
reached_on (Some line) s low = ap (λ v. is_negative v && not (is_negative (value_at line s))) (sym (line_at_zero line.value line.slope low.0 low.1))

kept_by : (a b : Bool) → (not a || b) ≡ not (a && not b)
kept_by true true = refl
kept_by true false = refl
kept_by false b = refl

-- and kept where it hasn't
kept_on : (line : Option Line) (s : Fraction) → IsLine line → (not (is_below (value_on nought line)) || is_below (value_on s line)) ≡ not (has_crossed s line)
kept_on None s low = refl
kept_on (Some line) s low =
    ap (λ v. not (is_negative v) || is_negative (value_at line s)) (line_at_zero line.value line.slope low.0 low.1)
    ∙ kept_by (is_negative line.value) (is_negative (value_at line s))

from_zero : (i : ℕ) → i ≡ 0 + i
from_zero i = omega arith

module _ (lines : List (Option Line)) (value : SiteValues) (are : AreCourses lines value) (s : Fraction) (low : IsReduced s) (from : is_negative s ≡ false) where
  pub any_reached_is : any_crossed lines s ≡ any_reached value (length lines) s
  any_reached_is = any_by_number (has_crossed s) (is_reached value s) lines 0 (λ i inside.
      reached_on (get_or lines i None) s (are.line i inside)
      ∙ ap₂ (λ a b. is_below a && is_above b) (sym (are.on i inside nought (IsReduced-whole (pos 0)) refl)) (sym (are.on i inside s low from))
      ∙ ap (is_reached value s) (from_zero i))

  pub all_kept_where : any_crossed lines s ≡ false → all_kept value (length lines) s ≡ true
  all_kept_where none = all_by_number (has_crossed s) (is_kept value s) lines 0
      (λ i inside.
      ap (is_kept value s) (sym (from_zero i))
      ∙ ap₂ (λ a b. not (is_below a) || is_below b) (are.on i inside nought (IsReduced-whole (pos 0)) refl) (are.on i inside s low from)
      ∙ kept_on (get_or lines i None) s (are.line i inside))
      none
