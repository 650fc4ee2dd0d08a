-- Where a line that begins below zero is zero.
use Rattle.std.specs.Prelude.{◌≡◌, ◌<◌, pos, int_lt, true, false, not, ◌&&◌, Some, Bool}
use Rattle.std.proofs.Common.{refl, sym, ap, ◌∙◌, ⊎_elim, arith}
use Rattle.std.proofs.lemmas.Int.{ints}
use Rattle.std.proofs.lemmas.Bool.{both_ways}
use Rattle.zl_value.specs.Fraction.{Fraction, IsReduced, add, mul, neg, div}
use Rattle.zl_value.specs.Order.{below}
use Rattle.zl_value.specs.Times.{nought, is_negative}
use Rattle.zl_value.specs.declared.line.Line.{Line}
use Rattle.zl_value.proofs.FractionLaws.{IsReduced-mul, IsReduced-neg, IsReduced-div, IsReduced-whole, zero-mul, mul-zero}
use Rattle.zl_value.proofs.FractionOrder.{below-self, below-zero, zero-below, below-add, below-mul, below-mul_right, below_cases, add_negative, line_root}
use Rattle.zl_value.proofs.LinearLaws.{line_at_zero}
use Rattle.zl_crossing.specs.FirstCrossing.{value_at, CrossesFrom, NeverCrosses}

-- the numerator of what is above zero isn't zero
positive_apart : (k : Fraction) → below nought k ≡ true → k.num ≡ pos 0 → ⊥
positive_apart k e zero = let test : int_lt (pos 0) k.num ≡ true = sym (zero-below k) ∙ e in omega (arith, ints)

-- a line that begins below zero and rises is below zero before its root, and no longer
pub negative_before : (v k s : Fraction) → IsReduced v → IsReduced k → IsReduced s → below nought k ≡ true → is_negative (add v (mul s k)) ≡ below s (div (neg v) k)
negative_before v k s v_low k_low s_low rises =
    let apart = positive_apart k rises in
    let root : Fraction = div (neg v) k in
    let root_low : IsReduced root = IsReduced-div (neg v) k (IsReduced-neg v v_low).above apart in
    let here : 0 < (mul s k).den = (IsReduced-mul s k s_low.above k_low.above).above in
    let there : 0 < (mul root k).den = (IsReduced-mul root k root_low.above k_low.above).above in
    sym (below-zero (add v (mul s k))) ∙ ap (below (add v (mul s k))) (sym (line_root v k v_low k_low.above apart))
    ∙ below-add v (mul s k) (mul root k) v_low.above here there ∙ below-mul_right s root k s_low.above root_low.above k_low.above rises

-- one that doesn't rise stays below zero
pub negative_always : (v k s : Fraction) → IsReduced v → IsReduced k → IsReduced s → is_negative v ≡ true → below nought k ≡ false → is_negative s ≡ false → is_negative (add v (mul s k)) ≡ true
negative_always v k s v_low k_low s_low begin falls from =
    sym (below-zero (add v (mul s k))) ∙ add_negative v (mul s k) v_low (IsReduced-mul s k s_low.above k_low.above).above (below-zero v ∙ begin) no_more
  where
    still : s ≡ nought → below nought (mul s k) ≡ false
    still e = ap (λ t. below nought (mul t k)) e ∙ ap (below nought) (zero-mul k k_low.above) ∙ below-self nought

    later : below nought s ≡ true → below nought (mul s k) ≡ false
    later e =
        ap (λ t. below t (mul s k)) (sym (mul-zero s s_low.above)) ∙ below-mul s nought k s_low.above (omega arith) k_low.above e ∙ falls

    no_more : below nought (mul s k) ≡ false
    no_more =
        ⊎_elim (λ e. absurd (both_ways (is_negative s) from (sym (below-zero s) ∙ e))) (λ o. ⊎_elim still later o)
        (below_cases s nought s_low (IsReduced-whole (pos 0)))

-- the answer for a line that begins below zero and rises
pub crosses_from_root : (line : Line) → IsReduced line.value → IsReduced line.slope → is_negative line.value ≡ true → below nought line.slope ≡ true
    → CrossesFrom (Some line) (div (neg line.value) line.slope)
crosses_from_root line v_low k_low begin rises = record {
  lowest = IsReduced-div (neg line.value) line.slope (IsReduced-neg line.value v_low).above (positive_apart line.slope rises);
  positive = sym (negative_before line.value line.slope nought v_low k_low (IsReduced-whole (pos 0)) rises) ∙ ap is_negative (line_at_zero line.value line.slope v_low k_low) ∙ begin;
  crossed = λ s s_low from.
      ap (λ b. b && not (is_negative (value_at line s))) begin ∙ ap not (negative_before line.value line.slope s v_low k_low s_low rises);
}

-- and for every other
pub never_without_rise : (line : Line) → IsReduced line.value → IsReduced line.slope → (is_negative line.value && int_lt (pos 0) line.slope.num) ≡ false → NeverCrosses (Some line)
never_without_rise line v_low k_low e s s_low from = go (is_negative line.value) refl e
  where
    go : (b : Bool) → is_negative line.value ≡ b → (b && int_lt (pos 0) line.slope.num) ≡ false → (b && not (is_negative (value_at line s))) ≡ false
    go false begin f = refl
    go true begin f = ap not (negative_always line.value line.slope s v_low k_low s_low begin (zero-below line.slope ∙ f) from)
