-- What is noted of the sites after an instant.
use Rattle.std.specs.Prelude.{◌≡◌, ℕ, zero, suc, ◌+◌, ◌<◌, ◌≤◌, length, take, slice_set, Bool, true, false, not, ◌&&◌, List, [], ◌∷◌, ◌++◌, Option, Some, None}
use Rattle.std.proofs.Common.{refl, sym, ap, ap₂, ◌∙◌, ⊎_elim, subst, arith}
use Rattle.std.proofs.lemmas.Bool.{cases_lt}
use Rattle.zl_value.specs.Fraction.{Fraction}
use Rattle.zl_value.specs.Order.{below}
use Rattle.zl_value.proofs.FractionOrder.{below_asym}
use Rattle.std.proofs.lemmas.List.{take_more_set, length-set}
use Rattle.zl_value.specs.Lists.{listed}
use Rattle.zl_value.specs.Times.{is_below, is_above, holds}
use Rattle.zl_value.specs.declared.value.Value.{Value}
use Rattle.zl_value.specs.declared.value.Value.TheVariants.{B, I, F}
use Rattle.zl_machine.specs.Answers.{float_of}
use Rattle.zl_machine.specs.Calls.{fresh_if}
use Rattle.zl_run.specs.Firing.{below_by, above_by}

pub below_is : (v : Option Value) → below_by (float_of v) ≡ is_below v
below_is None = refl
below_is (Some (B b)) = refl
below_is (Some (I n)) = refl
below_is (Some (F f)) = refl

and_false : (a : Bool) → (a && false) ≡ false
and_false true = refl
and_false false = refl

pub reached_is : (v fresh : Option Value) → (above_by (float_of v) && not (fresh_if (float_of v) fresh)) ≡ (is_above v && not (holds fresh))
reached_is None fresh = refl
reached_is (Some (B b)) fresh = refl
reached_is (Some (I n)) fresh = refl
reached_is (Some (F f)) fresh = refl

listed_from : {X : Type 0} (n k : ℕ) (f : ℕ → X) → listed (suc n) k f ≡ listed n k f ++ f (k + n) ∷ []
listed_from zero k f = ap (λ j. f j ∷ []) {y = k + 0} (omega arith)
listed_from (suc n) k f =
    ap (λ xs. f k ∷ xs) (listed_from n (suc k) f ∙ ap (λ j. listed n (suc k) f ++ f j ∷ []) {x = suc k + n} {y = k + suc n} (omega arith))

-- one more
pub listed_more : {X : Type 0} (n : ℕ) (f : ℕ → X) → listed (n + 1) 0 f ≡ listed n 0 f ++ f n ∷ []
listed_more n f = ap (λ m. listed m 0 f) {x = n + 1} {y = suc n} (omega arith) ∙ listed_from n 0 f ∙ ap (λ j. listed n 0 f ++ f j ∷ []) {x = 0 + n} {y = n} (omega arith)

-- a loop over a list has noted one more
pub noted : {X : Type 0} (xs : List X) (count size k : ℕ) (v : X) (f : ℕ → X) → length xs ≡ count → take k xs ≡ listed k 0 f → size ≡ count → k < size → v ≡ f k
    → (length (slice_set xs k v) ≡ count) × (take (k + 1) (slice_set xs k v) ≡ listed (k + 1) 0 f)
noted xs count size k v f full so_far same inside is =
    let below : k < length xs = rw (full, sym same) inside in
    (length-set xs k v ∙ full, take_more_set xs k v below ∙ ap₂ (λ ys y. ys ++ y ∷ []) so_far is ∙ sym (listed_more k f))

-- what holds of each so far, and of one more
pub each_more : (P : ℕ → Type 0) (k : ℕ) → ((n : ℕ) → n < k → P n) → P k → (n : ℕ) → n < k + 1 → P n
each_more P k each more n inside =
    ⊎_elim (λ (below : n < k). each n below) (λ (at : k ≤ n). subst P {x = k} {y = n} (omega arith) more) (cases_lt n k)

-- a later time isn't earlier
pub not_before : (a b : Fraction) → below a b ≡ true → below b a ≡ false
not_before a b e = below_asym a b e
