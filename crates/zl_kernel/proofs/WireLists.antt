-- Lists that are made by number.
use Rattle.std.specs.Prelude.{◌≡◌, ℕ, zero, suc, ◌+◌, List, [], ◌∷◌, length, get_or, slice_get, Option, None}
use Rattle.std.proofs.Common.{sym, ap, ◌∙◌, arith}
use Rattle.zl_value.specs.Lists.{listed}

-- an entry of a list that is made by number: past the end it is the one that is made of nothing
listed_at : {A X : Type 0} (xs : List A) (j : ℕ) (make : ℕ → X) (d : X) (of : ℕ → Option A → X) → ((k : ℕ) → of k None ≡ d) → ((k : ℕ) → make (j + k) ≡ of (j + k) (slice_get xs k)) → (k : ℕ) → get_or (listed (length xs) j make) k d ≡ of (j + k) (slice_get xs k)
listed_at [] j make d of none is k = sym (none (j + k))
listed_at (x ∷ xs) j make d of none is zero = ap make (let e : j ≡ j + 0 = omega arith in e) ∙ is 0
listed_at (x ∷ xs) j make d of none is (suc k) =
    listed_at xs (suc j) make d of none (λ i. ap make (shift j i) ∙ is (suc i) ∙ ap (λ n. of n (slice_get xs i)) (sym (shift j i))) k
    ∙ ap (λ n. of n (slice_get xs k)) (shift j k)
  where
    shift : (j k : ℕ) → suc j + k ≡ j + suc k
    shift j k = omega arith

-- the same, from the first number on
pub made_at : {A X : Type 0} (xs : List A) (d : X) (make : ℕ → X) (of : ℕ → Option A → X) → ((k : ℕ) → of k None ≡ d) → ((k : ℕ) → make k ≡ of k (slice_get xs k)) → (k : ℕ) → get_or (listed (length xs) 0 make) k d ≡ of k (slice_get xs k)
made_at xs d make of none is k =
    listed_at xs 0 make d of none (λ i. ap make (from_zero i) ∙ is i ∙ ap (λ n. of n (slice_get xs i)) (sym (from_zero i))) k
    ∙ ap (λ n. of n (slice_get xs k)) (from_zero k)
  where
    from_zero : (k : ℕ) → 0 + k ≡ k
    from_zero k = omega arith
