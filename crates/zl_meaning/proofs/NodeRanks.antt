-- Ranks of the entries of a written form, list by list.
use Rattle.std.specs.Prelude.{◌≡◌, ℕ, zero, suc, ◌+◌, List, [], ◌∷◌, slice_get, Option, Some, None}
use Rattle.std.proofs.Common.{subst, arith}

-- a property of each element of a list, with its number
abbrev pub AllNumbered : {A : Type 0} → (ℕ → Option A → Type 0) → ℕ → List A → Type 0
AllNumbered P n [] = Unit {0}
AllNumbered P n (x ∷ xs) = P n (Some x) × AllNumbered P (suc n) xs

numbered_from : {A : Type 0} (P : ℕ → Option A → Type 0) (xs : List A) (n : ℕ) → ((k : ℕ) → P k None) → AllNumbered P n xs → (k : ℕ) → P (n + k) (slice_get xs k)
numbered_from P [] n none all k = none (n + k)
numbered_from P (x ∷ xs) n none all zero = let e : n ≡ n + 0 = omega arith in let T : ℕ → Type 0 = λ j. P j (Some x) in subst T e all.0
numbered_from P (x ∷ xs) n none all (suc k) =
    let e : suc n + k ≡ n + suc k = omega arith in let T : ℕ → Type 0 = λ j. P j (slice_get xs k) in subst T e (numbered_from P xs (suc n) none all.1 k)

-- it holds at each number, if it holds past the end
pub numbered : {A : Type 0} (P : ℕ → Option A → Type 0) (xs : List A) → ((k : ℕ) → P k None) → AllNumbered P 0 xs → (k : ℕ) → P k (slice_get xs k)
numbered P xs none all k = let e : 0 + k ≡ k = omega arith in let T : ℕ → Type 0 = λ j. P j (slice_get xs k) in subst T e (numbered_from P xs 0 none all k)
