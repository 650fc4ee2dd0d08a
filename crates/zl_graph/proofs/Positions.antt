-- What stands at a position of a list that is changed.
use Rattle.std.proofs.Common.{◌≡◌, ◌⊎◌, inl, inr, ℕ, zero, suc, ◌<◌, List, [], ◌∷◌, ◌++◌, length, take, set, slice_get, Some, refl, ap, arith}

pub get-left : {X : Type 0} (xs ys : List X) (i : ℕ) (x : X) → slice_get xs i ≡ Some x → slice_get (xs ++ ys) i ≡ Some x
get-left [] ys i x e = absurd (cc)
get-left (z ∷ xs) ys zero x e = e
get-left (z ∷ xs) ys (suc i) x e = get-left xs ys i x e

pub get-push : {X : Type 0} (xs : List X) (y : X) → slice_get (xs ++ y ∷ []) (length xs) ≡ Some y
get-push [] y = refl
get-push (z ∷ xs) y = get-push xs y

pub get-push_cases : {X : Type 0} (xs : List X) (y : X) (i : ℕ) (x : X) → slice_get (xs ++ y ∷ []) i ≡ Some x → (slice_get xs i ≡ Some x) ⊎ ((i ≡ length xs) × (x ≡ y))
get-push_cases [] y zero x e = inr (refl, (cc))
get-push_cases [] y (suc i) x e = absurd (cc)
get-push_cases (z ∷ xs) y zero x e = inl e
get-push_cases (z ∷ xs) y (suc i) x e = one_more (get-push_cases xs y i x e)
  where
    one_more : (slice_get xs i ≡ Some x) ⊎ ((i ≡ length xs) × (x ≡ y)) → (slice_get xs i ≡ Some x) ⊎ ((suc i ≡ suc (length xs)) × (x ≡ y))
    one_more (inl h) = inl h
    one_more (inr h) = inr (ap suc h.0, h.1)

pub get-take : {X : Type 0} (n : ℕ) (xs : List X) (i : ℕ) (x : X) → slice_get (take n xs) i ≡ Some x → (i < n) × (slice_get xs i ≡ Some x)
get-take zero xs i x e = absurd (cc)
get-take (suc n) [] i x e = absurd (cc)
get-take (suc n) (z ∷ xs) zero x e = (omega arith, e)
get-take (suc n) (z ∷ xs) (suc i) x e = let h = get-take n xs i x e in (omega (arith, h.0), h.1)

pub get-take_from : {X : Type 0} (n : ℕ) (xs : List X) (i : ℕ) (x : X) → i < n → slice_get xs i ≡ Some x → slice_get (take n xs) i ≡ Some x
get-take_from zero xs i x l e = absurd (omega arith)
get-take_from (suc n) [] i x l e = e
get-take_from (suc n) (z ∷ xs) zero x l e = e
get-take_from (suc n) (z ∷ xs) (suc i) x l e = get-take_from n xs i x (omega arith) e

pub get-set_same : {X : Type 0} (xs : List X) (i : ℕ) (y : X) → i < length xs → slice_get (set xs i y) i ≡ Some y
get-set_same [] i y l = absurd (omega arith)
get-set_same (z ∷ xs) zero y l = refl
get-set_same (z ∷ xs) (suc i) y l = get-set_same xs i y (omega arith)

pub get-set_other : {X : Type 0} (xs : List X) (i j : ℕ) (y : X) → (j ≡ i → ⊥) → slice_get (set xs i y) j ≡ slice_get xs j
get-set_other [] i j y ne = refl
get-set_other (z ∷ xs) zero zero y ne = absurd (ne refl)
get-set_other (z ∷ xs) zero (suc j) y ne = refl
get-set_other (z ∷ xs) (suc i) zero y ne = refl
get-set_other (z ∷ xs) (suc i) (suc j) y ne = get-set_other xs i j y (λ e. ne (ap suc e))

-- there is something at each position within the length
pub get-inside : {X : Type 0} (xs : List X) (i : ℕ) → i < length xs → (x : X) × (slice_get xs i ≡ Some x)
get-inside [] i l = absurd (omega arith)
get-inside (z ∷ xs) zero l = (z, refl)
get-inside (z ∷ xs) (suc i) l = get-inside xs i (omega arith)
