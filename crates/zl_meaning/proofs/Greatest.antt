-- The greatest of some numbers.
use Rattle.std.specs.Prelude.{◌≡◌, ℕ, zero, suc, ◌<◌, ◌≤◌, max, List, [], ◌∷◌}
use Rattle.std.proofs.Common.{refl, ap, arith, ⊎_elim}
use Rattle.zl_value.specs.Lists.{Has}
use Rattle.zl_meaning.proofs.Members.{has-later, has-none, has-cases}

-- the greatest of what is told of the elements of a list, of the numbers below `n`
abbrev pub most_of : {X : Type 0} → (X → ℕ) → List X → ℕ
most_of g [] = 0
most_of g (x ∷ xs) = max (g x) (most_of g xs)

abbrev pub most_below : (ℕ → ℕ) → ℕ → ℕ
most_below g zero = 0
most_below g (suc n) = max (g n) (most_below g n)

pub max-less : {a b n : ℕ} → a < n → b < n → max a b < n
max-less p q = omega (arith, p, q)

pub max-left : (a b : ℕ) → a ≤ max a b
max-left a b = omega arith

pub max-right : (a b : ℕ) → b ≤ max a b
max-right a b = omega arith

pub max-more : {a b c d : ℕ} → a ≤ c → b ≤ d → max a b ≤ max c d
max-more p q = omega (arith, p, q)

-- it is below a number if all are
pub most-less : {X : Type 0} (g : X → ℕ) (xs : List X) (n : ℕ) → 0 < n → ((x : X) → Has xs x → g x < n) → most_of g xs < n
most-less g [] n some all = some
most-less g (x ∷ xs) n some all = max-less (all x (record { index = 0; is = refl })) (most-less g xs n some (λ y h. all y (has-later x xs y h)))

-- each is at most the greatest
pub in-most : {X : Type 0} (g : X → ℕ) (xs : List X) (x : X) → Has xs x → g x ≤ most_of g xs
in-most g [] x h = absurd (has-none x h)
in-most g (y ∷ xs) x h =
    has-cases (g x ≤ most_of g (y ∷ xs)) y xs x h
    (λ e. let same : g y ≡ g x = ap g e in let low = max-left (g y) (most_of g xs) in omega (arith, same, low))
    (λ i. let low = in-most g xs x i in let more = max-right (g y) (most_of g xs) in omega (arith, low, more))

-- it grows with each
pub most-more : {X : Type 0} (g h : X → ℕ) (xs : List X) → ((x : X) → g x ≤ h x) → most_of g xs ≤ most_of h xs
most-more g h [] all = omega arith
most-more g h (x ∷ xs) all = max-more (all x) (most-more g h xs all)

pub below-most : (g : ℕ → ℕ) (n k : ℕ) → k < n → g k ≤ most_below g n
below-most g zero k low = absurd (omega (arith, low))
below-most g (suc n) k low =
    ⊎_elim (λ (e : k ≡ n). let same : g k ≡ g n = ap g e in let more = max-left (g n) (most_below g n) in omega (arith, same, more))
    (λ (less : k < n). let rest = below-most g n k less in let more = max-right (g n) (most_below g n) in omega (arith, rest, more))
    (grind (arith, low))
