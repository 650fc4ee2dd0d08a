-- A few words on lists.
use Rattle.std.specs.Prelude.{◌≡◌, ℕ, zero, suc, Bool, true, false, nat_eq, List, [], ◌∷◌, Some, slice_get}
use Rattle.std.specs.List.{list_any}

-- `x` is one of the list
pub record Has {X : Type 0} (xs : List X) (x : X) : Type 0 where
  pub index : ℕ
  pub is : slice_get xs index ≡ Some x

-- the number is one of the list
abbrev pub among : ℕ → List ℕ → Bool
among k ks = list_any (λ j. nat_eq j k) ks

-- `x` alone, if the test holds
abbrev pub when : {X : Type 0} → Bool → X → List X
when true x = x ∷ []
when false x = []

-- `make k`, `make (k + 1)` and so on, `n` of them
abbrev pub listed : {X : Type 0} → ℕ → ℕ → (ℕ → X) → List X
listed zero k make = []
listed (suc n) k make = make k ∷ listed n (suc k) make
