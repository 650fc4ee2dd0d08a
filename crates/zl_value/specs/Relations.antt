-- Relations among numbers, their cycles and their ranks. This project's own.
use Rattle.std.specs.Prelude.{◌≡◌, ℕ, ◌<◌, ◌≤◌, zero, suc, Bool, true, nat_eq, List, [], get_or}
use Rattle.std.specs.List.{list_any}

-- the relation that holds of `a` and each number of the list that stands at `a`
abbrev pub needs_of : List (List ℕ) → ℕ → ℕ → Bool
needs_of lists a b = list_any (nat_eq b) (get_or lists a [])

-- from `a` to `b` by a step, and `m` steps before it
abbrev pub Leads : (ℕ → ℕ → Bool) → ℕ → ℕ → ℕ → Type 0
Leads needs zero a b = needs a b ≡ true
Leads needs (suc m) a b = (c : ℕ) × (needs a c ≡ true) × Leads needs m c b

-- all that is needed is below `n`
pub record IsWithin (n : ℕ) (needs : ℕ → ℕ → Bool) : Type 0 where
  pub within : (a b : ℕ) → needs a b ≡ true → b < n

-- no number needs itself, by however many steps
pub record IsAcyclic (needs : ℕ → ℕ → Bool) : Type 0 where
  pub apart : (m a : ℕ) → Leads needs m a a → ⊥

-- some number does
pub record HasCycle (needs : ℕ → ℕ → Bool) : Type 0 where
  pub steps : ℕ
  pub at : ℕ
  pub leads : Leads needs steps at at

-- each number has a greater rank than all that it needs
pub record IsRanking (needs : ℕ → ℕ → Bool) (rank : ℕ → ℕ) : Type 0 where
  pub lower : (a b : ℕ) → needs a b ≡ true → rank b < rank a

-- there are ranks, and none is greater than `n`
pub record HasRanks (n : ℕ) (needs : ℕ → ℕ → Bool) : Type 0 where
  pub rank : ℕ → ℕ
  pub ranks : IsRanking needs rank
  pub most : (a : ℕ) → rank a ≤ n
