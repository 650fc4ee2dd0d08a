-- Occurrences that are reached one after the other, each once.
use Rattle.std.specs.Prelude.{◌≡◌, ℕ, suc, ◌+◌, Bool, true, false, List, [], ◌∷◌, ◌++◌, length, slice_get, slice_set, Option, Some, None}
use Rattle.std.specs.List.{fold}
use Rattle.zl_value.specs.Lists.{Has}

-- for each occurrence whether it was reached; those that were, in order
pub record Reach : Type 0 where
  pub marks : List Bool
  pub order : List ℕ

-- number `k` too, if this is its mark
abbrev pub with_mark : Reach → ℕ → Option Bool → Reach
with_mark r k (Some false) = record { marks = slice_set r.marks k true; order = r.order ++ k ∷ [] }
with_mark r k (Some true) = r
with_mark r k None = r

abbrev pub with_one : Reach → ℕ → Reach
with_one r k = with_mark r k (slice_get r.marks k)

-- all of these too
abbrev pub with_all : Reach → List ℕ → Reach
with_all r ks = fold with_one r ks

-- how many weren't reached
abbrev pub unreached : List Bool → ℕ
unreached [] = 0
unreached (true ∷ marks) = unreached marks
unreached (false ∷ marks) = suc (unreached marks)

-- those that are marked stand in order, each once
pub record IsListed (r : Reach) : Type 0 where
  pub listed : (k : ℕ) → slice_get r.marks k ≡ Some true → Has r.order k
  pub marked : (i k : ℕ) → slice_get r.order i ≡ Some k → slice_get r.marks k ≡ Some true
  pub count : length r.order + unreached r.marks ≡ length r.marks
