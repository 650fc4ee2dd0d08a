-- All that stands under occurrences that were reached.
use Rattle.std.specs.Prelude.{◌≡◌, ℕ, ◌<◌, true, false, List, length, slice_get, Some}
use Rattle.zl_value.specs.Lists.{Has}
use Rattle.zl_meaning.specs.declared.occurrence.Occ.{Occ}
use Rattle.zl_grade.specs.Children.{children}
use Rattle.zl_grade.specs.Reached.{Reach, IsListed}

-- it was reached, or stands under what was
pub data StandsUnder (occs : List Occ) (r : Reach) : ℕ → Type 0 where
  Reached : (k : ℕ) → slice_get r.marks k ≡ Some true → StandsUnder occs r k
  Directly : (k whole : ℕ) → Has (children occs whole) k → StandsUnder occs r whole → StandsUnder occs r k

-- all that stands under the old ones is reached, and nothing else
pub record IsClosed (occs : List Occ) (old new : Reach) : Type 0 where
  pub size : length new.marks ≡ length old.marks
  pub kept : (k : ℕ) → slice_get old.marks k ≡ Some true → slice_get new.marks k ≡ Some true
  pub sound : (k : ℕ) → slice_get new.marks k ≡ Some true → StandsUnder occs old k
  pub closed : (whole k : ℕ) → slice_get new.marks whole ≡ Some true → Has (children occs whole) k → slice_get new.marks k ≡ Some false → ⊥

-- on the way there: what stands directly under the first `n` in order is reached
pub record IsClosing (occs : List Occ) (old new : Reach) (n : ℕ) : Type 0 where
  pub listed : IsListed new
  pub size : length new.marks ≡ length old.marks
  pub kept : (k : ℕ) → slice_get old.marks k ≡ Some true → slice_get new.marks k ≡ Some true
  pub sound : (k : ℕ) → slice_get new.marks k ≡ Some true → StandsUnder occs old k
  pub closed : (i whole k : ℕ) → i < n → slice_get new.order i ≡ Some whole → Has (children occs whole) k → slice_get new.marks k ≡ Some false → ⊥
