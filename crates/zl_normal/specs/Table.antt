-- Tables.
use Rattle.std.specs.Prelude.{◌≡◌, ◌<◌, ℕ, List, length, slice_get, Some}

-- the table has this size, and each of its entries is what `g` says
pub record IsTable {X : Type 0} (xs : List X) (n : ℕ) (g : ℕ → X) : Type 0 where
  pub size : length xs ≡ n
  pub each : (i : ℕ) → i < n → slice_get xs i ≡ Some (g i)
