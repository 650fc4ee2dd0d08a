-- Rooms of bytes, into which texts are written. This project's own.
use Rattle.std.specs.Prelude.{◌≡◌, ℕ, ◌+◌, List, ◌++◌, length, take, drop}

-- the new room is the old one with these bytes in it from `start` on
pub record WritesAt (old : List ℕ) (start : ℕ) (bytes new : List ℕ) : Type 0 where
  pub is : new ≡ take start old ++ (bytes ++ drop (start + length bytes) old)
