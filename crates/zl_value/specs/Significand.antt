-- Numbers as their digits are read, one behind another. This project's own.
use Rattle.std.specs.Prelude.{◌≡◌, ℕ, ◌+◌, ◌*◌, ◌%◌, ◌^◌, ◌<◌, ◌≤◌, suc, ℤ, pos, negsuc, ◌-ℤ◌, ◌-◌, min}

-- the number, with so many zeros behind it
abbrev pub with_zeros : ℕ → ℕ → ℕ
with_zeros number zeros = number * 10 ^ zeros

-- the number has more than 38 digits up to its last digit that isn't 0: `front`, which ends with that digit, is so
-- long already, and what stands behind it is `rest`
pub record IsLong (number : ℕ) : Type 0 where
  pub front : ℕ
  pub behind : ℕ
  pub rest : ℕ
  pub is : number ≡ with_zeros front behind + rest
  pub below : rest < 10 ^ behind
  pub last : front % 10 ≡ 0 → ⊥
  pub long : 10 ^ 38 ≤ front

-- the greatest number of a counter, at which it stays
abbrev pub most : ℕ
most = 2 ^ 64 - 1

-- an exponent as it is counted
abbrev pub counted : ℤ → ℤ
counted (pos n) = pos (min n most)
counted (negsuc n) = pos 0 -ℤ pos (min (suc n) most)
