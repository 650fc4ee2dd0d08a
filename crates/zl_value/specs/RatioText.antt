-- Numbers that are written as digits, or as digits over digits. This project's own.
use Rattle.std.specs.Prelude.{ℕ, ◌^◌, pos, ◌==◌, if◌then◌else◌, nat_lt, List, [], ◌∷◌, Option, Some, None, option_and_then}
use Rattle.zl_value.specs.Fraction.{Fraction, reduced}
use Rattle.zl_value.specs.Decimal.{run, after_run, unsigned_number, if_fits}

abbrev pub if_short : ℕ → Option ℕ
if_short n = if nat_lt n (10 ^ 38) then Some n else None

-- the number of a text of digits, if it is below ten to the power 38; zeros at the front are free
abbrev pub short_number : List ℕ → Option ℕ
short_number text = option_and_then if_short (unsigned_number text)

-- `n / d`, if `d` isn't zero and the fraction fits
abbrev pub quotient : ℕ → ℕ → Option Fraction
quotient n d = if d == 0 then None else if_fits (reduced (pos n) d)

-- a number over what stands behind its digits: nothing, or `/` and digits
abbrev pub over : ℕ → List ℕ → Option Fraction
over n [] = quotient n 1
over n (c ∷ cs) = if c == 47 then option_and_then (quotient n) (short_number cs) else None

-- the fraction of a text `digits` or `digits/digits`, if both numbers are short and it fits
unfoldable pub ratio_value : List ℕ → Option Fraction
ratio_value text = option_and_then (λ n. over n (after_run text)) (short_number (run text))
