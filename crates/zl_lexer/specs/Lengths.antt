-- How far a number is read from its first digit on.
use Rattle.std.specs.Prelude.{ℕ, ◌+◌, ◌||◌, ◌==◌, if◌then◌else◌, List, [], ◌∷◌, drop}
use Rattle.std.specs.List.{prefix_len}
use Rattle.std.specs.Char.{is_ascii_digit}

-- one more than a length, if there is something
abbrev pub with_mark : ℕ → ℕ
with_mark n = if n == 0 then 0 else n + 1

-- digits, perhaps with a sign before them; 0 where no digits stand
abbrev pub signed_len : List ℕ → ℕ
signed_len [] = 0
signed_len (c ∷ text) =
    if c == 43 || c == 45 then with_mark (prefix_len is_ascii_digit text) else prefix_len is_ascii_digit (c ∷ text)

-- an exponent; 0 where none stands
abbrev pub exponent_len : List ℕ → ℕ
exponent_len [] = 0
exponent_len (c ∷ text) = if c == 101 || c == 69 then with_mark (signed_len text) else 0

-- what makes a number of digits one with a point or an exponent; 0 where nothing does
abbrev pub fraction_len : List ℕ → ℕ
fraction_len [] = 0
fraction_len (c ∷ text) =
    if c == 46 then 1 + prefix_len is_ascii_digit text + exponent_len (drop (prefix_len is_ascii_digit text) text)
    else exponent_len (c ∷ text)
