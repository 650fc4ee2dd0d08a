-- Numbers with a point or an exponent, as they are written in files and scripts. This project's own.
use Rattle.std.specs.Prelude.{ℕ, ◌*◌, ◌/◌, ◌%◌, ◌^◌, ℤ, pos, negsuc, ◌+ℤ◌, ◌-ℤ◌, Bool, false, ◌&&◌, ◌||◌, ◌==◌, if◌then◌else◌, nat_lt, int_le, List, [], ◌∷◌, ◌++◌, length, drop, Option, Some, None, option_and_then, option_map, zero, suc}
use Rattle.std.specs.List.{prefix_len, take_while}
use Rattle.std.specs.Char.{is_ascii_digit}
use Rattle.std.specs.Str.Parse.{digits_value}
use Rattle.zl_value.specs.Fraction.{Fraction, reduced, fits, whole}

-- the digits at the front of a text
abbrev pub run : List ℕ → List ℕ
run text = take_while is_ascii_digit text

-- what stands behind them
abbrev pub after_run : List ℕ → List ℕ
after_run text = drop (prefix_len is_ascii_digit text) text

-- what the text of a number with a point or an exponent says: its digits without the point, how many of them stand
-- behind the point, and its exponent
pub record Parts : Type 0 where
  pub digits : List ℕ
  pub behind : ℕ
  pub exponent : ℤ

-- a text that is one or more digits
abbrev pub is_digits : List ℕ → Bool
is_digits [] = false
is_digits (c ∷ cs) = prefix_len is_ascii_digit (c ∷ cs) == length (c ∷ cs)

abbrev pub unsigned_number : List ℕ → Option ℕ
unsigned_number text = if is_digits text then Some (digits_value 10 text) else None

-- digits with an optional sign before them
abbrev pub signed_number : List ℕ → Option ℤ
signed_number [] = None
signed_number (c ∷ cs) =
    if c == 45 then option_map (λ n. pos 0 -ℤ pos n) (unsigned_number cs)
    else (if c == 43 then option_map pos (unsigned_number cs) else option_map pos (unsigned_number (c ∷ cs)))

-- `e` or `E`, an optional sign, and digits
abbrev pub exponent_of : List ℕ → Option ℤ
exponent_of [] = None
exponent_of (c ∷ cs) = if c == 101 || c == 69 then signed_number cs else None

-- what stands behind the point: digits, perhaps none, and an optional exponent
abbrev pub behind_point : List ℕ → List ℕ → List ℕ → Option Parts
behind_point before behind [] = Some (record { digits = before ++ behind; behind = length behind; exponent = pos 0 })
behind_point before behind (c ∷ cs) =
    option_map (λ e. record { digits = before ++ behind; behind = length behind; exponent = e }) (exponent_of (c ∷ cs))

-- what stands behind the first digits: a point and more, or an exponent
abbrev pub behind_digits : List ℕ → List ℕ → Option Parts
behind_digits before [] = None
behind_digits before (c ∷ cs) =
    if c == 46 then behind_point before (run cs) (after_run cs)
    else option_map (λ e. record { digits = before; behind = 0; exponent = e }) (exponent_of (c ∷ cs))

-- the parts of a whole text: digits, `.`, perhaps digits, and an optional exponent; or digits and an exponent
abbrev pub float_parts : List ℕ → Option Parts
float_parts text = if is_digits (run text) then behind_digits (run text) (after_run text) else None

-- a number times a power of ten
pub record Scaled : Type 0 where
  pub number : ℕ
  pub power : ℤ

-- as long as ten divides the number it is divided by ten and the power grows by one, at most `turns` times
abbrev pub shortened : ℕ → ℕ → ℤ → Scaled
shortened zero n e = record { number = n; power = e }
shortened (suc turns) n e =
    if n % 10 == 0 then shortened turns (n / 10) (e +ℤ pos 1) else record { number = n; power = e }

-- the number that the parts stand for; a number that isn't zero has at most as many zeros at its end as digits
abbrev pub scaled_parts : Parts → Scaled
scaled_parts p = shortened (length p.digits) (digits_value 10 p.digits) (p.exponent -ℤ pos p.behind)

-- `n` times ten to the power `e`
abbrev pub powered : ℕ → ℤ → Fraction
powered n (pos e) = whole (pos (n * 10 ^ e))
powered n (negsuc e) = reduced (pos n) (10 ^ suc e)

abbrev pub if_fits : Fraction → Option Fraction
if_fits f = if fits f then Some f else None

-- zero is always had; any other number where it has at most 38 digits, its power lies between -38 and 18, and it fits
abbrev pub accepted : Scaled → Option Fraction
accepted s =
    if s.number == 0 then Some (whole (pos 0))
    else (if nat_lt s.number (10 ^ 38) && (int_le (negsuc 37) s.power && int_le s.power (pos 18))
    then if_fits (powered s.number s.power) else None)

-- the number of a text of this form, if it is accepted
unfoldable pub decimal_value : List ℕ → Option Fraction
decimal_value text = option_and_then (λ p. accepted (scaled_parts p)) (float_parts text)
