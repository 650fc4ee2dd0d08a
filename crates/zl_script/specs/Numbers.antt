-- The numbers of a script. This project's own.
use Rattle.std.specs.Prelude.{ℕ, ℤ, pos, ◌-ℤ◌, Bool, true, false, not, ◌&&◌, ◌==◌, if◌then◌else◌, nat_le, List, [], ◌∷◌, codes, Option, Some, None, is_some, option_map, option_and_then}
use Rattle.std.specs.Option.{option_or}
use Rattle.std.specs.Str.{bytes_eq}
use Rattle.std.specs.Str.Parse.{digits_value}
use Rattle.zl_value.specs.Fraction.{Fraction, neg, whole, fits}
use Rattle.zl_value.specs.Operators.{int_fits}
use Rattle.zl_value.specs.Decimal.{is_digits, run, after_run, unsigned_number, float_parts, decimal_value}
use Rattle.zl_value.specs.RatioText.{ratio_value}
use Rattle.zl_value.specs.declared.value.Ty.{Ty}
use Rattle.zl_value.specs.declared.value.Ty.TheVariants.{Bool as BoolTy, Int, Float}
use Rattle.zl_value.specs.declared.value.Value.{Value}
use Rattle.zl_value.specs.declared.value.Value.TheVariants.{B, I, F}
use Rattle.zl_script.specs.declared.literal.Literal.{Literal}
use Rattle.zl_script.specs.declared.literal.Literal.TheVariants.{Truth, Whole, Fractional}

-- a time: digits, digits over digits, or a number with a point or an exponent, in the width of a float
abbrev pub time_of : List ℕ → Option Fraction
time_of text = option_or (ratio_value text) (decimal_value text)

-- how many steps may be made where the script doesn't say it, and the most that it may say
abbrev pub most_steps : ℕ
most_steps = 1000000

abbrev pub if_allowed : ℕ → Option ℕ
if_allowed n = if nat_le 1 n && nat_le n most_steps then Some n else None

-- how many steps: digits, of a number from 1 to 1000000
abbrev pub step_count : List ℕ → Option ℕ
step_count text = option_and_then if_allowed (unsigned_number text)

-- a number with its sign
abbrev pub signed : Bool → ℕ → ℤ
signed negative n = if negative then pos 0 -ℤ pos n else pos n

abbrev pub whole_literal : Bool → ℕ → Literal
whole_literal negative n = Whole (if int_fits (signed negative n) then Some (signed negative n) else None)

abbrev pub fraction_literal : Bool → Option Fraction → Literal
fraction_literal negative f = Fractional (option_map (λ f. if negative then neg f else f) f)

-- what stands behind the first digits is `/` and digits, and their number isn't zero
abbrev pub is_divided : List ℕ → Bool
is_divided [] = false
is_divided (c ∷ digits) = c == 47 && (is_digits digits && not (digits_value 10 digits == 0))

-- digits over digits, where the divisor isn't zero
abbrev pub is_ratio : List ℕ → Bool
is_ratio text = is_digits (run text) && is_divided (after_run text)

-- a number without its sign: digits, digits over digits, or a number with a point or an exponent
abbrev pub number_literal : Bool → List ℕ → Option Literal
number_literal negative text =
    if is_digits text then Some (whole_literal negative (digits_value 10 text))
    else (if is_ratio text then Some (fraction_literal negative (ratio_value text))
    else (if is_some (float_parts text) then Some (fraction_literal negative (decimal_value text)) else None))

abbrev pub signed_literal : List ℕ → Option Literal
signed_literal [] = None
signed_literal (c ∷ text) = if c == 45 then number_literal true text else number_literal false (c ∷ text)

-- what the word of a value says; a divisor of zero makes it no value's word
unfoldable pub literal_of : List ℕ → Option Literal
literal_of text =
    if bytes_eq text (codes "true") then Some (Truth true)
    else (if bytes_eq text (codes "false") then Some (Truth false) else signed_literal text)

-- the value that a word gives to an input of a type: `true` and `false` to a bool, whole numbers to an int, all numbers to
-- a float, each in the width of the type
abbrev pub value_for : Ty → Literal → Option Value
value_for BoolTy (Truth b) = Some (B b)
value_for Int (Whole n) = option_map I n
value_for Float (Whole n) = option_and_then (λ n. if fits (whole n) then Some (F (whole n)) else None) n
value_for Float (Fractional f) = option_map F f
value_for _ _ = None
