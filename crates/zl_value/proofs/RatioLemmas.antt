-- Numbers read digit by digit.
use Rattle.std.proofs.Common.{◌≡◌, ℕ, ◌+◌, ◌*◌, ◌<◌, ◌≤◌, ◌^◌, Bool, true, false, List, [], ◌∷◌, length, drop, get_or, Option, Some, None, refl, ap, ◌∙◌, arith, if◌then◌else◌, suc, ℤ, pos, Result, Ok, Err, nat_eq}
use Rattle.std.specs.List.{prefix_len}
use Rattle.std.specs.Char.{is_ascii_digit, digit_value}
use Rattle.std.specs.Str.Parse.{digits_value, digits_value_after}
use Rattle.std.proofs.Math.Seq.{drop-cons}
use Rattle.std.proofs.lemmas.Bool.Decides.{nat_tests}
use Rattle.std.specs.Prelude.{option_and_then}
use Rattle.zl_value.specs.Decimal.{is_digits}
use Rattle.std.specs.Int.RustNames.{int_lt}
use Rattle.std.specs.Result.{result_ok}
use Rattle.zl_value.specs.declared.arith.Arith.TheVariants.{Range, Division}
use Rattle.zl_value.specs.declared.arith.Arith.{Arith}
use Rattle.zl_value.specs.Fraction.{Fraction, fitted_ratio, fitted, ratio, reduced, fits}
use Rattle.zl_value.specs.RatioText.{short_number, if_short, quotient}

-- the digits before `i` are read, and make `number`
pub record IsRead (text : List ℕ) (i number : ℕ) : Type 0 where
  pub digits : prefix_len is_ascii_digit text ≡ i + prefix_len is_ascii_digit (drop i text)
  pub value : digits_value_after 10 number (drop i text) ≡ digits_value 10 text
  pub short : number < 10 ^ 38

-- a number doesn't fall when further digits follow it
pub le-digits_value_after : (n : ℕ) (ds : List ℕ) → n ≤ digits_value_after 10 n ds
le-digits_value_after n [] = omega arith
le-digits_value_after n (d ∷ ds) = let k = le-digits_value_after (n * 10 + digit_value d) ds in omega arith

-- one digit more
pub after-digit : (text : List ℕ) (i number : ℕ) → i < length text
    → digits_value_after 10 number (drop i text) ≡ digits_value_after 10 (number * 10 + digit_value (get_or text i 0)) (drop (suc i) text)
after-digit text i number below = ap (digits_value_after 10 number) (drop-cons text i 0 below)

pub if_short-long : (n : ℕ) → 10 ^ 38 ≤ n → None ≡ if_short n
if_short-long n long = grind (arith, nat_tests)

pub short_number-long : (text : List ℕ) → 10 ^ 38 ≤ digits_value 10 text → None ≡ short_number text
short_number-long text long = go (is_digits text)
  where
    go : (b : Bool) → None ≡ option_and_then if_short (if b then Some (digits_value 10 text) else None)
    go true = if_short-long (digits_value 10 text) long
    go false = refl

-- a number of 38 digits to which a further digit comes is no short one
pub too_long : (text : List ℕ) (i number : ℕ) → IsRead text i number → i < length text → 10 ^ 37 ≤ number → None ≡ short_number text
too_long text i number r below full =
    let next = after-digit text i number below in
    let grows = le-digits_value_after (number * 10 + digit_value (get_or text i 0)) (drop (suc i) text) in
    let is = r.value in
    short_number-long text (omega arith)

pub int_lt-pos-zero : (n : ℕ) → int_lt (pos n) (pos 0) ≡ false
int_lt-pos-zero n = grind (arith, nat_tests)

-- a division of whole numbers, as a division of natural ones
pub result_ok-fitted_ratio : (n d : ℕ) → result_ok (fitted_ratio (pos n) (pos d)) ≡ quotient n d
unfolding fitted_ratio fitted ratio
result_ok-fitted_ratio n d = rw (int_lt-pos-zero d) (go (nat_eq d 0) (fits (reduced (pos n) d)))
  where
    go : (zero fit : Bool) → result_ok (if zero then Err Division else (if fit then Ok (reduced (pos n) d) else Err Range)) ≡ (if zero then None else (if fit then Some (reduced (pos n) d) else None))
    go true fit = refl
    go false true = refl
    go false false = refl

pub quotient_from : (m k : ℤ) (n d : ℕ) (r : Result Fraction Arith) (o : Option Fraction)
    → o ≡ result_ok r → r ≡ fitted_ratio m k → m ≡ pos n → k ≡ pos d → o ≡ quotient n d
quotient_from m k n d r o taken made num den =
    taken ∙ (ap result_ok (made ∙ (ap (λ x. fitted_ratio x k) num ∙ ap (fitted_ratio (pos n)) den)) ∙ result_ok-fitted_ratio n d)
