-- Steps of reading a whole number.
use Rattle.std.proofs.Common.{◌≡◌, ℕ, ◌+◌, ◌-◌, ◌*◌, ◌<◌, ◌≤◌, true, List, length, take, get_or, None, sym, arith}
use Rattle.std.specs.Char.{is_ascii_digit}
use Rattle.std.specs.Str.Parse.{digits_value}
use Rattle.std.proofs.lemmas.Bool.{lt-leb, cond-false}
use Rattle.std.proofs.lemmas.List.Sums.{prefix_len_passes}
use Rattle.std.proofs.lemmas.Str.{digit_value_digit}
use Rattle.std.proofs.lemmas.Str.Parse.{digits_value-take-le}
use Rattle.std.proofs.lemmas.Int.Digits.{digits_value_more}
use Rattle.zl_value.specs.Decimal.{is_digits}
use Rattle.zl_lexer.specs.Numbers.{int_kind}
use Rattle.zl_lexer.proofs.DigitLemmas.{digits_are}

digit_low : (c : ℕ) → is_ascii_digit c ≡ true → 48 ≤ c
digit_low c e = grind arith

digit_high : (c : ℕ) → is_ascii_digit c ≡ true → c ≤ 57
digit_high c e = grind arith

-- the digit x at the place i
pub record IsDigitAt (text : List ℕ) (i x : ℕ) : Type 0 where
  pub low : 48 ≤ x
  pub next : digits_value 10 (take (i + 1) text) ≡ digits_value 10 (take i text) * 10 + (x - 48)

pub digit_at : (text : List ℕ) (i : ℕ) → is_digits text ≡ true → i < length text → IsDigitAt text i (get_or text i 0)
digit_at text i all h =
    let digit : is_ascii_digit (get_or text i 0) ≡ true = prefix_len_passes is_ascii_digit text i 0 (omega (arith, (digits_are text all).1)) in
    let low = digit_low (get_or text i 0) digit in
    let value = digit_value_digit (get_or text i 0) (low, digit_high (get_or text i 0) digit) in
    record { low = low; next = omega (arith, digits_value_more 10 text i h, value) }

-- past the greatest number once a front is past it
pub past : (text : List ℕ) (i n : ℕ) → n ≡ digits_value 10 (take i text) → 9223372036854775807 < n → None ≡ int_kind text
past text i n is h =
    sym (cond-false _ _ _ (lt-leb (digits_value 10 text) 9223372036854775807 (omega (arith, digits_value-take-le 10 text i (omega arith)))))
