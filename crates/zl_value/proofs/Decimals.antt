-- The parts of a number's text: its digits, and its exponent as it is counted.
use Rattle.std.proofs.Common.{◌≡◌, ℕ, ◌+◌, ◌-◌, ◌*◌, ◌^◌, ◌<◌, ◌≤◌, min, List, [], ◌∷◌, length, take, get_or, sym, ◌∙◌, ap, subst, arith, refl, Bool, true, false, cond, one-add, Option, Some, None, option_map, option_and_then, eqb, ℤ, pos, ◌+ℤ◌, ◌-ℤ◌, ◌++◌, ◌%◌, length-append, zero-mul}
use Rattle.std.proofs.lemmas.Bool.{eq-eqb, eqb-true, eqb-false}
use Rattle.std.proofs.lemmas.List.Sums.{prefix_len-le-length}
use Rattle.std.specs.Int.{IsInRange}
use Rattle.std.proofs.lemmas.List.{take_all}
use Rattle.std.proofs.lemmas.Int.Digits.{digits_value_more}
use Rattle.std.proofs.lemmas.Str.{digit_value_digit}
use Rattle.std.proofs.lemmas.Str.Parse.{digit_at}
use Rattle.std.specs.Char.{digit_value, is_ascii_digit}
use Rattle.std.specs.List.{prefix_len}
use Rattle.std.specs.Str.Parse.{AllDigits, digits_value, digits_value_after}
use Rattle.zl_value.specs.Decimal.{is_digits, unsigned_number, float_parts, run, after_run, behind_digits, behind_point, decimal_value, Parts, accepted, scaled_parts, shortened}
use Rattle.zl_value.specs.Fraction.{Fraction}
use Rattle.zl_value.specs.Significand.{IsLong, with_zeros, most, counted}
use Rattle.zl_value.proofs.Significands.{long_with_digits}
use Rattle.zl_value.proofs.ScaledNumbers.{shortened-zero, shortened-by, shortened-long, accepted-zero, accepted-long, accepted-counted}

-- one digit more of a number that is counted
pub counted_step : (ds : List ℕ) (i number product digit next : ℕ) → AllDigits 10 ds → i < length ds → number ≡ min (digits_value 10 (take i ds)) most → product ≡ min (number * 10) most → digit ≡ get_or ds i 0 - 48 → next ≡ min (product + digit) most → next ≡ min (digits_value 10 (take (i + 1) ds)) most
counted_step ds i number product digit next all within number_is product_is digit_is next_is =
    omega (arith, digits_value_more 10 ds i within, digit_value_digit (get_or ds i 0) (digit_at ds i all within))

pub digit_below : (c : ℕ) → is_ascii_digit c ≡ true → digit_value c < 10
digit_below c test =
    let range : IsInRange 48 57 c = grind arith in
    omega (arith, digit_value_digit c range)

-- the digits at the front of a text are digits
pub run_digits : (text : List ℕ) → AllDigits 10 (take (prefix_len is_ascii_digit text) text)
run_digits [] = tt
run_digits (c ∷ cs) =
    elim (is_ascii_digit c) as (λ (b : Bool). is_ascii_digit c ≡ b → AllDigits 10 (take (cond b (1 + prefix_len is_ascii_digit cs) 0) (c ∷ cs))) [
      | true ↦ λ test. rw (one-add (prefix_len is_ascii_digit cs)) (digit_below c test, run_digits cs)
      | false ↦ λ _. tt
    ] refl

pub all_digits : (text : List ℕ) → length text ≤ prefix_len is_ascii_digit text → AllDigits 10 text
all_digits text whole = rw (← take_all (prefix_len is_ascii_digit text) text whole) (run_digits text)

-- a text of digits alone is a number
pub unsigned_number-whole : (text : List ℕ) → 0 < length text → length text ≤ prefix_len is_ascii_digit text → unsigned_number text ≡ Some (digits_value 10 text)
unsigned_number-whole [] some whole = absurd (omega arith)
unsigned_number-whole (c ∷ cs) some whole =
    let same : prefix_len is_ascii_digit (c ∷ cs) ≡ length (c ∷ cs) = omega (arith, prefix_len-le-length is_ascii_digit (c ∷ cs)) in
    ap (λ (b : Bool). cond b (Some (digits_value 10 (c ∷ cs))) None) (eq-eqb (prefix_len is_ascii_digit (c ∷ cs)) (length (c ∷ cs)) same)

pub digits_value_after-append : (n : ℕ) (xs ys : List ℕ) → digits_value_after 10 n (xs ++ ys) ≡ digits_value_after 10 (digits_value_after 10 n xs) ys
digits_value_after-append n [] ys = refl
digits_value_after-append n (c ∷ cs) ys = digits_value_after-append (n * 10 + digit_value c) cs ys

-- no digit was read yet
pub none_read : (number zeros : ℕ) → number ≡ 0 → with_zeros number zeros ≡ 0
none_read number zeros none = ap (λ n. with_zeros n zeros) none ∙ zero-mul (10 ^ zeros)

-- a number that is too long is refused, whatever the exponent
pub parts_long : (digits : List ℕ) (behind : ℕ) (x : ℤ) → IsLong (digits_value 10 digits) → accepted (scaled_parts (record { digits = digits; behind = behind; exponent = x })) ≡ None
parts_long digits behind x long =
    accepted-long (shortened (length digits) (digits_value 10 digits) (x -ℤ pos behind))
    (shortened-long (length digits) (digits_value 10 digits) (x -ℤ pos behind) long)

-- the number without the zeros at its end, with its power, stands for the parts
pub parts_read : (before behind : List ℕ) (number zeros : ℕ) (x exponent power : ℤ) → (number % 10 ≡ 0 → number ≡ 0) → with_zeros number zeros ≡ digits_value 10 (before ++ behind) → zeros ≤ length before + length behind → length before < 2 ^ 63 → length behind < 2 ^ 63 → counted x ≡ exponent → power ≡ exponent -ℤ pos (length behind) +ℤ pos zeros → accepted (record { number = number; power = power }) ≡ accepted (scaled_parts (record { digits = before ++ behind; behind = length behind; exponent = x }))
parts_read before behind number zeros x exponent power last is few before_short behind_short counted_is power_is =
    let turns : ℕ = length (before ++ behind) in
    let value : ℕ = digits_value 10 (before ++ behind) in
    let e : ℤ = x -ℤ pos (length behind) in
    elim (eqb number 0) as (λ (b : Bool). eqb number 0 ≡ b → accepted (record { number = number; power = power }) ≡ accepted (shortened turns value e)) [
      | true ↦ λ none. (
          let nothing : number ≡ 0 = eqb-true number 0 none in
          let value_is : value ≡ 0 = sym is ∙ none_read number zeros nothing in
          let rest : (shortened turns value e).number ≡ 0 = ap (λ n. (shortened turns n e).number) value_is ∙ shortened-zero turns e in
          accepted-zero (record { number = number; power = power }) nothing ∙ sym (accepted-zero (shortened turns value e) rest))
      | false ↦ λ some. (
          let apart : number % 10 ≡ 0 → ⊥ = λ h. eqb-false number 0 some (last h) in
          let enough : zeros ≤ turns = omega (arith, length-append before behind) in
          let short : shortened turns value e ≡ record { number = number; power = e +ℤ pos zeros } = shortened-by turns zeros number value e apart (sym is) enough in
          ap (λ p. accepted (record { number = number; power = p })) power_is
          ∙ ap (λ t. accepted (record { number = number; power = t -ℤ pos (length behind) +ℤ pos zeros })) (sym counted_is)
          ∙ sym (accepted-counted number (length before) (length behind) zeros x before_short behind_short few)
          ∙ sym (ap accepted short))
    ] refl

-- the digits before and behind the point, read one list behind the other
pub value_both : (start value last : ℕ) (before behind : List ℕ) → start ≡ 0 → value ≡ digits_value_after 10 start before → last ≡ digits_value_after 10 value behind → last ≡ digits_value 10 (before ++ behind)
value_both start value last before behind start_is value_is last_is =
    last_is ∙ ap (λ v. digits_value_after 10 v behind) (value_is ∙ ap (λ s. digits_value_after 10 s before) start_is)
    ∙ sym (digits_value_after-append 0 before behind)

pub long_before : (start : ℕ) (before behind : List ℕ) → start ≡ 0 → IsLong (digits_value_after 10 start before) → AllDigits 10 behind → IsLong (digits_value 10 (before ++ behind))
long_before start before behind start_is long all =
    let value_is : digits_value_after 10 (digits_value_after 10 start before) behind ≡ digits_value 10 (before ++ behind) =
    value_both start (digits_value_after 10 start before) _ before behind start_is refl refl in
    subst IsLong value_is (long_with_digits (digits_value_after 10 start before) behind long all)

pub long_behind : (start value : ℕ) (before behind : List ℕ) → start ≡ 0 → value ≡ digits_value_after 10 start before → IsLong (digits_value_after 10 value behind) → IsLong (digits_value 10 (before ++ behind))
long_behind start value before behind start_is value_is long =
    let both : digits_value_after 10 value behind ≡ digits_value 10 (before ++ behind) =
    value_both start value (digits_value_after 10 value behind) before behind start_is value_is refl in
    subst IsLong both long

-- an exponent that is counted stands for the one that is written
pub with_counted : (written : Option ℤ) (exponent : ℤ) (result : Option Fraction) (parts : ℤ → Parts) → Some exponent ≡ option_map counted written → ((x : ℤ) → counted x ≡ exponent → result ≡ accepted (scaled_parts (parts x))) → result ≡ option_and_then (λ p. accepted (scaled_parts p)) (option_map parts written)
with_counted None exponent result parts is each = absurd (cc)
with_counted (Some x) exponent result parts is each = each x (cc)

-- each of the digits at the front of a text is a digit
pub prefix_len-run : (text : List ℕ) → prefix_len is_ascii_digit (run text) ≡ length (run text)
prefix_len-run [] = refl
prefix_len-run (c ∷ cs) =
    elim (is_ascii_digit c) as (λ (b : Bool). is_ascii_digit c ≡ b → prefix_len is_ascii_digit (take (cond b (1 + prefix_len is_ascii_digit cs) 0) (c ∷ cs)) ≡ length (take (cond b (1 + prefix_len is_ascii_digit cs) 0) (c ∷ cs))) [
      | true ↦ λ test. rw (one-add (prefix_len is_ascii_digit cs), test) (omega (arith, prefix_len-run cs))
      | false ↦ λ _. refl
    ] refl

is_digits-all : (text : List ℕ) → 0 < length text → prefix_len is_ascii_digit text ≡ length text → is_digits text ≡ true
is_digits-all [] some all = absurd (omega arith)
is_digits-all (c ∷ cs) some all = eq-eqb (prefix_len is_ascii_digit (c ∷ cs)) (length (c ∷ cs)) all

is_digits-none : (text : List ℕ) → length text ≡ 0 → is_digits text ≡ false
is_digits-none [] none = refl
is_digits-none (c ∷ cs) none = absurd (omega arith)

-- a text without digits at its front has no parts
pub float_parts-none : (text : List ℕ) → length (run text) ≡ 0 → float_parts text ≡ None
float_parts-none text none =
    ap (λ (b : Bool). cond b (behind_digits (run text) (after_run text)) None) (is_digits-none (run text) none)

pub float_parts-some : (text : List ℕ) → 0 < length (run text) → float_parts text ≡ behind_digits (run text) (after_run text)
float_parts-some text some =
    ap (λ (b : Bool). cond b (behind_digits (run text) (after_run text)) None) (is_digits-all (run text) some (prefix_len-run text))

-- a text without digits at its front is no number
pub decimal_value-none : (text : List ℕ) → length (run text) ≡ 0 → decimal_value text ≡ None
unfolding decimal_value
decimal_value-none text none =
    ap (λ (b : Bool). option_and_then (λ p. accepted (scaled_parts p)) (cond b (behind_digits (run text) (after_run text)) None)) (is_digits-none (run text) none)

-- of any other, what stands behind the digits tells the rest
pub decimal_value-some : (text : List ℕ) → 0 < length (run text) → decimal_value text ≡ option_and_then (λ p. accepted (scaled_parts p)) (behind_digits (run text) (after_run text))
unfolding decimal_value
decimal_value-some text some =
    ap (λ (b : Bool). option_and_then (λ p. accepted (scaled_parts p)) (cond b (behind_digits (run text) (after_run text)) None)) (is_digits-all (run text) some (prefix_len-run text))

-- where nothing stands behind the digits behind the point, the exponent is 0
pub behind_point-end : (before behind rest : List ℕ) → length rest ≡ 0 → behind_point before behind rest ≡ Some (record { digits = before ++ behind; behind = length behind; exponent = pos 0 })
behind_point-end before behind [] none = refl
behind_point-end before behind (c ∷ cs) none = absurd (omega arith)
