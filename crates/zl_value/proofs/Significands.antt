-- A number as its digits are read: what one more digit makes of it.
use Rattle.std.proofs.Common.{◌≡◌, ℕ, ◌+◌, ◌-◌, ◌*◌, ◌^◌, ◌<◌, ◌≤◌, suc, min, sym, ◌∙◌, ap, arith, add-one, zero, List, [], ◌∷◌, length, drop, get_or, subst, ◌⊎◌, inl, inr}
use Rattle.std.proofs.lemmas.Bool.{cases_lt}
use Rattle.std.proofs.Math.Nat.{pow-suc, pow-le-pow_right, le-mul_of_pos_right}
use Rattle.std.proofs.lemmas.List.{at_drop_more}
use Rattle.std.specs.Char.{digit_value}
use Rattle.std.specs.Str.Parse.{AllDigits, digits_value_after}
use Rattle.zl_value.specs.Significand.{IsLong, with_zeros}

-- one zero more
pub with_zeros-suc : (n z : ℕ) → with_zeros n (suc z) ≡ with_zeros n z * 10
with_zeros-suc n z = omega (arith, ap (λ t. n * t) (pow-suc 10 z))

-- a number that is long already, with a digit other than 0 at its end
pub long_now : (x d : ℕ) → 0 < d → d < 10 → 10 ^ 38 ≤ x * 10 + d → IsLong (x * 10 + d)
long_now x d least greatest long = record {
  front = x * 10 + d;
  behind = 0;
  rest = 0;
  is = omega arith;
  below = omega arith;
  last = λ h. omega arith;
  long = long;
}

-- the zeros alone make it long
pub many_zeros : (n z d : ℕ) → (n ≡ 0 → z ≡ 0) → 38 ≤ z → 0 < d → d < 10 → IsLong (with_zeros n z * 10 + d)
many_zeros n z d bare many least greatest =
    let some : 0 < n =
    elim (cases_lt 0 n) [
      | inl above ↦ above
      | inr none ↦ (let none_is : n ≡ 0 = omega arith in absurd (omega (arith, bare none_is)))
    ] in
    let ten : 1 ≤ 10 = omega arith in
    let power : 10 ^ 38 ≤ 10 ^ z = pow-le-pow_right {n = 10} ten many in
    let above : 10 ^ z ≤ 10 ^ z * n = le-mul_of_pos_right (10 ^ z) some in
    long_now (with_zeros n z) d least greatest (omega arith)

pub power_fits : (z : ℕ) → z < 38 → 10 ^ (z + 1) < 2 ^ 128
power_fits z few =
    let ten : 1 ≤ 10 = omega arith in
    let at_most : z + 1 ≤ 38 = omega arith in
    let power : 10 ^ (z + 1) ≤ 10 ^ 38 = pow-le-pow_right {n = 10} ten at_most in
    omega arith

-- the digits before the last one, as they are computed without an overflow
pub shifted : (n z power front : ℕ) → power ≡ 10 ^ (z + 1) → front ≡ min (n * power) (2 ^ 128 - 1) → (front ≡ with_zeros n z * 10) ⊎ ((2 ^ 128 - 1 ≤ front) × (2 ^ 128 - 1 ≤ with_zeros n z * 10))
shifted n z power front power_is front_is =
    let product : n * power ≡ with_zeros n z * 10 = ap (λ t. n * t) (power_is ∙ ap (λ k. 10 ^ k) (add-one z)) ∙ with_zeros-suc n z in
    elim (cases_lt (n * power) (2 ^ 128 - 1)) [
      | inl below ↦ inl (omega arith)
      | inr above ↦ inr (omega arith, omega arith)
    ]

pub front_long : (n z d front power : ℕ) → power ≡ 10 ^ (z + 1) → front ≡ min (n * power) (2 ^ 128 - 1) → 10 ^ 38 ≤ front → 0 < d → d < 10 → IsLong (with_zeros n z * 10 + d)
front_long n z d front power power_is front_is long least greatest =
    long_now (with_zeros n z) d least greatest (elim (shifted n z power front power_is front_is) [
      | inl same ↦ omega arith
      | inr both ↦ omega arith
    ])

pub front_short : (n z front power : ℕ) → power ≡ 10 ^ (z + 1) → front ≡ min (n * power) (2 ^ 128 - 1) → front < 10 ^ 38 → front ≡ with_zeros n z * 10
front_short n z front power power_is front_is short =
    elim (shifted n z power front power_is front_is) [
      | inl same ↦ same
      | inr both ↦ absurd (omega arith)
    ]

-- what is long stays long with more digits behind it
pub long_more : (m d : ℕ) → IsLong m → d < 10 → IsLong (m * 10 + d)
long_more m d h digit = record {
  front = h.front;
  behind = suc h.behind;
  rest = h.rest * 10 + d;
  is = omega (arith, with_zeros-suc h.front h.behind, h.is);
  below = omega (arith, pow-suc 10 h.behind, h.below);
  last = h.last;
  long = h.long;
}

pub long_with_digits : (m : ℕ) (ds : List ℕ) → IsLong m → AllDigits 10 ds → IsLong (digits_value_after 10 m ds)
long_with_digits m [] h all = h
long_with_digits m (c ∷ cs) h all = long_with_digits (m * 10 + digit_value c) cs (long_more m (digit_value c) h all.0) all.1

-- one digit of a list of digits, and those behind it
pub digit_in : (ds : List ℕ) (i : ℕ) → AllDigits 10 ds → i < length ds → digit_value (get_or ds i 0) < 10
digit_in [] i all within = absurd (omega arith)
digit_in (c ∷ cs) zero all within = all.0
digit_in (c ∷ cs) (suc i) all within = digit_in cs i all.1 (omega arith)

pub AllDigits-drop : (ds : List ℕ) (i : ℕ) → AllDigits 10 ds → AllDigits 10 (drop i ds)
AllDigits-drop ds zero all = all
AllDigits-drop [] (suc i) all = all
AllDigits-drop (c ∷ cs) (suc i) all = AllDigits-drop cs i all.1

-- where the digits that were read make a long number, so do all of them
pub long_in_the_end : (m value i : ℕ) (ds : List ℕ) → digits_value_after 10 m (drop i ds) ≡ value → AllDigits 10 ds → i < length ds → IsLong (m * 10 + digit_value (get_or ds i 0)) → IsLong value
long_in_the_end m value i ds value_is all within h =
    let step : digits_value_after 10 m (drop i ds) ≡ digits_value_after 10 (m * 10 + digit_value (get_or ds i 0)) (drop (i + 1) ds) =
    at_drop_more (digits_value_after 10 m) ds i 0 within in
    subst IsLong (sym step ∙ value_is) (long_with_digits (m * 10 + digit_value (get_or ds i 0)) (drop (i + 1) ds) h (AllDigits-drop ds (i + 1) all))
