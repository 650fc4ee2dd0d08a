-- The greatest common divisor of numbers of which one is odd.
use Rattle.std.proofs.Common.{◌≡◌, ℕ, zero, suc, ◌+◌, ◌-◌, ◌*◌, ◌/◌, ◌%◌, ◌^◌, ◌<◌, ◌≤◌, min, sym, ◌∙◌, ap, arith, subst, pow-add, ⊎_elim}
use Rattle.std.proofs.lemmas.Nat.{pow_pos}
use Rattle.std.specs.Int.{◌∣◌, bit_at, trailing_zeros, w64}
use Rattle.std.proofs.lemmas.Bool.{cases_lt}
use Rattle.std.proofs.lemmas.Nat.Gcd.{IsGcd-from_sub, IsGcd-swap}
use Rattle.std.proofs.lemmas.Nat.Bits.{bit_at-trailing_zeros}
use Rattle.std.proofs.Math.Nat.{dvd_refl, pow-suc, mul-one, div-one, div-add-mod', div-div-eq-div-mul, dvd-mul_left_of_dvd, dvd-mul_right_of_dvd, dvd-add_iff_right, mul_comm}
use Rattle.zl_value.specs.Fraction.{gcd}
use Rattle.zl_value.proofs.Divisors.{IsGcd-gcd, gcd_unique, gcd_of_zero, gcd-scaled}

-- what divides an odd number and the double of a number divides the number
undoubled : (x m d : ℕ) → x % 2 ≡ 1 → d ∣ x → d ∣ 2 * m → d ∣ m
undoubled x m d odd first second =
    let half : ℕ = x / 2 in
    let parts : x ≡ half * 2 + 1 = omega arith in
    let product : m * x ≡ (2 * m) * half + m = omega (arith, ap (λ t. m * t) parts) in
    let whole : d ∣ m * x = dvd-mul_left_of_dvd d first m in
    let part : d ∣ (2 * m) * half = dvd-mul_right_of_dvd d second half in
    (dvd-add_iff_right d part).1 (subst (λ t. d ∣ t) product whole)

gcd_double : (x m : ℕ) → x % 2 ≡ 1 → gcd x (2 * m) ≡ gcd x m
gcd_double x m odd =
    let is = IsGcd-gcd x m in
    gcd_unique x (2 * m) (gcd x m) (is.0, dvd-mul_left_of_dvd (gcd x m) is.1 2, λ d first second. is.2 d first (undoubled x m d odd first second))

-- factors 2 of one number count nothing where the other is odd
pub gcd_power : (x m k : ℕ) → x % 2 ≡ 1 → gcd x (m * 2 ^ k) ≡ gcd x m
gcd_power x m zero odd = ap (λ t. gcd x t) (omega arith)
gcd_power x m (suc k) odd =
    let power : m * 2 ^ suc k ≡ 2 * (m * 2 ^ k) = omega (arith, ap (λ t. m * t) (pow-suc 2 k)) in
    ap (λ t. gcd x t) power ∙ gcd_double x (m * 2 ^ k) odd ∙ gcd_power x m k odd

pub gcd_comm : (a b : ℕ) → gcd a b ≡ gcd b a
gcd_comm a b = gcd_unique a b (gcd b a) (IsGcd-swap b a (gcd b a) (IsGcd-gcd b a))

-- one turn by a difference
pub gcd_by_difference : (a b : ℕ) → b ≤ a → gcd b (a - b) ≡ gcd a b
gcd_by_difference a b least = gcd_comm b (a - b) ∙ sym (gcd_unique a b (gcd (a - b) b) (IsGcd-from_sub a b _ least (IsGcd-gcd (a - b) b)))

-- one turn of the differences of two odd numbers
pub gcd_turn : (x y z k : ℕ) → x % 2 ≡ 1 → y % 2 ≡ 1 → (x - y) + (y - x) ≡ z * 2 ^ k → gcd (min x y) z ≡ gcd x y
gcd_turn x y z k x_odd y_odd apart = ⊎_elim
    (λ (less : x < y).
    let least : min x y ≡ x = omega arith in
    let rest : z * 2 ^ k ≡ y - x = omega arith in
    ap (λ t. gcd t z) least ∙ sym (gcd_power x z k x_odd) ∙ ap (λ t. gcd x t) rest ∙ gcd_by_difference y x (omega arith) ∙ gcd_comm y x)
    (λ (not_less : y ≤ x).
    let least : min x y ≡ y = omega arith in
    let rest : z * 2 ^ k ≡ x - y = omega arith in
    ap (λ t. gcd t z) least ∙ sym (gcd_power y z k y_odd) ∙ ap (λ t. gcd y t) rest ∙ gcd_by_difference x y not_less)
    (cases_lt x y)

pub min_odd : (x y : ℕ) → x % 2 ≡ 1 → y % 2 ≡ 1 → min x y % 2 ≡ 1
min_odd x y x_odd y_odd = ⊎_elim
    (λ (less : x < y). let least : min x y ≡ x = omega arith in ap (λ t. t % 2) least ∙ x_odd)
    (λ (not_less : y ≤ x). let least : min x y ≡ y = omega arith in ap (λ t. t % 2) least ∙ y_odd)
    (cases_lt x y)

-- a number by its digits above its lowest ones, which are 0
from_high_bits : (n k : ℕ) → ((i : ℕ) → i < k → bit_at n i ≡ 0) → n ≡ n / 2 ^ k * 2 ^ k
from_high_bits n zero none = sym (mul-one (n / 1) ∙ div-one n)
from_high_bits n (suc k) none =
    let rest = from_high_bits n k (λ i less. none i (omega arith)) in
    let last : n / 2 ^ k % 2 ≡ 0 = none k (omega arith) in
    let half : n / 2 ^ suc k ≡ n / 2 ^ k / 2 = ap (λ p. n / p) (pow-suc 2 k) ∙ sym (div-div-eq-div-mul n (2 ^ k) 2) in
    let whole : n / 2 ^ k ≡ n / 2 ^ k / 2 * 2 = omega (arith, div-add-mod' (n / 2 ^ k) 2) in
    rest ∙ omega (arith, ap (λ t. t * 2 ^ k) whole, ap (λ t. t * 2 ^ suc k) half, ap (λ p. n / 2 ^ k / 2 * p) (pow-suc 2 k))

pub odd_part_is : (n : ℕ) → 0 < n → n < 2 ^ 64 → n ≡ n / 2 ^ trailing_zeros w64 n * 2 ^ trailing_zeros w64 n
odd_part_is n above fits =
    from_high_bits n (trailing_zeros w64 n) (bit_at-trailing_zeros w64 n above fits).2

pub odd_part_odd : (n : ℕ) → 0 < n → n < 2 ^ 64 → n / 2 ^ trailing_zeros w64 n % 2 ≡ 1
odd_part_odd n above fits = (bit_at-trailing_zeros w64 n above fits).1

power_scaled : (x y i k : ℕ) → x % 2 ≡ 1 → gcd x y * 2 ^ i ≡ gcd (x * 2 ^ i) (y * 2 ^ (i + k))
power_scaled x y i k x_odd =
    let power : y * 2 ^ (i + k) ≡ 2 ^ i * (y * 2 ^ k) = omega (arith, ap (λ p. y * p) (pow-add 2 i k)) in
    let scaled = gcd-scaled (2 ^ i) x (y * 2 ^ k) (pow_pos i) in
    mul_comm (gcd x y) (2 ^ i) ∙ ap (λ t. 2 ^ i * t) (sym (gcd_power x y k x_odd)) ∙ sym scaled ∙ ap (λ t. gcd t (2 ^ i * (y * 2 ^ k))) (mul_comm (2 ^ i) x) ∙ ap (λ t. gcd (x * 2 ^ i) t) (sym power)

-- what two numbers have in common: the powers of 2 that both have, and what their odd parts have in common
pub gcd_of_parts : (a b x y i j : ℕ) → a ≡ x * 2 ^ i → b ≡ y * 2 ^ j → x % 2 ≡ 1 → y % 2 ≡ 1 → gcd x y * 2 ^ min i j ≡ gcd a b
gcd_of_parts a b x y i j a_is b_is x_odd y_odd = ⊎_elim
    (λ (less : i < j).
    let least : min i j ≡ i = omega arith in
    let more : i + (j - i) ≡ j = omega arith in
    ap (λ t. gcd x y * 2 ^ t) least ∙ power_scaled x y i (j - i) x_odd ∙ ap (λ t. gcd (x * 2 ^ i) (y * 2 ^ t)) more ∙ cc)
    (λ (not_less : j ≤ i).
    let least : min i j ≡ j = omega arith in
    let more : j + (i - j) ≡ i = omega arith in
    let turned = gcd_comm x y in
    let back = gcd_comm b a in
    let crossed = power_scaled y x j (i - j) y_odd ∙ ap (λ t. gcd (y * 2 ^ j) (x * 2 ^ t)) more in
    cc)
    (cases_lt i j)

pub gcd_same : (a b : ℕ) → a ≡ b → gcd a b ≡ a
gcd_same a b same = ap (λ t. gcd a t) (sym same) ∙ gcd_unique a a a (dvd_refl a, dvd_refl a, λ d p q. p)

pub gcd_from_zero : (a b : ℕ) → a ≡ 0 → gcd a b ≡ b
gcd_from_zero a b none = gcd_comm a b ∙ gcd_of_zero b a none
