-- The greatest common divisor meets its meaning, and no other number does.
use Rattle.std.proofs.Common.{◌≡◌, ℕ, zero, suc, ◌-◌, ◌*◌, ◌/◌, ◌%◌, ◌<◌, ◌≤◌, sym, ◌∙◌, ap, arith}
use Rattle.std.specs.Int.{IsGcd}
use Rattle.std.proofs.lemmas.Nat.Gcd.{IsGcd-from_mod, IsGcd-from_zero, same_from_IsGcd}
use Rattle.std.proofs.Math.Nat.{mod-lt, mod_def, mul-sub, mul_assoc, one-mul, one-dvd, dvd_refl, mul-div_cancel', mul-div-mul_left, eq_of_mul-eq-mul_left, pos_of_dvd_of_pos, le_of_dvd}
use Rattle.zl_value.specs.Fraction.{gcd_in, gcd}

mod-scaled : (k a b : ℕ) → 0 < k → k * a % (k * b) ≡ k * (a % b)
mod-scaled k a b above =
    let first = mod_def (k * a) (k * b) in
    let second = ap (λ q. k * a - k * b * q) (mul-div-mul_left a b above) in
    let third = ap (λ p. k * a - p) (mul_assoc k b (a / b)) in
    let fourth = mul-sub k a (b * (a / b)) in
    let fifth = ap (λ r. k * r) (mod_def a b) in
    first ∙ second ∙ third ∙ sym fourth ∙ sym fifth

-- Euclid's divisions, begun at `k` times both numbers, end at `k` times what they end at for the numbers
IsGcd-gcd_in : (turns k a b : ℕ) → 0 < k → b < turns → IsGcd (k * a) (k * b) (k * gcd_in turns a b)
unfolding gcd_in
IsGcd-gcd_in zero k a b above room = absurd (omega arith)
IsGcd-gcd_in (suc turns) k a zero above room = IsGcd-from_zero (k * a) (k * 0) (omega arith)
IsGcd-gcd_in (suc turns) k a (suc b) above room =
    let less : a % suc b < suc b = mod-lt a (omega arith) in
    let rest = IsGcd-gcd_in turns k (suc b) (a % suc b) above (omega arith) in
    IsGcd-from_mod (k * a) (k * suc b) _ (rw (mod-scaled k a (suc b) above) rest)

pub IsGcd-scaled : (k a b : ℕ) → 0 < k → IsGcd (k * a) (k * b) (k * gcd a b)
unfolding gcd
IsGcd-scaled k a b above = IsGcd-gcd_in (suc b) k a b above (omega arith)

pub IsGcd-gcd : (a b : ℕ) → IsGcd a b (gcd a b)
IsGcd-gcd a b = simp one-mul at (IsGcd-scaled 1 a b (omega arith))

pub gcd_unique : (a b g : ℕ) → IsGcd a b g → gcd a b ≡ g
gcd_unique a b g is = same_from_IsGcd a b (gcd a b) g (IsGcd-gcd a b) is

pub gcd-scaled : (k a b : ℕ) → 0 < k → gcd (k * a) (k * b) ≡ k * gcd a b
gcd-scaled k a b above = gcd_unique (k * a) (k * b) (k * gcd a b) (IsGcd-scaled k a b above)

-- one of Euclid's divisions
pub gcd_by_remainder : (a b : ℕ) → gcd b (a % b) ≡ gcd a b
gcd_by_remainder a b = sym (gcd_unique a b (gcd b (a % b)) (IsGcd-from_mod a b _ (IsGcd-gcd b (a % b))))

-- the last
pub gcd_of_zero : (a b : ℕ) → b ≡ 0 → gcd a b ≡ a
gcd_of_zero a b none = gcd_unique a b a (IsGcd-from_zero a b none)

pub gcd-one : (a : ℕ) → gcd a 1 ≡ 1
gcd-one a = gcd_unique a 1 1 (one-dvd a, dvd_refl 1, λ d p q. q)

positive_factor : (g q b : ℕ) → g * q ≡ b → 0 < b → 0 < q
positive_factor g zero b product above = absurd (omega arith)
positive_factor g (suc q) b product above = omega arith

-- what is known of the greatest common divisor `g` of `a` and `b`, and of the quotients by it
pub record Divides (a b g : ℕ) : Type 0 where
  pub above : 0 < g
  pub first : g * (a / g) ≡ a
  pub second : g * (b / g) ≡ b
  pub lowest : gcd (a / g) (b / g) ≡ 1
  pub left : 0 < b / g

pub Divides-gcd : (a b : ℕ) → 0 < b → Divides a b (gcd a b)
Divides-gcd a b above =
    let is = IsGcd-gcd a b in
    let g : ℕ = gcd a b in
    let positive : 0 < g = pos_of_dvd_of_pos is.1 above in
    let first : g * (a / g) ≡ a = mul-div_cancel' g is.0 in
    let second : g * (b / g) ≡ b = mul-div_cancel' g is.1 in
    let scaled : g * gcd (a / g) (b / g) ≡ g * 1 =
    sym (gcd-scaled g (a / g) (b / g) positive) ∙ ap (λ x. gcd x (g * (b / g))) first ∙ ap (λ y. gcd a y) second ∙ (omega arith) in
    record {
      above = positive;
      first = first;
      second = second;
      lowest = eq_of_mul-eq-mul_left g positive _ _ scaled;
      left = positive_factor g (b / g) b second above;
    }

-- the greatest common divisor is at most a number that isn't 0
pub gcd_bounds : (a b : ℕ) → 0 < b → (0 < gcd a b) × (gcd a b ≤ b)
gcd_bounds a b above = let by = Divides-gcd a b above in (by.above, le_of_dvd above (IsGcd-gcd a b).1)
