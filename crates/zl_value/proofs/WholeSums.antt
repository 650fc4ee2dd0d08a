-- A fraction in lowest terms and a whole number have a sum over the same denominator in lowest terms.
use Rattle.std.specs.Prelude.{◌≡◌, ℕ, ◌*◌, ◌<◌, ◌≤◌, ℤ, pos, ◌+ℤ◌, ◌-ℤ◌, ◌*ℤ◌, unsigned_abs}
use Rattle.std.proofs.Common.{sym, ap, ap₂, ◌∙◌, arith}
use Rattle.std.proofs.lemmas.Int.{ints}
use Rattle.std.proofs.Math.Nat.{div-le_self, eq_of_mul-eq-mul_right, mul-one}
use Rattle.zl_value.specs.Fraction.{Fraction, IsReduced, gcd, over, reduced, add, sub, whole}
use Rattle.zl_value.proofs.Divisors.{Divides-gcd}
use Rattle.zl_value.proofs.Fractions.{IsReduced-reduced, reduced-lowest}
use Rattle.zl_value.proofs.FractionLaws.{IsReduced-sub}
use Rattle.zl_value.proofs.Ratios.{is_self, is_sub, is_whole, is_same, reduced_is}
use Rattle.zl_value.proofs.Ring.{times-one}

-- lowest terms have no greater denominator
den_le : (n : ℤ) (d : ℕ) → (reduced n d).den ≤ d
unfolding reduced
den_le n d = div-le_self d (gcd (unsigned_abs n) d)

den_of_sub : (r : Fraction) (k : ℤ) → (sub r (whole k)).den ≤ r.den * 1
unfolding sub
den_of_sub r k = den_le (r.num *ℤ pos 1 -ℤ k *ℤ pos r.den) (r.den * 1)

-- where lowest terms have the same denominator the parts had no common divisor
same_den : (n : ℤ) (d : ℕ) → 0 < d → (reduced n d).den ≡ d → gcd (unsigned_abs n) d ≡ 1
unfolding reduced
same_den n d above same =
    let g : ℕ = gcd (unsigned_abs n) d in
    let by = Divides-gcd (unsigned_abs n) d above in
    let whole_of : g * d ≡ 1 * d = ap (λ t. g * t) (sym same) ∙ by.second ∙ omega arith in
    eq_of_mul-eq-mul_right d above g 1 whole_of

pub IsReduced-whole_sum : (a : Fraction) (k : ℤ) → IsReduced a → IsReduced (over (a.num +ℤ k *ℤ pos a.den) a.den)
IsReduced-whole_sum a k low =
    let n : ℤ = a.num +ℤ k *ℤ pos a.den in
    let r : Fraction = reduced n a.den in
    let r_low : IsReduced r = IsReduced-reduced n a.den low.above in
    let back : sub r (whole k) ≡ a = is_same (IsReduced-sub r (whole k) r_low.above (omega arith)) low
    (is_sub (reduced_is n a.den low.above) (is_whole k)) (is_self a low.above)
    (ap₂ (λ x y. x *ℤ pos y) (undone a.num (k *ℤ pos a.den)) (sym (mul-one a.den))) in
    record {
      above = low.above;
      lowest = same_den n a.den low.above (le_both r.den a.den (den_le n a.den) (bound back r.den (den_of_sub r k)));
    }
  where
    undone : (x y : ℤ) → (x +ℤ y) *ℤ pos 1 -ℤ y ≡ x
    undone x y = ap (λ t. t -ℤ y) (times-one (x +ℤ y)) ∙ omega (arith, ints)

    le_both : (x y : ℕ) → x ≤ y → y ≤ x → x ≡ y
    le_both x y e f = omega arith

    bound : {f : Fraction} → f ≡ a → (d : ℕ) → f.den ≤ d * 1 → a.den ≤ d
    bound {f} e d le = omega (arith, ap (λ x. x.den) e, le)

-- and that is their sum
pub add_whole_is : (a : Fraction) (k : ℤ) → IsReduced a → over (a.num +ℤ k *ℤ pos a.den) a.den ≡ add a (whole k)
unfolding add
add_whole_is a k low =
    sym (reduced-lowest (over (a.num +ℤ k *ℤ pos a.den) a.den) (IsReduced-whole_sum a k low))
    ∙ ap₂ reduced (ap (λ t. t +ℤ k *ℤ pos a.den) (sym (times-one a.num))) (sym (mul-one a.den))
