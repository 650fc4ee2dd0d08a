-- Laws of fractions.
use Rattle.std.proofs.Common.{◌≡◌, ℕ, zero, suc, ◌+◌, ◌*◌, ◌/◌, ◌<◌, ◌≤◌, refl, sym, ◌∙◌, ap, arith, ◌↔◌, true, false, negsuc, nat_eq, eq-eqb}
use Rattle.std.specs.Prelude.{ℤ, pos, ◌+ℤ◌, ◌-ℤ◌, ◌*ℤ◌, int_div, unsigned_abs, ◌<ℤ◌, ◌≤ℤ◌, int_lt, nat_le, ◌&&◌, Ok, Err}
use Rattle.zl_value.specs.declared.arith.Arith.TheVariants.{Range, Division}
use Rattle.std.proofs.lemmas.Int.{ints, unsigned_abs-mul}
use Rattle.std.proofs.Math.Nat.{mul-zero, mul-div-mul_left, mul_comm, div-one, div-le_self}
use Rattle.std.proofs.lemmas.Bool.Decides.{nat_tests}
use borrow.Author.Differences.{up, down, same_in, sum_is_lem, product_is, quot_is, neg_is}
use Rattle.zl_value.specs.Fraction.{Fraction, IsReduced, IsFrac, gcd, over, divided, reduced, ratio, add, sub, div, neg, fits, fitted, fitted_div, fitted_ratio, greatest}
use Rattle.zl_value.specs.Lowest.{HasEqualInWidth}
use Rattle.zl_value.proofs.Divisors.{gcd-one, gcd-scaled, Divides-gcd}

-- ---- Quotients

-- the sizes of a quotient's parts
abs-int_div : (n : ℤ) (g : ℕ) → unsigned_abs (int_div n (pos g)) ≡ unsigned_abs n / g
abs-int_div (pos a) g = refl
abs-int_div (negsuc a) g = omega (arith, ints)

-- what is multiplied and divided by one factor stays
int_div-scaled : (n : ℤ) (g k : ℕ) → 0 < k → int_div (n *ℤ pos k) (pos (k * g)) ≡ int_div n (pos g)
int_div-scaled n g k above =
    let top : up (n *ℤ pos k) ≡ k * up n = omega (arith, product_is n (pos k)) in
    let bottom : down (n *ℤ pos k) ≡ k * down n = omega (arith, product_is n (pos k)) in
    let long = quot_is (n *ℤ pos k) (k * g) in
    let short = quot_is n g in
    let s : k * up n / (k * g) ≡ up n / g = mul-div-mul_left (up n) g above in
    let t : k * down n / (k * g) ≡ down n / g = mul-div-mul_left (down n) g above in
    same_in _ _ (cc (top, bottom, long.0, long.1, short.0, short.1, s, t))

int_div-one : (n : ℤ) → int_div n (pos 1) ≡ n
int_div-one n = let q = quot_is n 1 in same_in _ _ (cc (q.0, q.1, div-one (up n), div-one (down n)))

pub divided-one : (n : ℤ) (d : ℕ) → divided n d 1 ≡ over n d
divided-one n d = let top = int_div-one n in let bottom = div-one d in cc

-- a reduced fraction has the value of what it was made from
part_crossed : (u g d : ℕ) → g * (u / g) ≡ u → g * (d / g) ≡ d → u / g * d ≡ u * (d / g)
part_crossed u g d first second = omega (arith, ap (λ t. u / g * t) second, ap (λ t. t * (d / g)) first)

divided-crossed : (n : ℤ) (d g : ℕ) → g * (unsigned_abs n / g) ≡ unsigned_abs n → g * (d / g) ≡ d → int_div n (pos g) *ℤ pos d ≡ n *ℤ pos (d / g)
divided-crossed (pos a) d g first second = ap pos (part_crossed a g d first second)
divided-crossed (negsuc a) d g first second =
    let q : ℤ = int_div (negsuc a) (pos g) in
    let parts = neg_is (pos (suc a / g)) in
    let left = product_is q (pos d) in
    let right = product_is (negsuc a) (pos (d / g)) in
    let top : up (q *ℤ pos d) ≡ 0 = omega (arith, left.0, ap (λ t. t * d) parts.0) in
    let bottom : down (q *ℤ pos d) ≡ suc a / g * d = omega (arith, left.1, ap (λ t. t * d) parts.1) in
    let crossed = part_crossed (suc a) g d first second in
    same_in _ _ (omega (arith, top, bottom, right.0, right.1, crossed))

-- ---- Lowest terms

-- both parts times one factor are the same fraction
pub reduced-scaled : (n : ℤ) (d k : ℕ) → 0 < k → reduced (n *ℤ pos k) (k * d) ≡ reduced n d
unfolding reduced
reduced-scaled n d k above =
    let size : unsigned_abs (n *ℤ pos k) ≡ k * unsigned_abs n = unsigned_abs-mul n (pos k) ∙ mul_comm (unsigned_abs n) k in
    let divisor : gcd (unsigned_abs (n *ℤ pos k)) (k * d) ≡ k * gcd (unsigned_abs n) d = ap (λ s. gcd s (k * d)) size ∙ gcd-scaled k (unsigned_abs n) d above in
    let top = int_div-scaled n (gcd (unsigned_abs n) d) k above in
    let bottom : k * d / (k * gcd (unsigned_abs n) d) ≡ d / gcd (unsigned_abs n) d = mul-div-mul_left d (gcd (unsigned_abs n) d) above in
    cc

-- equal cross products: one reduced fraction
pub reduced-same : (n m : ℤ) (d e : ℕ) → 0 < d → 0 < e → n *ℤ pos e ≡ m *ℤ pos d → reduced n d ≡ reduced m e
reduced-same n m d e d_above e_above crossed =
    sym (reduced-scaled n d e e_above) ∙ ap (λ t. reduced t (e * d)) crossed ∙ ap (λ t. reduced (m *ℤ pos d) t) (mul_comm e d) ∙ reduced-scaled m e d d_above

-- a reduced fraction is in lowest terms
pub IsReduced-reduced : (n : ℤ) (d : ℕ) → 0 < d → IsReduced (reduced n d)
unfolding reduced
IsReduced-reduced n d above =
    let by = Divides-gcd (unsigned_abs n) d above in
    record {
      above = by.left;
      lowest = rw (abs-int_div n (gcd (unsigned_abs n) d)) by.lowest;
    }

-- to reduce what is in lowest terms changes nothing
pub reduced-lowest : (f : Fraction) → IsReduced f → reduced f.num f.den ≡ f
unfolding reduced
reduced-lowest f is = ap (divided f.num f.den) is.lowest ∙ divided-one f.num f.den

-- two fractions in lowest terms with equal cross products are one
pub lowest-unique : (f h : Fraction) → IsReduced f → IsReduced h → f.num *ℤ pos h.den ≡ h.num *ℤ pos f.den → f ≡ h
lowest-unique f h f_is h_is crossed =
    sym (reduced-lowest f f_is) ∙ reduced-same f.num h.num f.den h.den f_is.above h_is.above crossed ∙ reduced-lowest h h_is

pub IsReduced-one : (n : ℤ) → IsReduced (over n 1)
IsReduced-one n = record { above = omega arith; lowest = gcd-one (unsigned_abs n) }

pub reduced-crossed : (n : ℤ) (d : ℕ) → 0 < d → (reduced n d).num *ℤ pos d ≡ n *ℤ pos (reduced n d).den
unfolding reduced
reduced-crossed n d above =
    let by = Divides-gcd (unsigned_abs n) d above in
    divided-crossed n d (gcd (unsigned_abs n) d) by.first by.second

-- the reduced fraction by its parts
pub reduced_parts : (n : ℤ) (d g : ℕ) (q : ℤ) → g ≡ gcd (unsigned_abs n) d → q ≡ int_div n (pos g) → over q (d / g) ≡ reduced n d
unfolding reduced
reduced_parts n d g q divisor quotient = cc

-- ---- The width

-- the parts of what fits are in the width
pub num_in_width : (f : Fraction) → IsFrac f → unsigned_abs f.num ≤ greatest
unfolding fits
num_in_width f is = let both = is.fits in grind (arith, nat_tests)

pub den_in_width : (f : Fraction) → IsFrac f → f.den ≤ greatest
unfolding fits
den_in_width f is = let both = is.fits in grind (arith, nat_tests)

pub fits_in : (f : Fraction) → unsigned_abs f.num ≤ greatest → f.den ≤ greatest → fits f ≡ true
unfolding fits
fits_in f num den = grind (arith, nat_tests)

pub fits_out_num : (f : Fraction) → greatest < unsigned_abs f.num → fits f ≡ false
unfolding fits
fits_out_num f num = grind (arith, nat_tests)

pub IsFrac-over : (n : ℤ) (d : ℕ) → IsReduced (over n d) → unsigned_abs n ≤ greatest → d ≤ greatest → IsFrac (over n d)
IsFrac-over n d is num den = record { reduced = is; fits = fits_in (over n d) num den }

-- what is reduced from parts in the width is in the width
pub IsFrac-reduced : (n : ℤ) (d : ℕ) → 0 < d → unsigned_abs n ≤ greatest → d ≤ greatest → IsFrac (reduced n d)
unfolding reduced
IsFrac-reduced n d above num den =
    let g : ℕ = gcd (unsigned_abs n) d in
    let top : unsigned_abs n / g ≤ unsigned_abs n = div-le_self (unsigned_abs n) g in
    let bottom : d / g ≤ d = div-le_self d g in
    let size : unsigned_abs (int_div n (pos g)) ≤ greatest = omega (arith, abs-int_div n g) in
    record { reduced = IsReduced-reduced n d above; fits = fits_in (divided n d g) size (omega arith) }

pub IsFrac-neg : (a : Fraction) → IsFrac a → IsFrac (neg a)
unfolding neg fits
IsFrac-neg a is =
    let size : unsigned_abs (pos 0 -ℤ a.num) ≡ unsigned_abs a.num = omega (arith, ints) in
    record {
      reduced = record { above = is.reduced.above; lowest = ap (λ s. gcd s a.den) size ∙ is.reduced.lowest };
      fits = ap (λ s. nat_le s greatest && nat_le a.den greatest) size ∙ is.fits;
    }

-- `fits` means what it says: the reduced fraction is in the width where any fraction that equals it is
pub fits-reduced : (n : ℤ) (d : ℕ) → 0 < d → (fits (reduced n d) ≡ true) ↔ HasEqualInWidth n d
fits-reduced n d above =
    let lowest = IsReduced-reduced n d above in (
      (λ (inside : fits (reduced n d) ≡ true).
          let kept : IsFrac (reduced n d) = record { reduced = lowest; fits = inside } in
          record {
            num = (reduced n d).num;
            den = (reduced n d).den;
            above = lowest.above;
            equal = sym (reduced-crossed n d above);
            num_width = num_in_width (reduced n d) kept;
            den_width = den_in_width (reduced n d) kept;
          }),
      (λ (some : HasEqualInWidth n d).
          ap fits (reduced-same n some.num d some.den above some.above some.equal) ∙ (IsFrac-reduced some.num some.den some.above some.num_width some.den_width).fits),
    )

-- ---- Operators

-- the sum and the product of whole numbers are distributed
times_add : (a b c : ℤ) → (a +ℤ b) *ℤ c ≡ a *ℤ c +ℤ b *ℤ c
times_add a b c = omega (arith, ints, ap (λ t. t * up c) (sum_is_lem a b), ap (λ t. t * down c) (sum_is_lem a b))

-- over one denominator the numerators are added
pub add_over_one : (a b : Fraction) → 0 < a.den → a.den ≡ b.den → reduced (a.num +ℤ b.num) a.den ≡ add a b
unfolding add
add_over_one a b above same =
    let scaled = reduced-scaled (a.num +ℤ b.num) a.den a.den above in
    let parts = times_add a.num b.num (pos a.den) in
    cc

neg_times : (b c : ℤ) → (pos 0 -ℤ b) *ℤ c ≡ pos 0 -ℤ b *ℤ c
neg_times b c =
    let sides : up (pos 0 -ℤ b) + up b ≡ down (pos 0 -ℤ b) + down b = omega (arith, ints) in
    omega (arith, ints, ap (λ t. t * up c) sides, ap (λ t. t * down c) sides)

-- a difference is the sum with the negative
pub add_neg : (a b : Fraction) → add a (neg b) ≡ sub a b
unfolding add sub neg
add_neg a b =
    let turned = neg_times b.num (pos a.den) in
    ap (λ t. reduced t (a.den * b.den)) (omega (arith, ints, turned))

-- a ratio by the sign of what divides
pub ratio_of_negative : (n d : ℤ) → d <ℤ pos 0 → reduced (pos 0 -ℤ n) (unsigned_abs d) ≡ ratio n d
unfolding ratio
ratio_of_negative n d below = let test : int_lt d (pos 0) ≡ true = grind (arith, ints) in cc

pub ratio_of_positive : (n d : ℤ) → pos 0 ≤ℤ d → reduced n (unsigned_abs d) ≡ ratio n d
unfolding ratio
ratio_of_positive n d above = let test : int_lt d (pos 0) ≡ false = grind (arith, ints) in cc

-- ---- Answers

pub fitted_ok : (f : Fraction) → fits f ≡ true → Ok f ≡ fitted f
unfolding fitted
fitted_ok f e = cc

pub fitted_err : (f : Fraction) → fits f ≡ false → Err Range ≡ fitted f
unfolding fitted
fitted_err f e = cc

-- the answers of a division by 0, by a negative number and by a positive one
pub fitted_ratio_by_zero : (n d : ℤ) → unsigned_abs d ≡ 0 → Err Division ≡ fitted_ratio n d
unfolding fitted_ratio
fitted_ratio_by_zero n d none = let test = eq-eqb (unsigned_abs d) 0 none in cc

fitted_ratio_by_other : (n d : ℤ) → 0 < unsigned_abs d → fitted (ratio n d) ≡ fitted_ratio n d
unfolding fitted_ratio
fitted_ratio_by_other n d some = let test : nat_eq (unsigned_abs d) 0 ≡ false = grind (arith, nat_tests) in cc

pub fitted_ratio_by_negative : (n d : ℤ) → d <ℤ pos 0 → fitted (reduced (pos 0 -ℤ n) (unsigned_abs d)) ≡ fitted_ratio n d
fitted_ratio_by_negative n d below =
    let signed = ratio_of_negative n d below in
    let some = fitted_ratio_by_other n d (omega (arith, ints)) in
    cc

pub fitted_ratio_by_positive : (n d : ℤ) → pos 0 <ℤ d → fitted (reduced n (unsigned_abs d)) ≡ fitted_ratio n d
fitted_ratio_by_positive n d above =
    let signed = ratio_of_positive n d (omega (arith, ints)) in
    let some = fitted_ratio_by_other n d (omega (arith, ints)) in
    cc

zero_test : (k n : ℕ) → 0 < k → nat_eq (k * n) 0 ≡ nat_eq n 0
zero_test k zero above = ap (λ t. nat_eq t 0) (mul-zero k)
zero_test k (suc n) above = let some : 0 < k * suc n = omega arith in grind (arith, nat_tests)

-- the answer of a division by its cross products
pub fitted_div_is : (a b : Fraction) → 0 < a.den → fitted_ratio (a.num *ℤ pos b.den) (pos a.den *ℤ b.num) ≡ fitted_div a b
unfolding fitted_ratio fitted_div div
fitted_div_is a b above =
    let size = unsigned_abs-mul (pos a.den) b.num in
    let same : nat_eq (unsigned_abs (pos a.den *ℤ b.num)) 0 ≡ nat_eq (unsigned_abs b.num) 0 = ap (λ t. nat_eq t 0) size ∙ zero_test a.den (unsigned_abs b.num) above in
    cc
