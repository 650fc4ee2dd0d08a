-- Fractions that aren't negative, by their parts.
use Rattle.std.specs.Prelude.{◌≡◌, ℕ, ◌*◌, ◌<◌, ℤ, pos, ◌-ℤ◌, ◌*ℤ◌, Bool, true, false, if◌then◌else◌, cond, int_lt, unsigned_abs, Ok, Err, Some, None}
use Rattle.std.specs.Ordering.{int_cmp, nat_cmp}
use Rattle.std.specs.Result.{result_ok}
use Rattle.std.specs.declared.cmp.Ordering.TheVariants.{Less, Equal, Greater}
use Rattle.std.proofs.Common.{refl, sym, ap₂, ◌∙◌, ⊎_elim, arith}
use Rattle.std.proofs.lemmas.Int.{ints}
use Rattle.zl_value.specs.Decimal.{if_fits}
use Rattle.zl_value.specs.Fraction.{Fraction, reduced, ratio, sub, neg, div, compare, fits, fitted, whole}
use Rattle.zl_value.specs.Order.{below}
use Rattle.zl_value.specs.declared.arith.Arith.TheVariants.{Range}
use Rattle.zl_value.proofs.Fractions.{ratio_of_positive}
use Rattle.zl_value.proofs.FractionOrder.{below_crossed, below_is, below-zero, zero-below}
use Rattle.zl_value.proofs.QuotientOrder.{less, equal, greater, trichotomy}
use Rattle.zl_value.proofs.Ratios.{Is, is_self, is_sub, is_whole, reduced_is}
use Rattle.zl_value.proofs.Ring.{times-one, zero-times, lt-minus}

-- ---- order

-- the order of two numbers is that of their cross products, however they are written
compare_is : {a b : Fraction} {n m : ℤ} {d e : ℕ} → Is a n d → Is b m e → compare a b ≡ int_cmp (n *ℤ pos e) (m *ℤ pos d)
unfolding compare
compare_is {a} {b} {n} {m} {d} {e} p q =
    ap₂ (λ x y. cond x Less (cond y Greater Equal)) (sym (below_crossed a b) ∙ below_is p q) (sym (below_crossed b a) ∙ below_is q p)

int_cmp-pos : (x y : ℕ) → int_cmp (pos x) (pos y) ≡ nat_cmp x y
int_cmp-pos x y =
    ⊎_elim (λ e. int_less e ∙ sym (less x y e))
    (λ o. ⊎_elim (λ e. int_equal e ∙ sym (equal x y e)) (λ e. int_greater e ∙ sym (greater x y e)) o)
    (trichotomy x y)
  where
    int_less : x < y → int_cmp (pos x) (pos y) ≡ Less
    int_less e = grind (arith, ints)

    int_equal : x ≡ y → int_cmp (pos x) (pos y) ≡ Equal
    int_equal e = grind (arith, ints)

    int_greater : y < x → int_cmp (pos x) (pos y) ≡ Greater
    int_greater e = grind (arith, ints)

pub compare_reduced : (n d m e : ℕ) → 0 < d → 0 < e → nat_cmp (n * e) (m * d) ≡ compare (reduced (pos n) d) (reduced (pos m) e)
compare_reduced n d m e p q = sym (compare_is (reduced_is (pos n) d p) (reduced_is (pos m) e q) ∙ int_cmp-pos (n * e) (m * d))

-- ---- what is made

-- a positive number has a positive numerator
pub size_above : (a : Fraction) → below (whole (pos 0)) a ≡ true → 0 < unsigned_abs a.num
size_above a e = let test = sym (zero-below a) ∙ e in omega (arith, ints)

ratio_of_sizes : (p q r s : ℕ) → reduced (pos (p * q)) (r * s) ≡ ratio (pos p *ℤ pos q) (pos r *ℤ pos s)
ratio_of_sizes p q r s = ratio_of_positive (pos (p * q)) (pos (r * s)) (omega (arith, ints))

pub ratio_is : (v a : Fraction) → below v (whole (pos 0)) ≡ true → below (whole (pos 0)) a ≡ true → reduced (pos (unsigned_abs v.num * a.den)) (v.den * unsigned_abs a.num) ≡ div (neg v) a
unfolding div neg
ratio_is v a v_below a_above =
    let first : pos (unsigned_abs v.num) ≡ pos 0 -ℤ v.num = minus_size v.num (sym (below-zero v) ∙ v_below) in
    let second : pos (unsigned_abs a.num) ≡ a.num = plus_size a.num (sym (zero-below a) ∙ a_above) in
    ratio_of_sizes (unsigned_abs v.num) a.den v.den (unsigned_abs a.num) ∙ ap₂ (λ x y. ratio (x *ℤ pos a.den) (pos v.den *ℤ y)) first second
  where
    minus_size : (n : ℤ) → int_lt n (pos 0) ≡ true → pos (unsigned_abs n) ≡ pos 0 -ℤ n
    minus_size n e = omega (arith, ints)

    plus_size : (n : ℤ) → int_lt (pos 0) n ≡ true → pos (unsigned_abs n) ≡ n
    plus_size n e = omega (arith, ints)

-- a difference that isn't negative is its size
pub difference_size : (a b : Fraction) (p q : ℤ) (n : ℕ) → below a b ≡ false → p ≡ a.num *ℤ pos b.den → q ≡ b.num *ℤ pos a.den → n ≡ unsigned_abs (p -ℤ q)
    → pos n ≡ a.num *ℤ pos b.den -ℤ b.num *ℤ pos a.den
difference_size a b p q n e first second is =
    size p q n (ap₂ int_lt first second ∙ crossed) is ∙ ap₂ (λ x y. x -ℤ y) first second
  where
    crossed : int_lt (a.num *ℤ pos b.den) (b.num *ℤ pos a.den) ≡ false
    crossed = sym (below_crossed a b) ∙ e

    size : (x y : ℤ) (n : ℕ) → int_lt x y ≡ false → n ≡ unsigned_abs (x -ℤ y) → pos n ≡ x -ℤ y
    size x y n e is = omega (arith, ints)

pub difference_is : (a b : Fraction) (n d : ℕ) → pos n ≡ a.num *ℤ pos b.den -ℤ b.num *ℤ pos a.den → d ≡ a.den * b.den → reduced (pos n) d ≡ sub a b
unfolding sub
difference_is a b n d top bottom = ap₂ reduced top bottom

-- a difference is above zero where the second is below the first
pub difference_above : (a b : Fraction) → 0 < a.den → 0 < b.den → below (whole (pos 0)) (sub a b) ≡ below b a
difference_above a b p q =
    below_is (is_whole (pos 0)) (is_sub (is_self a p) (is_self b q))
    ∙ ap₂ int_lt (zero-times (pos (a.den * b.den))) (times-one (a.num *ℤ pos b.den -ℤ b.num *ℤ pos a.den))
    ∙ lt-minus (b.num *ℤ pos a.den) (a.num *ℤ pos b.den) ∙ sym (below_crossed b a)

-- ---- the width

pub result_ok-fitted : (f : Fraction) → result_ok (fitted f) ≡ if_fits f
unfolding fitted
result_ok-fitted f = go (fits f)
  where
    go : (b : Bool) → result_ok (if b then Ok f else Err Range) ≡ (if b then Some f else None)
    go true = refl
    go false = refl
