-- The laws of a field, for fractions in lowest terms.
use Rattle.std.specs.Prelude.{◌≡◌, ℕ, ◌*◌, ◌<◌, ℤ, pos, ◌+ℤ◌, ◌-ℤ◌, ◌*ℤ◌}
use Rattle.std.proofs.Common.{refl, sym, ap, ap₂, ◌∙◌, arith}
use Rattle.std.proofs.lemmas.Int.{ints}
use native.Mathlib.Nat.{mul-pos, mul_comm as nat_mul_comm, mul_assoc as nat_mul_assoc}
use Rattle.zl_value.specs.Fraction.{Fraction, IsReduced, reduced, add, sub, mul, neg, div, whole}
use Rattle.zl_value.proofs.Fractions.{IsReduced-reduced}
-- a difference is a sum with the negative, and a whole number is in lowest terms
pub use Rattle.zl_value.proofs.Fractions.{add_neg as add-neg, IsReduced-one as IsReduced-whole}
use Rattle.zl_value.proofs.Ring.{as_dif, same_dif, pos-dif, plus-dif, minus-dif, times-dif, plus_comm, times_comm, times_assoc, abs-minus}
use Rattle.zl_value.proofs.Ratios.{is_self, is_equal, is_same, is_unique, is_add, is_sub, is_mul, is_neg, is_whole, is_div, div_crossed, IsReduced-ratio, apart_over}

-- ---- each result is in lowest terms

-- a sum is
pub IsReduced-add : (a b : Fraction) → 0 < a.den → 0 < b.den → IsReduced (add a b)
unfolding add
IsReduced-add a b p q = IsReduced-reduced (a.num *ℤ pos b.den +ℤ b.num *ℤ pos a.den) (a.den * b.den) (mul-pos p q)

-- a difference is
pub IsReduced-sub : (a b : Fraction) → 0 < a.den → 0 < b.den → IsReduced (sub a b)
unfolding sub
IsReduced-sub a b p q = IsReduced-reduced (a.num *ℤ pos b.den -ℤ b.num *ℤ pos a.den) (a.den * b.den) (mul-pos p q)

-- a product is
pub IsReduced-mul : (a b : Fraction) → 0 < a.den → 0 < b.den → IsReduced (mul a b)
unfolding mul
IsReduced-mul a b p q = IsReduced-reduced (a.num *ℤ b.num) (a.den * b.den) (mul-pos p q)

-- the negative of a fraction in lowest terms is
pub IsReduced-neg : (a : Fraction) → IsReduced a → IsReduced (neg a)
unfolding neg
IsReduced-neg a low = record { above = low.above; lowest = rw (abs-minus a.num) low.lowest }

-- a quotient by what is not zero is
pub IsReduced-div : (a b : Fraction) → 0 < a.den → (b.num ≡ pos 0 → ⊥) → IsReduced (div a b)
unfolding div
IsReduced-div a b p apart = IsReduced-ratio (a.num *ℤ pos b.den) (pos a.den *ℤ b.num) (apart_over b.num a.den p apart)

-- ---- sums

-- summands change places
pub add_comm : (a b : Fraction) → add a b ≡ add b a
unfolding add
add_comm a b = ap₂ reduced (plus_comm (a.num *ℤ pos b.den) (b.num *ℤ pos a.den)) (nat_mul_comm a.den b.den)

sum_of_sums : (a b c : ℤ) (p q r : ℕ) → (a *ℤ pos q +ℤ b *ℤ pos p) *ℤ pos r +ℤ c *ℤ pos (p * q) ≡ a *ℤ pos (q * r) +ℤ (b *ℤ pos r +ℤ c *ℤ pos q) *ℤ pos p
sum_of_sums a b c p q r =
    let x = as_dif a in let y = as_dif b in let z = as_dif c in
    rw (x.2, y.2, z.2) (simp (pos-dif, times-dif, plus-dif) (same_dif _ _ _ _ (omega arith)))

-- sums of three, bracketed either way
pub add_assoc : (a b c : Fraction) → 0 < a.den → 0 < b.den → 0 < c.den → add (add a b) c ≡ add a (add b c)
add_assoc a b c p q r =
    let left = is_add (is_add (is_self a p) (is_self b q)) (is_self c r) in
    let right = is_add (is_self a p) (is_add (is_self b q) (is_self c r)) in
    is_unique (IsReduced-add (add a b) c (IsReduced-add a b p q).above r) (IsReduced-add a (add b c) p (IsReduced-add b c q r).above)
    (is_equal (sum_of_sums a.num b.num c.num a.den b.den c.den) (nat_mul_assoc a.den b.den c.den) left) right

-- zero added changes nothing
pub add-zero : (a : Fraction) → IsReduced a → add a (whole (pos 0)) ≡ a
add-zero a low =
    is_same (IsReduced-add a (whole (pos 0)) low.above (omega arith)) low (is_add (is_self a low.above) (is_whole (pos 0))) (is_self a low.above) (crossed a.num a.den)
  where
    crossed : (a : ℤ) (p : ℕ) → (a *ℤ pos 1 +ℤ pos 0 *ℤ pos p) *ℤ pos p ≡ a *ℤ pos (p * 1)
    crossed a p = let x = as_dif a in rw x.2 (simp (pos-dif, times-dif, plus-dif) (same_dif _ _ _ _ (omega arith)))

-- and so from the left
pub zero-add : (a : Fraction) → IsReduced a → add (whole (pos 0)) a ≡ a
zero-add a low = add_comm (whole (pos 0)) a ∙ add-zero a low

-- ---- differences

-- the negative of the negative
pub neg-neg : (a : Fraction) → neg (neg a) ≡ a
unfolding neg
neg-neg a = ap (λ t. record { num = t; den = a.den }) (let e : pos 0 -ℤ (pos 0 -ℤ a.num) ≡ a.num = omega (arith, ints) in e)

-- zero is its own negative
pub neg-zero : neg (whole (pos 0)) ≡ whole (pos 0)
unfolding neg
neg-zero = refl

-- zero taken away changes nothing
pub sub-zero : (a : Fraction) → IsReduced a → sub a (whole (pos 0)) ≡ a
sub-zero a low = sym (add-neg a (whole (pos 0))) ∙ ap (add a) neg-zero ∙ add-zero a low

-- a number less itself is zero
pub sub-self : (a : Fraction) → 0 < a.den → sub a a ≡ whole (pos 0)
sub-self a p =
    is_same (IsReduced-sub a a p p) (IsReduced-whole (pos 0)) (is_sub (is_self a p) (is_self a p)) (is_whole (pos 0)) (crossed a.num a.den)
  where
    crossed : (a : ℤ) (p : ℕ) → (a *ℤ pos p -ℤ a *ℤ pos p) *ℤ pos 1 ≡ pos 0 *ℤ pos (p * p)
    crossed a p = let x = as_dif a in rw x.2 (simp (pos-dif, times-dif, minus-dif) (same_dif _ _ _ _ (omega arith)))

-- a summand taken away again
pub sub-add : (a b : Fraction) → IsReduced a → 0 < b.den → sub (add a b) b ≡ a
sub-add a b low q =
    is_same (IsReduced-sub (add a b) b (IsReduced-add a b low.above q).above q) low
    (is_sub (is_add (is_self a low.above) (is_self b q)) (is_self b q)) (is_self a low.above) (crossed a.num b.num a.den b.den)
  where
    crossed : (a b : ℤ) (p q : ℕ) → ((a *ℤ pos q +ℤ b *ℤ pos p) *ℤ pos q -ℤ b *ℤ pos (p * q)) *ℤ pos p ≡ a *ℤ pos (p * q * q)
    crossed a b p q =
        let x = as_dif a in let y = as_dif b in
        rw (x.2, y.2) (simp (pos-dif, times-dif, plus-dif, minus-dif) (same_dif _ _ _ _ (omega arith)))

-- what was taken away, added again
pub add-sub : (a b : Fraction) → IsReduced a → 0 < b.den → add (sub a b) b ≡ a
add-sub a b low q =
    is_same (IsReduced-add (sub a b) b (IsReduced-sub a b low.above q).above q) low
    (is_add (is_sub (is_self a low.above) (is_self b q)) (is_self b q)) (is_self a low.above) (crossed a.num b.num a.den b.den)
  where
    crossed : (a b : ℤ) (p q : ℕ) → ((a *ℤ pos q -ℤ b *ℤ pos p) *ℤ pos q +ℤ b *ℤ pos (p * q)) *ℤ pos p ≡ a *ℤ pos (p * q * q)
    crossed a b p q =
        let x = as_dif a in let y = as_dif b in
        rw (x.2, y.2) (simp (pos-dif, times-dif, plus-dif, minus-dif) (same_dif _ _ _ _ (omega arith)))

-- ---- products

-- factors change places
pub mul_comm : (a b : Fraction) → mul a b ≡ mul b a
unfolding mul
mul_comm a b = ap₂ reduced (times_comm a.num b.num) (nat_mul_comm a.den b.den)

-- products of three, bracketed either way
pub mul_assoc : (a b c : Fraction) → 0 < a.den → 0 < b.den → 0 < c.den → mul (mul a b) c ≡ mul a (mul b c)
mul_assoc a b c p q r =
    let left = is_mul (is_mul (is_self a p) (is_self b q)) (is_self c r) in
    let right = is_mul (is_self a p) (is_mul (is_self b q) (is_self c r)) in
    is_unique (IsReduced-mul (mul a b) c (IsReduced-mul a b p q).above r) (IsReduced-mul a (mul b c) p (IsReduced-mul b c q r).above)
    (is_equal (times_assoc a.num b.num c.num) (nat_mul_assoc a.den b.den c.den) left) right

-- the factor one changes nothing
pub mul-one : (a : Fraction) → IsReduced a → mul a (whole (pos 1)) ≡ a
mul-one a low =
    is_same (IsReduced-mul a (whole (pos 1)) low.above (omega arith)) low (is_mul (is_self a low.above) (is_whole (pos 1))) (is_self a low.above) (crossed a.num a.den)
  where
    crossed : (a : ℤ) (p : ℕ) → (a *ℤ pos 1) *ℤ pos p ≡ a *ℤ pos (p * 1)
    crossed a p = let x = as_dif a in rw x.2 (simp (pos-dif, times-dif) (same_dif _ _ _ _ (omega arith)))

-- and so from the left
pub one-mul : (a : Fraction) → IsReduced a → mul (whole (pos 1)) a ≡ a
one-mul a low = mul_comm (whole (pos 1)) a ∙ mul-one a low

-- the factor zero gives zero
pub mul-zero : (a : Fraction) → 0 < a.den → mul a (whole (pos 0)) ≡ whole (pos 0)
mul-zero a p =
    is_same (IsReduced-mul a (whole (pos 0)) p (omega arith)) (IsReduced-whole (pos 0)) (is_mul (is_self a p) (is_whole (pos 0))) (is_whole (pos 0)) (crossed a.num a.den)
  where
    crossed : (a : ℤ) (p : ℕ) → (a *ℤ pos 0) *ℤ pos 1 ≡ pos 0 *ℤ pos (p * 1)
    crossed a p = let x = as_dif a in rw x.2 (simp (pos-dif, times-dif) (same_dif _ _ _ _ (omega arith)))

-- and so from the left
pub zero-mul : (a : Fraction) → 0 < a.den → mul (whole (pos 0)) a ≡ whole (pos 0)
zero-mul a p = mul_comm (whole (pos 0)) a ∙ mul-zero a p

product_of_sum : (s a b : ℤ) (o p q : ℕ) → (s *ℤ (a *ℤ pos q +ℤ b *ℤ pos p)) *ℤ pos ((o * p) * (o * q)) ≡ ((s *ℤ a) *ℤ pos (o * q) +ℤ (s *ℤ b) *ℤ pos (o * p)) *ℤ pos (o * (p * q))
product_of_sum s a b o p q =
    let x = as_dif s in let y = as_dif a in let z = as_dif b in
    rw (x.2, y.2, z.2) (simp (pos-dif, times-dif, plus-dif) (same_dif _ _ _ _ (omega arith)))

-- a factor goes over a sum from the left
pub mul-add : (s a b : Fraction) → 0 < s.den → 0 < a.den → 0 < b.den → mul s (add a b) ≡ add (mul s a) (mul s b)
mul-add s a b o p q =
    is_same (IsReduced-mul s (add a b) o (IsReduced-add a b p q).above)
    (IsReduced-add (mul s a) (mul s b) (IsReduced-mul s a o p).above (IsReduced-mul s b o q).above)
    (is_mul (is_self s o) (is_add (is_self a p) (is_self b q)))
    (is_add (is_mul (is_self s o) (is_self a p)) (is_mul (is_self s o) (is_self b q)))
    (product_of_sum s.num a.num b.num s.den a.den b.den)

-- and from the right
pub add-mul : (a b s : Fraction) → 0 < a.den → 0 < b.den → 0 < s.den → mul (add a b) s ≡ add (mul a s) (mul b s)
add-mul a b s p q o = mul_comm (add a b) s ∙ mul-add s a b o p q ∙ ap₂ add (mul_comm s a) (mul_comm s b)

-- a sign goes out of a product
pub mul-neg : (a b : Fraction) → 0 < a.den → 0 < b.den → mul a (neg b) ≡ neg (mul a b)
mul-neg a b p q =
    is_unique (IsReduced-mul a (neg b) p (is_neg (is_self b q)).above) (IsReduced-neg (mul a b) (IsReduced-mul a b p q))
    (is_equal (crossed a.num b.num) refl (is_mul (is_self a p) (is_neg (is_self b q)))) (is_neg (is_mul (is_self a p) (is_self b q)))
  where
    crossed : (a b : ℤ) → a *ℤ (pos 0 -ℤ b) ≡ pos 0 -ℤ a *ℤ b
    crossed a b =
        let x = as_dif a in let y = as_dif b in
        rw (x.2, y.2) (simp (pos-dif, times-dif, minus-dif) (same_dif _ _ _ _ (omega arith)))

-- and so from the left
pub neg-mul : (a b : Fraction) → 0 < a.den → 0 < b.den → mul (neg a) b ≡ neg (mul a b)
neg-mul a b p q = mul_comm (neg a) b ∙ mul-neg b a q p ∙ ap neg (mul_comm b a)

-- the negative of a sum
pub neg-add : (a b : Fraction) → 0 < a.den → 0 < b.den → neg (add a b) ≡ add (neg a) (neg b)
neg-add a b p q =
    is_unique (IsReduced-neg (add a b) (IsReduced-add a b p q)) (IsReduced-add (neg a) (neg b) (is_neg (is_self a p)).above (is_neg (is_self b q)).above)
    (is_equal (crossed a.num b.num a.den b.den) refl (is_neg (is_add (is_self a p) (is_self b q)))) (is_add (is_neg (is_self a p)) (is_neg (is_self b q)))
  where
    crossed : (a b : ℤ) (p q : ℕ) → pos 0 -ℤ (a *ℤ pos q +ℤ b *ℤ pos p) ≡ (pos 0 -ℤ a) *ℤ pos q +ℤ (pos 0 -ℤ b) *ℤ pos p
    crossed a b p q =
        let x = as_dif a in let y = as_dif b in
        rw (x.2, y.2) (simp (pos-dif, times-dif, plus-dif, minus-dif) (same_dif _ _ _ _ (omega arith)))

-- a factor goes over a difference
pub mul-sub : (s a b : Fraction) → 0 < s.den → 0 < a.den → 0 < b.den → mul s (sub a b) ≡ sub (mul s a) (mul s b)
mul-sub s a b o p q =
    ap (mul s) (sym (add-neg a b)) ∙ mul-add s a (neg b) o p (is_neg (is_self b q)).above ∙ ap (add (mul s a)) (mul-neg s b o q) ∙ add-neg (mul s a) (mul s b)

-- ---- quotients

-- a factor that is not zero, divided by again
pub div-mul : (a b : Fraction) → IsReduced a → 0 < b.den → (b.num ≡ pos 0 → ⊥) → div (mul a b) b ≡ a
div-mul a b low q apart =
    is_unique (IsReduced-div (mul a b) b (IsReduced-mul a b low.above q).above apart) low
    (is_div a.num a.den (is_mul (is_self a low.above) (is_self b q)) (is_self b q) apart low.above (crossed a.num b.num a.den b.den))
    (is_self a low.above)
  where
    crossed : (a b : ℤ) (p q : ℕ) → a *ℤ (pos (p * q) *ℤ b) ≡ ((a *ℤ b) *ℤ pos q) *ℤ pos p
    crossed a b p q =
        let x = as_dif a in let y = as_dif b in
        rw (x.2, y.2) (simp (pos-dif, times-dif) (same_dif _ _ _ _ (omega arith)))

-- a quotient times its divisor is the dividend
pub mul-div : (a b : Fraction) → IsReduced a → 0 < b.den → (b.num ≡ pos 0 → ⊥) → mul (div a b) b ≡ a
mul-div a b low q apart =
    let over = (IsReduced-div a b low.above apart).above in
    is_same (IsReduced-mul (div a b) b over q) low (is_mul (is_self (div a b) over) (is_self b q)) (is_self a low.above)
    (left (div a b).num b.num a.den ∙ div_crossed a b low.above apart ∙ right a.num b.den (div a b).den)
  where
    left : (c b : ℤ) (p : ℕ) → (c *ℤ b) *ℤ pos p ≡ c *ℤ (pos p *ℤ b)
    left c b p =
        let x = as_dif c in let y = as_dif b in
        rw (x.2, y.2) (simp (pos-dif, times-dif) (same_dif _ _ _ _ (omega arith)))

    right : (a : ℤ) (q k : ℕ) → (a *ℤ pos q) *ℤ pos k ≡ a *ℤ pos (k * q)
    right a q k = let x = as_dif a in rw x.2 (simp (pos-dif, times-dif) (same_dif _ _ _ _ (omega arith)))

-- a quotient by a number that isn't zero is the only number whose product with it is the dividend
pub div_unique : (a b c : Fraction) → IsReduced c → 0 < b.den → (b.num ≡ pos 0 → ⊥) → mul c b ≡ a → div a b ≡ c
div_unique a b c low q apart e = ap (λ t. div t b) (sym e) ∙ div-mul c b low q apart
