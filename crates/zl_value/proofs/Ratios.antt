-- Which number a fraction is: `Is f n d` says that `f` is `n / d`. A law of fractions is then an identity of whole numbers.
use Rattle.std.specs.Prelude.{◌≡◌, ℕ, ◌+◌, ◌*◌, ◌/◌, ◌<◌, suc, ℤ, pos, negsuc, ◌+ℤ◌, ◌-ℤ◌, ◌*ℤ◌, neg_ℤ, Bool, true, false, if◌then◌else◌, int_lt, int_div, unsigned_abs}
use Rattle.std.proofs.Common.{refl, sym, ap, ap₂, ◌∙◌, ⊎_elim, arith}
use Rattle.std.proofs.lemmas.Int.{ints}
use Rattle.std.proofs.lemmas.Bool.{cases_Bool}
use native.Mathlib.Nat.{mul-pos, mul_comm, eq-zero-or-pos}
use Rattle.zl_value.specs.Fraction.{Fraction, IsReduced, gcd, reduced, add, sub, mul, neg, ratio, div, whole}
use Rattle.zl_value.proofs.Divisors.{Divides-gcd}
use Rattle.zl_value.proofs.Fractions.{IsReduced-reduced, lowest-unique}
use Rattle.zl_value.proofs.Ring.{dif, as_dif, same_dif, pos-dif, plus-dif, minus-dif, times-dif, cancel, times_assoc, times_comm, zero-times, minus-times, times-minus, zero_of_abs, is_abs, is_minus_abs}

-- `f` is the number `n / d`
pub record Is (f : Fraction) (n : ℤ) (d : ℕ) : Type 0 where
  pub above : 0 < f.den
  pub over : 0 < d
  pub same : f.num *ℤ pos d ≡ n *ℤ pos f.den

-- a fraction is its numerator over its denominator
pub is_self : (f : Fraction) → 0 < f.den → Is f f.num f.den
is_self f above = record { above = above; over = above; same = refl }

-- the same number, written otherwise
pub is_equal : {f : Fraction} {n m : ℤ} {d e : ℕ} → n ≡ m → d ≡ e → Is f n d → Is f m e
is_equal p q is = rw (← p, ← q) is

times_right_comm : (a b c : ℤ) → (a *ℤ b) *ℤ c ≡ (a *ℤ c) *ℤ b
times_right_comm a b c =
    let x = as_dif a in let y = as_dif b in let z = as_dif c in
    rw (x.2, y.2, z.2) (simp times-dif (same_dif _ _ _ _ (omega arith)))

-- a fraction is each pair whose cross products with one that it is are equal
pub is_change : {f : Fraction} {n m : ℤ} {d e : ℕ} → Is f n d → 0 < e → n *ℤ pos e ≡ m *ℤ pos d → Is f m e
is_change {f} {n} {m} {d} {e} is above crossed = record {
  above = is.above;
  over = above;
  same = cancel (f.num *ℤ pos e) (m *ℤ pos f.den) d is.over
      (times_right_comm f.num (pos e) (pos d) ∙ ap (λ t. t *ℤ pos e) is.same ∙ times_right_comm n (pos f.den) (pos e)
      ∙ ap (λ t. t *ℤ pos f.den) crossed ∙ times_right_comm m (pos d) (pos f.den));
}

-- cross products of two fractions of one number are equal
crossed_of : {f h : Fraction} {n : ℤ} {d : ℕ} → Is f n d → Is h n d → f.num *ℤ pos h.den ≡ h.num *ℤ pos f.den
crossed_of {f} {h} {n} {d} p q =
    cancel (f.num *ℤ pos h.den) (h.num *ℤ pos f.den) d p.over
    (times_right_comm f.num (pos h.den) (pos d) ∙ ap (λ t. t *ℤ pos h.den) p.same ∙ times_right_comm n (pos f.den) (pos h.den)
    ∙ ap (λ t. t *ℤ pos f.den) (sym q.same) ∙ times_right_comm h.num (pos d) (pos f.den))

-- of one number there is one fraction in lowest terms
pub is_unique : {f h : Fraction} {n : ℤ} {d : ℕ} → IsReduced f → IsReduced h → Is f n d → Is h n d → f ≡ h
is_unique {f} {h} low_f low_h p q = lowest-unique f h low_f low_h (crossed_of p q)

-- and equal cross products are one number
pub is_same : {f h : Fraction} {n m : ℤ} {d e : ℕ} → IsReduced f → IsReduced h → Is f n d → Is h m e → n *ℤ pos e ≡ m *ℤ pos d → f ≡ h
is_same low_f low_h p q crossed = is_unique low_f low_h (is_change p q.over crossed) q

-- ---- what the operations are

minus_of : (q : ℕ) → neg_ℤ (pos q) ≡ dif 0 q
unfolding dif
minus_of q = omega (arith, ints)

int_div-times : (n : ℤ) (g : ℕ) → g * (unsigned_abs n / g) ≡ unsigned_abs n → int_div n (pos g) *ℤ pos g ≡ n
int_div-times (pos a) g e = ap pos (omega arith)
int_div-times (negsuc a) g e = negative (suc a / g) (omega arith)
  where
    negative : (q : ℕ) → q * g ≡ suc a → neg_ℤ (pos q) *ℤ pos g ≡ negsuc a
    negative q f =
        let x : neg_ℤ (pos q) ≡ dif 0 q = minus_of q in
        rw (x, pos-dif g) (times-dif 0 q g 0 ∙ (let y : dif (0 * g + q * 0) (0 * 0 + q * g) ≡ dif 0 (suc a) = same_dif _ _ _ _ (omega arith) in y) ∙ sym (minus_of (suc a)))

-- `n / d` in lowest terms is `n / d`
pub reduced_is : (n : ℤ) (d : ℕ) → 0 < d → Is (reduced n d) n d
unfolding reduced
reduced_is n d above =
    let by = Divides-gcd (unsigned_abs n) d above in
    let g : ℕ = gcd (unsigned_abs n) d in
    record {
      above = by.left;
      over = above;
      same =
          ap (λ t. int_div n (pos g) *ℤ pos t) (sym by.second) ∙ sym (times_assoc (int_div n (pos g)) (pos g) (pos (d / g)))
          ∙ ap (λ t. t *ℤ pos (d / g)) (int_div-times n g by.first);
    }

cross_plus : (a b : ℤ) (p q d e : ℕ) → (a *ℤ pos q +ℤ b *ℤ pos p) *ℤ pos (d * e) ≡ (a *ℤ pos d) *ℤ pos (q * e) +ℤ (b *ℤ pos e) *ℤ pos (p * d)
cross_plus a b p q d e =
    let x = as_dif a in let y = as_dif b in
    rw (x.2, y.2) (simp (pos-dif, times-dif, plus-dif) (same_dif _ _ _ _ (omega arith)))

cross_minus : (a b : ℤ) (p q d e : ℕ) → (a *ℤ pos q -ℤ b *ℤ pos p) *ℤ pos (d * e) ≡ (a *ℤ pos d) *ℤ pos (q * e) -ℤ (b *ℤ pos e) *ℤ pos (p * d)
cross_minus a b p q d e =
    let x = as_dif a in let y = as_dif b in
    rw (x.2, y.2) (simp (pos-dif, times-dif, minus-dif) (same_dif _ _ _ _ (omega arith)))

cross_times : (a b : ℤ) (d e : ℕ) → (a *ℤ b) *ℤ pos (d * e) ≡ (a *ℤ pos d) *ℤ (b *ℤ pos e)
cross_times a b d e =
    let x = as_dif a in let y = as_dif b in
    rw (x.2, y.2) (simp (pos-dif, times-dif) (same_dif _ _ _ _ (omega arith)))

-- the sum of `n / d` and `m / e`
pub is_add : {a b : Fraction} {n m : ℤ} {d e : ℕ} → Is a n d → Is b m e → Is (add a b) (n *ℤ pos e +ℤ m *ℤ pos d) (d * e)
unfolding add
is_add {a} {b} {n} {m} {d} {e} p q =
    is_change (reduced_is _ _ (mul-pos p.above q.above)) (mul-pos p.over q.over)
    (cross_plus a.num b.num a.den b.den d e
    ∙ ap₂ (λ s t. s *ℤ pos (b.den * e) +ℤ t *ℤ pos (a.den * d)) p.same q.same
    ∙ ap₂ (λ s t. (n *ℤ pos a.den) *ℤ pos s +ℤ (m *ℤ pos b.den) *ℤ pos t) (mul_comm b.den e) (mul_comm a.den d)
    ∙ sym (cross_plus n m d e a.den b.den))

-- their difference
pub is_sub : {a b : Fraction} {n m : ℤ} {d e : ℕ} → Is a n d → Is b m e → Is (sub a b) (n *ℤ pos e -ℤ m *ℤ pos d) (d * e)
unfolding sub
is_sub {a} {b} {n} {m} {d} {e} p q =
    is_change (reduced_is _ _ (mul-pos p.above q.above)) (mul-pos p.over q.over)
    (cross_minus a.num b.num a.den b.den d e
    ∙ ap₂ (λ s t. s *ℤ pos (b.den * e) -ℤ t *ℤ pos (a.den * d)) p.same q.same
    ∙ ap₂ (λ s t. (n *ℤ pos a.den) *ℤ pos s -ℤ (m *ℤ pos b.den) *ℤ pos t) (mul_comm b.den e) (mul_comm a.den d)
    ∙ sym (cross_minus n m d e a.den b.den))

-- their product
pub is_mul : {a b : Fraction} {n m : ℤ} {d e : ℕ} → Is a n d → Is b m e → Is (mul a b) (n *ℤ m) (d * e)
unfolding mul
is_mul {a} {b} {n} {m} {d} {e} p q =
    is_change (reduced_is _ _ (mul-pos p.above q.above)) (mul-pos p.over q.over)
    (cross_times a.num b.num d e ∙ ap₂ (λ s t. s *ℤ t) p.same q.same ∙ sym (cross_times n m a.den b.den))

-- the negative of `n / d`
pub is_neg : {a : Fraction} {n : ℤ} {d : ℕ} → Is a n d → Is (neg a) (pos 0 -ℤ n) d
unfolding neg
is_neg {a} {n} {d} p = record {
  above = p.above;
  over = p.over;
  same = minus-times (pos 0) a.num (pos d) ∙ ap (λ t. pos 0 *ℤ pos d -ℤ t) p.same ∙ turned ∙ sym (minus-times (pos 0) n (pos a.den));
}
  where
    turned : pos 0 *ℤ pos d -ℤ n *ℤ pos a.den ≡ pos 0 *ℤ pos a.den -ℤ n *ℤ pos a.den
    turned = omega (arith, ints)

-- a whole number over 1
pub is_whole : (n : ℤ) → Is (whole n) n 1
is_whole n = record { above = omega arith; over = omega arith; same = refl }

-- ---- quotients

if-false : {X : Type 0} (b : Bool) (x y : X) → b ≡ false → (if b then x else y) ≡ y
if-false b x y e = rw e refl

if-true : {X : Type 0} (b : Bool) (x y : X) → b ≡ true → (if b then x else y) ≡ x
if-true b x y e = rw e refl

above_abs : (d : ℤ) → (d ≡ pos 0 → ⊥) → 0 < unsigned_abs d
above_abs d apart = ⊎_elim (λ e. absurd (apart (zero_of_abs d e))) (λ l. l) (eq-zero-or-pos (unsigned_abs d))

-- `n / d` where `d` may be negative is each pair whose cross products with `n` and `d` are equal
pub is_ratio : (n d c : ℤ) (k : ℕ) → (d ≡ pos 0 → ⊥) → 0 < k → c *ℤ d ≡ n *ℤ pos k → Is (ratio n d) c k
unfolding ratio
is_ratio n d c k apart above crossed =
    ⊎_elim
    (λ e.
    let x = if-true (int_lt d (pos 0)) (pos 0 -ℤ n) n e in
    rw x (is_change (reduced_is (pos 0 -ℤ n) (unsigned_abs d) (above_abs d apart)) above (negative (unsigned_abs d) (is_minus_abs d e))))
    (λ e.
    let x = if-false (int_lt d (pos 0)) (pos 0 -ℤ n) n e in
    rw x (is_change (reduced_is n (unsigned_abs d) (above_abs d apart)) above (sym crossed ∙ ap (λ t. c *ℤ t) (is_abs d e))))
    (cases_Bool (int_lt d (pos 0)))
  where
    negative : (m : ℕ) → d ≡ pos 0 -ℤ pos m → (pos 0 -ℤ n) *ℤ pos k ≡ c *ℤ pos m
    negative m e =
        minus-times (pos 0) n (pos k) ∙ ap (λ t. pos 0 *ℤ pos k -ℤ t) (sym crossed ∙ ap (λ t. c *ℤ t) e ∙ times-minus c (pos 0) (pos m)) ∙ omega (arith, ints)

-- a quotient of whole numbers is in lowest terms
pub IsReduced-ratio : (n d : ℤ) → (d ≡ pos 0 → ⊥) → IsReduced (ratio n d)
unfolding ratio
IsReduced-ratio n d apart = IsReduced-reduced (if int_lt d (pos 0) then pos 0 -ℤ n else n) (unsigned_abs d) (above_abs d apart)

cross_div : (c n m a b : ℤ) (d e k p q : ℕ) → c *ℤ (pos d *ℤ m) ≡ (n *ℤ pos e) *ℤ pos k → a *ℤ pos d ≡ n *ℤ pos p → b *ℤ pos e ≡ m *ℤ pos q → (c *ℤ (pos p *ℤ b)) *ℤ pos (d * e) ≡ ((a *ℤ pos q) *ℤ pos k) *ℤ pos (d * e)
cross_div c n m a b d e k p q crossed first second =
    left c b p d e ∙ ap (λ t. (c *ℤ pos d) *ℤ (t *ℤ pos p)) second ∙ middle c m d p q ∙ ap (λ t. t *ℤ pos (p * q)) crossed
    ∙ turned n e k p q ∙ ap (λ t. t *ℤ pos (q * (e * k))) (sym first) ∙ right a d e k q
  where
    left : (c b : ℤ) (p d e : ℕ) → (c *ℤ (pos p *ℤ b)) *ℤ pos (d * e) ≡ (c *ℤ pos d) *ℤ ((b *ℤ pos e) *ℤ pos p)
    left c b p d e =
        let x = as_dif c in let y = as_dif b in
        rw (x.2, y.2) (simp (pos-dif, times-dif) (same_dif _ _ _ _ (omega arith)))

    middle : (c m : ℤ) (d p q : ℕ) → (c *ℤ pos d) *ℤ ((m *ℤ pos q) *ℤ pos p) ≡ (c *ℤ (pos d *ℤ m)) *ℤ pos (p * q)
    middle c m d p q =
        let x = as_dif c in let y = as_dif m in
        rw (x.2, y.2) (simp (pos-dif, times-dif) (same_dif _ _ _ _ (omega arith)))

    turned : (n : ℤ) (e k p q : ℕ) → ((n *ℤ pos e) *ℤ pos k) *ℤ pos (p * q) ≡ (n *ℤ pos p) *ℤ pos (q * (e * k))
    turned n e k p q = let x = as_dif n in rw x.2 (simp (pos-dif, times-dif) (same_dif _ _ _ _ (omega arith)))

    right : (a : ℤ) (d e k q : ℕ) → (a *ℤ pos d) *ℤ pos (q * (e * k)) ≡ ((a *ℤ pos q) *ℤ pos k) *ℤ pos (d * e)
    right a d e k q = let x = as_dif a in rw x.2 (simp (pos-dif, times-dif) (same_dif _ _ _ _ (omega arith)))

-- a fraction whose numerator isn't zero, as the divisor `pos d *ℤ m` of two numbers
pub apart_over : (b : ℤ) (d : ℕ) → 0 < d → (b ≡ pos 0 → ⊥) → pos d *ℤ b ≡ pos 0 → ⊥
apart_over b d above apart e = apart (cancel b (pos 0) d above (times_comm b (pos d) ∙ e ∙ sym (zero-times (pos d))))

-- `a / b` is each pair whose cross products with the quotient are equal
pub is_div : {a b : Fraction} {n m : ℤ} {d e : ℕ} (c : ℤ) (k : ℕ) → Is a n d → Is b m e → (b.num ≡ pos 0 → ⊥) → 0 < k → c *ℤ (pos d *ℤ m) ≡ (n *ℤ pos e) *ℤ pos k → Is (div a b) c k
unfolding div
is_div {a} {b} {n} {m} {d} {e} c k p q apart above crossed =
    is_ratio (a.num *ℤ pos b.den) (pos a.den *ℤ b.num) c k (apart_over b.num a.den p.above apart) above
    (cancel _ _ (d * e) (mul-pos p.over q.over) (cross_div c n m a.num b.num d e k a.den b.den crossed p.same q.same))

-- cross products of a quotient and of the numbers that it is made from
pub ratio_crossed : (n d : ℤ) → (d ≡ pos 0 → ⊥) → (ratio n d).num *ℤ d ≡ n *ℤ pos (ratio n d).den
ratio_crossed n (pos m) apart = (is_ratio n (pos m) n m apart (above_abs (pos m) apart) refl).same
ratio_crossed n (negsuc m) apart =
    let is = is_ratio n (negsuc m) (pos 0 -ℤ n) (suc m) apart (omega arith) (turned n) in
    let r = ratio n (negsuc m) in
    negated r.num ∙ ap (λ t. pos 0 -ℤ t) is.same ∙ back n r.den
  where
    turned : (a : ℤ) → (pos 0 -ℤ a) *ℤ negsuc m ≡ a *ℤ pos (suc m)
    turned a = let x = as_dif a in rw (x.2, minus_of (suc m)) (simp (pos-dif, times-dif, minus-dif) (same_dif _ _ _ _ (omega arith)))

    negated : (a : ℤ) → a *ℤ negsuc m ≡ pos 0 -ℤ a *ℤ pos (suc m)
    negated a = let x = as_dif a in rw (x.2, minus_of (suc m)) (simp (pos-dif, times-dif, minus-dif) (same_dif _ _ _ _ (omega arith)))

    back : (a : ℤ) (k : ℕ) → pos 0 -ℤ (pos 0 -ℤ a) *ℤ pos k ≡ a *ℤ pos k
    back a k = let x = as_dif a in rw x.2 (simp (pos-dif, times-dif, minus-dif) (same_dif _ _ _ _ (omega arith)))

-- cross products of a quotient of fractions and of the two
pub div_crossed : (a b : Fraction) → 0 < a.den → (b.num ≡ pos 0 → ⊥) → (div a b).num *ℤ (pos a.den *ℤ b.num) ≡ (a.num *ℤ pos b.den) *ℤ pos (div a b).den
unfolding div
div_crossed a b p apart = ratio_crossed (a.num *ℤ pos b.den) (pos a.den *ℤ b.num) (apart_over b.num a.den p apart)
