-- The order of fractions, as equations of tests.
use Rattle.std.specs.Prelude.{◌≡◌, ◌⊎◌, ℕ, ◌*◌, ◌<◌, ℤ, pos, ◌+ℤ◌, ◌-ℤ◌, ◌*ℤ◌, Bool, true, false, ◌&&◌, cond, nat_eq, int_lt, int_le, unsigned_abs}
use Rattle.std.specs.Ordering.{is_lt, int_cmp}
use Rattle.std.specs.declared.cmp.Ordering.TheVariants.{Less, Equal, Greater}
use Rattle.std.proofs.Common.{refl, sym, ap, ap₂, ◌∙◌, inl, inr, ⊎_elim, arith, eqb-true}
use Rattle.std.proofs.lemmas.Int.{ints}
use Rattle.std.proofs.lemmas.Bool.{cases_Bool, and_parts, and_from, eq-eqb, both_ways, false_from_ne_true}
use native.Mathlib.Nat.{mul-pos}
use Rattle.zl_value.specs.Fraction.{Fraction, IsReduced, add, sub, mul, neg, div, whole, compare}
use Rattle.zl_value.specs.Order.{below}
use Rattle.zl_value.proofs.Fractions.{lowest-unique}
use Rattle.zl_value.proofs.Ring.{as_dif, same_dif, pos-dif, plus-dif, minus-dif, times-dif, times-one, zero-times, lt-plus, lt-neg, lt-times, lt_cases, lt_irrefl, lt_trans, lt_le_trans, le_lt_trans, le_le_trans, same_test}
use Rattle.zl_value.proofs.FractionLaws.{add_comm, add-zero, add-neg, sub-self, mul_comm, mul-zero, zero-mul, mul-div, neg-mul, neg-zero, IsReduced-add, IsReduced-mul, IsReduced-neg, IsReduced-whole}
use borrow.Author.Differences.{true_is_lt, true_is_le}
use Rattle.zl_value.proofs.Ratios.{Is, is_self, is_add, is_sub, is_mul, is_neg, is_whole}

-- ---- the test by cross products

lt_by : (x y : Bool) → is_lt (cond x Less (cond y Greater Equal)) ≡ x
lt_by true y = refl
lt_by false true = refl
lt_by false false = refl

lt_of_cmp : (x y : ℤ) → is_lt (int_cmp x y) ≡ int_lt x y
lt_of_cmp x y = lt_by (int_lt x y) (int_lt y x)

-- one fraction is below another where its cross product is
pub below_crossed : (a b : Fraction) → below a b ≡ int_lt (a.num *ℤ pos b.den) (b.num *ℤ pos a.den)
unfolding compare
below_crossed a b = lt_of_cmp (a.num *ℤ pos b.den) (b.num *ℤ pos a.den)

cross_lt : (a n : ℤ) (d e p q : ℕ) → a *ℤ pos d ≡ n *ℤ pos p → (a *ℤ pos q) *ℤ pos (d * e) ≡ (n *ℤ pos e) *ℤ pos (p * q)
cross_lt a n d e p q same = left ∙ ap (λ t. t *ℤ pos (q * e)) same ∙ right
  where
    left : (a *ℤ pos q) *ℤ pos (d * e) ≡ (a *ℤ pos d) *ℤ pos (q * e)
    left = let x = as_dif a in rw x.2 (simp (pos-dif, times-dif) (same_dif _ _ _ _ (omega arith)))

    right : (n *ℤ pos p) *ℤ pos (q * e) ≡ (n *ℤ pos e) *ℤ pos (p * q)
    right = let x = as_dif n in rw x.2 (simp (pos-dif, times-dif) (same_dif _ _ _ _ (omega arith)))

-- two numbers are in order as their cross products are, however they are written
pub below_is : {a b : Fraction} {n m : ℤ} {d e : ℕ} → Is a n d → Is b m e → below a b ≡ int_lt (n *ℤ pos e) (m *ℤ pos d)
below_is {a} {b} {n} {m} {d} {e} p q =
    below_crossed a b
    ∙ sym (lt-times (a.num *ℤ pos b.den) (b.num *ℤ pos a.den) (d * e) (mul-pos p.over q.over))
    ∙ ap₂ int_lt (cross_lt a.num n d e a.den b.den p.same) (second b.num m d e a.den b.den q.same)
    ∙ lt-times (n *ℤ pos e) (m *ℤ pos d) (a.den * b.den) (mul-pos p.above q.above)
  where
    second : (b m : ℤ) (d e p q : ℕ) → b *ℤ pos e ≡ m *ℤ pos q → (b *ℤ pos p) *ℤ pos (d * e) ≡ (m *ℤ pos d) *ℤ pos (p * q)
    second b m d e p q same =
        ap (λ t. (b *ℤ pos p) *ℤ pos t) (let e : d * e ≡ e * d = omega arith in e) ∙ cross_lt b m e d q p same
        ∙ ap (λ t. (m *ℤ pos d) *ℤ pos t) (let f : q * p ≡ p * q = omega arith in f)

-- ---- a strict total order

-- no fraction is below itself
pub below-self : (a : Fraction) → below a a ≡ false
below-self a = below_crossed a a ∙ lt_irrefl (a.num *ℤ pos a.den)

-- of two at most one is below the other
pub below_asym : (a b : Fraction) → below a b ≡ true → below b a ≡ false
below_asym a b e = below_crossed b a ∙ turned (a.num *ℤ pos b.den) (b.num *ℤ pos a.den) (sym (below_crossed a b) ∙ e)
  where
    turned : (x y : ℤ) → int_lt x y ≡ true → int_lt y x ≡ false
    turned x y e = false_from_ne_true (int_lt y x) (λ f. omega (arith, ints))

lifted : (n : ℤ) (d e : ℕ) → (n *ℤ pos d) *ℤ pos e ≡ (n *ℤ pos e) *ℤ pos d
lifted n d e = let x = as_dif n in rw x.2 (simp (pos-dif, times-dif) (same_dif _ _ _ _ (omega arith)))

-- the tests of three fractions over one denominator
record AreCompared (a b c : Fraction) : Type 0 where
  x : ℤ
  y : ℤ
  z : ℤ
  first : (below a b ≡ int_lt x y) × (below b a ≡ int_lt y x)
  second : (below b c ≡ int_lt y z) × (below c b ≡ int_lt z y)
  third : (below a c ≡ int_lt x z) × (below c a ≡ int_lt z x)

compared : (a b c : Fraction) → 0 < a.den → 0 < b.den → 0 < c.den → AreCompared a b c
compared a b c p q r =
    let x : ℤ = (a.num *ℤ pos b.den) *ℤ pos c.den in
    let y : ℤ = (b.num *ℤ pos a.den) *ℤ pos c.den in
    let z : ℤ = (c.num *ℤ pos a.den) *ℤ pos b.den in
    record {
      x = x;
      y = y;
      z = z;
      first = (
        below_crossed a b ∙ sym (lt-times (a.num *ℤ pos b.den) (b.num *ℤ pos a.den) c.den r),
        below_crossed b a ∙ sym (lt-times (b.num *ℤ pos a.den) (a.num *ℤ pos b.den) c.den r),
      );
      second = (
        below_crossed b c ∙ sym (lt-times (b.num *ℤ pos c.den) (c.num *ℤ pos b.den) a.den p) ∙ ap₂ int_lt (lifted b.num c.den a.den) (lifted c.num b.den a.den),
        below_crossed c b ∙ sym (lt-times (c.num *ℤ pos b.den) (b.num *ℤ pos c.den) a.den p) ∙ ap₂ int_lt (lifted c.num b.den a.den) (lifted b.num c.den a.den),
      );
      third = (
        below_crossed a c ∙ sym (lt-times (a.num *ℤ pos c.den) (c.num *ℤ pos a.den) b.den q) ∙ ap (λ t. int_lt t z) (lifted a.num c.den b.den),
        below_crossed c a ∙ sym (lt-times (c.num *ℤ pos a.den) (a.num *ℤ pos c.den) b.den q) ∙ ap (int_lt z) (lifted a.num c.den b.den),
      );
    }

module _ (a b c : Fraction) (p : 0 < a.den) (q : 0 < b.den) (r : 0 < c.den) where
  -- what is below a fraction is below all that this is below
  pub below_trans : below a b ≡ true → below b c ≡ true → below a c ≡ true
  below_trans e f =
      let t = compared a b c p q r in
      t.third.0 ∙ lt_trans t.x t.y t.z (sym t.first.0 ∙ e) (sym t.second.0 ∙ f)

  -- `below c b` false says that `b` is at most `c`
  pub below_le_trans : below a b ≡ true → below c b ≡ false → below a c ≡ true
  below_le_trans e f =
      let t = compared a b c p q r in
      t.third.0 ∙ lt_le_trans t.x t.y t.z (sym t.first.0 ∙ e) (sym t.second.1 ∙ f)

  -- the same, begun by at most
  pub le_below_trans : below b a ≡ false → below b c ≡ true → below a c ≡ true
  le_below_trans e f =
      let t = compared a b c p q r in
      t.third.0 ∙ le_lt_trans t.x t.y t.z (sym t.first.1 ∙ e) (sym t.second.0 ∙ f)

  -- the same with at most alone
  pub le_trans : below b a ≡ false → below c b ≡ false → below c a ≡ false
  le_trans e f =
      let t = compared a b c p q r in
      t.third.1 ∙ le_le_trans t.x t.y t.z (sym t.first.1 ∙ e) (sym t.second.1 ∙ f)

-- of two fractions one is below the other, or they are equal
pub below_cases : (a b : Fraction) → IsReduced a → IsReduced b → (below a b ≡ true) ⊎ ((a ≡ b) ⊎ (below b a ≡ true))
below_cases a b p q =
    ⊎_elim (λ e. inl (below_crossed a b ∙ e))
    (λ o. ⊎_elim (λ e. inr (inl (lowest-unique a b p q e))) (λ e. inr (inr (below_crossed b a ∙ e))) o)
    (lt_cases (a.num *ℤ pos b.den) (b.num *ℤ pos a.den))

-- of two fractions of which neither is below the other there is one
pub le_antisym : (a b : Fraction) → IsReduced a → IsReduced b → below a b ≡ false → below b a ≡ false → a ≡ b
le_antisym a b p q e f =
    ⊎_elim (λ g. absurd (both_ways (below a b) e g))
    (λ o. ⊎_elim (λ g. g) (λ g. absurd (both_ways (below b a) f g)) o)
    (below_cases a b p q)

equal_by : (x y : Bool) → cond x Less (cond y Greater Equal) ≡ Equal → (x ≡ false) × (y ≡ false)
equal_by true y e = absurd cc
equal_by false true e = absurd cc
equal_by false false e = (refl, refl)

-- two fractions that compare as equal are one
pub compare_equal : (a b : Fraction) → IsReduced a → IsReduced b → compare a b ≡ Equal → a ≡ b
unfolding compare
compare_equal a b p q e =
    let tests = equal_by (int_lt (a.num *ℤ pos b.den) (b.num *ℤ pos a.den)) (int_lt (b.num *ℤ pos a.den) (a.num *ℤ pos b.den)) e in
    le_antisym a b p q (below_crossed a b ∙ tests.0) (below_crossed b a ∙ tests.1)

-- two times whose parts are equal by tests are equal
pub same_parts : (a b : Fraction) → (int_le a.num b.num && (int_le b.num a.num && nat_eq a.den b.den)) ≡ true → a ≡ b
same_parts a b e =
    let outer = and_parts (int_le a.num b.num) (int_le b.num a.num && nat_eq a.den b.den) e in
    let inner = and_parts (int_le b.num a.num) (nat_eq a.den b.den) outer.1 in
    let num : a.num ≡ b.num = le_both a.num b.num outer.0 inner.0 in
    let den : a.den ≡ b.den = eqb-true a.den b.den inner.1 in
    ap₂ (λ n d. record { num = n; den = d }) num den
  where
    le_both : (x y : ℤ) → int_le x y ≡ true → int_le y x ≡ true → x ≡ y
    le_both x y e f = omega (arith, ints)

-- and the tests hold of one time
pub same_parts-self : (a : Fraction) → (int_le a.num a.num && (int_le a.num a.num && nat_eq a.den a.den)) ≡ true
same_parts-self a =
    let num : int_le a.num a.num ≡ true = sym (true_is_le a.num a.num (omega arith)) in
    and_from _ _ num (and_from _ _ num (eq-eqb a.den a.den refl))

-- of the fractions with a property at most one is the least
pub least_unique : (P : Fraction → Type 0) (d e : Fraction) → IsReduced d → IsReduced e → P d → P e → ((s : Fraction) → below s d ≡ true → P s → ⊥) → ((s : Fraction) → below s e ≡ true → P s → ⊥) → d ≡ e
least_unique P d e p q has_d has_e none_d none_e =
    ⊎_elim (λ l. absurd (none_e d l has_d)) (λ o. ⊎_elim (λ same. same) (λ l. absurd (none_d e l has_e)) o) (below_cases d e p q)

-- ---- order and arithmetic

-- the sign of a fraction is its numerator's
pub below-zero : (a : Fraction) → below a (whole (pos 0)) ≡ int_lt a.num (pos 0)
below-zero a = below_crossed a (whole (pos 0)) ∙ ap₂ int_lt (times-one a.num) (zero-times (pos a.den))

-- and so from the other side
pub zero-below : (a : Fraction) → below (whole (pos 0)) a ≡ int_lt (pos 0) a.num
zero-below a = below_crossed (whole (pos 0)) a ∙ ap₂ int_lt (zero-times (pos a.den)) (times-one a.num)

-- a summand on both sides keeps the order
pub below-add : (t d e : Fraction) → 0 < t.den → 0 < d.den → 0 < e.den → below (add t d) (add t e) ≡ below d e
below-add t d e o p q =
    below_is (is_add (is_self t o) (is_self d p)) (is_add (is_self t o) (is_self e q))
    ∙ ap₂ int_lt (spread t.num d.num t.den d.den e.den) (spread_back t.num e.num t.den d.den e.den)
    ∙ lt-plus ((d.num *ℤ pos e.den) *ℤ pos (t.den * t.den)) ((e.num *ℤ pos d.den) *ℤ pos (t.den * t.den)) (t.num *ℤ pos (t.den * (d.den * e.den)))
    ∙ lt-times (d.num *ℤ pos e.den) (e.num *ℤ pos d.den) (t.den * t.den) (mul-pos o o)
    ∙ sym (below_crossed d e)
  where
    spread : (n x : ℤ) (o p q : ℕ) → (n *ℤ pos p +ℤ x *ℤ pos o) *ℤ pos (o * q) ≡ (x *ℤ pos q) *ℤ pos (o * o) +ℤ n *ℤ pos (o * (p * q))
    spread n x o p q =
        let u = as_dif n in let v = as_dif x in
        rw (u.2, v.2) (simp (pos-dif, times-dif, plus-dif) (same_dif _ _ _ _ (omega arith)))

    spread_back : (n x : ℤ) (o p q : ℕ) → (n *ℤ pos q +ℤ x *ℤ pos o) *ℤ pos (o * p) ≡ (x *ℤ pos p) *ℤ pos (o * o) +ℤ n *ℤ pos (o * (p * q))
    spread_back n x o p q =
        let u = as_dif n in let v = as_dif x in
        rw (u.2, v.2) (simp (pos-dif, times-dif, plus-dif) (same_dif _ _ _ _ (omega arith)))

-- and so on the right
pub below-add_right : (d e t : Fraction) → 0 < d.den → 0 < e.den → 0 < t.den → below (add d t) (add e t) ≡ below d e
below-add_right d e t p q o = ap₂ below (add_comm d t) (add_comm e t) ∙ below-add t d e o p q

-- more than `t` is what has something above zero added to `t`
pub below-add_self : (t d : Fraction) → IsReduced t → 0 < d.den → below t (add t d) ≡ below (whole (pos 0)) d
below-add_self t d low p =
    ap (λ x. below x (add t d)) (sym (add-zero t low)) ∙ below-add t (whole (pos 0)) d low.above (omega arith) p

-- negatives are in the opposite order
pub below-neg : (a b : Fraction) → below (neg a) (neg b) ≡ below b a
unfolding neg
below-neg a b =
    below_crossed (neg a) (neg b) ∙ ap₂ int_lt (out a.num b.den) (out b.num a.den) ∙ lt-neg (a.num *ℤ pos b.den) (b.num *ℤ pos a.den) ∙ sym (below_crossed b a)
  where
    out : (n : ℤ) (d : ℕ) → (pos 0 -ℤ n) *ℤ pos d ≡ pos 0 -ℤ n *ℤ pos d
    out n d = let x = as_dif n in rw x.2 (simp (pos-dif, times-dif, minus-dif) (same_dif _ _ _ _ (omega arith)))

-- a difference is below zero where the first is below the second
pub below-sub : (a b : Fraction) → 0 < a.den → 0 < b.den → below (sub a b) (whole (pos 0)) ≡ below a b
below-sub a b p q =
    below_is (is_sub (is_self a p) (is_self b q)) (is_whole (pos 0))
    ∙ ap₂ int_lt (times-one (a.num *ℤ pos b.den -ℤ b.num *ℤ pos a.den)) (zero-times (pos (a.den * b.den)))
    ∙ less_zero (a.num *ℤ pos b.den) (b.num *ℤ pos a.den) ∙ sym (below_crossed a b)
  where
    less_zero : (x y : ℤ) → int_lt (x -ℤ y) (pos 0) ≡ int_lt x y
    less_zero x y = same_test (int_lt (x -ℤ y) (pos 0)) (int_lt x y) (λ e. sym (true_is_lt x y (omega (arith, ints)))) (λ e. sym (true_is_lt (x -ℤ y) (pos 0) (omega (arith, ints))))

-- a factor above zero keeps the order
pub below-mul : (k a b : Fraction) → 0 < k.den → 0 < a.den → 0 < b.den → below (whole (pos 0)) k ≡ true → below (mul k a) (mul k b) ≡ below a b
below-mul k a b o p q positive =
    let above : int_lt (pos 0) k.num ≡ true = sym (zero-below k) ∙ positive in
    below_is (is_mul (is_self k o) (is_self a p)) (is_mul (is_self k o) (is_self b q))
    ∙ ap₂ int_lt (size_out k.num a.num k.den b.den (is_abs_of k.num above)) (size_out k.num b.num k.den a.den (is_abs_of k.num above))
    ∙ lt-times (a.num *ℤ pos b.den) (b.num *ℤ pos a.den) (unsigned_abs k.num * k.den) (mul-pos (size k.num above) o)
    ∙ sym (below_crossed a b)
  where
    is_abs_of : (n : ℤ) → int_lt (pos 0) n ≡ true → n ≡ pos (unsigned_abs n)
    is_abs_of n e = omega (arith, ints)

    size : (n : ℤ) → int_lt (pos 0) n ≡ true → 0 < unsigned_abs n
    size n e = omega (arith, ints)

    moved : (m : ℕ) (x : ℤ) (o q : ℕ) → (pos m *ℤ x) *ℤ pos (o * q) ≡ (x *ℤ pos q) *ℤ pos (m * o)
    moved m x o q = let v = as_dif x in rw v.2 (simp (pos-dif, times-dif) (same_dif _ _ _ _ (omega arith)))

    size_out : (n x : ℤ) (o q : ℕ) → n ≡ pos (unsigned_abs n) → (n *ℤ x) *ℤ pos (o * q) ≡ (x *ℤ pos q) *ℤ pos (unsigned_abs n * o)
    size_out n x o q e = ap (λ t. (t *ℤ x) *ℤ pos (o * q)) e ∙ moved (unsigned_abs n) x o q

-- and so on the right
pub below-mul_right : (a b k : Fraction) → 0 < a.den → 0 < b.den → 0 < k.den → below (whole (pos 0)) k ≡ true → below (mul a k) (mul b k) ≡ below a b
below-mul_right a b k p q o positive = ap₂ below (mul_comm a k) (mul_comm b k) ∙ below-mul k a b o p q positive

-- a factor below zero turns the order
pub below-mul_turned : (k a b : Fraction) → 0 < k.den → 0 < a.den → 0 < b.den → below k (whole (pos 0)) ≡ true → below (mul k a) (mul k b) ≡ below b a
below-mul_turned k a b o p q negative =
    sym (below-neg (mul k b) (mul k a))
    ∙ ap₂ below (sym (neg-mul k b o q)) (sym (neg-mul k a o p))
    ∙ below-mul (neg k) b a (is_neg (is_self k o)).above q p (sym (ap (λ t. below t (neg k)) neg-zero) ∙ below-neg (whole (pos 0)) k ∙ negative)

-- ---- lines: the value `v` at 0, and `k` more for each unit of time

-- something at most zero added to a number below zero leaves it there
pub add_negative : (v w : Fraction) → IsReduced v → 0 < w.den → below v (whole (pos 0)) ≡ true → below (whole (pos 0)) w ≡ false → below (add v w) (whole (pos 0)) ≡ true
add_negative v w low p negative at_most =
    le_below_trans (add v w) v (whole (pos 0)) (IsReduced-add v w low.above p).above low.above (omega arith) (below-add_self v w low p ∙ at_most) negative

-- a line that is below zero at 0 and not above zero at `d` is below zero between
pub line_negative : (v k d s : Fraction) → IsReduced v → IsReduced s → 0 < k.den → 0 < d.den → below v (whole (pos 0)) ≡ true → below (whole (pos 0)) (add v (mul d k)) ≡ false → below s (whole (pos 0)) ≡ false → below s d ≡ true → below (add v (mul s k)) (whole (pos 0)) ≡ true
line_negative v k d s low_v low_s o p start end from to = ⊎_elim rising falling (cases_Bool (below (whole (pos 0)) k))
  where
    product : (t : Fraction) → 0 < t.den → 0 < (mul t k).den
    product t q = (IsReduced-mul t k q o).above

    sum : (t : Fraction) → 0 < t.den → 0 < (add v (mul t k)).den
    sum t q = (IsReduced-add v (mul t k) low_v.above (product t q)).above

    rising : below (whole (pos 0)) k ≡ true → below (add v (mul s k)) (whole (pos 0)) ≡ true
    rising e =
        below_le_trans (add v (mul s k)) (add v (mul d k)) (whole (pos 0)) (sum s low_s.above) (sum d p) (omega arith)
        (below-add v (mul s k) (mul d k) low_v.above (product s low_s.above) (product d p) ∙ below-mul_right s d k low_s.above p o e ∙ to) end

    still : s ≡ whole (pos 0) → below (add v (mul s k)) (whole (pos 0)) ≡ true
    still e = ap (λ t. below (add v t) (whole (pos 0))) (ap (λ t. mul t k) e ∙ zero-mul k o) ∙ ap (λ t. below t (whole (pos 0))) (add-zero v low_v) ∙ start

    later : below (whole (pos 0)) k ≡ false → below (whole (pos 0)) s ≡ true → below (add v (mul s k)) (whole (pos 0)) ≡ true
    later e f =
        add_negative v (mul s k) low_v (product s low_s.above) start
        (ap (λ t. below t (mul s k)) (sym (mul-zero s low_s.above)) ∙ below-mul s (whole (pos 0)) k low_s.above (omega arith) o f ∙ e)

    falling : below (whole (pos 0)) k ≡ false → below (add v (mul s k)) (whole (pos 0)) ≡ true
    falling e =
        ⊎_elim (λ f. absurd (both_ways (below s (whole (pos 0))) from f)) (λ c. ⊎_elim still (later e) c)
        (below_cases s (whole (pos 0)) low_s (IsReduced-whole (pos 0)))

-- a line whose slope isn't zero is zero at `neg v / k`
pub line_root : (v k : Fraction) → IsReduced v → 0 < k.den → (k.num ≡ pos 0 → ⊥) → add v (mul (div (neg v) k) k) ≡ whole (pos 0)
line_root v k low o apart = ap (add v) (mul-div (neg v) k (IsReduced-neg v low) o apart) ∙ add-neg v v ∙ sub-self v low.above
