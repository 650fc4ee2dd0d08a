-- Identities of whole numbers. Each number is a difference of two naturals, and a sum, a difference or a product of such
-- differences is one again, so that an identity of ℤ becomes one of ℕ, which `omega arith` decides:
--     let x = as_dif a in let y = as_dif b in rw (x.2, y.2) (simp (pos-dif, plus-dif, minus-dif, times-dif) (same_dif _ _ _ _ (omega arith)))
use Rattle.std.specs.Prelude.{◌≡◌, ◌⊎◌, ℕ, suc, ◌+◌, ◌*◌, ◌/◌, ◌<◌, ℤ, pos, negsuc, ◌+ℤ◌, ◌-ℤ◌, ◌*ℤ◌, Bool, true, false, nat_lt, int_lt, int_div, unsigned_abs}
use Rattle.std.proofs.Common.{refl, sym, ap, ap₂, ◌∙◌, inl, inr, arith}
use Rattle.std.proofs.lemmas.Int.{ints, unsigned_abs-mul}
use Rattle.std.proofs.lemmas.Bool.{ltb-true, lt-ltb, cases_Bool}
use native.Mathlib.Nat.{eq_of_mul-eq-mul_right, eq-zero-or-pos, zero-mul, div-eq_of_eq-mul_left, mul-lt-mul_of_pos_right, lt_of_mul-lt-mul_right}
use borrow.Author.Differences.{up, down, product_is, same_in, quot_is, true_is_lt, false_is_lt}

-- the whole number that is `p` less `q`
unfoldable pub dif : ℕ → ℕ → ℤ
dif p q = pos p -ℤ pos q

-- each whole number is such a difference
pub as_dif : (a : ℤ) → (p : ℕ) × (q : ℕ) × (a ≡ dif p q)
unfolding dif
as_dif (pos n) = (n, 0, omega (arith, ints))
as_dif (negsuc n) = (0, suc n, omega (arith, ints))

-- two differences are equal where the sums crosswise are
pub same_dif : (p q r s : ℕ) → p + s ≡ r + q → dif p q ≡ dif r s
unfolding dif
same_dif p q r s e = omega (arith, ints)

-- and the other way round
pub same_dif_out : (p q r s : ℕ) → dif p q ≡ dif r s → p + s ≡ r + q
unfolding dif
same_dif_out p q r s e = omega (arith, ints)

-- a natural is the difference of itself and 0
pub pos-dif : (n : ℕ) → pos n ≡ dif n 0
unfolding dif
pos-dif n = omega (arith, ints)

-- a sum of two differences is one
pub plus-dif : (p q r s : ℕ) → dif p q +ℤ dif r s ≡ dif (p + r) (q + s)
unfolding dif
plus-dif p q r s = omega (arith, ints)

-- a difference of two differences is one
pub minus-dif : (p q r s : ℕ) → dif p q -ℤ dif r s ≡ dif (p + s) (q + r)
unfolding dif
minus-dif p q r s = omega (arith, ints)

parts-dif : (p q : ℕ) → up (dif p q) + q ≡ p + down (dif p q)
unfolding dif
parts-dif p q = omega (arith, ints)

mul_parts : (p q r s a b c d : ℕ) → a + q ≡ p + b → c + s ≡ r + d → (a * c + b * d) + (p * s + q * r) ≡ (p * r + q * s) + (a * d + b * c)
mul_parts p q r s a b c d e f =
    omega (arith, ap (λ t. t * c) e, ap (λ t. t * d) e, ap (λ t. p * t) f, ap (λ t. q * t) f)

-- a product of two differences is one
pub times-dif : (p q r s : ℕ) → dif p q *ℤ dif r s ≡ dif (p * r + q * s) (p * s + q * r)
times-dif p q r s =
    let x = dif p q in
    let y = dif r s in
    let left = product_is x y in
    let right = parts-dif (p * r + q * s) (p * s + q * r) in
    let both = mul_parts p q r s (up x) (down x) (up y) (down y) (parts-dif p q) (parts-dif r s) in
    same_in (x *ℤ y) (dif (p * r + q * s) (p * s + q * r)) (omega arith)

-- ---- sums

-- zero added changes nothing
pub plus-zero : (a : ℤ) → a +ℤ pos 0 ≡ a
plus-zero a = omega (arith, ints)

-- and so the other way round
pub zero-plus : (a : ℤ) → pos 0 +ℤ a ≡ a
zero-plus a = omega (arith, ints)

-- summands change places
pub plus_comm : (a b : ℤ) → a +ℤ b ≡ b +ℤ a
plus_comm a b = omega (arith, ints)

-- sums of three, bracketed either way
pub plus_assoc : (a b c : ℤ) → (a +ℤ b) +ℤ c ≡ a +ℤ (b +ℤ c)
plus_assoc a b c = omega (arith, ints)

-- a number less itself is zero
pub minus-self : (a : ℤ) → a -ℤ a ≡ pos 0
minus-self a = omega (arith, ints)

-- ---- products

-- factors change places
pub times_comm : (a b : ℤ) → a *ℤ b ≡ b *ℤ a
times_comm a b =
    let x = as_dif a in let y = as_dif b in
    rw (x.2, y.2) (simp times-dif (same_dif _ _ _ _ (omega arith)))

-- products of three, bracketed either way
pub times_assoc : (a b c : ℤ) → (a *ℤ b) *ℤ c ≡ a *ℤ (b *ℤ c)
times_assoc a b c =
    let x = as_dif a in let y = as_dif b in let z = as_dif c in
    rw (x.2, y.2, z.2) (simp times-dif (same_dif _ _ _ _ (omega arith)))

-- a factor goes over a sum from the right
pub plus-times : (a b c : ℤ) → (a +ℤ b) *ℤ c ≡ a *ℤ c +ℤ b *ℤ c
plus-times a b c =
    let x = as_dif a in let y = as_dif b in let z = as_dif c in
    rw (x.2, y.2, z.2) (simp (times-dif, plus-dif) (same_dif _ _ _ _ (omega arith)))

-- over a difference from the right
pub minus-times : (a b c : ℤ) → (a -ℤ b) *ℤ c ≡ a *ℤ c -ℤ b *ℤ c
minus-times a b c =
    let x = as_dif a in let y = as_dif b in let z = as_dif c in
    rw (x.2, y.2, z.2) (simp (times-dif, minus-dif) (same_dif _ _ _ _ (omega arith)))

-- over a sum from the left
pub times-plus : (a b c : ℤ) → a *ℤ (b +ℤ c) ≡ a *ℤ b +ℤ a *ℤ c
times-plus a b c =
    let x = as_dif a in let y = as_dif b in let z = as_dif c in
    rw (x.2, y.2, z.2) (simp (times-dif, plus-dif) (same_dif _ _ _ _ (omega arith)))

-- over a difference from the left
pub times-minus : (a b c : ℤ) → a *ℤ (b -ℤ c) ≡ a *ℤ b -ℤ a *ℤ c
times-minus a b c =
    let x = as_dif a in let y = as_dif b in let z = as_dif c in
    rw (x.2, y.2, z.2) (simp (times-dif, minus-dif) (same_dif _ _ _ _ (omega arith)))

-- the factor one changes nothing
pub times-one : (a : ℤ) → a *ℤ pos 1 ≡ a
times-one a = omega (arith, ints)

-- and so from the left
pub one-times : (a : ℤ) → pos 1 *ℤ a ≡ a
one-times a = times_comm (pos 1) a ∙ times-one a

-- the factor zero gives zero
pub times-zero : (a : ℤ) → a *ℤ pos 0 ≡ pos 0
times-zero a = omega (arith, ints)

-- and so from the left
pub zero-times : (a : ℤ) → pos 0 *ℤ a ≡ pos 0
zero-times a = times_comm (pos 0) a ∙ times-zero a

-- the middle factors of two products change places
pub times_swap : (a b c d : ℤ) → (a *ℤ b) *ℤ (c *ℤ d) ≡ (a *ℤ c) *ℤ (b *ℤ d)
times_swap a b c d =
    let x = as_dif a in let y = as_dif b in let z = as_dif c in let u = as_dif d in
    rw (x.2, y.2, z.2, u.2) (simp times-dif (same_dif _ _ _ _ (omega arith)))

-- a product of naturals as one of whole numbers
pub pos-times : (m n : ℕ) → pos (m * n) ≡ pos m *ℤ pos n
pos-times m n = refl

-- a positive factor is taken away from both sides
pub cancel : (a b : ℤ) (d : ℕ) → 0 < d → a *ℤ pos d ≡ b *ℤ pos d → a ≡ b
cancel a b d above e =
    let x = as_dif a in let y = as_dif b in
    x.2 ∙ same_dif x.0 x.1 y.0 y.1 (cancel_parts x.0 x.1 y.0 y.1 d above (crossed a b d x.0 x.1 y.0 y.1 x.2 y.2 e)) ∙ sym y.2
  where
    cancel_parts : (p q r s d : ℕ) → 0 < d → p * d + s * d ≡ r * d + q * d → p + s ≡ r + q
    cancel_parts p q r s d above e = eq_of_mul-eq-mul_right d above (p + s) (r + q) (omega arith)

    crossed : (a b : ℤ) (d p q r s : ℕ) → a ≡ dif p q → b ≡ dif r s → a *ℤ pos d ≡ b *ℤ pos d → p * d + s * d ≡ r * d + q * d
    crossed a b d p q r s u v e =
        let l : dif (p * d + q * 0) (p * 0 + q * d) ≡ dif (r * d + s * 0) (r * 0 + s * d) =
        sym (times-dif p q d 0) ∙ ap (λ t. t *ℤ dif d 0) (sym u) ∙ ap (λ t. a *ℤ t) (sym (pos-dif d)) ∙ e ∙ ap (λ t. b *ℤ t) (pos-dif d) ∙ ap (λ t. t *ℤ dif d 0) v ∙ times-dif r s d 0 in
        omega (arith, same_dif_out _ _ _ _ l)

-- ---- signs and absolute values

-- only zero has the absolute value 0
pub zero_of_abs : (a : ℤ) → unsigned_abs a ≡ 0 → a ≡ pos 0
zero_of_abs (pos n) e = ap pos e
zero_of_abs (negsuc n) e = absurd (omega arith)

-- a product is zero only where a factor is
pub times-eq-zero : (a b : ℤ) → a *ℤ b ≡ pos 0 → (a ≡ pos 0) ⊎ (b ≡ pos 0)
times-eq-zero a b e = elim (eq-zero-or-pos (unsigned_abs b)) [
  | inl zero_b ↦ inr (zero_of_abs b zero_b)
  | inr above ↦ inl (zero_of_abs a (eq_of_mul-eq-mul_right (unsigned_abs b) above (unsigned_abs a) 0 (sym (unsigned_abs-mul a b) ∙ ap unsigned_abs e ∙ sym (zero-mul (unsigned_abs b)))))
]

-- the absolute value of a product with a natural
pub abs-times : (a : ℤ) (k : ℕ) → unsigned_abs (a *ℤ pos k) ≡ unsigned_abs a * k
abs-times a k = unsigned_abs-mul a (pos k)

-- a negative has the same absolute value
pub abs-minus : (a : ℤ) → unsigned_abs (pos 0 -ℤ a) ≡ unsigned_abs a
abs-minus a = omega (arith, ints)

-- a number of each sign is its absolute value with that sign
pub is_abs : (a : ℤ) → int_lt a (pos 0) ≡ false → a ≡ pos (unsigned_abs a)
is_abs a e = omega (arith, ints)

-- and a number below zero is the negative of it
pub is_minus_abs : (a : ℤ) → int_lt a (pos 0) ≡ true → a ≡ pos 0 -ℤ pos (unsigned_abs a)
is_minus_abs a e = omega (arith, ints)

-- ---- tests

-- two tests are equal where each follows from the other
pub same_test : (x y : Bool) → (x ≡ true → y ≡ true) → (y ≡ true → x ≡ true) → x ≡ y
same_test true y f g = sym (f refl)
same_test false true f g = g refl
same_test false false f g = refl

-- two tests of naturals are equal where each order gives the other
pub same_below : (a b c d : ℕ) → (a < b → c < d) → (c < d → a < b) → nat_lt a b ≡ nat_lt c d
same_below a b c d f g =
    same_test (nat_lt a b) (nat_lt c d) (λ e. lt-ltb c d (f (ltb-true a b e))) (λ e. lt-ltb a b (g (ltb-true c d e)))

-- a test of two differences is one of the sums crosswise
pub lt-dif : (p q r s : ℕ) → int_lt (dif p q) (dif r s) ≡ nat_lt (p + s) (r + q)
unfolding dif
lt-dif p q r s =
    same_test (int_lt (pos p -ℤ pos q) (pos r -ℤ pos s)) (nat_lt (p + s) (r + q))
    (λ e. lt-ltb (p + s) (r + q) (omega (arith, ints)))
    (λ e. let h = ltb-true (p + s) (r + q) e in sym (true_is_lt (pos p -ℤ pos q) (pos r -ℤ pos s) (omega (arith, ints))))

-- a summand on both sides keeps the order
pub lt-plus : (a b c : ℤ) → int_lt (a +ℤ c) (b +ℤ c) ≡ int_lt a b
lt-plus a b c =
    let x = as_dif a in let y = as_dif b in let z = as_dif c in
    rw (x.2, y.2, z.2) (simp (plus-dif, lt-dif) (same_below _ _ _ _ (λ h. omega arith) (λ h. omega arith)))

-- `a` is below `b` where `b` less `a` is above zero
pub lt-minus : (a b : ℤ) → int_lt (pos 0) (b -ℤ a) ≡ int_lt a b
lt-minus a b =
    let x = as_dif a in let y = as_dif b in
    rw (x.2, y.2) (simp (pos-dif, minus-dif, lt-dif) (same_below _ _ _ _ (λ h. omega arith) (λ h. omega arith)))

-- negatives are in the opposite order
pub lt-neg : (a b : ℤ) → int_lt (pos 0 -ℤ a) (pos 0 -ℤ b) ≡ int_lt b a
lt-neg a b =
    let x = as_dif a in let y = as_dif b in
    rw (x.2, y.2) (simp (pos-dif, minus-dif, lt-dif) (same_below _ _ _ _ (λ h. omega arith) (λ h. omega arith)))

-- a positive factor keeps the order
pub lt-times : (a b : ℤ) (k : ℕ) → 0 < k → int_lt (a *ℤ pos k) (b *ℤ pos k) ≡ int_lt a b
lt-times a b k above =
    let x = as_dif a in let y = as_dif b in
    rw (x.2, y.2) (simp (pos-dif, times-dif, lt-dif) (same_below _ _ _ _ (smaller x.0 x.1 y.0 y.1) (larger x.0 x.1 y.0 y.1)))
  where
    smaller : (p q r s : ℕ) → (p * k + q * 0) + (r * 0 + s * k) < (r * k + s * 0) + (p * 0 + q * k) → p + s < r + q
    smaller p q r s h = lt_of_mul-lt-mul_right k (let l : (p + s) * k < (r + q) * k = omega arith in l)

    larger : (p q r s : ℕ) → p + s < r + q → (p * k + q * 0) + (r * 0 + s * k) < (r * k + s * 0) + (p * 0 + q * k)
    larger p q r s h = let l : (p + s) * k < (r + q) * k = mul-lt-mul_of_pos_right h above in omega arith

-- the sign of a product with a positive factor is the other factor's
pub lt-zero-times : (a : ℤ) (k : ℕ) → 0 < k → int_lt (a *ℤ pos k) (pos 0) ≡ int_lt a (pos 0)
lt-zero-times a k above = ap (int_lt (a *ℤ pos k)) (sym (zero-times (pos k))) ∙ lt-times a (pos 0) k above

-- a product of two numbers above zero is above zero
pub above-times : (a b : ℤ) → int_lt (pos 0) a ≡ true → int_lt (pos 0) b ≡ true → int_lt (pos 0) (a *ℤ b) ≡ true
above-times a b e f =
    let size : b ≡ pos (unsigned_abs b) = omega (arith, ints) in
    ap₂ int_lt (sym (zero-times (pos (unsigned_abs b)))) (ap (λ t. a *ℤ t) size) ∙ lt-times (pos 0) a (unsigned_abs b) (omega (arith, ints)) ∙ e

-- of one below and one above zero it is below zero
pub below-times : (a b : ℤ) → int_lt a (pos 0) ≡ true → int_lt (pos 0) b ≡ true → int_lt (a *ℤ b) (pos 0) ≡ true
below-times a b e f =
    let size : b ≡ pos (unsigned_abs b) = omega (arith, ints) in
    ap₂ int_lt (ap (λ t. a *ℤ t) size) (sym (zero-times (pos (unsigned_abs b)))) ∙ lt-times a (pos 0) (unsigned_abs b) (omega (arith, ints)) ∙ e

-- of two below zero it is above zero
pub below-times_below : (a b : ℤ) → int_lt a (pos 0) ≡ true → int_lt b (pos 0) ≡ true → int_lt (pos 0) (a *ℤ b) ≡ true
below-times_below a b e f =
    let turned : a *ℤ b ≡ (pos 0 -ℤ a) *ℤ (pos 0 -ℤ b) = both a b in
    ap (int_lt (pos 0)) turned ∙ above-times (pos 0 -ℤ a) (pos 0 -ℤ b) (sym (true_is_lt (pos 0) (pos 0 -ℤ a) (omega (arith, ints)))) (sym (true_is_lt (pos 0) (pos 0 -ℤ b) (omega (arith, ints))))
  where
    both : (a b : ℤ) → a *ℤ b ≡ (pos 0 -ℤ a) *ℤ (pos 0 -ℤ b)
    both a b =
        let x = as_dif a in let y = as_dif b in
        rw (x.2, y.2) (simp (pos-dif, minus-dif, times-dif) (same_dif _ _ _ _ (omega arith)))

-- of two numbers one is below the other, or they are equal
pub lt_cases : (a b : ℤ) → (int_lt a b ≡ true) ⊎ ((a ≡ b) ⊎ (int_lt b a ≡ true))
lt_cases a b = elim (cases_Bool (int_lt a b)) [
  | inl e ↦ inl e
  | inr e ↦ elim (cases_Bool (int_lt b a)) [
    | inl f ↦ inr (inr f)
    | inr f ↦ inr (inl (omega (arith, ints)))
  ]
]

-- no number is below itself
pub lt_irrefl : (a : ℤ) → int_lt a a ≡ false
lt_irrefl a = sym (false_is_lt a a (omega arith))

-- what is below a number is below all that this is below
pub lt_trans : (a b c : ℤ) → int_lt a b ≡ true → int_lt b c ≡ true → int_lt a c ≡ true
lt_trans a b c e f = sym (true_is_lt a c (omega (arith, ints)))

-- `false` at one order is at most at the other
pub lt_le_trans : (a b c : ℤ) → int_lt a b ≡ true → int_lt c b ≡ false → int_lt a c ≡ true
lt_le_trans a b c e f = sym (true_is_lt a c (omega (arith, ints)))

-- the same, begun by at most
pub le_lt_trans : (a b c : ℤ) → int_lt b a ≡ false → int_lt b c ≡ true → int_lt a c ≡ true
le_lt_trans a b c e f = sym (true_is_lt a c (omega (arith, ints)))

-- the same with at most alone
pub le_le_trans : (a b c : ℤ) → int_lt b a ≡ false → int_lt c b ≡ false → int_lt c a ≡ false
le_le_trans a b c e f = sym (false_is_lt c a (omega (arith, ints)))

-- ---- quotients

-- a product divided by its positive factor
pub div-times : (a : ℤ) (k : ℕ) → 0 < k → int_div (a *ℤ pos k) (pos k) ≡ a
div-times a k above =
    let u = quot_is (a *ℤ pos k) k in
    let v = product_is a (pos k) in
    let w : (up a * k + down a * 0) / k ≡ up a = div-eq_of_eq-mul_left above (omega arith) in
    let z : (up a * 0 + down a * k) / k ≡ down a = div-eq_of_eq-mul_left above (omega arith) in
    same_in (int_div (a *ℤ pos k) (pos k)) a
    (cc_sum (u.0 ∙ ap (λ t. t / k) v.0 ∙ w) (u.1 ∙ ap (λ t. t / k) v.1 ∙ z))
  where
    cc_sum : {m n m' n' : ℕ} → m ≡ m' → n ≡ n' → m + n' ≡ m' + n
    cc_sum e f = omega arith
