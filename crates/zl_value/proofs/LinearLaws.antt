-- Laws of lines. A number that is `a` at moment 0 and has the slope `k` is `add a (mul s k)` at moment `s`: sums, differences and
-- negatives of lines are lines, and so are products and quotients with a number that stands still. And differences of sums,
-- products and quotients, by which a slope is made from slopes.
use Rattle.std.specs.Prelude.{◌≡◌, ℕ, ◌*◌, ℤ, pos, ◌+ℤ◌, ◌*ℤ◌}
use Rattle.std.proofs.Common.{sym, ap, ap₂, ◌∙◌, arith}
use Rattle.zl_value.specs.Fraction.{Fraction, IsReduced, add, sub, mul, neg, div, whole}
use Rattle.zl_value.proofs.Ring.{as_dif, same_dif, pos-dif, plus-dif, times-dif}
use Rattle.zl_value.proofs.Ratios.{is_self, is_equal, is_unique, is_add}
use Rattle.zl_value.proofs.FractionLaws.{IsReduced-add, IsReduced-sub, IsReduced-mul, IsReduced-neg, IsReduced-div, IsReduced-whole, add_comm, add_assoc, add-zero, add-neg, sub-add, neg-add, mul_comm, mul_assoc, mul-one, one-mul, mul-zero, zero-mul, mul-add, add-mul, mul-neg, mul-sub, mul-div, div_unique}

-- ---- sums and differences of two sums

swapped : (a b c d : ℤ) (p q r t : ℕ) → (a *ℤ pos q +ℤ b *ℤ pos p) *ℤ pos (r * t) +ℤ (c *ℤ pos t +ℤ d *ℤ pos r) *ℤ pos (p * q) ≡ (a *ℤ pos r +ℤ c *ℤ pos p) *ℤ pos (q * t) +ℤ (b *ℤ pos t +ℤ d *ℤ pos q) *ℤ pos (p * r)
swapped a b c d p q r t =
    let x = as_dif a in let y = as_dif b in let z = as_dif c in let u = as_dif d in
    rw (x.2, y.2, z.2, u.2) (simp (pos-dif, times-dif, plus-dif) (same_dif _ _ _ _ (omega arith)))

-- the middle summands of two sums change places
pub add_swap : (a b c d : Fraction) → IsReduced a → IsReduced b → IsReduced c → IsReduced d → add (add a b) (add c d) ≡ add (add a c) (add b d)
add_swap a b c d p q r t =
    let left = is_add (is_add (is_self a p.above) (is_self b q.above)) (is_add (is_self c r.above) (is_self d t.above)) in
    let right = is_add (is_add (is_self a p.above) (is_self c r.above)) (is_add (is_self b q.above) (is_self d t.above)) in
    let dens : (a.den * b.den) * (c.den * d.den) ≡ (a.den * c.den) * (b.den * d.den) = omega arith in
    is_unique
    (IsReduced-add (add a b) (add c d) (IsReduced-add a b p.above q.above).above (IsReduced-add c d r.above t.above).above)
    (IsReduced-add (add a c) (add b d) (IsReduced-add a c p.above r.above).above (IsReduced-add b d q.above t.above).above)
    (is_equal (swapped a.num b.num c.num d.num a.den b.den c.den d.den) dens left) right

-- a difference of sums is the sum of the differences
pub sub_of_sums : (a b c d : Fraction) → IsReduced a → IsReduced b → IsReduced c → IsReduced d → sub (add a b) (add c d) ≡ add (sub a c) (sub b d)
sub_of_sums a b c d p q r t =
    sym (add-neg (add a b) (add c d)) ∙ ap (add (add a b)) (neg-add c d r.above t.above)
    ∙ add_swap a b (neg c) (neg d) p q (IsReduced-neg c r) (IsReduced-neg d t) ∙ ap₂ add (add-neg a c) (add-neg b d)

-- a difference of differences is the difference of the differences
pub sub_of_differences : (a b c d : Fraction) → IsReduced a → IsReduced b → IsReduced c → IsReduced d → sub (sub a b) (sub c d) ≡ sub (sub a c) (sub b d)
sub_of_differences a b c d p q r t =
    ap₂ sub (sym (add-neg a b)) (sym (add-neg c d)) ∙ sub_of_sums a (neg b) c (neg d) p (IsReduced-neg b q) r (IsReduced-neg d t)
    ∙ ap (add (sub a c)) (sym (add-neg (neg b) (neg d)) ∙ sym (neg-add b (neg d) q.above (IsReduced-neg d t).above) ∙ ap neg (add-neg b d))
    ∙ add-neg (sub a c) (sub b d)

-- a difference of negatives is the negative of the difference
pub sub_of_negatives : (a b : Fraction) → IsReduced a → IsReduced b → sub (neg a) (neg b) ≡ neg (sub a b)
sub_of_negatives a b p q = sym (add-neg (neg a) (neg b)) ∙ sym (neg-add a (neg b) p.above (IsReduced-neg b q).above) ∙ ap neg (add-neg a b)

-- a common factor goes out of a difference, from the left
pub sub_of_products : (c a b : Fraction) → IsReduced c → IsReduced a → IsReduced b → sub (mul c a) (mul c b) ≡ mul c (sub a b)
sub_of_products c a b r p q = sym (mul-sub c a b r.above p.above q.above)

-- and from the right
pub sub_of_products_right : (a b c : Fraction) → IsReduced a → IsReduced b → IsReduced c → sub (mul a c) (mul b c) ≡ mul (sub a b) c
sub_of_products_right a b c p q r = ap₂ sub (mul_comm a c) (mul_comm b c) ∙ sub_of_products c a b r p q ∙ mul_comm c (sub a b)

-- ---- quotients by a number that stands still

-- a quotient is a product with one over the divisor
pub mul-inverse : (a c : Fraction) → IsReduced a → IsReduced c → (c.num ≡ pos 0 → ⊥) → mul a (div (whole (pos 1)) c) ≡ div a c
mul-inverse a c p r apart =
    let unit = IsReduced-whole (pos 1) in
    let inverse = IsReduced-div (whole (pos 1)) c unit.above apart in
    sym (div_unique a c (mul a (div (whole (pos 1)) c)) (IsReduced-mul a (div (whole (pos 1)) c) p.above inverse.above) r.above apart
    (mul_assoc a (div (whole (pos 1)) c) c p.above inverse.above r.above ∙ ap (mul a) (mul-div (whole (pos 1)) c unit r.above apart) ∙ mul-one a p))

-- a divisor goes over a sum
pub div_of_sum : (a b c : Fraction) → IsReduced a → IsReduced b → IsReduced c → (c.num ≡ pos 0 → ⊥) → div (add a b) c ≡ add (div a c) (div b c)
div_of_sum a b c p q r apart =
    let first = IsReduced-div a c p.above apart in
    let second = IsReduced-div b c q.above apart in
    div_unique (add a b) c (add (div a c) (div b c)) (IsReduced-add (div a c) (div b c) first.above second.above) r.above apart
    (add-mul (div a c) (div b c) c first.above second.above r.above ∙ ap₂ add (mul-div a c p r.above apart) (mul-div b c q r.above apart))

-- a divisor goes to the second factor
pub div_of_product : (s k c : Fraction) → IsReduced s → IsReduced k → IsReduced c → (c.num ≡ pos 0 → ⊥) → div (mul s k) c ≡ mul s (div k c)
div_of_product s k c o p r apart =
    let quotient = IsReduced-div k c p.above apart in
    div_unique (mul s k) c (mul s (div k c)) (IsReduced-mul s (div k c) o.above quotient.above) r.above apart
    (mul_assoc s (div k c) c o.above quotient.above r.above ∙ ap (mul s) (mul-div k c p r.above apart))

-- a common divisor goes out of a difference
pub sub_of_quotients : (a b c : Fraction) → IsReduced a → IsReduced b → IsReduced c → (c.num ≡ pos 0 → ⊥) → sub (div a c) (div b c) ≡ div (sub a b) c
sub_of_quotients a b c p q r apart =
    let inverse = IsReduced-div (whole (pos 1)) c (IsReduced-whole (pos 1)).above apart in
    ap₂ sub (sym (mul-inverse a c p r apart)) (sym (mul-inverse b c q r apart))
    ∙ sub_of_products_right a b (div (whole (pos 1)) c) p q inverse
    ∙ mul-inverse (sub a b) c (IsReduced-sub a b p.above q.above) r apart

-- ---- lines

-- a line's value at moment 0
pub line_at_zero : (a k : Fraction) → IsReduced a → IsReduced k → add a (mul (whole (pos 0)) k) ≡ a
line_at_zero a k p o = ap (add a) (zero-mul k o.above) ∙ add-zero a p

-- a line of slope 0 stands still
pub line_still : (a s : Fraction) → IsReduced a → IsReduced s → add a (mul s (whole (pos 0))) ≡ a
line_still a s p o = ap (add a) (mul-zero s o.above) ∙ add-zero a p

-- a line's value at 1 less its value at 0 is its slope
pub line_slope : (a k : Fraction) → IsReduced a → IsReduced k → sub (add a (mul (whole (pos 1)) k)) (add a (mul (whole (pos 0)) k)) ≡ k
line_slope a k p o =
    ap₂ sub (ap (add a) (one-mul k o) ∙ add_comm a k) (line_at_zero a k p o) ∙ sub-add k a o p.above

-- a line seen from moment `s` on is a line of the same slope
pub line_later : (a k s t : Fraction) → IsReduced a → IsReduced k → IsReduced s → IsReduced t → add (add a (mul s k)) (mul t k) ≡ add a (mul (add s t) k)
line_later a k s t p o q r =
    add_assoc a (mul s k) (mul t k) p.above (IsReduced-mul s k q.above o.above).above (IsReduced-mul t k r.above o.above).above
    ∙ ap (add a) (sym (add-mul s t k q.above r.above o.above))

-- a sum of lines
pub line_sum : (a b k l s : Fraction) → IsReduced a → IsReduced b → IsReduced k → IsReduced l → IsReduced s → add (add a (mul s k)) (add b (mul s l)) ≡ add (add a b) (mul s (add k l))
line_sum a b k l s p q o n r =
    add_swap a (mul s k) b (mul s l) p (IsReduced-mul s k r.above o.above) q (IsReduced-mul s l r.above n.above)
    ∙ ap (add (add a b)) (sym (mul-add s k l r.above o.above n.above))

-- a difference of lines
pub line_difference : (a b k l s : Fraction) → IsReduced a → IsReduced b → IsReduced k → IsReduced l → IsReduced s → sub (add a (mul s k)) (add b (mul s l)) ≡ add (sub a b) (mul s (sub k l))
line_difference a b k l s p q o n r =
    sub_of_sums a (mul s k) b (mul s l) p (IsReduced-mul s k r.above o.above) q (IsReduced-mul s l r.above n.above)
    ∙ ap (add (sub a b)) (sub_of_products s k l r o n)

-- the negative of a line
pub line_negated : (a k s : Fraction) → IsReduced a → IsReduced k → IsReduced s → neg (add a (mul s k)) ≡ add (neg a) (mul s (neg k))
line_negated a k s p o r =
    neg-add a (mul s k) p.above (IsReduced-mul s k r.above o.above).above ∙ ap (add (neg a)) (sym (mul-neg s k r.above o.above))

-- a line times a number that stands still
pub line_times : (a k s c : Fraction) → IsReduced a → IsReduced k → IsReduced s → IsReduced c → mul (add a (mul s k)) c ≡ add (mul a c) (mul s (mul k c))
line_times a k s c p o r t =
    add-mul a (mul s k) c p.above (IsReduced-mul s k r.above o.above).above t.above
    ∙ ap (add (mul a c)) (mul_assoc s k c r.above o.above t.above)

-- and the other way round
pub times_line : (c a k s : Fraction) → IsReduced c → IsReduced a → IsReduced k → IsReduced s → mul c (add a (mul s k)) ≡ add (mul c a) (mul s (mul c k))
times_line c a k s t p o r =
    mul_comm c (add a (mul s k)) ∙ line_times a k s c p o r t ∙ ap₂ add (mul_comm a c) (ap (mul s) (mul_comm k c))

-- a line divided by a number that stands still and isn't zero
pub line_divided : (a k s c : Fraction) → IsReduced a → IsReduced k → IsReduced s → IsReduced c → (c.num ≡ pos 0 → ⊥) → div (add a (mul s k)) c ≡ add (div a c) (mul s (div k c))
line_divided a k s c p o r t apart =
    div_of_sum a (mul s k) c p (IsReduced-mul s k r.above o.above) t apart ∙ ap (add (div a c)) (div_of_product s k c r o t apart)
