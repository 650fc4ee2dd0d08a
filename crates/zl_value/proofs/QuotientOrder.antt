-- The order of two quotients, by their whole parts and by what is left.
use Rattle.std.specs.Prelude.{◌≡◌, ◌⊎◌, ℕ, zero, suc, ◌+◌, ◌*◌, ◌/◌, ◌%◌, ◌<◌, ◌≤◌}
use Rattle.std.specs.Ordering.{nat_cmp}
use Rattle.std.specs.declared.cmp.Ordering.TheVariants.{Less, Equal, Greater}
use Rattle.std.proofs.Common.{refl, sym, ap, ap₂, ◌∙◌, ⊎_elim, inl, inr, arith}
use Rattle.std.proofs.lemmas.Bool.Decides.{nat_tests}
use Rattle.std.proofs.lemmas.Nat.{div-add-mod'}
use Rattle.std.proofs.Math.Nat.{mod-lt, mul_comm, mul-le-mul_right, mul-lt-mul_of_pos_right}

pub less : (x y : ℕ) → x < y → nat_cmp x y ≡ Less
less x y e = grind (arith, nat_tests)

pub equal : (x y : ℕ) → x ≡ y → nat_cmp x y ≡ Equal
equal x y e = grind (arith, nat_tests)

pub greater : (x y : ℕ) → y < x → nat_cmp x y ≡ Greater
greater x y e = grind (arith, nat_tests)

pub trichotomy : (x y : ℕ) → (x < y) ⊎ ((x ≡ y) ⊎ (y < x))
trichotomy zero zero = inr (inl refl)
trichotomy zero (suc y) = inl (omega arith)
trichotomy (suc x) zero = inr (inr (omega arith))
trichotomy (suc x) (suc y) =
    ⊎_elim (λ e. inl (omega arith)) (λ o. ⊎_elim (λ e. inr (inl (ap suc e))) (λ e. inr (inr (omega arith))) o) (trichotomy x y)

-- two pairs are in one order where each order of the first is that of the second
one_order : (x y u v : ℕ) → (x < y → u < v) → (x ≡ y → u ≡ v) → (y < x → v < u) → nat_cmp x y ≡ nat_cmp u v
one_order x y u v below same above =
    ⊎_elim (λ e. less x y e ∙ sym (less u v (below e)))
    (λ o. ⊎_elim (λ e. equal x y e ∙ sym (equal u v (same e))) (λ e. greater x y e ∙ sym (greater u v (above e))) o)
    (trichotomy x y)

smaller_quotient : (a b c d : ℕ) → 0 < b → 0 < d → a / b < c / d → a * d < c * b
smaller_quotient a b c d b_above d_above e =
    parts a b c d (a / b) (c / d) (a % b) (c % d) (div-add-mod' a b) (div-add-mod' c d) (mod-lt a b_above) d_above e
  where
    step : (b d p q r : ℕ) → r < b → 0 < d → p < q → (p * b + r) * d < q * b * d
    step b d p q r rest above e =
        let room : suc p * b ≤ q * b = mul-le-mul_right b e in
        let low : p * b + r < q * b = omega (arith, room) in
        mul-lt-mul_of_pos_right low above

    parts : (a b c d p q r s : ℕ) → p * b + r ≡ a → q * d + s ≡ c → r < b → 0 < d → p < q → a * d < c * b
    parts a b c d p q r s first second rest above e =
        let low = step b d p q r rest above e in
        omega (arith, ap (λ t. t * d) first, ap (λ t. t * b) second, low)

-- different whole parts decide
pub different_quotients : (a b c d : ℕ) → 0 < b → 0 < d → (a / b ≡ c / d → ⊥) → nat_cmp (a / b) (c / d) ≡ nat_cmp (a * d) (c * b)
different_quotients a b c d p q apart =
    one_order (a / b) (c / d) (a * d) (c * b) (smaller_quotient a b c d p q) (λ e. absurd (apart e)) (smaller_quotient c d a b q p)

-- equal ones leave the remainders over what was divided by
pub same_quotients : (a b c d : ℕ) → a / b ≡ c / d → nat_cmp ((a % b) * d) ((c % d) * b) ≡ nat_cmp (a * d) (c * b)
same_quotients a b c d same =
    one_order ((a % b) * d) ((c % d) * b) (a * d) (c * b)
    (λ e. omega (arith, first, second, e)) (λ e. omega (arith, first, second, e)) (λ e. omega (arith, first, second, e))
  where
    first : a / b * (b * d) + (a % b) * d ≡ a * d
    first = omega (arith, ap (λ t. t * d) (div-add-mod' a b))

    second : a / b * (b * d) + (c % d) * b ≡ c * b
    second = omega (arith, ap (λ t. t * (b * d)) same, ap (λ t. t * b) (div-add-mod' c d))

-- where one of them is nothing they decide
pub no_remainder : (r b s d : ℕ) → 0 < b → 0 < d → (r ≡ 0) ⊎ (s ≡ 0) → nat_cmp r s ≡ nat_cmp (r * d) (s * b)
no_remainder zero b zero d p q o = sym (equal (0 * d) (0 * b) (omega arith))
no_remainder zero b (suc s) d p q o = less 0 (suc s) (omega arith) ∙ sym (less (0 * d) (suc s * b) (omega arith))
no_remainder (suc r) b zero d p q o = greater (suc r) 0 (omega arith) ∙ sym (greater (suc r * d) (0 * b) (omega arith))
no_remainder (suc r) b (suc s) d p q o = absurd (⊎_elim (λ e. omega arith) (λ e. omega arith) o)

-- the order of two fractions is the opposite of that of their inverses
pub turned : (r b s d : ℕ) → nat_cmp (d * r) (b * s) ≡ nat_cmp (r * d) (s * b)
turned r b s d = ap₂ nat_cmp (mul_comm d r) (mul_comm b s)
