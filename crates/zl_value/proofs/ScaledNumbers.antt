-- What a number without the zeros at its end is, and when it is accepted.
use Rattle.std.proofs.Common.{◌≡◌, ℕ, ◌+◌, ◌*◌, ◌/◌, ◌%◌, ◌^◌, ◌<◌, ◌≤◌, zero, suc, ℤ, pos, negsuc, ◌+ℤ◌, ◌-ℤ◌, Bool, true, false, cond, Some, None, eqb, ltb, sym, ◌∙◌, ap, arith, refl, inl, inr, ◌&&◌, int_le, ◌<ℤ◌, min}
use Rattle.std.proofs.Math.Nat.{pow-suc, le-mul_of_pos_right}
use Rattle.std.proofs.lemmas.Bool.{cases_lt, eq-eqb, ne_eqb, eqb-true, eqb-false, le-ltb, and_left, and_right}
use Rattle.std.proofs.lemmas.Int.{ints}
use Rattle.zl_value.specs.Decimal.{Scaled, shortened, accepted}
use Rattle.zl_value.specs.Fraction.{whole}
use Rattle.zl_value.specs.Significand.{IsLong, with_zeros, most, counted}
use Rattle.zl_value.proofs.Significands.{with_zeros-suc}

-- zero stays zero
pub shortened-zero : (turns : ℕ) (e : ℤ) → (shortened turns 0 e).number ≡ 0
shortened-zero zero e = refl
shortened-zero (suc turns) e = shortened-zero turns (e +ℤ pos 1)

-- with at least as many turns as there are zeros at the end, all of them go into the power
pub shortened-by : (turns zeros n m : ℕ) (e : ℤ) → (n % 10 ≡ 0 → ⊥) → m ≡ with_zeros n zeros → zeros ≤ turns → shortened turns m e ≡ record { number = n; power = e +ℤ pos zeros }
shortened-by zero zero n m e last is few =
    let number : m ≡ n = omega arith in
    let power : e ≡ e +ℤ pos 0 = omega (arith, ints) in
    ap (λ (k : ℕ). record { number = k; power = e }) number ∙ ap (λ (p : ℤ). record { number = n; power = p }) power
shortened-by zero (suc count) n m e last is few = absurd (omega arith)
shortened-by (suc turns) zero n m e last is few =
    let number : m ≡ n = omega arith in
    let power : e ≡ e +ℤ pos 0 = omega (arith, ints) in
    let test : eqb (m % 10) 0 ≡ false = ne_eqb (m % 10) 0 (λ h. last (ap (λ k. k % 10) (sym number) ∙ h)) in
    ap (λ (b : Bool). cond b (shortened turns (m / 10) (e +ℤ pos 1)) (record { number = m; power = e })) test
    ∙ ap (λ (k : ℕ). record { number = k; power = e }) number ∙ ap (λ (p : ℤ). record { number = n; power = p }) power
shortened-by (suc turns) (suc count) n m e last is few =
    let tens : m ≡ with_zeros n count * 10 = is ∙ with_zeros-suc n count in
    let test : eqb (m % 10) 0 ≡ true = eq-eqb (m % 10) 0 (omega arith) in
    let rest : m / 10 ≡ with_zeros n count = omega arith in
    let power : e +ℤ pos 1 +ℤ pos count ≡ e +ℤ pos (suc count) = omega (arith, ints) in
    ap (λ (b : Bool). cond b (shortened turns (m / 10) (e +ℤ pos 1)) (record { number = m; power = e })) test
    ∙ shortened-by turns count n (m / 10) (e +ℤ pos 1) last rest (omega arith)
    ∙ ap (λ (p : ℤ). record { number = n; power = p }) power

pub long_above : (m : ℕ) → IsLong m → 10 ^ 38 ≤ m
long_above m h =
    let some : 0 < 10 ^ h.behind = omega (arith, h.below) in
    let above : h.front ≤ h.front * 10 ^ h.behind = le-mul_of_pos_right h.front some in
    omega (arith, h.is, h.long)

long_tenth_at : (m front behind rest : ℕ) → m ≡ with_zeros front behind + rest → rest < 10 ^ behind → (front % 10 ≡ 0 → ⊥) → 10 ^ 38 ≤ front → m % 10 ≡ 0 → IsLong (m / 10)
long_tenth_at m front zero rest is below last long tens =
    let none : rest ≡ 0 = omega arith in
    let whole_is : m ≡ front = omega arith in
    absurd (last (ap (λ k. k % 10) (sym whole_is) ∙ tens))
long_tenth_at m front (suc behind) rest is below last long tens = record {
  front = front;
  behind = behind;
  rest = rest / 10;
  is = omega (arith, with_zeros-suc front behind);
  below = omega (arith, pow-suc 10 behind);
  last = last;
  long = long;
}

-- one zero less at the end of a long number
pub long_tenth : (m : ℕ) → IsLong m → m % 10 ≡ 0 → IsLong (m / 10)
long_tenth m h tens = long_tenth_at m h.front h.behind h.rest h.is h.below h.last h.long tens

-- a long number stays so long
pub shortened-long : (turns m : ℕ) (e : ℤ) → IsLong m → 10 ^ 38 ≤ (shortened turns m e).number
shortened-long zero m e h = long_above m h
shortened-long (suc turns) m e h =
    elim (eqb (m % 10) 0) as (λ (b : Bool). eqb (m % 10) 0 ≡ b → 10 ^ 38 ≤ (cond b (shortened turns (m / 10) (e +ℤ pos 1)) (record { number = m; power = e })).number) [
      | true ↦ λ tens. shortened-long turns (m / 10) (e +ℤ pos 1) (long_tenth m h (eqb-true (m % 10) 0 tens))
      | false ↦ λ _. long_above m h
    ] refl

-- whether a power is one of those that are accepted
abbrev inside : ℤ → Bool
inside power = int_le (negsuc 37) power && int_le power (pos 18)

pub accepted-zero : (s : Scaled) → s.number ≡ 0 → accepted s ≡ Some (whole (pos 0))
accepted-zero s none = rw (eq-eqb s.number 0 none)

pub accepted-long : (s : Scaled) → 10 ^ 38 ≤ s.number → accepted s ≡ None
accepted-long s long =
    rw (ne_eqb s.number 0 (λ h. omega arith), and_left (ltb s.number (10 ^ 38)) (inside s.power) (le-ltb s.number (10 ^ 38) long))

accepted-outside : (n : ℕ) (power : ℤ) → (n ≡ 0 → ⊥) → inside power ≡ false → accepted (record { number = n; power = power }) ≡ None
accepted-outside n power some out = rw (ne_eqb n 0 some, and_right (ltb n (10 ^ 38)) (inside power) out)

inside-above : (power : ℤ) → pos 18 <ℤ power → inside power ≡ false
inside-above power above = and_right (int_le (negsuc 37) power) (int_le power (pos 18)) (grind (arith, ints))

inside-below : (power : ℤ) → power <ℤ negsuc 37 → inside power ≡ false
inside-below power below = and_left (int_le (negsuc 37) power) (int_le power (pos 18)) (grind (arith, ints))

-- two powers that aren't accepted are refused alike
same_outside : (n : ℕ) (p q : ℤ) → inside p ≡ false → inside q ≡ false → accepted (record { number = n; power = p }) ≡ accepted (record { number = n; power = q })
same_outside n p q p_out q_out =
    elim (eqb n 0) as (λ (b : Bool). eqb n 0 ≡ b → accepted (record { number = n; power = p }) ≡ accepted (record { number = n; power = q })) [
      | true ↦ λ none. accepted-zero (record { number = n; power = p }) (eqb-true n 0 none) ∙ sym (accepted-zero (record { number = n; power = q }) (eqb-true n 0 none))
      | false ↦ λ some. accepted-outside n p (eqb-false n 0 some) p_out ∙ sym (accepted-outside n q (eqb-false n 0 some) q_out)
    ] refl

-- an exponent may be counted: past the greatest count, no power is accepted
pub accepted-counted : (n before behind zeros : ℕ) (x : ℤ) → before < 2 ^ 63 → behind < 2 ^ 63 → zeros ≤ before + behind → accepted (record { number = n; power = x -ℤ pos behind +ℤ pos zeros }) ≡ accepted (record { number = n; power = counted x -ℤ pos behind +ℤ pos zeros })
accepted-counted n before behind zeros (pos k) before_short behind_short few =
    elim (cases_lt most k) [
      | inl past ↦ same_outside n (pos k -ℤ pos behind +ℤ pos zeros) (pos (min k most) -ℤ pos behind +ℤ pos zeros)
          (inside-above (pos k -ℤ pos behind +ℤ pos zeros) (omega (arith, ints)))
          (inside-above (pos (min k most) -ℤ pos behind +ℤ pos zeros) (omega (arith, ints)))
      | inr within ↦ (
          let same : k ≡ min k most = omega arith in
          ap (λ (t : ℕ). accepted (record { number = n; power = pos t -ℤ pos behind +ℤ pos zeros })) same)
    ]
accepted-counted n before behind zeros (negsuc k) before_short behind_short few =
    elim (cases_lt most (suc k)) [
      | inl past ↦ same_outside n (negsuc k -ℤ pos behind +ℤ pos zeros) (counted (negsuc k) -ℤ pos behind +ℤ pos zeros)
          (inside-below (negsuc k -ℤ pos behind +ℤ pos zeros) (omega (arith, ints)))
          (inside-below (counted (negsuc k) -ℤ pos behind +ℤ pos zeros) (omega (arith, ints)))
      | inr within ↦ (
          let same : negsuc k ≡ counted (negsuc k) = omega (arith, ints) in
          ap (λ (t : ℤ). accepted (record { number = n; power = t -ℤ pos behind +ℤ pos zeros })) same)
    ]
