-- Why a run ends: a step is one less of those that may be made, and a flow moves the time on by as much as two numbers of
-- the width are apart at least.
use Rattle.std.specs.Prelude.{◌≡◌, ℕ, suc, ◌+◌, ◌-◌, ◌*◌, ◌/◌, ◌%◌, ◌<◌, ◌≤◌, ℤ, pos, negsuc, Bool, true, false, ◌&&◌, int_lt, nat_le, ◌*ℤ◌, unsigned_abs}
use Rattle.std.proofs.Common.{refl, sym, ap, ◌∙◌, ⊎_elim, arith, div-add-mod', div-le_self, mod-lt, mul-le-mul, mul-le-mul_right, mul-lt-mul_of_pos_right}
use Rattle.std.proofs.lemmas.Bool.{cases_lt}
use Rattle.std.proofs.lemmas.Bool.Decides.{nat_tests}
use Rattle.zl_value.specs.Fraction.{Fraction, IsFrac, fits, greatest}
use Rattle.zl_value.specs.Order.{below}
use Rattle.zl_value.specs.Script.{IsTime}
use Rattle.zl_value.specs.declared.script.Script.{Script}
use Rattle.zl_value.proofs.FractionOrder.{below_crossed}
use Rattle.zl_run.specs.declared.track.Track.{Track}

-- two numbers that are apart are so by one of the parts, of which `s` are 1
apart : (s n d m e : ℕ) → 0 < d → 0 < e → d * e ≤ s → n * e < m * d → n * s / d < m * s / e
apart s n d m e p q small up = go (n * s / d) (m * s / e) (n * s % d) (m * s % e) (div-add-mod' (n * s) d) (div-add-mod' (m * s) e) (mod-lt (m * s) q)
  where
    go : (x y r u : ℕ) → x * d + r ≡ n * s → y * e + u ≡ m * s → u < e → x < y
    go x y r u first second rest = ⊎_elim (λ (f : x < y). f) (λ (f : y ≤ x). absurd (never f)) (cases_lt x y)
      where
        never : y ≤ x → ⊥
        never f =
            let one : x * d * e + r * e ≡ n * s * e = omega (arith, ap (λ t. t * e) first) in
            let two : y * e * d + u * d ≡ m * s * d = omega (arith, ap (λ t. t * d) second) in
            let three : suc (n * e) * s ≤ m * d * s = mul-le-mul_right s up in
            let four : y * (e * d) ≤ x * (e * d) = mul-le-mul_right (e * d) f in
            let five : suc u * d ≤ e * d = mul-le-mul_right d rest in
            omega (arith, one, two, three, four, five, small, p)

-- how many parts are as much as 1: more than the product of two denominators
pub square : ℕ
square = greatest * greatest

-- all the parts that a time can have
pub most : ℕ
most = greatest * square

-- how many parts of time were run
pub reached : Fraction → ℕ
reached t = unsigned_abs t.num * square / t.den

both_of : (a b : Bool) → (a && b) ≡ true → (a ≡ true) × (b ≡ true)
both_of true b e = (refl, e)
both_of false b e = absurd cc

small_parts : (f : Fraction) → fits f ≡ true → (unsigned_abs f.num ≤ greatest) × (f.den ≤ greatest)
unfolding fits
small_parts f e = let two = both_of _ _ e in (le_from (unsigned_abs f.num) greatest two.0, le_from f.den greatest two.1)
  where
    le_from : (a b : ℕ) → nat_le a b ≡ true → a ≤ b
    le_from a b e = grind (arith, nat_tests)

pub reached_most : (t : Fraction) → IsFrac t → reached t ≤ most
unfolding reached most
reached_most t is =
    let low = div-le_self (unsigned_abs t.num * square) t.den in
    let high : unsigned_abs t.num * square ≤ greatest * square = mul-le-mul_right square (small_parts t is.fits).0 in
    omega (arith, low, high)

less_of : (a b : ℕ) → int_lt (pos a) (pos b) ≡ true → a < b
less_of a b e = grind (arith, nat_tests)

crossed : (a b : Fraction) → int_lt a.num (pos 0) ≡ false → int_lt b.num (pos 0) ≡ false → int_lt (a.num *ℤ pos b.den) (b.num *ℤ pos a.den) ≡ true → unsigned_abs a.num * b.den < unsigned_abs b.num * a.den
crossed a b = go a.num b.num a.den b.den
  where
    go : (n m : ℤ) (d e : ℕ) → int_lt n (pos 0) ≡ false → int_lt m (pos 0) ≡ false → int_lt (n *ℤ pos e) (m *ℤ pos d) ≡ true → unsigned_abs n * e < unsigned_abs m * d
    go (pos n) (pos m) d e p q up = less_of (n * e) (m * d) up
    go (negsuc n) m d e p q up = absurd cc
    go (pos n) (negsuc m) d e p q up = absurd cc

-- a later time has more of them
pub reached_more : (a b : Fraction) → IsTime a → IsTime b → below a b ≡ true → reached a < reached b
unfolding reached square
reached_more a b p q up =
    apart (greatest * greatest) (unsigned_abs a.num) a.den (unsigned_abs b.num) b.den p.number.reduced.above q.number.reduced.above
    (mul-le-mul (small_parts a p.number.fits).1 (small_parts b q.number.fits).1)
    (crossed a b p.start q.start (sym (below_crossed a b) ∙ up))

-- the steps that may still be made, and for each of them all the time; and the time that is left
pub left_to_run : Script → Track → ℕ
left_to_run script t = (script.steps - t.clock.made) * suc most + (most - reached t.clock.time)

fewer : (a b w x : ℕ) → b < a → b * suc w + x < a * suc w + x
fewer a b w x less = let scaled : b * suc w < a * suc w = mul-lt-mul_of_pos_right less (omega arith) in omega (arith, scaled)

-- after a step there is less, and after a flow
pub less_after_step : (script : Script) (t new : Track) → t.clock.made < script.steps → new.clock.made ≡ t.clock.made + 1 → new.clock.time ≡ t.clock.time → left_to_run script new < left_to_run script t
unfolding left_to_run
less_after_step script t new more made time =
    rw (made, time) (fewer (script.steps - t.clock.made) (script.steps - (t.clock.made + 1)) most (most - reached t.clock.time) (omega (arith, more)))

pub less_after_flow : (script : Script) (t new : Track) → IsTime t.clock.time → IsTime new.clock.time → below t.clock.time new.clock.time ≡ true → new.clock.made ≡ t.clock.made
    → left_to_run script new < left_to_run script t
unfolding left_to_run
less_after_flow script t new p q up made =
    let rest : most - reached new.clock.time < most - reached t.clock.time = omega (arith, reached_more t.clock.time new.clock.time p q up, reached_most new.clock.time q.number) in
    rw made (omega (arith, rest))
