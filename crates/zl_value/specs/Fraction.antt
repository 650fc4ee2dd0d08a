-- Fractions of whole numbers of any size, and which of them fit the width. This project's own.
use Rattle.std.specs.Prelude.{◌≡◌, ℕ, ◌*◌, ◌/◌, ◌%◌, ◌<◌, ℤ, pos, ◌+ℤ◌, ◌-ℤ◌, ◌*ℤ◌, Bool, true, ◌&&◌, if◌then◌else◌, nat_le, nat_eq, int_lt, int_div, unsigned_abs, Result, Ok, Err, zero, suc}
use Rattle.std.specs.Ordering.{int_cmp}
use Rattle.std.specs.declared.cmp.Ordering.{Ordering}
use Rattle.zl_value.specs.declared.arith.Arith.{Arith}
use Rattle.zl_value.specs.declared.arith.Arith.TheVariants.{Range, Division}

-- `num` over `den`
pub record Fraction : Type 0 where
  pub num : ℤ
  pub den : ℕ

-- Euclid's divisions, at most `turns` of them
unfoldable pub gcd_in : ℕ → ℕ → ℕ → ℕ
gcd_in zero a b = a
gcd_in (suc turns) a zero = a
gcd_in (suc turns) a (suc b) = gcd_in turns (suc b) (a % suc b)

-- the greatest common divisor; each division leaves less than it divides by, so `b` of them suffice
unfoldable pub gcd : ℕ → ℕ → ℕ
gcd a b = gcd_in (suc b) a b

-- `n` over `d`
abbrev pub over : ℤ → ℕ → Fraction
over n d = record { num = n; den = d }

-- `n / d` with both parts divided by `g`
abbrev pub divided : ℤ → ℕ → ℕ → Fraction
divided n d g = over (int_div n (pos g)) (d / g)

-- `n / d` in lowest terms
unfoldable pub reduced : ℤ → ℕ → Fraction
reduced n d = divided n d (gcd (unsigned_abs n) d)

-- in lowest terms, over a positive number: the one form in which each fraction is kept
pub record IsReduced (f : Fraction) : Type 0 where
  pub above : 0 < f.den
  pub lowest : gcd (unsigned_abs f.num) f.den ≡ 1

unfoldable pub add : Fraction → Fraction → Fraction
add a b = reduced (a.num *ℤ pos b.den +ℤ b.num *ℤ pos a.den) (a.den * b.den)

unfoldable pub sub : Fraction → Fraction → Fraction
sub a b = reduced (a.num *ℤ pos b.den -ℤ b.num *ℤ pos a.den) (a.den * b.den)

unfoldable pub mul : Fraction → Fraction → Fraction
mul a b = reduced (a.num *ℤ b.num) (a.den * b.den)

unfoldable pub neg : Fraction → Fraction
neg a = over (pos 0 -ℤ a.num) a.den

-- `n / d` in lowest terms, where `d` may be negative
unfoldable pub ratio : ℤ → ℤ → Fraction
ratio n d = reduced (if int_lt d (pos 0) then pos 0 -ℤ n else n) (unsigned_abs d)

unfoldable pub div : Fraction → Fraction → Fraction
div a b = ratio (a.num *ℤ pos b.den) (pos a.den *ℤ b.num)

-- the whole number `n`
abbrev pub whole : ℤ → Fraction
whole n = over n 1

-- the order of two fractions, by their cross products
unfoldable pub compare : Fraction → Fraction → Ordering
compare a b = int_cmp (a.num *ℤ pos b.den) (b.num *ℤ pos a.den)

-- the greatest number of the width
abbrev pub greatest : ℕ
greatest = 9223372036854775807

-- both parts are in the width
unfoldable pub fits : Fraction → Bool
fits f = nat_le (unsigned_abs f.num) greatest && nat_le f.den greatest

-- what a number of the program is: in lowest terms, and in the width
pub record IsFrac (f : Fraction) : Type 0 where
  pub reduced : IsReduced f
  pub fits : fits f ≡ true

-- the answer of an operator whose exact result is `f`
unfoldable pub fitted : Fraction → Result Fraction Arith
fitted f = if fits f then Ok f else Err Range

-- the answer of a division of `n` by `d`
unfoldable pub fitted_ratio : ℤ → ℤ → Result Fraction Arith
fitted_ratio n d = if nat_eq (unsigned_abs d) 0 then Err Division else fitted (ratio n d)

-- the answer of a division of `a` by `b`
unfoldable pub fitted_div : Fraction → Fraction → Result Fraction Arith
fitted_div a b = if nat_eq (unsigned_abs b.num) 0 then Err Division else fitted (div a b)
