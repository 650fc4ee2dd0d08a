-- Tests on fractions: which is less, which are the same, which are below zero.
use Rattle.std.specs.Prelude.{nat_eq, pos, int_le, int_lt, Bool, false, not, ◌&&◌, Option, Some}
use Rattle.zl_value.specs.Fraction.{Fraction, whole}
use Rattle.zl_value.specs.declared.value.Value.{Value}
use Rattle.zl_value.specs.declared.value.Value.TheVariants.{B, F}

abbrev pub nought : Fraction
nought = whole (pos 0)

abbrev pub unit : Fraction
unit = whole (pos 1)

-- the parts are the same, and so the numbers, where both are in lowest terms
abbrev pub is_same : Fraction → Fraction → Bool
is_same a b = int_le a.num b.num && (int_le b.num a.num && nat_eq a.den b.den)

abbrev pub is_negative : Fraction → Bool
is_negative a = int_lt a.num (pos 0)

-- a number below zero, a number from zero on
abbrev pub is_below : Option Value → Bool
is_below (Some (F a)) = is_negative a
is_below _ = false

abbrev pub is_above : Option Value → Bool
is_above (Some (F a)) = not (is_negative a)
is_above _ = false

-- it is `true`, it is `false`
abbrev pub holds : Option Value → Bool
holds (Some (B b)) = b
holds _ = false

abbrev pub fails : Option Value → Bool
fails (Some (B b)) = not b
fails _ = false
