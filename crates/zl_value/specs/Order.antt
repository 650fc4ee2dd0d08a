-- The order of fractions as a test. This project's own.
use Rattle.std.specs.Prelude.{Bool}
use Rattle.std.specs.Ordering.{is_lt}
use Rattle.zl_value.specs.Fraction.{Fraction, compare}

-- `a` is less than `b`
abbrev pub below : Fraction → Fraction → Bool
below a b = is_lt (compare a b)
