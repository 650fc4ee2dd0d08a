-- Numbers of the machine that are read again are what they were.
use Rattle.std.proofs.Common.{◌≡◌, ◌*◌, ◌≤◌, arith, w64}
use Rattle.std.specs.Prelude.{ℤ, unsigned_abs}
use Rattle.std.specs.Int.{cast_signed, cast_unsigned}
use Rattle.std.proofs.lemmas.Int.{to_z-of_z, fits_signed_from_abs}
use mir.Syntax.{w128}
use Rattle.zl_value.specs.Fraction.{greatest}

pub word_is : (z : ℤ) → unsigned_abs z ≤ greatest → cast_signed w64 (cast_unsigned w64 z) ≡ z
word_is z width = to_z-of_z w64 z (fits_signed_from_abs w64 z (omega arith))

pub wide_is : (z : ℤ) → unsigned_abs z ≤ 2 * (greatest * greatest) → cast_signed w128 (cast_unsigned w128 z) ≡ z
wide_is z width = to_z-of_z w128 z (fits_signed_from_abs w128 z (omega arith))
