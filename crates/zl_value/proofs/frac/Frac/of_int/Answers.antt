use Rattle.std.proofs.Common.{arith, w64}
use Rattle.std.proofs.lemmas.Int.{ints, to_z-of_z}
use Rattle.zl_value.specs.Fraction.{whole}
use Rattle.zl_value.proofs.Fractions.{IsFrac-over, IsReduced-one, fits_in, fits_out_num, fitted_ok, fitted_err}
use Rattle.zl_value.proofs.frac.Frac.of_int.Goals as goal

pub returns-then-n-eqminus9223372036854775808-clause-value : goal.returns-then-n-eqminus9223372036854775808-clause-value
returns-then-n-eqminus9223372036854775808-clause-value c = fitted_err (whole c.args.n) (fits_out_num (whole c.args.n) (omega (arith, ints, c.if-n-eqminus9223372036854775808.true)))

pub of_parts-requires : goal.of_parts-requires
of_parts-requires c =
    rw (to_z-of_z w64 c.args.n c.ranges.n) (IsFrac-over c.args.n 1 (IsReduced-one c.args.n) (omega (arith, ints)) (omega arith))

pub returns-clause-value : goal.returns-clause-value
returns-clause-value c =
    let num = to_z-of_z w64 c.args.n c.ranges.n in
    let answer = fitted_ok (whole c.args.n) (fits_in (whole c.args.n) (omega (arith, ints)) (omega arith)) in
    cc
