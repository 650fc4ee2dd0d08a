use Rattle.std.proofs.Common.{arith, rules, ◌≡◌, w64}
use Rattle.std.proofs.lemmas.Int.{to_z-of_z}
use Rattle.std.specs.Prelude.{unsigned_abs, FitsSigned}
use Rattle.zl_value.specs.Fraction.{over, gcd}
use Rattle.zl_value.proofs.Fractions.{IsFrac-over, IsFrac-reduced, reduced_parts, reduced-lowest}
use Rattle.zl_value.proofs.frac.reduce_words.Goals as goal

pub of_parts-requires : goal.of_parts-requires
of_parts-requires c =
    let top = to_z-of_z w64 c.args.num c.ranges.num in
    let lowest : gcd (unsigned_abs c.args.num) c.args.den ≡ 1 = cc in
    let kept = IsFrac-over c.args.num c.args.den (record { above = omega arith; lowest = lowest }) (omega arith) (omega arith) in
    rw top kept

pub returns-then-divisor-eq1 : goal.returns-then-divisor-eq1
returns-then-divisor-eq1 c =
    let top = to_z-of_z w64 c.args.num c.ranges.num in
    let lowest : gcd (unsigned_abs c.args.num) c.args.den ≡ 1 = cc in
    let same = reduced-lowest (over c.args.num c.args.den) (record { above = omega arith; lowest = lowest }) in
    cc

pub of_parts-requires-2 : goal.of_parts-requires-2
of_parts-requires-2 c =
    let fits : FitsSigned w64 c.quotient.result = search rules in
    let top = to_z-of_z w64 c.args.num c.ranges.num in
    let kept = IsFrac-reduced c.args.num c.args.den (omega arith) (omega arith) (omega arith) in
    rw (to_z-of_z w64 c.quotient.result fits, reduced_parts c.args.num c.args.den c.gcd_of_words-divisor.result c.quotient.result (cc (top)) (cc (top))) kept

pub returns : goal.returns
returns c =
    let fits : FitsSigned w64 c.quotient.result = search rules in
    let top = to_z-of_z w64 c.args.num c.ranges.num in
    let bits = to_z-of_z w64 c.quotient.result fits in
    let parts = reduced_parts c.args.num c.args.den c.gcd_of_words-divisor.result c.quotient.result (cc (top)) (cc (top)) in
    cc
