use Rattle.std.proofs.Common.{arith, rules}
use Rattle.std.proofs.lemmas.Int.{to_z-of_z}
use mir.Syntax.{w128}
use Rattle.std.specs.Prelude.{FitsSigned}
use Rattle.zl_value.proofs.Fractions.{IsReduced-reduced, reduced_parts}
use Rattle.zl_value.proofs.frac.reduce_wide.Goals as goal

pub fit-requires : goal.fit-requires
fit-requires c =
    let fits : FitsSigned w128 c.quotient_wide.result = search rules in
    let top = to_z-of_z w128 c.args.num c.ranges.num in
    let parts = reduced_parts c.args.num c.args.den c.gcd_of_wide-divisor.result c.quotient_wide.result (cc (top)) (cc (top)) in
    rw (to_z-of_z w128 c.quotient_wide.result fits, parts) (IsReduced-reduced c.args.num c.args.den (omega arith))

pub returns-clause-value : goal.returns-clause-value
returns-clause-value c =
    let fits : FitsSigned w128 c.quotient_wide.result = search rules in
    let top = to_z-of_z w128 c.args.num c.ranges.num in
    let bits = to_z-of_z w128 c.quotient_wide.result fits in
    let parts = reduced_parts c.args.num c.args.den c.gcd_of_wide-divisor.result c.quotient_wide.result (cc (top)) (cc (top)) in
    cc
