use Rattle.std.proofs.Common.{arith}
use Rattle.zl_value.specs.Fraction.{add}
use Rattle.zl_value.proofs.Fractions.{add_over_one}
use Rattle.zl_value.proofs.Words.{word_is, wide_is}
use Rattle.zl_value.proofs.frac.Frac.add_parts.Goals as goal

pub returns-then-unsigned_den-clause-value : goal.returns-then-unsigned_den-clause-value
returns-then-unsigned_den-clause-value c =
    let total = wide_is c.sum.result (omega arith) in
    let left = word_is c.num.result c.num.ensures.width in
    let right = word_is c.num-then-unsigned_den.result c.num-then-unsigned_den.ensures.width in
    let answer = add_over_one c.args.self c.args.other (omega arith) cc in
    cc

pub returns-clause-value : goal.returns-clause-value
unfolding add
returns-clause-value c =
    let total = wide_is c.sum_over_product.result (omega arith) in
    cc
