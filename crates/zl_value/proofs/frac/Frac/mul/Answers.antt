use Rattle.std.proofs.Common.{arith}
use Rattle.zl_value.specs.Fraction.{mul}
use Rattle.zl_value.proofs.Words.{word_is, wide_is}
use Rattle.zl_value.proofs.frac.Frac.mul.Goals as goal

pub returns-clause-value : goal.returns-clause-value
unfolding mul
returns-clause-value c =
    let total = wide_is c.product.result (omega arith) in
    let left = word_is c.num.result c.num.ensures.width in
    let right = word_is c.num-2.result c.num-2.ensures.width in
    cc
