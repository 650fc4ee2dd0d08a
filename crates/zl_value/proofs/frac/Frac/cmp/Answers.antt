use Rattle.std.proofs.Common.{arith}
use Rattle.std.proofs.lemmas.Int.{ints}
use Rattle.zl_value.specs.Fraction.{compare}
use Rattle.zl_value.proofs.Words.{word_is, wide_is}
use Rattle.zl_value.proofs.frac.Frac.cmp.Goals as goal

pub returns : goal.returns
unfolding compare
returns c =
    let first = wide_is c.product.result (omega arith) in
    let second = wide_is c.product-2.result (omega arith) in
    let a = word_is c.num.result c.num.ensures.width in
    let b = word_is c.num-2.result c.num-2.ensures.width in
    let d = word_is c.den.result (omega (arith, ints, c.den.ensures.value)) in
    let e = word_is c.den-2.result (omega (arith, ints, c.den-2.ensures.value)) in
    cc
