use Rattle.std.proofs.Common.{arith, ◌≡◌}
use Rattle.std.proofs.lemmas.Int.{ints}
use Rattle.std.specs.Prelude.{pos, ◌-ℤ◌, ◌*ℤ◌, unsigned_abs}
use Rattle.zl_value.proofs.WideNumbers.{difference_size}
use Rattle.zl_value.proofs.Words.{word_is}
use Rattle.zl_value.proofs.wide.difference_over_product.Goals as goal

pub returns-clause-value : goal.returns-clause-value
returns-clause-value c =
    let a = word_is c.num.result c.num.ensures.width in
    let b = word_is c.num-2.result c.num-2.ensures.width in
    let d = word_is c.den.result (omega (arith, ints, c.den.ensures.value)) in
    let e = word_is c.den-2.result (omega (arith, ints, c.den-2.ensures.value)) in
    let first : c.product.result ≡ c.args.a.num *ℤ pos c.args.b.den = cc in
    let second : c.product-2.result ≡ c.args.b.num *ℤ pos c.args.a.den = cc in
    let size : c.unsigned_abs.result ≡ unsigned_abs (c.product.result -ℤ c.product-2.result) = omega (arith, ints, c.unsigned_abs.ensures) in
    difference_size c.args.a c.args.b c.product.result c.product-2.result c.unsigned_abs.result c.requires first second size

pub returns-clause-bound : goal.returns-clause-bound
returns-clause-bound c = omega (arith, ints, c.unsigned_abs.ensures)
