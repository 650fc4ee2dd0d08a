use Rattle.std.proofs.Common.{arith, ◌≡◌}
use Rattle.std.specs.Prelude.{pos, ◌+ℤ◌, ◌*ℤ◌}
use Rattle.std.proofs.lemmas.Int.{ints}
use Rattle.zl_value.proofs.WholeSums.{IsReduced-whole_sum, add_whole_is}
use Rattle.zl_value.proofs.Words.{word_is, wide_is}
use Rattle.zl_value.proofs.frac.Frac.add_whole.Goals as goal

pub fit-requires : goal.fit-requires
fit-requires c =
    let total = wide_is c.sum_with_product.result (omega arith) in
    let second = wide_is c.product.result (omega arith) in
    let a = word_is c.num.result c.num.ensures.width in
    let n = word_is c.args.number c.requires in
    let d = word_is c.den.result (omega (arith, ints, c.den.ensures.value)) in
    let is : c.sum_with_product.result ≡ c.args.self.num +ℤ c.args.number *ℤ pos c.args.self.den = cc in
    rw (total, is, c.unsigned_den.ensures.value) (IsReduced-whole_sum c.args.self c.args.number c.num.ensures.kept.reduced)

pub returns-clause-value : goal.returns-clause-value
returns-clause-value c =
    let total = wide_is c.sum_with_product.result (omega arith) in
    let second = wide_is c.product.result (omega arith) in
    let a = word_is c.num.result c.num.ensures.width in
    let n = word_is c.args.number c.requires in
    let d = word_is c.den.result (omega (arith, ints, c.den.ensures.value)) in
    let is : c.sum_with_product.result ≡ c.args.self.num +ℤ c.args.number *ℤ pos c.args.self.den = cc in
    let answer = add_whole_is c.args.self c.args.number c.num.ensures.kept.reduced in
    cc
