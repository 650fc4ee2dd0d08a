use Rattle.std.proofs.Common.{arith}
use Rattle.std.proofs.lemmas.Int.{ints}
use Rattle.std.specs.Prelude.{pos, ◌-ℤ◌}
use Rattle.zl_value.specs.Fraction.{neg}
use Rattle.zl_value.proofs.Fractions.{IsFrac-neg}
use Rattle.zl_value.proofs.Words.{word_is}
use Rattle.zl_value.proofs.frac.Frac.neg.Goals as goal

pub of_parts-requires : goal.of_parts-requires
unfolding neg
of_parts-requires c =
    let num = word_is c.num.result c.num.ensures.width in
    let kept = IsFrac-neg c.args.self c.num.ensures.kept in
    rw (num, word_is (pos 0 -ℤ c.num.result) (omega (arith, ints)), c.num.ensures.value, c.unsigned_den.ensures.value) kept

pub returns-clause-value : goal.returns-clause-value
unfolding neg
returns-clause-value c =
    let num = word_is c.num.result c.num.ensures.width in
    let turned = word_is (pos 0 -ℤ c.num.result) (omega (arith, ints)) in
    cc
