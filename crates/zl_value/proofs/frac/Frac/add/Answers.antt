use Rattle.zl_value.proofs.FractionLaws.{add_comm}
use Rattle.zl_value.proofs.Words.{word_is}
use Rattle.zl_value.proofs.frac.Frac.add.Goals as goal

pub returns-then-unsigned_den-eq1-2-clause-value : goal.returns-then-unsigned_den-eq1-2-clause-value
returns-then-unsigned_den-eq1-2-clause-value c =
    let n = word_is c.num-then-unsigned_den-eq1-2.result c.num-then-unsigned_den-eq1-2.ensures.width in
    let turned = add_comm c.args.other c.args.self in
    cc
