use Rattle.std.proofs.lemmas.Result.{err_from_is_err_and}
use Rattle.zl_types.proofs.SolveLemmas.{represents_more, refused_equality}
use Rattle.zl_types.proofs.solve.classes_of.Goals as goal

pub returns-in_err-take_in-clause-refused : goal.returns-in_err-take_in-clause-refused
returns-in_err-take_in-clause-refused c =
    let i = c.loop-equality.invariant in
    let p = err_from_is_err_and c.from_residual.result c.from_residual.ensures.1 in
    rw (p.1, p.2) (refused_equality c.args.equalities.now c.loop-equality.equality-index _ _ _ c.loop-equality-test.true i.sound i.represents c.in_err-take_in.ensures.refused)

pub loop-equality-preserved : goal.loop-equality-preserved
loop-equality-preserved c =
    let m = c.in_ok-take_in.ensures.met in
    record {
      sound = m.sound;
      represents = represents_more c.args.equalities.now c.loop-equality.equality-index _ _ _ c.loop-equality-test.true c.loop-equality.invariant.represents m;
    }
