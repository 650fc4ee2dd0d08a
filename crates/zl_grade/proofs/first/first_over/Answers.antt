use Rattle.std.proofs.Common.{sym, subst, arith, take}
use Rattle.std.proofs.lemmas.List.{take_more}
use Rattle.zl_grade.specs.Graded.{grading_of}
use Rattle.zl_grade.specs.Needs.{IsFirst}
use Rattle.zl_grade.specs.declared.needs.Need.{Need}
use Rattle.zl_grade.proofs.first.first_over.Goals as goal

pub loop-need-preserved : goal.loop-need-preserved
loop-need-preserved c =
    let d : Need = record { occ = 0; limit = 0 } in
    let i = c.loop-need.need-index in
    let needs = c.args.needs.now in
    subst (λ ns. IsFirst (grading_of c.args.grades.now) ns c.with_one-first.result) (sym (take_more needs i d (omega arith))) (c.with_one-first.ensures (take i needs) c.loop-need.invariant)
