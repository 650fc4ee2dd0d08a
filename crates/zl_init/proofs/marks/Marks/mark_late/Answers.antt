use Rattle.std.proofs.Common.{◌∙◌, sym}
use Rattle.zl_init.proofs.MarksLemmas.{made_step, refused_step}
use Rattle.zl_init.proofs.marks.Marks.mark_late.Goals as goal

pub returns-then-not-branch-clause-refused : goal.returns-then-not-branch-clause-refused
returns-then-not-branch-clause-refused c = λ _. refused_step c.args.places.now c.loop-place.place-index _ c.args.self.now c.loop-place.self c.mark.new.self c.loop-place-test.true c.loop-place.invariant c.in_ok-mark.ensures.marked (sym c.in_ok-mark.ensures.fits ∙ c.if-not-branch.true)

pub loop-place-preserved : goal.loop-place-preserved
loop-place-preserved c = made_step c.args.places.now c.loop-place.place-index _ c.args.self.now c.loop-place.self c.mark.new.self c.loop-place-test.true c.loop-place.invariant c.in_ok-mark.ensures.marked (sym c.in_ok-mark.ensures.fits ∙ c.if-not-branch.false)
