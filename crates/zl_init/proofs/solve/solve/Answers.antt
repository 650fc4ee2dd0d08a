use Rattle.zl_init.proofs.SolveLemmas.{knows_more, unmet, met}
use Rattle.zl_init.proofs.solve.solve.Goals as goal

pub returns-then-not-branch : goal.returns-then-not-branch
returns-then-not-branch c = unmet c.args.requirements.now c.loop-requirement.requirement-index _ c.loop-requirement.solver c.loop-requirement-test.true c.loop-requirement.invariant.knows c.loop-requirement.invariant.settled (c.in_ok-take.ensures.refused c.if-not-branch.true)

pub loop-requirement-preserved : goal.loop-requirement-preserved
loop-requirement-preserved c = record {
  knows = knows_more c.args.requirements.now c.loop-requirement.requirement-index _ c.loop-requirement.solver c.take.new.self c.loop-requirement-test.true c.loop-requirement.invariant.knows (c.in_ok-take.ensures.fits c.if-not-branch.false);
  settled = c.in_ok-take.ensures.settled c.if-not-branch.false;
}

pub returns : goal.returns
returns c = met c.args.requirements.now c.loop-requirement.requirement-index c.loop-requirement.solver c.loop-requirement-test.false c.loop-requirement.invariant.knows c.loop-requirement.invariant.settled
