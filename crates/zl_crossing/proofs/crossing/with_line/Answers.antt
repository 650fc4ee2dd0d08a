use Rattle.zl_crossing.proofs.LineSteps.{step_never, step_crossing}
use Rattle.zl_crossing.proofs.crossing.with_line.Goals as goal

pub returns-in-Some : goal.returns-in-Some
returns-in-Some c lines cap low is =
    rw c.earlier.ensures.value (step_crossing lines c.args.line.now cap c.in-Some.root c.args.first low c.in-Some.ensures is)

pub returns-in-None : goal.returns-in-None
returns-in-None c lines cap low is = step_never lines c.args.line.now cap c.args.first c.in-None.ensures is
