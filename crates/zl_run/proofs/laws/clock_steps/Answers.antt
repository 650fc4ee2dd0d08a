use Rattle.zl_run.proofs.ClockLemmas.{clock_steps}
use Rattle.zl_run.proofs.laws.clock_steps.Goals as goal

pub returns : goal.returns
returns c = clock_steps
