use Rattle.zl_code.proofs.OneRun.{one_run}
use Rattle.zl_code.proofs.laws.has_one_run.Goals as goal

pub returns : goal.returns
returns c = one_run
