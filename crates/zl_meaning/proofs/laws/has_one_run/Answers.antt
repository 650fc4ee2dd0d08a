use Rattle.zl_meaning.proofs.OneRun.{one_run}
use Rattle.zl_meaning.proofs.laws.has_one_run.Goals as goal

pub returns : goal.returns
returns c = one_run
