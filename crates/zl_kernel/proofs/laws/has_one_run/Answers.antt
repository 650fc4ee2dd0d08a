use Rattle.zl_kernel.proofs.OneRun.{one_run}
use Rattle.zl_kernel.proofs.laws.has_one_run.Goals as goal

pub returns : goal.returns
returns c = λ k ranks are script. one_run k ranks are script
