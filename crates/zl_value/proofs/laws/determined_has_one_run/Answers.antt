use Rattle.zl_value.proofs.OneRun.{has_one_run}
use Rattle.zl_value.proofs.laws.determined_has_one_run.Goals as goal

pub returns : goal.returns
returns g c = λ sys script one. has_one_run sys script one
