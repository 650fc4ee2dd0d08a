use Rattle.zl_run.proofs.LastingLemmas.{flow_lasts}
use Rattle.zl_run.proofs.laws.flow_lasts.Goals as goal

pub returns : goal.returns
returns c = flow_lasts c.first_lasts.ensures
