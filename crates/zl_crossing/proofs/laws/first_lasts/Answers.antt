use Rattle.zl_crossing.proofs.FlowDurations.{first_lasts}
use Rattle.zl_crossing.proofs.laws.first_lasts.Goals as goal

pub returns : goal.returns
returns c = first_lasts
