use Rattle.zl_crossing.proofs.FlowDurations.{first_is_one}
use Rattle.zl_crossing.proofs.laws.first_is_one.Goals as goal

pub returns : goal.returns
returns c = first_is_one
