use Rattle.zl_run.proofs.ClockLemmas.{stop_is_next}
use Rattle.zl_run.proofs.laws.stop_is_next.Goals as goal

pub returns : goal.returns
returns c = stop_is_next
