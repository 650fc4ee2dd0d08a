use Rattle.zl_flat.proofs.WorkedWaiting.{waiting_expands}
use Rattle.zl_flat.proofs.laws.waiting_by_history.Goals as goal

pub returns : goal.returns
returns c = waiting_expands
