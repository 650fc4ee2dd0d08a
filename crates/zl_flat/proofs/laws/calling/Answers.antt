use Rattle.zl_flat.proofs.Worked.{calling_expands}
use Rattle.zl_flat.proofs.laws.calling.Goals as goal

pub returns : goal.returns
returns c = calling_expands
