use Rattle.zl_flat.proofs.Worked.{falling_expands}
use Rattle.zl_flat.proofs.laws.falling.Goals as goal

pub returns : goal.returns
returns c = falling_expands
