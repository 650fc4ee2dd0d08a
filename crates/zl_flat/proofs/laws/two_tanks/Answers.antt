use Rattle.zl_flat.proofs.WorkedTwoTanks.{two_tanks_expand}
use Rattle.zl_flat.proofs.laws.two_tanks.Goals as goal

pub returns : goal.returns
returns c = two_tanks_expand
