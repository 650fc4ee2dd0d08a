use Rattle.zl_meaning.proofs.OneInstant.{ranks_give_one_instant}
use Rattle.zl_meaning.proofs.laws.ranks_give_one_instant.Goals as goal

pub returns : goal.returns
returns c = ranks_give_one_instant
