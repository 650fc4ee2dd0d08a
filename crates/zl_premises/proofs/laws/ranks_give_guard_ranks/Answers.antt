use Rattle.zl_premises.proofs.GuardRanks.{ranks_give_guard_ranks}
use Rattle.zl_premises.proofs.laws.ranks_give_guard_ranks.Goals as goal

pub returns : goal.returns
returns c = ranks_give_guard_ranks
