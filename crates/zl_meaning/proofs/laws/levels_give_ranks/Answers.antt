use Rattle.zl_meaning.proofs.RanksOfLevels.{ranks-of-levels}
use Rattle.zl_meaning.proofs.laws.levels_give_ranks.Goals as goal

pub returns : goal.returns
returns c = ranks-of-levels
