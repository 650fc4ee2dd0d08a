use Rattle.zl_meaning.proofs.LevelsOfRanks.{levels-of-ranks}
use Rattle.zl_meaning.proofs.laws.ranks_give_levels.Goals as goal

pub returns : goal.returns
returns c = levels-of-ranks
