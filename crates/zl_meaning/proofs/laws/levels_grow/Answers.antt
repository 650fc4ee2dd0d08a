use Rattle.zl_meaning.proofs.LevelsGrow.{levels-grow}
use Rattle.zl_meaning.proofs.laws.levels_grow.Goals as goal

pub returns : goal.returns
returns c = levels-grow
