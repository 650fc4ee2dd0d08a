use Rattle.zl_meaning.proofs.CausalRanks.{ranks-or-circle}
use Rattle.zl_meaning.proofs.laws.ranks_or_circle.Goals as goal

pub returns : goal.returns
returns c = ranks-or-circle
