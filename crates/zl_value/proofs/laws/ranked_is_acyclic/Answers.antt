use Rattle.zl_value.proofs.Acyclic.{IsAcyclic-from_ranks}
use Rattle.zl_value.proofs.laws.ranked_is_acyclic.Goals as goal

pub returns : goal.returns
returns c = IsAcyclic-from_ranks
