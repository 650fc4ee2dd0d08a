use Rattle.zl_value.proofs.Acyclic.{ranks_from_acyclic}
use Rattle.zl_value.proofs.laws.acyclic_has_ranks.Goals as goal

pub returns : goal.returns
returns c = ranks_from_acyclic
