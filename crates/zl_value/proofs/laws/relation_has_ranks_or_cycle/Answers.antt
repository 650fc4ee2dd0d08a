use Rattle.zl_value.proofs.Acyclic.{ranks_or_cycle}
use Rattle.zl_value.proofs.laws.relation_has_ranks_or_cycle.Goals as goal

pub returns : goal.returns
returns c = ranks_or_cycle
