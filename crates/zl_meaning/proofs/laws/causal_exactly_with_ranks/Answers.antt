use Rattle.zl_meaning.proofs.CausalRanks.{causal-exactly-with-ranks}
use Rattle.zl_meaning.proofs.laws.causal_exactly_with_ranks.Goals as goal

pub returns : goal.returns
returns c = causal-exactly-with-ranks
