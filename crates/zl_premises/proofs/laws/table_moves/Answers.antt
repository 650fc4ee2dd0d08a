use Rattle.zl_premises.proofs.Moving.{table_moves}
use Rattle.zl_premises.proofs.laws.table_moves.Goals as goal

pub returns : goal.returns
returns c = table_moves
