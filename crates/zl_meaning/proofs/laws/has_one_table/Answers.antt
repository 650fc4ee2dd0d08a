use Rattle.zl_meaning.proofs.OneTable.{exactly_one_table}
use Rattle.zl_meaning.proofs.laws.has_one_table.Goals as goal

pub returns : goal.returns
returns c = exactly_one_table
