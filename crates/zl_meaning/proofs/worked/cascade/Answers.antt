use Rattle.zl_meaning.proofs.Rows.Cascade.{row}
use Rattle.zl_meaning.proofs.worked.cascade.Goals as goal

pub returns : goal.returns
returns c = row
