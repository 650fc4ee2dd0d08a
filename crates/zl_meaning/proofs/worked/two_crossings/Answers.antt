use Rattle.zl_meaning.proofs.Rows.TwoCrossings.{row}
use Rattle.zl_meaning.proofs.worked.two_crossings.Goals as goal

pub returns : goal.returns
returns c = row
