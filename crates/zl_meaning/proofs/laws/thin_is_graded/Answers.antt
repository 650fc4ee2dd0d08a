use Rattle.zl_meaning.proofs.ThinGrades.{thin_graded}
use Rattle.zl_meaning.proofs.laws.thin_is_graded.Goals as goal

pub returns : goal.returns
returns c = thin_graded
