use Rattle.zl_meaning.proofs.GradesKept.OneGrading.{has_one_grading}
use Rattle.zl_meaning.proofs.laws.has_one_grading.Goals as goal

pub returns : goal.returns
returns c = has_one_grading
