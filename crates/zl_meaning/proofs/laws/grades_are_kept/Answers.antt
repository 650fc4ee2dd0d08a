use Rattle.zl_meaning.proofs.GradesKept.Kept.{grades_are_kept}
use Rattle.zl_meaning.proofs.laws.grades_are_kept.Goals as goal

pub returns : goal.returns
returns c = grades_are_kept
