use Rattle.zl_premises.proofs.Starting.{grades_start_right}
use Rattle.zl_premises.proofs.laws.grades_start_right.Goals as goal

pub returns : goal.returns
returns c = grades_start_right
