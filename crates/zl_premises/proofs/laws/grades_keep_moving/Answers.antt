use Rattle.zl_premises.proofs.Grounded.{keeps_moving}
use Rattle.zl_premises.proofs.laws.grades_keep_moving.Goals as goal

pub returns : goal.returns
returns c = keeps_moving
