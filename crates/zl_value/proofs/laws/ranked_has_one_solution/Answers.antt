use Rattle.zl_value.proofs.Fixed.{has_one_solution}
use Rattle.zl_value.proofs.laws.ranked_has_one_solution.Goals as goal

pub returns : goal.returns
returns g c = λ rank equation ranked start. has_one_solution rank equation ranked start
