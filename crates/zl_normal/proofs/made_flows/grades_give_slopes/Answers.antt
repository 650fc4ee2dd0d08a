use Rattle.zl_normal.proofs.MadeFlows.GradedSlopes.{graded_slopes}
use Rattle.zl_normal.proofs.made_flows.grades_give_slopes.Goals as goal

pub returns : goal.returns
returns c = λ f g formed grades. graded_slopes f g formed grades
