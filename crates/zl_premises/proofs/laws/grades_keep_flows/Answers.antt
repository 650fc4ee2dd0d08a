use Rattle.zl_premises.proofs.Whole.{grades_keep_flows}
use Rattle.zl_premises.proofs.laws.grades_keep_flows.Goals as goal

pub returns : goal.returns
returns c = grades_keep_flows
