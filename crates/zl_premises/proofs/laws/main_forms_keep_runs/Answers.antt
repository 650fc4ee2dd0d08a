use Rattle.zl_premises.proofs.Whole.{main_forms_keep_runs}
use Rattle.zl_premises.proofs.laws.main_forms_keep_runs.Goals as goal

pub returns : goal.returns
returns c = main_forms_keep_runs
