use Rattle.zl_premises.proofs.Whole.{main_forms_have_premises}
use Rattle.zl_premises.proofs.laws.main_forms_have_premises.Goals as goal

pub returns : goal.returns
returns c = main_forms_have_premises
