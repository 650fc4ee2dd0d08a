use Rattle.zl_premises.proofs.CalmCopies.{keeps_inits}
use Rattle.zl_premises.proofs.laws.regular_forms_keep_inits.Goals as goal

pub returns : goal.returns
returns c = keeps_inits
