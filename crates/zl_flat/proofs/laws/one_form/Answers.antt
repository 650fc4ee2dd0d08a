use Rattle.zl_flat.proofs.OneForm.{one_form}
use Rattle.zl_flat.proofs.laws.one_form.Goals as goal

pub returns : goal.returns
returns c = one_form
