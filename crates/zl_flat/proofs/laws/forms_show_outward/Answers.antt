use Rattle.zl_flat.proofs.CheckedShown.{forms-show-outward}
use Rattle.zl_flat.proofs.laws.forms_show_outward.Goals as goal

pub returns : goal.returns
returns c = forms-show-outward
