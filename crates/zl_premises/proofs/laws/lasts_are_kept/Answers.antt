use Rattle.zl_premises.proofs.Lasts.{lasts_are_kept}
use Rattle.zl_premises.proofs.laws.lasts_are_kept.Goals as goal

pub returns : goal.returns
returns c = lasts_are_kept
