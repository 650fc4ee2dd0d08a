use Rattle.zl_premises.proofs.WidthRuns.{derivatives_narrow}
use Rattle.zl_premises.proofs.laws.derivatives_are_narrow.Goals as goal

pub returns : goal.returns
returns c = derivatives_narrow
