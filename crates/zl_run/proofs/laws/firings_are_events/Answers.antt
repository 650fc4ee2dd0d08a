use Rattle.zl_run.proofs.FiredLemmas.{firings_are}
use Rattle.zl_run.proofs.laws.firings_are_events.Goals as goal

pub returns : goal.returns
returns c = firings_are
