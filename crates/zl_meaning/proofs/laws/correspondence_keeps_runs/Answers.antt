use Rattle.zl_meaning.proofs.PassRuns.{pass_keeps_runs}
use Rattle.zl_meaning.proofs.laws.correspondence_keeps_runs.Goals as goal

pub returns : goal.returns
returns g c = λ f g grades first second each places. pass_keeps_runs f g grades first second each places
