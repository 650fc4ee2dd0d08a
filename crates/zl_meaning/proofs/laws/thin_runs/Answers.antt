use Rattle.zl_meaning.proofs.ThinForm.{thin_runs}
use Rattle.zl_meaning.proofs.laws.thin_runs.Goals as goal

pub returns : goal.returns
returns c = thin_runs
