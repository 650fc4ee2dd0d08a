use Rattle.zl_cli.proofs.ThinMeaning.{run_as_meant}
use Rattle.zl_cli.proofs.laws.thin_run_is_meant.Goals as goal

pub returns : goal.returns
returns c = run_as_meant
