use Rattle.zl_value.specs.Laws.{Relates}
use Rattle.zl_value.proofs.Correspondence.{keeps_runs}
use Rattle.zl_value.proofs.laws.runs_correspond.Goals as goal

pub returns : goal.returns
returns g c = λ A B script pick first second law. keeps_runs A B script pick (Relates first second) law
