use Rattle.zl_normal.proofs.Runs.KeepsRuns.{normal_runs}
use Rattle.zl_normal.proofs.laws.normal_form_keeps_runs.Goals as goal

pub returns : goal.returns
returns c = λ f g names k N formed main single ranks lasts keeps normal script suits. normal_runs f g names k N script main single ranks lasts normal formed keeps suits
