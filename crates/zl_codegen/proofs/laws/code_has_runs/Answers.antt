-- No run of the kernel is lost.
use Rattle.zl_codegen.proofs.RunsHad as runs
use Rattle.zl_codegen.proofs.laws.code_has_runs.Goals as goal

pub returns : goal.returns
returns c = runs.code_has_runs
