-- The code of each order keeps the runs of the kernel.
use Rattle.zl_codegen.proofs.WholeRuns as runs
use Rattle.zl_codegen.proofs.laws.code_keeps_runs.Goals as goal

pub returns : goal.returns
returns c = runs.code_keeps_runs
