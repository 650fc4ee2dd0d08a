-- The fault to report after a method is the kernel's.
use Rattle.zl_codegen.proofs.FaultKept as kept
use Rattle.zl_codegen.proofs.laws.methods_report.Goals as goal

pub returns : goal.returns
returns c = kept.methods_report
