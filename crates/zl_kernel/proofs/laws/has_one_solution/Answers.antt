use Rattle.zl_kernel.proofs.OneSolution.{has_one_registers}
use Rattle.zl_kernel.proofs.laws.has_one_solution.Goals as goal

pub returns : goal.returns
returns c = λ k ranks are m. has_one_registers k m ranks are
