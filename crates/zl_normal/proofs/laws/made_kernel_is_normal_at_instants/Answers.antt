use Rattle.zl_normal.proofs.Made.Kernel.{made_at_instants}
use Rattle.zl_normal.proofs.laws.made_kernel_is_normal_at_instants.Goals as goal

pub returns : goal.returns
returns c = λ f grades t n names formed main single roles ranks layout. made_at_instants f grades t n names formed main single ranks.entries roles layout
