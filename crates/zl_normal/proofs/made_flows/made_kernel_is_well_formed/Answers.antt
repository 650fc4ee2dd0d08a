use Rattle.zl_normal.proofs.Made.FormedKernel.{formed_kernel}
use Rattle.zl_normal.proofs.made_flows.made_kernel_is_well_formed.Goals as goal

pub returns : goal.returns
returns c = λ f grades t n names formed main single roles ranks has layout named. formed_kernel f grades t n names formed main single ranks.entries roles has layout named
