use Rattle.zl_normal.specs.MadeKernel.{IsMadeAtInstants}
use Rattle.zl_normal.proofs.Made.Kernel.{made_at_instants}
use Rattle.zl_normal.proofs.MadeFlows.InFlows.{normal_in_flows}
use Rattle.zl_normal.proofs.made_flows.made_kernel_is_normal.Goals as goal

pub returns : goal.returns
returns c = λ f grades t n names formed main single roles ranks has layout.
    let made : IsMadeAtInstants f grades t n names = made_at_instants f grades t n names formed main single ranks.entries roles layout in
    record { instants = made.instants; flows = normal_in_flows f grades t n names formed main single ranks.entries roles has layout; ins = made.ins; outs = made.outs }
