use Rattle.std.proofs.Common.{refl}
use Rattle.zl_kernel.specs.FlowWires.{is_of_flows}
use Rattle.zl_codegen.specs.Worked.Counter.{CounterHasCode}
use Rattle.zl_codegen.proofs.worked.counter.Goals as goal

has_code : CounterHasCode
unfolding is_of_flows
has_code = refl

pub returns : goal.returns
returns c = has_code
