use Rattle.std.proofs.Common.{refl}
use Rattle.zl_kernel.specs.FlowWires.{is_of_flows}
use Rattle.zl_codegen.specs.Worked.SawTooth.{SawToothHasCode}
use Rattle.zl_codegen.proofs.worked.saw_tooth.Goals as goal

has_code : SawToothHasCode
unfolding is_of_flows
has_code = refl

pub returns : goal.returns
returns c = has_code
