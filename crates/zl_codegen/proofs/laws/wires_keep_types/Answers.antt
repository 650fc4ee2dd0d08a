use Rattle.zl_codegen.proofs.RunTypes.{wires_keep_types}
use Rattle.zl_codegen.proofs.laws.wires_keep_types.Goals as goal

pub returns : goal.returns
returns c = wires_keep_types
