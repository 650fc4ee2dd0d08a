-- The codes of two orders of one kernel are one system.
use Rattle.zl_codegen.proofs.AnyOrder.{one_system}
use Rattle.zl_codegen.proofs.laws.any_order.Goals as goal

pub returns : goal.returns
returns c = one_system
