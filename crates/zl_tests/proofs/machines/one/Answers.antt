-- The number is in the width.
use Rattle.zl_tests.proofs.SawTooth.{one_is}
use Rattle.zl_tests.proofs.machines.one.Goals as goal

pub returns : goal.returns
returns c = one_is c.in_ok-of_int.field-0 c.in_ok-of_int.ensures.value
