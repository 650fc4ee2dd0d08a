-- Short methods, by computation.
use Rattle.std.proofs.Common.{refl}
use Rattle.zl_code.proofs.worked.statements.Goals as goal

pub returns : goal.returns
returns c = record { memories = refl; nothing = refl; parts = refl; faults = refl }
