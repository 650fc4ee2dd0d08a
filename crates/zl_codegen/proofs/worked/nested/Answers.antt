use Rattle.std.proofs.Common.{refl}
use Rattle.zl_codegen.proofs.worked.nested.Goals as goal

pub returns : goal.returns
returns c = record { body = refl; eight = refl; nine = refl }
