use Rattle.zl_compile.proofs.NeverBoth.{never_both}
use Rattle.zl_compile.proofs.laws.never_both.Goals as goal

pub returns : goal.returns
returns c = never_both
