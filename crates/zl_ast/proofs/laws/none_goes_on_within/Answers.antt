use Rattle.zl_ast.proofs.GoesOn as laws
use Rattle.zl_ast.proofs.laws.none_goes_on_within.Goals as goal

pub returns : goal.returns
returns c = laws.none_goes_on_within
