use Rattle.zl_ast.proofs.TreeLaws as laws
use Rattle.zl_ast.proofs.laws.deeper.Goals as goal

pub returns : goal.returns
returns c = laws.deeper
