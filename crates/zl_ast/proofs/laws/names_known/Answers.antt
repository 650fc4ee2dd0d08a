use Rattle.zl_ast.proofs.TreeLaws as laws
use Rattle.zl_ast.proofs.laws.names_known.Goals as goal

pub returns : goal.returns
returns c = laws.names_known
