use Rattle.zl_ast.proofs.TreeLaws as laws
use Rattle.zl_ast.proofs.laws.one_tree.Goals as goal

pub returns : goal.returns
returns c = laws.one_tree
