use Rattle.zl_ast.proofs.TreeLaws as laws
use Rattle.zl_ast.proofs.laws.no_tree_at_any_depth.Goals as goal

pub returns : goal.returns
returns c = laws.no_tree_at_any_depth
