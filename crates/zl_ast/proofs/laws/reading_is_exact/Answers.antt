use Rattle.zl_ast.proofs.TreeLaws as laws
use Rattle.zl_ast.proofs.laws.reading_is_exact.Goals as goal

pub returns : goal.returns
returns c = laws.reading_is_exact
