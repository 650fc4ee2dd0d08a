use Rattle.zl_ast.proofs.TreeLaws as laws
use Rattle.zl_ast.proofs.laws.places_grow.Goals as goal

pub returns : goal.returns
returns c = laws.places_grow
