use Rattle.zl_ast.proofs.TreeLaws as laws
use Rattle.zl_ast.proofs.laws.some_places_grow.Goals as goal

pub returns : goal.returns
returns c = laws.some_places_grow
