use Rattle.zl_ast.proofs.EqualitiesInOrder as laws
use Rattle.zl_ast.proofs.laws.equalities_rise.Goals as goal

pub returns : goal.returns
returns c = laws.equalities_rise
