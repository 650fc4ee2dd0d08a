use Rattle.zl_ast.proofs.RequirementsInOrder as laws
use Rattle.zl_ast.proofs.laws.requirements_rise.Goals as goal

pub returns : goal.returns
returns c = laws.requirements_rise
