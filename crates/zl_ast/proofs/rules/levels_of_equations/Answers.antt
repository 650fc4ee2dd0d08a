use Rattle.zl_ast.proofs.EquationLevelsWorked as worked
use Rattle.zl_ast.proofs.rules.levels_of_equations.Goals as goal

pub returns : goal.returns
returns c = worked.equation_levels_worked
