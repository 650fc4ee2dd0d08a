use Rattle.zl_ast.proofs.EquationTypesWorked as worked
use Rattle.zl_ast.proofs.rules.types_of_equations.Goals as goal

pub returns : goal.returns
returns c = worked.equation_types_worked
