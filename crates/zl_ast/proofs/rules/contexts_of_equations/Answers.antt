use Rattle.zl_ast.proofs.EquationContextWorked as worked
use Rattle.zl_ast.proofs.rules.contexts_of_equations.Goals as goal

pub returns : goal.returns
returns c = worked.equation_context_worked
