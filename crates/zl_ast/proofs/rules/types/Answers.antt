use Rattle.zl_ast.proofs.ExpressionTypesWorked as worked
use Rattle.zl_ast.proofs.rules.types.Goals as goal

pub returns : goal.returns
returns c = worked.expression_types_worked
