use Rattle.zl_ast.proofs.ExpressionLevelsWorked as worked
use Rattle.zl_ast.proofs.rules.levels.Goals as goal

pub returns : goal.returns
returns c = worked.expression_levels_worked
