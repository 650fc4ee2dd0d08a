use Rattle.zl_ast.proofs.ContextWorked as worked
use Rattle.zl_ast.proofs.rules.contexts.Goals as goal

pub returns : goal.returns
returns c = worked.context_worked
