use Rattle.zl_ast.proofs.NamesOrderWorked as worked
use Rattle.zl_ast.proofs.rules.order_of_names.Goals as goal

pub returns : goal.returns
returns c = worked.names_order_worked
