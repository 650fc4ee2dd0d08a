use Rattle.zl_ast.proofs.ReadNamesWorked as worked
use Rattle.zl_ast.proofs.rules.names_that_are_read.Goals as goal

pub returns : goal.returns
returns c = worked.read_names_worked
