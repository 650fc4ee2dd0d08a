use Rattle.zl_ast.proofs.DefinedNamesWorked as worked
use Rattle.zl_ast.proofs.rules.names_that_are_defined.Goals as goal

pub returns : goal.returns
returns c = worked.defined_names_worked
