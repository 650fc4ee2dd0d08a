use Rattle.zl_ast.proofs.WorkedExamples as worked
use Rattle.zl_ast.proofs.laws.examples.Goals as goal

pub returns : goal.returns
returns c = worked.examples
