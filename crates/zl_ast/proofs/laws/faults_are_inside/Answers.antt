use Rattle.zl_ast.proofs.TreeLaws as laws
use Rattle.zl_ast.proofs.laws.faults_are_inside.Goals as goal

pub returns : goal.returns
returns c = laws.faults_are_inside
