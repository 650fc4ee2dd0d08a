use Rattle.zl_ast.proofs.OneDeeperEquations as laws
use Rattle.zl_ast.proofs.laws.deep_tokens.Goals as goal

pub returns : goal.returns
returns c = laws.deep_tokens
