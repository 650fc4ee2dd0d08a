use Rattle.std.proofs.Common.{arith}
use Rattle.zl_expand.proofs.WalkLaws.{walking}
use Rattle.zl_expand.proofs.walker.Walker.walk_if.Goals as goal

pub returns-clause-made : goal.returns-clause-made
returns-clause-made g c = grind (arith, walking)
