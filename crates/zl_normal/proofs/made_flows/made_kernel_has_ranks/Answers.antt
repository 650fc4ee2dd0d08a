use Rattle.std.specs.Prelude.{map}
use Rattle.zl_normal.specs.Keys.{keys}
use Rattle.zl_normal.proofs.MadeFlows.Levels.{key_rank}
use Rattle.zl_normal.proofs.MadeFlows.MadeRanks.{made_ranks}
use Rattle.zl_normal.proofs.made_flows.made_kernel_has_ranks.Goals as goal

pub returns : goal.returns
returns c = λ f grades t n names formed main single roles ranks layout. (map (key_rank f ranks.entries) (keys f grades t), made_ranks f grades t n names formed main single ranks roles layout)
