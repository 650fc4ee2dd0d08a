use Rattle.zl_flat.proofs.CheckedPrograms.{count-is-small}
use Rattle.zl_flat.proofs.laws.count_is_small.Goals as goal

pub returns : goal.returns
returns c = count-is-small
