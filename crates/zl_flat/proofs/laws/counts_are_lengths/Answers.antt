use Rattle.zl_flat.proofs.CheckedPrograms.{counts-are-lengths}
use Rattle.zl_flat.proofs.laws.counts_are_lengths.Goals as goal

pub returns : goal.returns
returns c = counts-are-lengths
