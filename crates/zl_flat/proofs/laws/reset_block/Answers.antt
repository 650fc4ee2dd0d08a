use Rattle.zl_flat.proofs.WorkedResetBlock.{reset_block_expands}
use Rattle.zl_flat.proofs.laws.reset_block.Goals as goal

pub returns : goal.returns
returns c = reset_block_expands
