use Rattle.zl_flat.proofs.CheckedLasts.{lasts-stand-in-copies}
use Rattle.zl_flat.proofs.laws.lasts_stand_in_copies.Goals as goal

pub returns : goal.returns
returns c = lasts-stand-in-copies
