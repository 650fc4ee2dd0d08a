use Rattle.zl_flat.proofs.CheckedPrograms.{places-are-numbered}
use Rattle.zl_flat.proofs.laws.places_are_numbered.Goals as goal

pub returns : goal.returns
returns c = places-are-numbered
