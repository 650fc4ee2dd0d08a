use Rattle.zl_levels.proofs.Initialised.{initialised}
use Rattle.zl_levels.proofs.laws.levels_initialise.Goals as goal

pub returns : goal.returns
returns c f l grades w main single regular steady r are = initialised f l grades w main single regular steady r are
