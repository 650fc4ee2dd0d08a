-- Laws of lists that are put together, for the links of a kernel.
use Rattle.std.proofs.lemmas.Grind.{common_steps}
use Rattle.std.proofs.lemmas.List.{append_assoc, append-nil}

pub ruleset appending = (common_steps, append-nil, append_assoc)
