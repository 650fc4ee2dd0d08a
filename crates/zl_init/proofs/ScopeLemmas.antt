-- The variables of one declaration among those of all.
use Rattle.std.proofs.Common.{◌≡◌, ℕ, ◌<◌, List, map, length, slice_get, get_or, Some, sym, ap, ◌∙◌}
use Rattle.std.proofs.lemmas.Grind.{common_steps}
use Rattle.std.proofs.lemmas.List.{length-map, append-nil}

pub ruleset scope_steps = (common_steps, append-nil, length-map)
