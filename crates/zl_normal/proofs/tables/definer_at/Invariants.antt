use Rattle.std.proofs.Common.{◌≡◌, drop}
use Rattle.zl_normal.specs.PlaceWires as places
use Rattle.zl_normal.proofs.tables.definer_at.Given as goal

abbrev pub invariant-loop-i : goal.invariant-loop-i
invariant-loop-i l = places.definer_of l.definers ≡ places.definer_of (drop l.i l.definers)
