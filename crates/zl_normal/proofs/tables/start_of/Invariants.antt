use Rattle.std.proofs.Common.{◌≡◌, drop}
use Rattle.zl_normal.specs.PlaceWires as places
use Rattle.zl_normal.proofs.tables.start_of.Given as goal

abbrev pub invariant-loop-i : goal.invariant-loop-i
invariant-loop-i l = places.start_of l.definers ≡ places.start_of (drop l.i l.definers)
