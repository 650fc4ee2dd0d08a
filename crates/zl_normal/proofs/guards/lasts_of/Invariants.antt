use Rattle.std.proofs.Common.{◌≡◌, drop}
use Rattle.zl_normal.specs.GuardRoots.{marked_lasts}
use Rattle.zl_normal.proofs.guards.lasts_of.Given as goal

abbrev pub invariant-loop-occ : goal.invariant-loop-occ
invariant-loop-occ l = marked_lasts (drop l.occ-index l.flat.occs) l.lasts.items ≡ marked_lasts l.flat.occs l.initial.lasts.items
