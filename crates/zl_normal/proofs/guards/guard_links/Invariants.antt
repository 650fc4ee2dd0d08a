use Rattle.std.proofs.Common.{slice_get}
use Rattle.zl_normal.specs.GuardRoots.{link_by}
use Rattle.zl_normal.specs.Table.{IsTable}
use Rattle.zl_normal.proofs.guards.guard_links.Given as goal

abbrev pub invariant-loop-j : goal.invariant-loop-j
invariant-loop-j l = IsTable l.links.items l.j (λ j. link_by l.flat j (slice_get l.roles j))
