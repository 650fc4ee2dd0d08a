use Rattle.zl_normal.specs.GuardRoots.{is_free_root}
use Rattle.zl_normal.specs.Table.{IsTable}
use Rattle.zl_normal.proofs.guards.free_of.Given as goal

abbrev pub invariant-loop-j : goal.invariant-loop-j
invariant-loop-j l = IsTable l.free.items l.j (is_free_root l.roles l.roots)
