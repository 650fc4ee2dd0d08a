use Rattle.zl_normal.specs.GuardRoots.{guard_by_root}
use Rattle.zl_normal.specs.Table.{IsTable}
use Rattle.zl_normal.proofs.wiring.Wiring.guards.Given as goal

abbrev pub invariant-loop-j : goal.invariant-loop-j
invariant-loop-j l = IsTable l.found.items l.j (guard_by_root l.self.flat.now l.self.tables.now l.self.keys.now l.values l.roots)
