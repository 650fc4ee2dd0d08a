use Rattle.zl_normal.specs.Origins.{origin}
use Rattle.zl_normal.specs.Table.{IsTable}
use Rattle.zl_normal.proofs.wiring.Wiring.origins.Given as goal

abbrev pub invariant-loop-i : goal.invariant-loop-i
invariant-loop-i l = IsTable l.origins.items l.i (origin l.self.flat.now l.self.grades.now l.self.tables.now l.self.keys.now l.of)
