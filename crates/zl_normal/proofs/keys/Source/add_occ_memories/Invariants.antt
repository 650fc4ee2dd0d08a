use Rattle.std.proofs.Common.{◌≡◌, ◌++◌, drop}
use Rattle.zl_normal.specs.Keys as spec
use Rattle.zl_normal.proofs.keys.Source.add_occ_memories.Given as goal

abbrev pub invariant-loop-j : goal.invariant-loop-j
invariant-loop-j l = l.kept.items ++ spec.each (spec.occ_memories l.self.flat.now l.self.grades.now l.self.tables.now) l.j (drop l.j l.occs) ≡ l.initial.kept.items ++ spec.each (spec.occ_memories l.self.flat.now l.self.grades.now l.self.tables.now) 0 l.occs
