use Rattle.std.proofs.Common.{◌≡◌, ◌++◌, drop}
use Rattle.zl_normal.specs.Keys as spec
use Rattle.zl_normal.proofs.keys.Source.add_occs.Given as goal

abbrev pub invariant-loop-j : goal.invariant-loop-j
invariant-loop-j l = l.keys.items ++ spec.each (spec.occ_keys l.self.flat.now l.self.grades.now l.self.tables.now) l.j (drop l.j l.occs) ≡ l.initial.keys.items ++ spec.each (spec.occ_keys l.self.flat.now l.self.grades.now l.self.tables.now) 0 l.occs
