use Rattle.std.proofs.Common.{◌≡◌, ◌++◌, drop}
use Rattle.zl_normal.specs.Keys as spec
use Rattle.zl_normal.proofs.keys.Source.add_place_memories.Given as goal

abbrev pub invariant-loop-p : goal.invariant-loop-p
invariant-loop-p l = l.kept.items ++ spec.each (spec.place_memories l.self.flat.now l.self.grades.now l.self.tables.now) l.p (drop l.p l.places) ≡ l.initial.kept.items ++ spec.each (spec.place_memories l.self.flat.now l.self.grades.now l.self.tables.now) 0 l.places
