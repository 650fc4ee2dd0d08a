use Rattle.std.proofs.Common.{◌≡◌, ◌++◌, drop, map}
use Rattle.zl_normal.specs.KernelOf as spec
use Rattle.zl_normal.specs.NumberTables.{numbers_of}
use Rattle.zl_normal.proofs.made_wire.Making.wires.Given as goal

abbrev pub invariant-loop-i : goal.invariant-loop-i
invariant-loop-i l = l.wires.items ++ map (spec.wire_of l.self.flat.now l.self.grades.now l.self.tables.now (numbers_of l.self.keys.now l.self.wires.now)) (drop l.i l.keys) ≡ map (spec.wire_of l.self.flat.now l.self.grades.now l.self.tables.now (numbers_of l.self.keys.now l.self.wires.now)) l.keys
