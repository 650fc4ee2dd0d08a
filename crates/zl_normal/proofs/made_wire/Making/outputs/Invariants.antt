use Rattle.std.proofs.Common.{◌≡◌, ◌++◌, drop, map}
use Rattle.zl_normal.specs.KernelOf as spec
use Rattle.zl_normal.specs.NumberTables.{numbers_of}
use Rattle.zl_normal.proofs.made_wire.Making.outputs.Given as goal

abbrev pub invariant-loop-i : goal.invariant-loop-i
invariant-loop-i l = l.outs.items ++ map (spec.output_of l.self.flat.now l.self.grades.now l.self.tables.now (numbers_of l.self.keys.now l.self.wires.now) l.names) (drop l.i l.places) ≡ map (spec.output_of l.self.flat.now l.self.grades.now l.self.tables.now (numbers_of l.self.keys.now l.self.wires.now) l.names) l.places
