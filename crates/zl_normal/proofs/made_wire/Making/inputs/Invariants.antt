use Rattle.std.proofs.Common.{◌≡◌, ◌++◌, drop, map, slice_get}
use Rattle.zl_normal.specs.KernelOf as spec
use Rattle.zl_normal.specs.NumberTables.{numbers_of}
use Rattle.zl_normal.proofs.made_wire.Making.inputs.Given as goal

abbrev pub invariant-loop-i : goal.invariant-loop-i
invariant-loop-i l = l.ins.items ++ map (λ p. spec.input_of l.self.flat.now l.self.grades.now l.self.tables.now (numbers_of l.self.keys.now l.self.wires.now) l.names (slice_get l.self.flat.now.places p)) (drop l.i l.places) ≡ map (λ p. spec.input_of l.self.flat.now l.self.grades.now l.self.tables.now (numbers_of l.self.keys.now l.self.wires.now) l.names (slice_get l.self.flat.now.places p)) l.places
