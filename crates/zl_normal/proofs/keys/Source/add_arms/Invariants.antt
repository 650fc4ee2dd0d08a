use Rattle.std.proofs.Common.{◌≡◌, ◌++◌, drop}
use Rattle.zl_normal.specs.Keys as spec
use Rattle.zl_normal.proofs.keys.Source.add_arms.Given as goal

abbrev pub invariant-loop-i : goal.invariant-loop-i
invariant-loop-i l = l.keys.items ++ spec.each (spec.arm_keys l.self.flat.now l.self.grades.now l.self.tables.now l.p) l.i (drop l.i l.arms) ≡ l.initial.keys.items ++ spec.each (spec.arm_keys l.self.flat.now l.self.grades.now l.self.tables.now l.p) 0 l.arms
