use Rattle.std.proofs.Common.{◌≡◌, ◌++◌, map, drop}
use Rattle.zl_grade.specs.Needs as spec
use Rattle.zl_grade.proofs.needs.add_operands.Given as goal

abbrev pub invariant-loop-operand : goal.invariant-loop-operand
invariant-loop-operand l = l.needs.items ++ map spec.still (drop l.operand-index l.operands) ≡ l.initial.needs.items ++ map spec.still l.operands
