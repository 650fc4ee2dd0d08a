use Rattle.std.proofs.Common.{◌≡◌, ◌++◌, map, drop}
use Rattle.zl_grade.specs.Table.{first_grade}
use Rattle.zl_grade.proofs.table.first_grades.Given as goal

abbrev pub invariant-loop-mark : goal.invariant-loop-mark
invariant-loop-mark l = l.grades.items ++ map first_grade (drop l.mark-index l.marks) ≡ map first_grade l.marks
