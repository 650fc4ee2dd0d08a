use Rattle.zl_grade.specs.Marks.{HasMarks}
use Rattle.zl_grade.proofs.graded.marks_of.Given as goal

abbrev pub invariant-loop-k : goal.invariant-loop-k
invariant-loop-k l = HasMarks l.blocks l.occs l.apart.marks l.k l.marks.items
