use Rattle.zl_grade.specs.Graded.{grading_of}
use Rattle.zl_grade.specs.Table.{AreSettled}
use Rattle.zl_grade.proofs.table.next_rise.Given as goal

abbrev pub invariant-loop-node : goal.invariant-loop-node
invariant-loop-node l = AreSettled l.flat l.marks (grading_of l.grades) l.waiting.items

abbrev pub decreases-loop-node : goal.decreases-loop-node
decreases-loop-node l = goal.left-loop-node l
