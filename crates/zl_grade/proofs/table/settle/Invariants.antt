use Rattle.zl_grade.specs.Graded.{grading_of}
use Rattle.zl_grade.specs.Table.{AreSettled, IsBelow}
use Rattle.zl_grade.proofs.Rising.{left}
use Rattle.zl_grade.proofs.table.settle.Given as goal

abbrev pub invariant-loop-rise : goal.invariant-loop-rise
invariant-loop-rise l = record {
  below : IsBelow l.flat l.marks (grading_of l.grades);
  settled : AreSettled l.flat l.marks (grading_of l.grades) l.waiting.items;
}

abbrev pub decreases-loop-rise : goal.decreases-loop-rise
decreases-loop-rise l = left (grading_of l.grades)
