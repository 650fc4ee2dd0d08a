use Rattle.std.proofs.Common.{take}
use Rattle.zl_grade.specs.Graded.{grading_of}
use Rattle.zl_grade.specs.Needs.{IsFirst}
use Rattle.zl_grade.proofs.first.first_over.Given as goal

abbrev pub invariant-loop-need : goal.invariant-loop-need
invariant-loop-need l = IsFirst (grading_of l.grades) (take l.need-index l.needs) l.first
