use Rattle.zl_grade.specs.Graded.{grading_of}
use Rattle.zl_grade.proofs.TableLaws.{all_settled, settled_grades}
use Rattle.zl_grade.proofs.table.table.Goals as goal

pub settle-requires-clause-settled : goal.settle-requires-clause-settled
settle-requires-clause-settled c =
    all_settled c.args.flat.now c.args.marks.now (grading_of c.in_ok-grades.grades) c.in_ok-waiting.waiting.items c.requires.marks.size c.in_ok-grades.ensures c.in_ok-waiting.ensures

pub returns : goal.returns
returns c = settled_grades c.args.flat.now c.args.marks.now (grading_of c.settle.new.grades) c.requires.marks c.in_ok-settle.ensures.below c.in_ok-settle.ensures.settled
