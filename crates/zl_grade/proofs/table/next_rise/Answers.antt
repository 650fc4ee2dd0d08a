use Rattle.std.proofs.Common.{◌≤◌, arith}
use Rattle.zl_grade.specs.Equations.{grade_at, given}
use Rattle.zl_grade.specs.Graded.{grading_of}
use Rattle.zl_grade.proofs.TableLaws.{settled_others, settled_rest}
use Rattle.zl_grade.proofs.table.next_rise.Goals as goal

pub returns-then-grade-grade_at : goal.returns-then-grade-grade_at
returns-then-grade-grade_at c = (
  c.given-grade.ensures,
  omega arith,
  settled_others c.args.flat.now c.args.marks.now (grading_of c.args.grades.now) c.loop-node.waiting.items c.pop.new.self.items c.in-Some.node c.in-Some.ensures.items c.loop-node.invariant,
)

pub loop-node-preserved : goal.loop-node-preserved
loop-node-preserved c =
    let g = grading_of c.args.grades.now in
    let low : given c.args.flat.now c.args.marks.now g c.in-Some.node ≤ grade_at g c.in-Some.node = omega (arith, c.given-grade.ensures, c.grade_at.ensures) in
    settled_rest c.args.flat.now c.args.marks.now g c.loop-node.waiting.items c.pop.new.self.items c.in-Some.node c.in-Some.ensures.items c.loop-node.invariant low
