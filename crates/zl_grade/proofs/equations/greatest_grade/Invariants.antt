use Rattle.std.proofs.Common.{◌≡◌, max, drop}
use Rattle.zl_meaning.specs.Grades as spec
use Rattle.zl_grade.specs.Graded.{grading_of}
use Rattle.zl_grade.proofs.equations.greatest_grade.Given as goal

abbrev pub invariant-loop-definer : goal.invariant-loop-definer
invariant-loop-definer l = max l.greatest (spec.greatest_grade (grading_of l.grades) (drop l.definer-index l.definers)) ≡ spec.greatest_grade (grading_of l.grades) l.definers
