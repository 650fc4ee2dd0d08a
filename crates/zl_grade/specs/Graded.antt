-- What the grades of a form are for.
use Rattle.zl_meaning.specs.FlatForm.{FlatForm}
use Rattle.zl_meaning.specs.Decided.{HasTests, HasDerivatives}
use Rattle.zl_meaning.specs.Grades.{Grading}
use Rattle.zl_meaning.specs.KeepsGrades.{KeepsGrades}
use Rattle.zl_meaning.specs.declared.grades.Grades.{Grades}

-- the grades as lists
abbrev pub grading_of : Grades → Grading
grading_of g = record { occs = g.occs.items; places = g.places.items }

-- the form keeps the grades, if in its runs each test and each derivative that is evaluated has a value
abbrev pub KeepsIfDecided : FlatForm → Grading → Type 0
KeepsIfDecided f g = HasTests f g.occs → HasDerivatives f g.occs → KeepsGrades f g
