-- What moves by a `der` doesn't stand still by the grades that a form keeps.
use Rattle.zl_meaning.specs.FlatForm.{FlatForm}
use Rattle.zl_meaning.specs.Decided.{HasTests, HasDerivatives}
use Rattle.zl_meaning.specs.Grades.{Grading, AreGrades}
use Rattle.zl_meaning.specs.GradesLaw.{IsGradable, AreAllowed}
use Rattle.zl_meaning.specs.KeepsGrades.{KeepsGrades}
use Rattle.zl_normal.specs.Starts.{GradesMoving}

-- by the table of grades no place that a `der` defines stands still
abbrev pub TableMoves : Type 0
TableMoves = (f : FlatForm) (g : Grading) → AreGrades f g → GradesMoving f g

-- the form keeps these grades, by a grading of all its occurrences and places by which what a `der` defines moves
pub record KeepsMoving (f : FlatForm) (g : Grading) : Type 0 where
  pub grades : KeepsGrades f g
  pub moving : GradesMoving f grades.whole

-- so does a form of which grades are asked, whose grades are allowed and in whose runs each test and each derivative has a value
abbrev pub GradesKeepMoving : Type 0
GradesKeepMoving = (f : FlatForm) (g : Grading) → IsGradable f → AreAllowed f g → HasTests f g.occs → HasDerivatives f g.occs → KeepsMoving f g
