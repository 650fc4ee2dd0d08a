-- No operator has a fault where a flow begins.
use Rattle.zl_meaning.specs.FlatForm.{FlatForm}
use Rattle.zl_meaning.specs.Decided.{HasTests, HasDerivatives}
use Rattle.zl_meaning.specs.Grades.{Grading}
use Rattle.zl_meaning.specs.GradesLaw.{IsGradable, AreAllowed}
use Rattle.zl_normal.specs.Starts.{StartsRight}

-- so it is in a form of which grades are asked, whose grades are allowed and in whose runs each test and each derivative has a
-- value
abbrev pub GradesStartRight : Type 0
GradesStartRight = (f : FlatForm) (g : Grading) → IsGradable f → AreAllowed f g → HasTests f g.occs → HasDerivatives f g.occs → StartsRight f g.occs
