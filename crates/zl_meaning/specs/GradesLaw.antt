-- What grades are for: where no occurrence has a greater grade than is needed of it, everything moves in flows as its grade
-- says.
use Rattle.std.specs.Prelude.{◌≡◌, ℕ, true}
use Rattle.zl_meaning.specs.FlatForm.{FlatForm}
use Rattle.zl_meaning.specs.WellFormed.{IsWellFormed}
use Rattle.zl_meaning.specs.Single.{IsSingle}
use Rattle.zl_meaning.specs.Regular.{is_hybrid_block, IsRegular}
use Rattle.zl_meaning.specs.Causality.{HasRanks}
use Rattle.zl_meaning.specs.Grades.{Grading, AreGrades, IsOverGraded}
use Rattle.zl_meaning.specs.Decided.{HasTests, HasDerivatives}
use Rattle.zl_meaning.specs.KeepsGrades.{KeepsGrades}

-- a form of which grades are asked: it is well-formed, single and regular, its main block is hybrid, and its places and
-- blocks have ranks
pub record IsGradable (f : FlatForm) : Type 0 where
  pub formed : IsWellFormed f
  pub single : IsSingle f
  pub regular : IsRegular f
  pub hybrid : is_hybrid_block f 0 ≡ true
  pub ranks : HasRanks f

-- these are the grades of the form, and no occurrence has a greater one than is needed of it
pub record AreAllowed (f : FlatForm) (g : Grading) : Type 0 where
  pub table : AreGrades f g
  pub fine : (k : ℕ) → IsOverGraded f g k → ⊥

-- such a form keeps its grades, if in its runs each test that is evaluated has a value, and each derivative
abbrev pub GradesAreKept : Type 0
GradesAreKept = (f : FlatForm) (g : Grading) → IsGradable f → AreAllowed f g → HasTests f g.occs → HasDerivatives f g.occs → KeepsGrades f g

-- a well-formed form with ranks has one table of grades at most
abbrev pub HasOneGrading : Type 0
HasOneGrading = (f : FlatForm) → IsWellFormed f → HasRanks f → (g h : Grading) → AreGrades f g → AreGrades f h → g ≡ h
