-- The occurrence at which a form is refused whose grades aren't allowed.
use Rattle.std.specs.Prelude.{◌≡◌, ℕ, ◌<◌, slice_get, Some}
use Rattle.zl_value.specs.declared.position.Pos.{Pos}
use Rattle.zl_value.specs.declared.rule.Refusal.{Refusal}
use Rattle.zl_value.specs.declared.rule.Refusal.TheVariants.{Broken, Memory}
use Rattle.zl_value.specs.declared.rule.Rule.TheVariants.{Grade}
use Rattle.zl_meaning.specs.FlatForm.{FlatForm}
use Rattle.zl_meaning.specs.Grades.{Grading, AreGrades, IsOverGraded}
use Rattle.zl_meaning.specs.declared.occurrence.Occ.{Occ}

-- `k` is the first occurrence that has a greater grade than is needed of it
pub record IsFirstOverGraded (f : FlatForm) (g : Grading) (k : ℕ) : Type 0 where
  pub holds : IsOverGraded f g k
  pub before : (j : ℕ) → j < k → IsOverGraded f g j → ⊥

-- with the form's grades, this is the position of the first occurrence that has a greater one than is needed of it
pub record IsOverGradedAt (f : FlatForm) (at : Pos) : Type 0 where
  pub grading : Grading
  pub table : AreGrades f grading
  pub number : ℕ
  pub occ : Occ
  pub is : slice_get f.occs number ≡ Some occ
  pub stands : occ.at ≡ at
  pub first : IsFirstOverGraded f grading number

-- a form is refused by no other rule; want of memory tells nothing
abbrev pub IsRefused : FlatForm → Refusal → Type 0
IsRefused f (Broken rule at) = (rule ≡ Grade) × IsOverGradedAt f at
IsRefused f Memory = Unit {0}
