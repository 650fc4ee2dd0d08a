-- Grades: how an occurrence moves in a flow. One of grade 0 stands still, one of grade 1 moves on a straight line. The
-- rule is this project's own.
use Rattle.std.specs.Prelude.{◌≡◌, ℕ, ◌<◌, max, nat_eq, nat_le, Bool, true, false, if◌then◌else◌, List, [], ◌∷◌, length, slice_get, get_or, Option, Some}
use Rattle.zl_value.specs.Lists.{Has}
use Rattle.zl_value.specs.declared.op.Op.{Op}
use Rattle.zl_value.specs.declared.op.Op.TheVariants.{AddFloat, SubFloat, MulFloat, DivFloat, NegFloat}
use Rattle.zl_meaning.specs.FlatForm.{FlatForm}
use Rattle.zl_meaning.specs.Uses.{SlopeOf, StartOf, ResetOf, ArgumentOf, IsUse}
use Rattle.zl_meaning.specs.Branches.{Under}
use Rattle.zl_meaning.specs.Regular.{is_hybrid_block, is_value}
use Rattle.zl_meaning.specs.declared.place.Definer.{Definer}
use Rattle.zl_meaning.specs.declared.place.Definer.TheVariants.{Input, Plain, Der, Start}
use Rattle.zl_meaning.specs.declared.place.PlaceInfo.{PlaceInfo}
use Rattle.zl_meaning.specs.declared.occurrence.Form.{Form}
use Rattle.zl_meaning.specs.declared.occurrence.Form.TheVariants.{Read, Op as Apply, If, Arrow, Result, Up, Fired}
use Rattle.zl_meaning.specs.declared.occurrence.Occ.{Occ}

-- the grades of the occurrences and of the places, by number; an occurrence that isn't graded, and one that a pass
-- appended, has 3
pub record Grading : Type 0 where
  pub occs : List ℕ
  pub places : List ℕ

abbrev pub grade_of : Grading → ℕ → ℕ
grade_of g k = get_or g.occs k 3

abbrev pub place_grade : Grading → ℕ → ℕ
place_grade g p = get_or g.places p 0

-- graded is what stands in hybrid context and isn't under an `init` value or a reset value, but no `up` and no event
pub record IsGraded (f : FlatForm) (k : ℕ) : Type 0 where
  pub occ : Occ
  pub is : slice_get f.occs k ≡ Some occ
  pub hybrid : is_hybrid_block f occ.block ≡ true
  pub value : is_value occ.form ≡ true
  pub start : (call : Option ℕ) (b : ℕ) → Under f (StartOf call b) k → ⊥
  pub reset : (call : Option ℕ) (events : List ℕ) (arm : ℕ) → Under f (ResetOf call events arm) k → ⊥

-- a product, a quotient
abbrev pub product_grade : ℕ → ℕ → ℕ
product_grade a b = if nat_eq a 0 then b else if nat_eq b 0 then a else 2

abbrev pub quotient_grade : ℕ → ℕ → ℕ
quotient_grade a b = if nat_eq b 0 then a else 2

-- the grade of an operator's result from those of its operands
abbrev pub op_grade : Grading → Op → List ℕ → ℕ
op_grade g AddFloat (a ∷ b ∷ []) = max (grade_of g a) (grade_of g b)
op_grade g SubFloat (a ∷ b ∷ []) = max (grade_of g a) (grade_of g b)
op_grade g MulFloat (a ∷ b ∷ []) = product_grade (grade_of g a) (grade_of g b)
op_grade g DivFloat (a ∷ b ∷ []) = quotient_grade (grade_of g a) (grade_of g b)
op_grade g NegFloat (a ∷ []) = grade_of g a
op_grade g op ks = 0

-- the grade of an occurrence of this form
abbrev pub form_grade : Grading → Form → ℕ
form_grade g (Read p) = place_grade g p
form_grade g (Result x) = grade_of g x
form_grade g (Apply op ks) = op_grade g op ks
form_grade g (If c x y) = max (grade_of g x) (grade_of g y)
form_grade g (Arrow x y) = grade_of g y
form_grade g form = 0

-- what a definer adds to the grade of its place: a plain one its own grade, if it is graded, a `der` 1
abbrev pub if_graded : ℕ → ℕ
if_graded grade = if nat_le grade 2 then grade else 0

abbrev pub definer_grade : Grading → Definer → ℕ
definer_grade g (Input n) = 0
definer_grade g (Plain b k) = if_graded (grade_of g k)
definer_grade g (Der b slope resets) = 1
definer_grade g (Start b k) = 0

abbrev pub greatest_grade : Grading → List Definer → ℕ
greatest_grade g [] = 0
greatest_grade g (definer ∷ definers) = max (definer_grade g definer) (greatest_grade g definers)

-- the grades are those of the form
pub record AreGrades (f : FlatForm) (g : Grading) : Type 0 where
  pub occs_length : length g.occs ≡ length f.occs
  pub places_length : length g.places ≡ length f.places
  pub graded : (k : ℕ) (occ : Occ) → slice_get f.occs k ≡ Some occ → IsGraded f k → grade_of g k ≡ form_grade g occ.form
  pub others : (k : ℕ) → (IsGraded f k → ⊥) → grade_of g k ≡ 3
  pub places : (p : ℕ) (place : PlaceInfo) → slice_get f.places p ≡ Some place → place_grade g p ≡ greatest_grade g place.definers

-- operators whose operands must stand still: those that don't go on a straight line where their operands do
abbrev pub keeps_lines : Op → Bool
keeps_lines AddFloat = true
keeps_lines SubFloat = true
keeps_lines MulFloat = true
keeps_lines DivFloat = true
keeps_lines NegFloat = true
keeps_lines _ = false

-- no more than this grade is needed of the occurrence
pub data IsNeeded (f : FlatForm) : ℕ → ℕ → Type 0 where
  Condition : (k whole x y : ℕ) (occ : Occ) → IsGraded f whole → slice_get f.occs whole ≡ Some occ → occ.form ≡ If k x y → IsNeeded f k 0
  Operand : (k whole : ℕ) (op : Op) (ks : List ℕ) (occ : Occ) → IsGraded f whole → slice_get f.occs whole ≡ Some occ → occ.form ≡ Apply op ks → keeps_lines op ≡ false → Has ks k → IsNeeded f k 0
  Derivative : (k : ℕ) (call : Option ℕ) → IsUse f k (SlopeOf call) → IsNeeded f k 0
  Argument : (k : ℕ) → IsUse f k ArgumentOf → IsNeeded f k 1

-- a program is refused at the first occurrence that has a greater grade than is needed of it
abbrev pub IsOverGraded : FlatForm → Grading → ℕ → Type 0
IsOverGraded f g k = (limit : ℕ) × IsNeeded f k limit × (limit < grade_of g k)
