-- When what stands in the flows of a form's runs moves as the grades say.
use Rattle.std.specs.Prelude.{◌≡◌, ◌⊎◌, ℕ, ◌<◌, ◌≤◌, Bool, true, false, List, [], ◌∷◌, length, slice_get, Option, Some, None}
use Rattle.zl_value.specs.Fraction.{Fraction, IsReduced, add, sub, mul}
use Rattle.zl_value.specs.Lists.{Has}
use Rattle.zl_value.specs.Times.{nought, unit, is_negative}
use Rattle.zl_value.specs.Script.{IsScriptFor}
use Rattle.zl_value.specs.OperatorTypes.{can_fault}
use Rattle.zl_value.specs.declared.op.Op.{Op}
use Rattle.zl_value.specs.declared.value.Value.{Value}
use Rattle.zl_value.specs.declared.value.Value.TheVariants.{F}
use Rattle.zl_value.specs.declared.value.Ty.{Ty}
use Rattle.zl_value.specs.declared.value.Ty.TheVariants.{Bool as BoolTy, Int, Float}
use Rattle.zl_value.specs.declared.script.Script.{Script}
use Rattle.zl_meaning.specs.FlatForm.{FlatForm}
use Rattle.zl_meaning.specs.Uses.{SlopeOf, ArgumentOf, IsUse}
use Rattle.zl_meaning.specs.State.{Table, state_in, AtPlace, AtUsed, AtValue, value_in}
use Rattle.zl_meaning.specs.History.{Instant, History, state_of}
use Rattle.zl_meaning.specs.Solves.{instant_fault}
use Rattle.zl_meaning.specs.Demand.{is_demanded}
use Rattle.zl_meaning.specs.Flow.{Flow}
use Rattle.zl_meaning.specs.Run.{IsPrefix}
use Rattle.zl_meaning.specs.Inputs.{input_types}
use Rattle.zl_meaning.specs.Grades.{Grading, grade_of, place_grade, op_grade}
use Rattle.zl_meaning.specs.declared.place.Definer.TheVariants.{Plain}
use Rattle.zl_meaning.specs.declared.place.PlaceInfo.{PlaceInfo}
use Rattle.zl_meaning.specs.declared.occurrence.Form.{Form}
use Rattle.zl_meaning.specs.declared.occurrence.Form.TheVariants.{Lit, Read, Last, Op as Apply, If, Arrow, Pre, Result}
use Rattle.zl_meaning.specs.declared.occurrence.Occ.{Occ}

-- the moments of a flow
pub record IsMoment (s : Fraction) : Type 0 where
  pub reduced : IsReduced s
  pub after : is_negative s ≡ false

-- a value that is the same at all moments
abbrev pub StandsStill : (Fraction → Option Value) → Type 0
StandsStill at = (s : Fraction) → IsMoment s → at s ≡ at nought

-- the value at moment `s` on the straight line through those at moments 0 and 1
abbrev pub on_line : Option Value → Option Value → Fraction → Option Value
on_line (Some (F a)) (Some (F b)) s = Some (F (add a (mul s (sub b a))))
on_line _ _ s = None

-- a number that moves on a straight line, or is nowhere
abbrev pub MovesOnLine : (Fraction → Option Value) → Type 0
MovesOnLine at = (s : Fraction) → IsMoment s → at s ≡ on_line (at nought) (at unit) s

-- it was appended by a pass
abbrev pub IsAppended : Grading → ℕ → Type 0
IsAppended g k = length g.occs ≤ k

abbrev pub can_fail : Form → Bool
can_fail (Apply op ks) = can_fault op
can_fail _ = false

abbrev pub is_operator : Form → Bool
is_operator (Apply op ks) = true
is_operator _ = false

abbrev pub operands : Form → List ℕ
operands (Apply op ks) = ks
operands _ = []

-- the forms that an appended occurrence of type float may have
abbrev pub passes_on : Form → Bool
passes_on (Lit v) = true
passes_on (Read p) = true
passes_on (Last p) = true
passes_on (If c x y) = true
passes_on (Arrow x y) = true
passes_on (Pre x) = true
passes_on _ = false

-- the parts from which an occurrence of this form has its value in a flow
abbrev pub passed_by : Form → List ℕ
passed_by (If c x y) = x ∷ y ∷ []
passed_by (Arrow x y) = y ∷ []
passed_by (Result x) = x ∷ []
passed_by _ = []

abbrev pub IsStillType : Ty → Type 0
IsStillType ty = (ty ≡ BoolTy) ⊎ (ty ≡ Int)

-- the value of an occurrence, or of a place, in a flow
abbrev pub value_along : (Fraction → Table) → ℕ → Fraction → Option Value
value_along at k s = value_in (state_in (at s)) k

abbrev pub place_along : (Fraction → Table) → ℕ → Fraction → Option Value
place_along at p s = state_in (at s) (AtPlace p)

-- in the flow `at` after instant `i` everything moves as its grade says; `demanded` says whether a step is demanded then.
-- `whole` is a grading of all occurrences and places, appended ones too
pub record FlowKeeps (f : FlatForm) (g whole : Grading) (i : Instant) (demanded : Bool) (at : Fraction → Table) : Type 0 where
  pub still : (k : ℕ) → grade_of g k ≡ 0 → StandsStill (value_along at k)
  pub still_places : (p : ℕ) (place : PlaceInfo) → slice_get f.places p ≡ Some place → p < length g.places → place_grade g p ≡ 0 → StandsStill (place_along at p)
  pub still_types : (k : ℕ) (occ : Occ) → slice_get f.occs k ≡ Some occ → IsStillType occ.ty → StandsStill (value_along at k)
  pub lines : (k : ℕ) (occ : Occ) → slice_get f.occs k ≡ Some occ → occ.ty ≡ Float → grade_of g k ≡ 1 → MovesOnLine (value_along at k)
  pub line_places : (p : ℕ) (place : PlaceInfo) → slice_get f.places p ≡ Some place → place.ty ≡ Float → place_grade g p ≡ 1 → MovesOnLine (place_along at p)
  pub derivatives : (k : ℕ) (call : Option ℕ) → IsUse f k (SlopeOf call) → StandsStill (value_along at k)
  pub arguments : (k : ℕ) → IsUse f k ArgumentOf → MovesOnLine (value_along at k)
  pub derivatives_start : (k : ℕ) (call : Option ℕ) → demanded ≡ false → IsUse f k (SlopeOf call) → value_along at k nought ≡ value_in (state_of i) k
  pub arguments_start : (k : ℕ) → demanded ≡ false → IsUse f k ArgumentOf → value_along at k nought ≡ value_in (state_of i) k
  pub failing_used : (k : ℕ) (occ : Occ) → demanded ≡ false → slice_get f.occs k ≡ Some occ → can_fail occ.form ≡ true → state_in (at nought) (AtUsed k) ≡ true → state_of i (AtUsed k) ≡ true
  pub failing_operands : (k j : ℕ) (occ : Occ) → demanded ≡ false → slice_get f.occs k ≡ Some occ → can_fail occ.form ≡ true → state_in (at nought) (AtUsed k) ≡ true → Has (operands occ.form) j → state_in (at nought) (AtValue j) ≡ state_of i (AtValue j)
  pub others : (k : ℕ) (s : Fraction) (occ : Occ) → IsMoment s → k < length g.occs → grade_of g k ≡ 3 → slice_get f.occs k ≡ Some occ → is_operator occ.form ≡ true → state_in (at s) (AtUsed k) ≡ false
  pub definers : (p b k : ℕ) (place : PlaceInfo) → slice_get f.places p ≡ Some place → place.ty ≡ Float → place_grade whole p ≤ 1 → Has place.definers (Plain b k) → state_in (at nought) (AtUsed k) ≡ true → grade_of whole k ≤ place_grade whole p
  pub passes : (k j : ℕ) (occ : Occ) → slice_get f.occs k ≡ Some occ → occ.ty ≡ Float → grade_of whole k ≤ 1 → Has (passed_by occ.form) j → state_in (at nought) (AtUsed j) ≡ true → grade_of whole j ≤ grade_of whole k

-- what the form itself keeps of its grades: what was appended only passes values on, and `whole` has the given grades at the
-- old occurrences, and at all no less than the table says of operators and names
pub record FormKeeps (f : FlatForm) (g whole : Grading) : Type 0 where
  pub appended : (k : ℕ) (occ : Occ) → slice_get f.occs k ≡ Some occ → IsAppended g k → occ.ty ≡ Float → passes_on occ.form ≡ true
  pub no_fault : (k : ℕ) (occ : Occ) → slice_get f.occs k ≡ Some occ → IsAppended g k → can_fail occ.form ≡ false
  pub occs_length : length whole.occs ≡ length f.occs
  pub places_length : length whole.places ≡ length f.places
  pub old : (k : ℕ) → k < length g.occs → grade_of whole k ≡ grade_of g k
  pub operators : (k : ℕ) (op : Op) (ks : List ℕ) (occ : Occ) → slice_get f.occs k ≡ Some occ → occ.ty ≡ Float → grade_of whole k ≤ 1 → occ.form ≡ Apply op ks → op_grade whole op ks ≤ grade_of whole k
  pub names : (k p : ℕ) (occ : Occ) → slice_get f.occs k ≡ Some occ → occ.ty ≡ Float → grade_of whole k ≤ 1 → occ.form ≡ Read p → place_grade whole p ≤ grade_of whole k
  pub sites : (k : ℕ) → IsUse f k ArgumentOf → grade_of whole k ≤ 1

-- the form keeps these grades: it does itself, and in the flow after each instant without a fault of each beginning of a
-- run everything moves as its grade says
pub record KeepsGrades (f : FlatForm) (g : Grading) : Type 0 where
  pub whole : Grading
  pub form : FormKeeps f g whole
  pub flows : (script : Script) (h : History) (i : Instant) (at : Fraction → Table) → IsScriptFor (input_types f) script → IsPrefix f g.occs script (i ∷ h) → instant_fault f h i ≡ None → Flow f h i at → FlowKeeps f g whole i (is_demanded f script (i ∷ h)) at
