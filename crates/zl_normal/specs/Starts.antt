-- What a form keeps of the beginnings of its flows, beside its grades.
use Rattle.std.specs.Prelude.{◌≡◌, ℕ, ◌≤◌, true, false, List, ◌∷◌, slice_get, Option, Some, None}
use Rattle.zl_value.specs.Fraction.{Fraction, fits}
use Rattle.zl_value.specs.Lists.{Has}
use Rattle.zl_value.specs.Times.{nought}
use Rattle.zl_value.specs.Script.{IsScriptFor}
use Rattle.zl_value.specs.declared.value.Value.TheVariants.{F}
use Rattle.zl_value.specs.declared.op.Op.{Op}
use Rattle.zl_value.specs.declared.script.Script.{Script}
use Rattle.zl_meaning.specs.FlatForm.{FlatForm}
use Rattle.zl_meaning.specs.Uses.{SlopeOf, IsUse}
use Rattle.zl_meaning.specs.State.{Table, State, state_in, AtUsed, AtValue}
use Rattle.zl_meaning.specs.History.{Instant, History, state_of}
use Rattle.zl_meaning.specs.Moment.{AtStep}
use Rattle.zl_meaning.specs.Occurrences.{gathered, applied}
use Rattle.zl_meaning.specs.Solves.{instant_fault, fault_of}
use Rattle.zl_meaning.specs.Run.{IsPrefix}
use Rattle.zl_meaning.specs.Inputs.{input_types}
use Rattle.zl_meaning.specs.Flow.{Flow}
use Rattle.zl_meaning.specs.Demand.{is_demanded}
use Rattle.zl_meaning.specs.Decided.{AtAllInstants}
use Rattle.zl_meaning.specs.Grades.{Grading, place_grade}
use Rattle.zl_meaning.specs.KeepsGrades.{KeepsGrades}
use Rattle.zl_meaning.specs.declared.place.Definer.TheVariants.{Der}
use Rattle.zl_meaning.specs.declared.place.DerArm.{DerArm}
use Rattle.zl_meaning.specs.declared.place.PlaceInfo.{PlaceInfo}
use Rattle.zl_meaning.specs.declared.occurrence.Form.TheVariants.{Op as Apply}
use Rattle.zl_meaning.specs.declared.occurrence.Occ.{Occ}

-- no operator that is evaluated would have a fault in this state, where numbers have a width
abbrev pub IsRight : FlatForm → State → Type 0
IsRight f s = (k : ℕ) (occ : Occ) (op : Op) (ks : List ℕ) → slice_get f.occs k ≡ Some occ → occ.form ≡ Apply op ks → s (AtUsed k) ≡ true → fault_of occ.at (applied AtStep op (gathered s ks)) ≡ None

-- so it is where the flow after an instant of a run begins, if no step is demanded
abbrev pub StartsRight : FlatForm → List ℕ → Type 0
StartsRight f grades = (script : Script) (h : History) (i : Instant) (at : Fraction → Table) → IsScriptFor (input_types f) script → IsPrefix f grades script (i ∷ h) → instant_fault f h i ≡ None → is_demanded f script (i ∷ h) ≡ false → Flow f h i at → IsRight f (state_in (at nought))

-- each derivative that is evaluated at an instant without a fault is a number in the width
abbrev pub HasNarrowDerivatives : FlatForm → List ℕ → Type 0
HasNarrowDerivatives f grades = AtAllInstants f grades (λ i. (k : ℕ) (call : Option ℕ) → IsUse f k (SlopeOf call) → state_of i (AtUsed k) ≡ true → (slope : Fraction) × (state_of i (AtValue k) ≡ Some (F slope)) × (fits slope ≡ true))

-- what moves by a `der` doesn't stand still by these grades
abbrev pub GradesMoving : FlatForm → Grading → Type 0
GradesMoving f g = (p b k : ℕ) (place : PlaceInfo) (arms : List DerArm) → slice_get f.places p ≡ Some place → Has place.definers (Der b k arms) → 1 ≤ place_grade g p

-- what a form keeps of its flows: its grades, by which what moves doesn't stand still, and how they begin
pub record KeepsFlows (f : FlatForm) (g : Grading) : Type 0 where
  pub grades : KeepsGrades f g
  pub moving : GradesMoving f grades.whole
  pub starts : StartsRight f g.occs
  pub derivatives : HasNarrowDerivatives f g.occs
