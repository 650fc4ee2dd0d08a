-- A form in which no more is graded than is allowed keeps its grades, in runs in which evaluated tests and derivatives have
-- values.
use Rattle.std.specs.Prelude.{◌≡◌, ℕ, ◌≤◌, true, false, ◌∷◌, slice_get, Option, Some, None}
use Rattle.std.proofs.Common.{refl, sym, ap, ◌∙◌, arith}
use Rattle.zl_value.specs.Fraction.{Fraction}
use Rattle.zl_value.specs.Times.{nought}
use Rattle.zl_value.specs.Lists.{Has}
use Rattle.zl_value.specs.Script.{IsScriptFor}
use Rattle.zl_value.specs.declared.script.Script.{Script}
use Rattle.zl_value.specs.declared.value.Ty.TheVariants.{Float}
use Rattle.zl_meaning.specs.FlatForm.{FlatForm}
use Rattle.zl_meaning.specs.State.{Table, AtUsed, AtValue, state_in, value_in}
use Rattle.zl_meaning.specs.History.{Instant, History, state_of}
use Rattle.zl_meaning.specs.Uses.{SlopeOf, ArgumentOf, IsUse}
use Rattle.zl_meaning.specs.Solves.{instant_fault}
use Rattle.zl_meaning.specs.Demand.{is_demanded}
use Rattle.zl_meaning.specs.Flow.{Flow}
use Rattle.zl_meaning.specs.Run.{IsPrefix}
use Rattle.zl_meaning.specs.Inputs.{input_types}
use Rattle.zl_meaning.specs.Decided.{HasTests, HasDerivatives}
use Rattle.zl_meaning.specs.WellFormed.{Stands}
use Rattle.zl_meaning.specs.Regular.{is_value, is_event}
use Rattle.zl_meaning.specs.Grades.{Grading, grade_of, Derivative, Argument}
use Rattle.zl_meaning.specs.KeepsGrades.{can_fail, operands, FlowKeeps, KeepsGrades}
use Rattle.zl_meaning.specs.declared.occurrence.Form.{Form}
use Rattle.zl_meaning.specs.declared.occurrence.Form.TheVariants.{Op as Apply}
use Rattle.zl_meaning.specs.declared.occurrence.Occ.{Occ}
use Rattle.zl_meaning.specs.GradesLaw.{IsGradable, AreAllowed}
use Rattle.zl_meaning.proofs.LevelsOfRanks.{levels-of-ranks}
use Rattle.zl_meaning.proofs.RanksOfLevels.{ranks-of-levels}
use Rattle.zl_meaning.proofs.Beginnings.{latest-solved}
use Rattle.zl_meaning.proofs.WrittenForms.{true-false}
use Rattle.zl_meaning.proofs.GradesKept.TypedRuns.{prefix_typed}
use Rattle.zl_meaning.proofs.GradesKept.GradeTable.{value_of_none, zero_of_up, needed_le, float_zero, Ground}
use Rattle.zl_meaning.proofs.GradesKept.StartValues.{value_start, failing_used, failing_operands}
use Rattle.zl_meaning.proofs.GradesKept.NeverBlank.{never_blank}
use Rattle.zl_meaning.proofs.GradesKept.FlowItems.{form_keeps, still, still_places, still_types, lines, line_places, derivatives, arguments, others, definers, passes}
use Rattle.zl_meaning.proofs.GradesKept.AtStart.{IsStart}
use Rattle.zl_meaning.proofs.GradesKept.UsesSay.{argument-stands, slope-stands}
use Rattle.zl_meaning.proofs.GradesKept.Starts.{keeps-starts}

module _ (f : FlatForm) (g : Grading) (ground : Ground f g) (tests : HasTests f g.occs) (slopes : HasDerivatives f g.occs) where
  module _ (script : Script) (h : History) (i : Instant) (at : Fraction → Table) (fits : IsScriptFor (input_types f) script) (prefix : IsPrefix f g.occs script (i ∷ h)) (fine : instant_fault f h i ≡ None) (flow : Flow f h i at) where
    -- that instant, with its flow
    start : IsStart f g h i at
    start = record {
      ground = ground;
      flow = flow;
      typed = prefix_typed f script fits ground.formed ground.ranks g.occs (i ∷ h) prefix;
      solved = latest-solved f g.occs script h i prefix;
      decided = record { blank = never_blank f ground.formed ground.ranks g.occs tests script h i fits prefix fine; slopes = slopes script h i fits prefix fine };
      fine = fine;
    }

    -- a number that is no event has at moment 0 the value that it had at the instant
    number_start : (k b : ℕ) (stands : Stands f b Float k) → is_event stands.occ.form ≡ false → grade_of g k ≤ 2 → value_in (state_in (at nought)) k ≡ value_in (state_of i) k
    number_start k b stands event le =
        value_start f g h i at start k stands.occ stands.is
        (value_of_none stands.occ.form event (λ site e. float_zero (sym stands.typed ∙ zero_of_up f ground.formed ground.regular ground.starts k stands.occ site stands.is e))) le

    -- a derivative
    slope_start : (k : ℕ) (call : Option ℕ) → IsUse f k (SlopeOf call) → value_in (state_in (at nought)) k ≡ value_in (state_of i) k
    slope_start k call is =
        let le = needed_le f ground.formed ground.regular ground.starts g ground.grades ground.fine k 0 (Derivative k call is) in
        let stands = slope-stands f k ground.formed call is in
        number_start k stands.0 stands.1 ((ground.regular.occs k stands.1.occ stands.1.is).tests (SlopeOf call) is) (omega (arith, le))

    -- an argument of a site
    argument_start : (k : ℕ) → IsUse f k ArgumentOf → value_in (state_in (at nought)) k ≡ value_in (state_of i) k
    argument_start k is =
        let le = needed_le f ground.formed ground.regular ground.starts g ground.grades ground.fine k 1 (Argument k is) in
        let stands = argument-stands f k ground.formed is in
        number_start k stands.0 stands.1 ((ground.regular.occs k stands.1.occ stands.1.is).tests ArgumentOf is) (omega (arith, le))

    -- an operator that can fault
    used_at : (k : ℕ) (occ : Occ) → slice_get f.occs k ≡ Some occ → (form : Form) → occ.form ≡ form → can_fail form ≡ true → state_in (at nought) (AtUsed k) ≡ true → state_of i (AtUsed k) ≡ true
    used_at k occ is (Apply op ks) e can used = failing_used f g h i at start k occ is (ap (λ x. is_value x) e) used
    used_at k occ is form e can used = absurd (true-false can refl)

    -- its operands
    operands_at : (k j : ℕ) (occ : Occ) → slice_get f.occs k ≡ Some occ → (form : Form) → occ.form ≡ form → can_fail form ≡ true → state_in (at nought) (AtUsed k) ≡ true → Has (operands form) j → state_in (at nought) (AtValue j) ≡ state_of i (AtValue j)
    operands_at k j occ is (Apply op ks) e can used has = failing_operands f g h i at start k j op ks occ is e used has
    operands_at k j occ is form e can used has = absurd (true-false can refl)

    -- in the flow everything moves as its grade says
    flow_keeps : FlowKeeps f g g i (is_demanded f script (i ∷ h)) at
    flow_keeps =
        let t = start.typed in
        record {
          still = still f g ground h i at flow t;
          still_places = λ p place is low z. still_places f g ground h i at flow t p z;
          still_types = still_types f g ground h i at flow t;
          lines = lines f g ground h i at flow t;
          line_places = line_places f g ground h i at flow t;
          derivatives = derivatives f g ground h i at flow t;
          arguments = arguments f g ground h i at flow t;
          derivatives_start = λ k call d has. slope_start k call has;
          arguments_start = λ k d has. argument_start k has;
          failing_used = λ k occ d is can used. used_at k occ is occ.form refl can used;
          failing_operands = λ k j occ d is can used has. operands_at k j occ is occ.form refl can used has;
          others = λ k s occ m low three is op. others f g ground h i at flow t k s occ m three is op;
          definers = λ p b k place is ty le has used. definers f g ground h i at flow t p b k place is has used;
          passes = λ k j occ is ty le has used. passes f g ground h i at flow t k j occ is le has;
        }

  -- so the form keeps its grades
  grades_kept : KeepsGrades f g
  grades_kept = record {
    whole = g;
    form = form_keeps f g ground;
    flows = λ script h i at fits prefix fine flow. flow_keeps script h i at fits prefix fine flow;
  }

-- where no occurrence has a greater grade than is needed of it, the form keeps its grades
pub grades_are_kept : (f : FlatForm) (g : Grading) → IsGradable f → AreAllowed f g → HasTests f g.occs → HasDerivatives f g.occs → KeepsGrades f g
grades_are_kept f g form grades tests slopes =
    let ground : Ground f g = record {
      formed = form.formed;
      regular = form.regular;
      main = form.hybrid;
      single = form.single;
      starts = keeps-starts f form.formed form.regular.copies form.single;
      ranks = ranks-of-levels f form.formed (levels-of-ranks f form.formed form.ranks.of_places form.ranks.of_blocks form.ranks.grow);
      grades = grades.table;
      fine = grades.fine;
    } in
    grades_kept f g ground tests slopes
