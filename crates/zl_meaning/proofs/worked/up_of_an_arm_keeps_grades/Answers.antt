use Rattle.std.specs.Prelude.{◌≡◌, ℕ, zero, suc, ◌<◌, ◌≤◌, pos, negsuc, Bool, true, false, not, ◌&&◌, ◌||◌, if◌then◌else◌, [], ◌∷◌, slice_get, Option, Some, None}
use Rattle.std.proofs.Common.{refl, sym, ap, ap₂, ◌∙◌, subst, arith}
use Rattle.std.proofs.lemmas.Option.{slice_get_within}
use Rattle.zl_value.specs.Fraction.{Fraction}
use Rattle.zl_value.specs.Lists.{Has}
use Rattle.zl_value.specs.Times.{nought, unit}
use Rattle.zl_value.specs.Operators.{answered}
use Rattle.zl_value.proofs.FractionLaws.{IsReduced-whole}
use Rattle.zl_meaning.specs.FlatForm.{HasDefiner}
use Rattle.zl_meaning.specs.Uses.{SlopeOf, ArgumentOf, IsUse, AsSlope, AsArgument}
use Rattle.zl_meaning.specs.State.{Table, Active, Idle, AtControl, AtPlace, AtUsed, AtValue, State, state_in, if_used, value_in, is_active, is_blank}
use Rattle.zl_meaning.specs.History.{Instant, History, state_of, last_active}
use Rattle.zl_meaning.specs.Blocks.{under}
use Rattle.zl_meaning.specs.Occurrences.{given}
use Rattle.zl_meaning.specs.Equation.{equation}
use Rattle.zl_meaning.specs.Solves.{before_of, state_at}
use Rattle.zl_meaning.specs.Flow.{Flow}
use Rattle.zl_meaning.specs.Grades.{grade_of, place_grade}
use Rattle.zl_meaning.specs.KeepsGrades.{IsMoment, StandsStill, MovesOnLine, on_line, value_along, can_fail, is_operator, passed_by, IsStillType, FlowKeeps, FormKeeps}
use Rattle.zl_meaning.specs.declared.place.Definer.TheVariants.{Plain, Der, Start}
use Rattle.zl_meaning.specs.declared.place.PlaceInfo.{PlaceInfo}
use Rattle.zl_meaning.specs.declared.occurrence.Occ.{Occ}
use Rattle.zl_meaning.specs.Worked.UpOfAnArm.{form, grading}
use Rattle.zl_meaning.proofs.Beginnings.{AllHold, IsSolved, each-instant, latest-solved, at-instant, at-moment, at-latest}
use Rattle.zl_meaning.proofs.Members.{has-none, has-cases}
use Rattle.zl_meaning.proofs.NodeRanks.{numbered}
use Rattle.zl_meaning.proofs.Rows.ArmGrades.{are-grades}
use Rattle.zl_meaning.proofs.StraightLines.{IsNumber, Nowhere, Reduced, number-if, answered-given, still-line}
use Rattle.zl_meaning.proofs.WrittenForms.{at-start, at-unit, some-same, true-false, fails_in, operator_in, passed_in, still-float, still-zero}
use Rattle.zl_meaning.proofs.worked.up_of_an_arm_keeps_grades.Goals as goal

-- ---- the form

no-fault : (k : ℕ) (occ : Occ) → slice_get form.occs k ≡ Some occ → can_fail occ.form ≡ false
no-fault k occ is = sym (ap fails_in is) ∙ numbered (λ n o. fails_in o ≡ false) form.occs (λ n. refl) (refl, (refl, (refl, (refl, (refl, (refl, tt)))))) k

no-operator : (k : ℕ) (occ : Occ) → slice_get form.occs k ≡ Some occ → is_operator occ.form ≡ false
no-operator k occ is = sym (ap operator_in is) ∙ numbered (λ n o. operator_in o ≡ false) form.occs (λ n. refl) (refl, (refl, (refl, (refl, (refl, (refl, tt)))))) k

none-passed : (k j : ℕ) (occ : Occ) → slice_get form.occs k ≡ Some occ → Has (passed_by occ.form) j → ⊥
none-passed k j occ is h =
    let none : passed_by occ.form ≡ [] = sym (ap passed_in is) ∙ numbered (λ n o. passed_in o ≡ []) form.occs (λ n. refl) (refl, (refl, (refl, (refl, (refl, (refl, tt)))))) k in
    has-none j (subst (λ ks. Has ks j) none h)

no-slope : (k : ℕ) (call : Option ℕ) → IsUse form k (SlopeOf call) → ⊥
no-slope k _ (AsSlope p b arms call has at) = by_place p has
  where
    by_place : (p : ℕ) → HasDefiner form p (Der b k arms) → ⊥
    by_place zero has =
        has-cases ⊥ (Start 0 1) (Plain 1 4 ∷ []) (Der b k arms) (subst (λ (x : PlaceInfo). Has x.definers (Der b k arms)) (sym (some-same has.1)) has.2) (λ e. cc)
        (λ h. has-cases ⊥ (Plain 1 4) [] (Der b k arms) h (λ e. cc) (λ h. has-none (Der b k arms) h))
    by_place (suc p) has = let none = has.1 in cc

argument-is : (k : ℕ) → IsUse form k ArgumentOf → 3 ≡ k
argument-is k (AsArgument zero site there e) = cc
argument-is k (AsArgument (suc n) site there e) = absurd (cc)

plain-is : (p b k : ℕ) (place : PlaceInfo) → slice_get form.places p ≡ Some place → Has place.definers (Plain b k) → 4 ≡ k
plain-is zero b k place is h =
    has-cases (4 ≡ k) (Start 0 1) (Plain 1 4 ∷ []) (Plain b k) (subst (λ (x : PlaceInfo). Has x.definers (Plain b k)) (sym (some-same is)) h) (λ e. absurd (cc))
    (λ h. has-cases (4 ≡ k) (Plain 1 4) [] (Plain b k) h (λ e. cc) (λ h. absurd (has-none (Plain b k) h)))
plain-is (suc p) b k place is h = absurd (cc)

not-one : (k : ℕ) → grade_of grading k ≡ 1 → ⊥
not-one zero e = omega (arith, e)
not-one (suc zero) e = omega (arith, e)
not-one (suc (suc zero)) e = omega (arith, e)
not-one (suc (suc (suc zero))) e = omega (arith, e)
not-one (suc (suc (suc (suc zero)))) e = omega (arith, e)
not-one (suc (suc (suc (suc (suc zero))))) e = omega (arith, e)
not-one (suc (suc (suc (suc (suc (suc k)))))) e = omega (arith, e)

place-still : (p : ℕ) → place_grade grading p ≡ 0
place-still zero = refl
place-still (suc p) = refl

-- ---- the instants of a run: y has a number, if it has a value

abbrev Number : Instant → Type 0
Number i = IsNumber (state_of i (AtPlace 0))

module _ (h : History) (i : Instant) (solved : IsSolved form h i) where
  active : state_of i (AtControl 0) ≡ Active
  unfolding equation
  active = at-instant form h i solved (AtControl 0)

  start-number : IsNumber (state_of i (AtValue 1))
  unfolding equation
  start-number = subst IsNumber (sym (at-instant form h i solved (AtValue 1))) (number-if _ _ _ (Reduced _ (IsReduced-whole (negsuc 0))) Nowhere)

  arm-number : IsNumber (state_of i (AtValue 4))
  unfolding equation
  arm-number = subst IsNumber (sym (at-instant form h i solved (AtValue 4))) (number-if _ _ _ (Reduced _ (IsReduced-whole (pos 1))) Nowhere)

  number : AllHold Number h → Number i
  unfolding equation
  number before =
      subst IsNumber (sym (at-instant form h i solved (AtPlace 0)))
      (number-if _ _ _
      (number-if _ _ _ arm-number
      (number-if _ _ _ Nowhere
      (number-if _ _ _ start-number
      (number-if _ _ _ Nowhere (at-latest (λ s. IsNumber (s (AtPlace 0))) Nowhere 0 h before))))) Nowhere)

  used-there : state_of i (AtUsed 3) ≡ true
  unfolding equation
  used-there = at-instant form h i solved (AtUsed 3) ∙ ap (λ c. is_active c && true) active

  value-there : state_of i (AtValue 3) ≡ state_of i (AtPlace 0)
  unfolding equation
  value-there = at-instant form h i solved (AtValue 3) ∙ ap (λ c. if is_active c then answered (given (state_of i (AtPlace 0))) else None) active ∙ answered-given (state_of i (AtPlace 0))

  argument-there : value_in (state_of i) 3 ≡ state_of i (AtPlace 0)
  argument-there = ap₂ if_used used-there value-there

-- ---- a flow

module _ (h : History) (i : Instant) (solved : IsSolved form h i) (at : Fraction → Table) (flow : Flow form h i at) (s : Fraction) (m : IsMoment s) where
  abbrev here : State
  here = state_in (at s)

  main-active : here (AtControl 0) ≡ Active
  unfolding equation
  main-active = at-moment form h i at flow s m (AtControl 0)

  arm-idle : here (AtControl 1) ≡ Idle
  unfolding equation
  arm-idle = at-moment form h i at flow s m (AtControl 1) ∙ ap (λ c. under c Idle) main-active

  -- y has the value of the instant
  held : here (AtPlace 0) ≡ state_of i (AtPlace 0)
  unfolding equation
  held =
      at-moment form h i at flow s m (AtPlace 0)
      ∙ ap₂ (λ a b. if is_active a && (true && not (is_blank a || (is_blank b || false))) then (if is_active b then here (AtValue 4) else (if is_blank a || false then None else before_of form (i ∷ h) (AtPlace 0))) else None) main-active arm-idle
      ∙ ap (λ c. state_at (if is_active c then Some i else last_active 0 h) (AtPlace 0)) (active h i solved)

  result-along : value_along at 0 s ≡ state_of i (AtPlace 0)
  unfolding equation
  result-along =
      ap₂ if_used (at-moment form h i at flow s m (AtUsed 0) ∙ ap (λ c. is_active c && true) main-active)
      (at-moment form h i at flow s m (AtValue 0) ∙ ap (λ c. if is_active c then answered (given (here (AtPlace 0))) else None) main-active ∙ answered-given (here (AtPlace 0)))
      ∙ held

  argument-along : value_along at 3 s ≡ state_of i (AtPlace 0)
  unfolding equation
  argument-along =
      ap₂ if_used (at-moment form h i at flow s m (AtUsed 3) ∙ ap (λ c. is_active c && true) main-active)
      (at-moment form h i at flow s m (AtValue 3) ∙ ap (λ c. if is_active c then answered (given (here (AtPlace 0))) else None) main-active ∙ answered-given (here (AtPlace 0)))
      ∙ held

  event-along : value_along at 5 s ≡ None
  unfolding equation
  event-along = ap (λ b. if_used b (here (AtValue 5))) (at-moment form h i at flow s m (AtUsed 5) ∙ ap (λ c. is_active c && false) main-active)

  arm-unused : here (AtUsed 4) ≡ false
  unfolding equation
  arm-unused = at-moment form h i at flow s m (AtUsed 4) ∙ ap (λ c. is_active c && true) arm-idle

module _ (h : History) (i : Instant) (solved : IsSolved form h i) (before : AllHold Number h) (at : Fraction → Table) (flow : Flow form h i at) (demanded : Bool) where
  result-still : StandsStill (value_along at 0)
  result-still s m = result-along h i solved at flow s m ∙ sym (result-along h i solved at flow nought at-start)

  argument-still : StandsStill (value_along at 3)
  argument-still s m = argument-along h i solved at flow s m ∙ sym (argument-along h i solved at flow nought at-start)

  event-still : StandsStill (value_along at 5)
  event-still s m = event-along h i solved at flow s m ∙ sym (event-along h i solved at flow nought at-start)

  argument-line : MovesOnLine (value_along at 3)
  argument-line s m =
      argument-along h i solved at flow s m
      ∙ still-line (state_of i (AtPlace 0)) s m.reduced (number h i solved before)
      ∙ ap₂ (λ x y. on_line x y s) (sym (argument-along h i solved at flow nought at-start)) (sym (argument-along h i solved at flow unit at-unit))

  still : (k : ℕ) → grade_of grading k ≡ 0 → StandsStill (value_along at k)
  still zero e = result-still
  still (suc zero) e = absurd (omega (arith, e))
  still (suc (suc zero)) e = absurd (omega (arith, e))
  still (suc (suc (suc zero))) e = argument-still
  still (suc (suc (suc (suc zero)))) e = absurd (omega (arith, e))
  still (suc (suc (suc (suc (suc zero))))) e = absurd (omega (arith, e))
  still (suc (suc (suc (suc (suc (suc k)))))) e = absurd (omega (arith, e))

  still-types : (k : ℕ) (occ : Occ) → slice_get form.occs k ≡ Some occ → IsStillType occ.ty → StandsStill (value_along at k)
  still-types zero occ is t = still-float (subst (λ (o : Occ). IsStillType o.ty) (sym (some-same is)) t)
  still-types (suc zero) occ is t = still-float (subst (λ (o : Occ). IsStillType o.ty) (sym (some-same is)) t)
  still-types (suc (suc zero)) occ is t = still-zero (subst (λ (o : Occ). IsStillType o.ty) (sym (some-same is)) t)
  still-types (suc (suc (suc zero))) occ is t = still-float (subst (λ (o : Occ). IsStillType o.ty) (sym (some-same is)) t)
  still-types (suc (suc (suc (suc zero)))) occ is t = still-float (subst (λ (o : Occ). IsStillType o.ty) (sym (some-same is)) t)
  still-types (suc (suc (suc (suc (suc zero))))) occ is t = event-still
  still-types (suc (suc (suc (suc (suc (suc k)))))) occ is t = absurd (cc)

  still-places : (p : ℕ) → p < 1 → StandsStill (λ s. state_in (at s) (AtPlace p))
  still-places zero low = λ s m. held h i solved at flow s m ∙ sym (held h i solved at flow nought at-start)
  still-places (suc p) low = absurd (omega (arith, low))

  keeps : FlowKeeps form grading grading i demanded at
  keeps = record {
    still = still;
    still_places = λ p place is low e. still-places p low;
    still_types = still-types;
    lines = λ k occ is t e. absurd (not-one k e);
    line_places = λ p place is t e. (let z = place-still p in absurd (omega (arith, z, e)));
    derivatives = λ k call u. absurd (no-slope k call u);
    arguments = λ k u. subst (λ j. MovesOnLine (value_along at j)) (argument-is k u) argument-line;
    derivatives_start = λ k call d u. absurd (no-slope k call u);
    arguments_start = λ k d u. subst (λ j. value_along at j nought ≡ value_in (state_of i) j) (argument-is k u) (argument-along h i solved at flow nought at-start ∙ sym (argument-there h i solved));
    failing_used = λ k occ d is t u. true-false t (no-fault k occ is);
    failing_operands = λ k j occ d is t u has. true-false t (no-fault k occ is);
    others = λ k s occ m low e is t. true-false t (no-operator k occ is);
    definers = λ p b k place is t low has u. true-false (subst (λ j. state_in (at nought) (AtUsed j) ≡ true) (sym (plain-is p b k place is has)) u) (arm-unused h i solved at flow nought at-start);
    passes = λ k j occ is t low has u. absurd (none-passed k j occ is has);
  }

form-keeps : FormKeeps form grading grading
form-keeps = record {
  appended = λ k occ is more t. (let low = slice_get_within form.occs k occ is in absurd (omega (arith, low, more)));
  no_fault = λ k occ is more. no-fault k occ is;
  occs_length = refl;
  places_length = refl;
  old = λ k low. refl;
  operators = λ k op ks occ is t low e. true-false (ap is_operator e) (no-operator k occ is);
  names = λ k p occ is t low e. (let z = place-still p in omega (arith, z));
  sites = λ k u. subst (λ j. grade_of grading j ≤ 1) (argument-is k u) (omega arith);
}

pub returns : goal.returns
returns c = (
  are-grades,
  record {
    whole = grading;
    form = form-keeps;
    flows = λ script h i at fits begins fine flow.
        keeps h i (latest-solved form grading.occs script h i begins) (each-instant form grading.occs script Number (λ h i before solved. number h i solved before) (i ∷ h) begins).1 at flow _;
  },
)
