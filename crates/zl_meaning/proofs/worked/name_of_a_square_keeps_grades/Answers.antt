use Rattle.std.specs.Prelude.{◌≡◌, ℕ, zero, suc, ◌<◌, ◌≤◌, pos, Bool, true, false, not, ◌&&◌, ◌||◌, if◌then◌else◌, [], ◌∷◌, slice_get, Option, Some, None}
use Rattle.std.proofs.Common.{refl, sym, ap, ap₂, ◌∙◌, subst, arith}
use Rattle.std.proofs.lemmas.Option.{slice_get_within}
use Rattle.zl_value.specs.Fraction.{Fraction, whole}
use Rattle.zl_value.specs.Lists.{Has}
use Rattle.zl_value.specs.Times.{nought, unit}
use Rattle.zl_value.specs.Operators.{answered}
use Rattle.zl_value.specs.Instants.{Kind, Step, Left}
use Rattle.zl_value.specs.declared.value.Value.{Value}
use Rattle.zl_value.specs.declared.value.Value.TheVariants.{F}
use Rattle.zl_value.proofs.FractionLaws.{IsReduced-whole}
use Rattle.zl_meaning.specs.FlatForm.{HasDefiner}
use Rattle.zl_meaning.specs.Uses.{SlopeOf, ArgumentOf, IsUse, AsSlope, AsArgument}
use Rattle.zl_meaning.specs.State.{Table, Active, AtControl, AtPlace, AtUsed, AtValue, State, state_in, if_used, value_in, is_active, is_blank}
use Rattle.zl_meaning.specs.History.{Instant, History, state_of}
use Rattle.zl_meaning.specs.Moment.{Moment}
use Rattle.zl_meaning.specs.Places.{der_value, moved}
use Rattle.zl_meaning.specs.Occurrences.{given}
use Rattle.zl_meaning.specs.Equation.{equation}
use Rattle.zl_meaning.specs.Solves.{before_of, mode_of, moment_of}
use Rattle.zl_meaning.specs.Flow.{Flow}
use Rattle.zl_meaning.specs.Grades.{grade_of, place_grade}
use Rattle.zl_meaning.specs.KeepsGrades.{IsMoment, StandsStill, MovesOnLine, on_line, value_along, place_along, can_fail, is_operator, operands, passed_by, IsStillType, FlowKeeps, FormKeeps}
use Rattle.zl_meaning.specs.declared.place.Definer.TheVariants.{Plain, Der, Start}
use Rattle.zl_meaning.specs.declared.place.PlaceInfo.{PlaceInfo}
use Rattle.zl_meaning.specs.declared.occurrence.Form.{Form}
use Rattle.zl_meaning.specs.declared.occurrence.Form.TheVariants.{Read, Op as Apply}
use Rattle.zl_meaning.specs.declared.occurrence.Occ.{Occ}
use Rattle.zl_meaning.specs.Worked.NameOfASquare.{form, grading}
use Rattle.zl_meaning.proofs.Beginnings.{AllHold, IsSolved, each-instant, latest-solved, at-instant, at-moment, at-latest, at-newest}
use Rattle.zl_meaning.proofs.Members.{has-none, has-cases}
use Rattle.zl_meaning.proofs.NodeRanks.{numbered}
use Rattle.zl_meaning.proofs.Rows.SquareGrades.{are-grades}
use Rattle.zl_meaning.proofs.StraightLines.{IsNumber, Nowhere, Reduced, number-if, number-moved, answered-given, moved-start, moved-line}
use Rattle.zl_meaning.proofs.WrittenForms.{at-start, at-unit, some-same, true-false, operator_in, passed_in, still-float}
use Rattle.zl_meaning.proofs.worked.name_of_a_square_keeps_grades.Goals as goal

-- ---- the form

operator-is : (k : ℕ) (occ : Occ) → slice_get form.occs k ≡ Some occ → is_operator occ.form ≡ true → 4 ≡ k
operator-is zero occ is t = true-false t (sym (ap operator_in is))
operator-is (suc zero) occ is t = true-false t (sym (ap operator_in is))
operator-is (suc (suc zero)) occ is t = true-false t (sym (ap operator_in is))
operator-is (suc (suc (suc zero))) occ is t = true-false t (sym (ap operator_in is))
operator-is (suc (suc (suc (suc zero)))) occ is t = refl
operator-is (suc (suc (suc (suc (suc zero))))) occ is t = true-false t (sym (ap operator_in is))
operator-is (suc (suc (suc (suc (suc (suc zero)))))) occ is t = true-false t (sym (ap operator_in is))
operator-is (suc (suc (suc (suc (suc (suc (suc k))))))) occ is t = absurd (cc)

fails-operator : (form : Form) → can_fail form ≡ true → is_operator form ≡ true
fails-operator (Apply op ks) t = refl
fails-operator _ t = absurd (cc)

none-passed : (k j : ℕ) (occ : Occ) → slice_get form.occs k ≡ Some occ → Has (passed_by occ.form) j → ⊥
none-passed k j occ is h =
    let none : passed_by occ.form ≡ [] = sym (ap passed_in is) ∙ numbered (λ n o. passed_in o ≡ []) form.occs (λ n. refl) (refl, (refl, (refl, (refl, (refl, (refl, (refl, tt))))))) k in
    has-none j (subst (λ ks. Has ks j) none h)

slope-is : (k : ℕ) (call : Option ℕ) → IsUse form k (SlopeOf call) → 1 ≡ k
slope-is k _ (AsSlope p b arms call has at) = by_place p has
  where
    by_place : (p : ℕ) → HasDefiner form p (Der b k arms) → 1 ≡ k
    by_place zero has =
        has-cases (1 ≡ k) (Der 0 1 []) (Start 0 2 ∷ []) (Der b k arms) (subst (λ (x : PlaceInfo). Has x.definers (Der b k arms)) (sym (some-same has.1)) has.2) (λ e. cc)
        (λ h. has-cases (1 ≡ k) (Start 0 2) [] (Der b k arms) h (λ e. absurd (cc)) (λ h. absurd (has-none (Der b k arms) h)))
    by_place (suc zero) has =
        has-cases (1 ≡ k) (Plain 0 4) [] (Der b k arms) (subst (λ (x : PlaceInfo). Has x.definers (Der b k arms)) (sym (some-same has.1)) has.2) (λ e. absurd (cc)) (λ h. absurd (has-none (Der b k arms) h))
    by_place (suc (suc zero)) has =
        has-cases (1 ≡ k) (Plain 0 6) [] (Der b k arms) (subst (λ (x : PlaceInfo). Has x.definers (Der b k arms)) (sym (some-same has.1)) has.2) (λ e. absurd (cc)) (λ h. absurd (has-none (Der b k arms) h))
    by_place (suc (suc (suc p))) has = let none = has.1 in absurd (cc)

no-argument : (k : ℕ) → IsUse form k ArgumentOf → ⊥
no-argument k (AsArgument n site there e) = cc

-- no plain definer is of a place of grade 1 at most
no-low-plain : (p b k : ℕ) (place : PlaceInfo) → slice_get form.places p ≡ Some place → place_grade grading p ≤ 1 → Has place.definers (Plain b k) → ⊥
no-low-plain zero b k place is low h =
    has-cases ⊥ (Der 0 1 []) (Start 0 2 ∷ []) (Plain b k) (subst (λ (x : PlaceInfo). Has x.definers (Plain b k)) (sym (some-same is)) h) (λ e. cc)
    (λ h. has-cases ⊥ (Start 0 2) [] (Plain b k) h (λ e. cc) (λ h. has-none (Plain b k) h))
no-low-plain (suc zero) b k place is low h = omega (arith, low)
no-low-plain (suc (suc zero)) b k place is low h = omega (arith, low)
no-low-plain (suc (suc (suc p))) b k place is low h = cc

still-is : (k : ℕ) → grade_of grading k ≡ 0 → 1 ≡ k
still-is zero e = absurd (omega (arith, e))
still-is (suc zero) e = refl
still-is (suc (suc zero)) e = absurd (omega (arith, e))
still-is (suc (suc (suc zero))) e = absurd (omega (arith, e))
still-is (suc (suc (suc (suc zero)))) e = absurd (omega (arith, e))
still-is (suc (suc (suc (suc (suc zero))))) e = absurd (omega (arith, e))
still-is (suc (suc (suc (suc (suc (suc zero)))))) e = absurd (omega (arith, e))
still-is (suc (suc (suc (suc (suc (suc (suc k))))))) e = absurd (omega (arith, e))

no-still-place : (p : ℕ) → p < 3 → place_grade grading p ≡ 0 → ⊥
no-still-place zero low e = omega (arith, e)
no-still-place (suc zero) low e = omega (arith, e)
no-still-place (suc (suc zero)) low e = omega (arith, e)
no-still-place (suc (suc (suc p))) low e = omega (arith, low)

moving-place : (p : ℕ) → place_grade grading p ≡ 1 → 0 ≡ p
moving-place zero e = refl
moving-place (suc zero) e = absurd (omega (arith, e))
moving-place (suc (suc zero)) e = absurd (omega (arith, e))
moving-place (suc (suc (suc p))) e = absurd (omega (arith, e))

no-still-type : {R : Type 0} (k : ℕ) (occ : Occ) → slice_get form.occs k ≡ Some occ → IsStillType occ.ty → R
no-still-type zero occ is t = still-float (subst (λ (o : Occ). IsStillType o.ty) (sym (some-same is)) t)
no-still-type (suc zero) occ is t = still-float (subst (λ (o : Occ). IsStillType o.ty) (sym (some-same is)) t)
no-still-type (suc (suc zero)) occ is t = still-float (subst (λ (o : Occ). IsStillType o.ty) (sym (some-same is)) t)
no-still-type (suc (suc (suc zero))) occ is t = still-float (subst (λ (o : Occ). IsStillType o.ty) (sym (some-same is)) t)
no-still-type (suc (suc (suc (suc zero)))) occ is t = still-float (subst (λ (o : Occ). IsStillType o.ty) (sym (some-same is)) t)
no-still-type (suc (suc (suc (suc (suc zero))))) occ is t = still-float (subst (λ (o : Occ). IsStillType o.ty) (sym (some-same is)) t)
no-still-type (suc (suc (suc (suc (suc (suc zero)))))) occ is t = still-float (subst (λ (o : Occ). IsStillType o.ty) (sym (some-same is)) t)
no-still-type (suc (suc (suc (suc (suc (suc (suc k))))))) occ is t = absurd (cc)

-- ---- the instants of a run: x and its derivative have numbers, if they have values

abbrev Numbers : State → Type 0
Numbers s = IsNumber (s (AtPlace 0)) × IsNumber (s (AtValue 1))

der-number : (m : Moment) (s : State) (kind : Kind) (last : Option Value) → IsNumber last → IsNumber (moved (m.start (AtPlace 0)) (m.start (AtValue 1)) m.passed) → IsNumber (der_value m s (mode_of kind) 0 1 [] last)
der-number m s Step last p q = p
der-number m s Left last p q = q

module _ (h : History) (i : Instant) (solved : IsSolved form h i) where
  active : state_of i (AtControl 0) ≡ Active
  unfolding equation
  active = at-instant form h i solved (AtControl 0)

  slope-there : state_of i (AtValue 1) ≡ Some (F (whole (pos 1)))
  unfolding equation
  slope-there = at-instant form h i solved (AtValue 1) ∙ ap (λ c. if is_active c then Some (F (whole (pos 1))) else None) active

  start-number : IsNumber (state_of i (AtValue 2))
  unfolding equation
  start-number = subst IsNumber (sym (at-instant form h i solved (AtValue 2))) (number-if _ _ _ (Reduced _ (IsReduced-whole (pos 0))) Nowhere)

  last-number : AllHold (λ j. Numbers (state_of j)) h → IsNumber (before_of form h (AtPlace 0))
  last-number before = (at-latest Numbers (Nowhere, Nowhere) 0 h before).0

  number : AllHold (λ j. Numbers (state_of j)) h → IsNumber (state_of i (AtPlace 0))
  unfolding equation
  number before =
      let newest = at-newest Numbers (Nowhere, Nowhere) h before in
      subst IsNumber (sym (at-instant form h i solved (AtPlace 0)))
      (number-if _ _ _
      (number-if _ _ _
      (der-number (moment_of form h solved.passed i) (state_of i) i.kind _
      (number-if _ _ _ Nowhere (number-if _ _ _ start-number (number-if _ _ _ Nowhere (last-number before))))
      (number-moved _ _ solved.passed solved.reduced newest.0 newest.1))
      (number-if _ _ _ Nowhere (number-if _ _ _ start-number (number-if _ _ _ Nowhere (last-number before)))))
      Nowhere)

  numbers : AllHold (λ j. Numbers (state_of j)) h → Numbers (state_of i)
  numbers before = (number before, subst IsNumber (sym slope-there) (Reduced (whole (pos 1)) (IsReduced-whole (pos 1))))

  used-slope : state_of i (AtUsed 1) ≡ true
  unfolding equation
  used-slope = at-instant form h i solved (AtUsed 1) ∙ ap (λ c. is_active c && true) active

  used-square : state_of i (AtUsed 4) ≡ true
  unfolding equation
  used-square = at-instant form h i solved (AtUsed 4) ∙ ap (λ c. is_active c && true) active

  left-there : state_of i (AtValue 3) ≡ state_of i (AtPlace 0)
  unfolding equation
  left-there = at-instant form h i solved (AtValue 3) ∙ ap (λ c. if is_active c then answered (given (state_of i (AtPlace 0))) else None) active ∙ answered-given (state_of i (AtPlace 0))

  right-there : state_of i (AtValue 5) ≡ state_of i (AtPlace 0)
  unfolding equation
  right-there = at-instant form h i solved (AtValue 5) ∙ ap (λ c. if is_active c then answered (given (state_of i (AtPlace 0))) else None) active ∙ answered-given (state_of i (AtPlace 0))

-- ---- a flow

module _ (h : History) (i : Instant) (solved : IsSolved form h i) (at : Fraction → Table) (flow : Flow form h i at) (s : Fraction) (m : IsMoment s) where
  abbrev here : State
  here = state_in (at s)

  main-active : here (AtControl 0) ≡ Active
  unfolding equation
  main-active = at-moment form h i at flow s m (AtControl 0)

  -- x moves with slope 1
  moves : here (AtPlace 0) ≡ moved (state_of i (AtPlace 0)) (Some (F (whole (pos 1)))) s
  unfolding equation
  moves =
      at-moment form h i at flow s m (AtPlace 0)
      ∙ ap (λ c. if is_active c && (true && not (is_blank c || (is_blank c || false))) then (if is_active c then moved (state_of i (AtPlace 0)) (state_of i (AtValue 1)) s else (if is_blank c || false then None else before_of form (i ∷ h) (AtPlace 0))) else None) main-active
      ∙ ap (λ k. moved (state_of i (AtPlace 0)) k s) (slope-there h i solved)

  square-used : here (AtUsed 4) ≡ true
  unfolding equation
  square-used = at-moment form h i at flow s m (AtUsed 4) ∙ ap (λ c. is_active c && true) main-active

  slope-along : value_along at 1 s ≡ Some (F (whole (pos 1)))
  unfolding equation
  slope-along =
      ap₂ if_used (at-moment form h i at flow s m (AtUsed 1) ∙ ap (λ c. is_active c && true) main-active)
      (at-moment form h i at flow s m (AtValue 1) ∙ ap (λ c. if is_active c then Some (F (whole (pos 1))) else None) main-active)

  left-value : here (AtValue 3) ≡ here (AtPlace 0)
  unfolding equation
  left-value = at-moment form h i at flow s m (AtValue 3) ∙ ap (λ c. if is_active c then answered (given (here (AtPlace 0))) else None) main-active ∙ answered-given (here (AtPlace 0))

  right-value : here (AtValue 5) ≡ here (AtPlace 0)
  unfolding equation
  right-value = at-moment form h i at flow s m (AtValue 5) ∙ ap (λ c. if is_active c then answered (given (here (AtPlace 0))) else None) main-active ∙ answered-given (here (AtPlace 0))

  left-along : value_along at 3 s ≡ here (AtPlace 0)
  unfolding equation
  left-along = ap₂ if_used (at-moment form h i at flow s m (AtUsed 3) ∙ ap₂ (λ c u. is_active c && (u || false)) main-active square-used) left-value

  right-along : value_along at 5 s ≡ here (AtPlace 0)
  unfolding equation
  right-along = ap₂ if_used (at-moment form h i at flow s m (AtUsed 5) ∙ ap₂ (λ c u. is_active c && (u || false)) main-active square-used) right-value

module _ (h : History) (i : Instant) (solved : IsSolved form h i) (before : AllHold (λ j. Numbers (state_of j)) h) (at : Fraction → Table) (flow : Flow form h i at) (demanded : Bool) where
  place-line : MovesOnLine (place_along at 0)
  place-line s m =
      moves h i solved at flow s m
      ∙ moved-line (state_of i (AtPlace 0)) (whole (pos 1)) s (number h i solved before) (IsReduced-whole (pos 1)) m.reduced
      ∙ ap₂ (λ x y. on_line x y s) (sym (moves h i solved at flow nought at-start)) (sym (moves h i solved at flow unit at-unit))

  left-line : MovesOnLine (value_along at 3)
  left-line s m =
      left-along h i solved at flow s m ∙ place-line s m
      ∙ ap₂ (λ x y. on_line x y s) (sym (left-along h i solved at flow nought at-start)) (sym (left-along h i solved at flow unit at-unit))

  right-line : MovesOnLine (value_along at 5)
  right-line s m =
      right-along h i solved at flow s m ∙ place-line s m
      ∙ ap₂ (λ x y. on_line x y s) (sym (right-along h i solved at flow nought at-start)) (sym (right-along h i solved at flow unit at-unit))

  slope-still : StandsStill (value_along at 1)
  slope-still s m = slope-along h i solved at flow s m ∙ sym (slope-along h i solved at flow nought at-start)

  slope-start : value_along at 1 nought ≡ value_in (state_of i) 1
  slope-start = slope-along h i solved at flow nought at-start ∙ sym (ap₂ if_used (used-slope h i solved) (slope-there h i solved))

  lines : (k : ℕ) → grade_of grading k ≡ 1 → MovesOnLine (value_along at k)
  lines zero e = absurd (omega (arith, e))
  lines (suc zero) e = absurd (omega (arith, e))
  lines (suc (suc zero)) e = absurd (omega (arith, e))
  lines (suc (suc (suc zero))) e = left-line
  lines (suc (suc (suc (suc zero)))) e = absurd (omega (arith, e))
  lines (suc (suc (suc (suc (suc zero))))) e = right-line
  lines (suc (suc (suc (suc (suc (suc zero)))))) e = absurd (omega (arith, e))
  lines (suc (suc (suc (suc (suc (suc (suc k))))))) e = absurd (omega (arith, e))

  start-place : state_in (at nought) (AtPlace 0) ≡ state_of i (AtPlace 0)
  start-place = moves h i solved at flow nought at-start ∙ moved-start (state_of i (AtPlace 0)) (whole (pos 1)) (number h i solved before) (IsReduced-whole (pos 1))

  operands-start : (k j : ℕ) (occ : Occ) → slice_get form.occs k ≡ Some occ → 4 ≡ k → Has (operands occ.form) j → state_in (at nought) (AtValue j) ≡ state_of i (AtValue j)
  operands-start k j occ is e among =
      let here : slice_get form.occs 4 ≡ Some occ = ap (λ n. slice_get form.occs n) e ∙ is in
      has-cases (state_in (at nought) (AtValue j) ≡ state_of i (AtValue j)) 3 (5 ∷ []) j (subst (λ (o : Occ). Has (operands o.form) j) (sym (some-same here)) among)
      (λ q. subst (λ n. state_in (at nought) (AtValue n) ≡ state_of i (AtValue n)) q (left-value h i solved at flow nought at-start ∙ start-place ∙ sym (left-there h i solved)))
      (λ more. has-cases (state_in (at nought) (AtValue j) ≡ state_of i (AtValue j)) 5 [] j more
      (λ q. subst (λ n. state_in (at nought) (AtValue n) ≡ state_of i (AtValue n)) q (right-value h i solved at flow nought at-start ∙ start-place ∙ sym (right-there h i solved)))
      (λ none. absurd (has-none j none)))

  keeps : FlowKeeps form grading grading i demanded at
  keeps = record {
    still = λ k e. subst (λ j. StandsStill (value_along at j)) (still-is k e) slope-still;
    still_places = λ p place is low e. absurd (no-still-place p low e);
    still_types = λ k occ is t. no-still-type k occ is t;
    lines = λ k occ is t e. lines k e;
    line_places = λ p place is t e. subst (λ q. MovesOnLine (place_along at q)) (moving-place p e) place-line;
    derivatives = λ k call u. subst (λ j. StandsStill (value_along at j)) (slope-is k call u) slope-still;
    arguments = λ k u. absurd (no-argument k u);
    derivatives_start = λ k call d u. subst (λ j. value_along at j nought ≡ value_in (state_of i) j) (slope-is k call u) slope-start;
    arguments_start = λ k d u. absurd (no-argument k u);
    failing_used = λ k occ d is t u. subst (λ j. state_of i (AtUsed j) ≡ true) (operator-is k occ is (fails-operator occ.form t)) (used-square h i solved);
    failing_operands = λ k j occ d is t u has. operands-start k j occ is (operator-is k occ is (fails-operator occ.form t)) has;
    others = λ k s occ m low e is t. (let same : grade_of grading 4 ≡ grade_of grading k = ap (grade_of grading) (operator-is k occ is t) in absurd (omega (arith, same, e)));
    definers = λ p b k place is t low has u. absurd (no-low-plain p b k place is low has);
    passes = λ k j occ is t low has u. absurd (none-passed k j occ is has);
  }

read-is : {p q : ℕ} → Read p ≡ Read q → p ≡ q
read-is e = cc

name-keeps : (k p : ℕ) (occ : Occ) → slice_get form.occs k ≡ Some occ → grade_of grading k ≤ 1 → occ.form ≡ Read p → place_grade grading p ≤ grade_of grading k
name-keeps zero p occ is low e = absurd (omega (arith, low))
name-keeps (suc zero) p occ is low e = absurd (let o = some-same is in cc)
name-keeps (suc (suc zero)) p occ is low e = absurd (omega (arith, low))
name-keeps (suc (suc (suc zero))) p occ is low e = subst (λ q. place_grade grading q ≤ 1) (read-is (ap (λ (o : Occ). o.form) (some-same is) ∙ e)) (omega arith)
name-keeps (suc (suc (suc (suc zero)))) p occ is low e = absurd (omega (arith, low))
name-keeps (suc (suc (suc (suc (suc zero))))) p occ is low e = subst (λ q. place_grade grading q ≤ 1) (read-is (ap (λ (o : Occ). o.form) (some-same is) ∙ e)) (omega arith)
name-keeps (suc (suc (suc (suc (suc (suc zero)))))) p occ is low e = absurd (omega (arith, low))
name-keeps (suc (suc (suc (suc (suc (suc (suc k))))))) p occ is low e = absurd (cc)

none-appended : {R : Type 0} (k : ℕ) (occ : Occ) → slice_get form.occs k ≡ Some occ → 7 ≤ k → R
none-appended k occ is more = let low = slice_get_within form.occs k occ is in absurd (omega (arith, low, more))

form-keeps : FormKeeps form grading grading
form-keeps = record {
  appended = λ k occ is more t. none-appended k occ is more;
  no_fault = λ k occ is more. none-appended k occ is more;
  occs_length = refl;
  places_length = refl;
  old = λ k low. refl;
  operators = λ k op ks occ is t low e. (let same : grade_of grading 4 ≡ grade_of grading k = ap (grade_of grading) (operator-is k occ is (ap is_operator e)) in absurd (omega (arith, same, low)));
  names = λ k p occ is t low e. name-keeps k p occ is low e;
  sites = λ k u. absurd (no-argument k u);
}

pub returns : goal.returns
returns c = (
  are-grades,
  record {
    whole = grading;
    form = form-keeps;
    flows = λ script h i at fits begins fine flow.
        keeps h i (latest-solved form grading.occs script h i begins) (each-instant form grading.occs script (λ j. Numbers (state_of j)) (λ h i before solved. numbers h i solved before) (i ∷ h) begins).1 at flow _;
  },
)
