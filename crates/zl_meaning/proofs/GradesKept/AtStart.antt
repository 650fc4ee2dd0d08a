-- At moment 0 of a flow, beside its instant: what is evaluated where it is asked for, what is blank, what has no fault.
use Rattle.std.specs.Prelude.{◌≡◌, ℕ, zero, suc, ◌+◌, Bool, true, false, ◌&&◌, ◌||◌, if◌then◌else◌, List, [], ◌∷◌, slice_get, IsSome, Option, Some, None}
use Rattle.std.specs.List.{list_any}
use Rattle.std.proofs.Common.{refl, sym, ap, ap₂, ◌∙◌, ⊎_elim, arith}
use Rattle.zl_value.specs.Fraction.{Fraction, add}
use Rattle.zl_value.specs.Times.{nought}
use Rattle.zl_value.specs.Operators.{Answer, Gives, Faults, Nothing, answered, exact, within, value_fits}
use Rattle.zl_value.specs.declared.arith.Arith.TheVariants.{Range}
use Rattle.zl_value.specs.declared.position.Pos.{Pos}
use Rattle.zl_value.specs.declared.value.Fault.{Fault}
use Rattle.zl_value.specs.declared.value.Value.{Value}
use Rattle.zl_value.specs.declared.value.Value.TheVariants.{B, I, F}
use Rattle.zl_value.specs.declared.value.Ty.TheVariants.{Float}
use Rattle.zl_value.specs.declared.op.Op.{Op}
use Rattle.zl_value.specs.Instants.{Kind, Step, Left}
use Rattle.zl_value.proofs.FractionLaws.{add-zero, zero-mul}
use Rattle.zl_meaning.specs.FlatForm.{FlatForm}
use Rattle.zl_meaning.specs.State.{Table, Node, AtControl, AtPlace, AtUsed, AtValue, Control, Active, Idle, Blank, State, state_in, is_active, is_blank}
use Rattle.zl_meaning.specs.History.{Instant, History, state_of, last_active}
use Rattle.zl_meaning.specs.Moment.{InFlow, Moment}
use Rattle.zl_meaning.specs.Uses.{Use, SlopeOf, IsUse}
use Rattle.zl_meaning.specs.Occurrences.{applied, answer, asks, used_of}
use Rattle.zl_meaning.specs.Places.{has_blank_start, started, value_before, last_of, moved, has_blank}
use Rattle.zl_meaning.specs.Solves.{mode_of, moment_of, state_at, fault_of, if_evaluated, or_later, own_fault, fault_from, instant_fault, block_of_place}
use Rattle.zl_meaning.specs.Equation.{equation}
use Rattle.zl_meaning.specs.Flow.{Flow, flow_moment}
use Rattle.zl_meaning.specs.Decided.{IsThere}
use Rattle.zl_meaning.specs.Reading.{HasNodeRanks}
use Rattle.zl_meaning.specs.WellFormed.{IsWellFormed}
use Rattle.zl_meaning.specs.Regular.{is_hybrid_block}
use Rattle.zl_meaning.specs.Grades.{Grading, IsGraded}
use Rattle.zl_meaning.specs.declared.place.Definer.{Definer}
use Rattle.zl_meaning.specs.declared.place.Definer.TheVariants.{Input, Plain, Der, Start}
use Rattle.zl_meaning.specs.declared.place.PlaceInfo.{PlaceInfo}
use Rattle.zl_meaning.specs.declared.occurrence.Occ.{Occ}
use Rattle.zl_meaning.proofs.Beginnings.{IsSolved, at-instant, at-moment}
use Rattle.zl_meaning.proofs.WrittenForms.{at-start, some-same, true-false}
use Rattle.zl_meaning.proofs.GradesKept.OfTypes.{IsOf}
use Rattle.zl_meaning.proofs.GradesKept.TypedRuns.{TypedHistory}
use Rattle.zl_meaning.proofs.GradesKept.UsedFlow.{active_hybrid, none_some}
use Rattle.zl_meaning.proofs.GradesKept.StartControls.{kept_control, hybrid_control}
use Rattle.zl_meaning.proofs.GradesKept.UsesSay.{asked-by}
use Rattle.zl_meaning.proofs.GradesKept.GradeTable.{Ground}

-- what an instant has at which what has to be decided has a value
pub record IsDecided (f : FlatForm) (i : Instant) : Type 0 where
  pub blank : (b : ℕ) → state_of i (AtControl b) ≡ Blank → ⊥
  pub slopes : (k : ℕ) (call : Option ℕ) → IsUse f k (SlopeOf call) → IsThere (state_of i) k

-- an instant without a fault of a beginning of a run, and the flow after it
pub record IsStart (f : FlatForm) (g : Grading) (h : History) (i : Instant) (at : Fraction → Table) : Type 0 where
  pub ground : Ground f g
  pub flow : Flow f h i at
  pub typed : TypedHistory f (i ∷ h)
  pub solved : IsSolved f h i
  pub decided : IsDecided f i
  pub fine : instant_fault f h i ≡ None

-- a control that isn't blank
not_blank : (c : Control) → (c ≡ Blank → ⊥) → is_blank c ≡ false
not_blank Active e = refl
not_blank Idle e = refl
not_blank Blank e = absurd (e refl)

-- a fault is one
some_fault : {x : Fault} → Some x ≡ None → ⊥
some_fault p = cc

-- an answer in the width is the exact one
within_same : (at : Pos) (x : Answer) → fault_of at (within x) ≡ None → answered (within x) ≡ answered x
within_same at (Faults a) e = refl
within_same at Nothing e = refl
within_same at (Gives v) e = go (value_fits v) e
  where
    go : (t : Bool) → fault_of at (if t then Gives v else Faults Range) ≡ None → answered (if t then Gives v else Faults Range) ≡ Some v
    go true e = refl
    go false e = absurd (some_fault e)

-- an operator without a fault gives in a flow what it gives at an instant
pub applied_same : (at : Pos) (op : Op) (kind : Kind) (o : Option (List Value)) → fault_of at (applied (mode_of kind) op o) ≡ None → answered (applied InFlow op o) ≡ answered (applied (mode_of kind) op o)
applied_same at op kind None e = refl
applied_same at op Step (Some vs) e = sym (within_same at (exact op vs) e)
applied_same at op Left (Some vs) e = sym (within_same at (exact op vs) e)

-- no fault among some is none of each
later_none : (x y : Option Fault) → or_later x y ≡ None → (x ≡ None) × (y ≡ None)
later_none None y e = (refl, e)
later_none (Some a) y e = absurd (some_fault e)

-- what has moved for no time is where it was
pub moved_same : (x y : Option Value) → IsOf Float x → IsOf Float y → (IsSome y) → moved x y nought ≡ x
moved_same (Some (F a)) (Some (F k)) p q some = ap (λ t. Some (F t)) (ap (λ t. add a t) (zero-mul k q.above) ∙ add-zero a p)
moved_same (Some (F a)) (Some (B k)) p q some = absurd q
moved_same (Some (F a)) (Some (I k)) p q some = absurd q
moved_same (Some (F a)) None p q some = absurd (true-false some refl)
moved_same (Some (B a)) y p q some = absurd p
moved_same (Some (I a)) y p q some = absurd p
moved_same None y p q some = refl

module _ (f : FlatForm) (g : Grading) (h : History) (i : Instant) (at : Fraction → Table) (start : IsStart f g h i at) where
  abbrev r : HasNodeRanks f
  r = start.ground.ranks

  abbrev w : IsWellFormed f
  w = start.ground.formed

  abbrev V0 : State
  V0 = state_in (at nought)

  abbrev S0 : State
  S0 = state_of i

  abbrev M0 : Moment
  M0 = flow_moment f h i nought

  abbrev N0 : Moment
  N0 = moment_of f h start.solved.passed i

  pub flow_is : (a : Node) → V0 a ≡ equation f M0 V0 a
  flow_is a = at-moment f h i at start.flow nought at-start a

  pub made_is : (a : Node) → S0 a ≡ equation f N0 S0 a
  made_is a = at-instant f h i start.solved a

  -- a hybrid block is as it was
  pub hybrid_same : (b : ℕ) → is_hybrid_block f b ≡ true → V0 (AtControl b) ≡ S0 (AtControl b)
  hybrid_same b hy = hybrid_control f w start.ground.regular r h i at start.flow start.solved b hy

  -- what asks for it in an active block evaluates it
  pub flow_used : (k : ℕ) (occ : Occ) → slice_get f.occs k ≡ Some occ → is_active (V0 (AtControl occ.block)) ≡ true → (u : Use) → IsUse f k u → asks M0 V0 u ≡ true → V0 (AtUsed k) ≡ true
  unfolding equation
  flow_used k occ is on u use_is e = flow_is (AtUsed k) ∙ ap (λ o. used_of f M0 V0 k o) is ∙ ap₂ (λ x y. x && y) on (asked-by f k M0 V0 occ.call u use_is e)

  -- and at the instant
  pub made_used : (k : ℕ) (occ : Occ) → slice_get f.occs k ≡ Some occ → is_active (S0 (AtControl occ.block)) ≡ true → (u : Use) → IsUse f k u → asks N0 S0 u ≡ true → S0 (AtUsed k) ≡ true
  unfolding equation
  made_used k occ is on u use_is e = made_is (AtUsed k) ∙ ap (λ o. used_of f N0 S0 k o) is ∙ ap₂ (λ x y. x && y) on (asked-by f k N0 S0 occ.call u use_is e)

  -- what is graded is evaluated as at the instant, and has its value; so has a place of a hybrid block
  abbrev pub StartAt : Node → Type 0
  StartAt (AtUsed k) = IsGraded f k → V0 (AtUsed k) ≡ S0 (AtUsed k)
  StartAt (AtValue k) = IsGraded f k → V0 (AtUsed k) ≡ true → S0 (AtUsed k) ≡ true → V0 (AtValue k) ≡ S0 (AtValue k)
  StartAt (AtPlace p) = (place : PlaceInfo) → slice_get f.places p ≡ Some place → is_hybrid_block f place.block ≡ true → ((c : ℕ) → place.call ≡ Some c → IsGraded f c) → V0 (AtPlace p) ≡ S0 (AtPlace p)
  StartAt _ = Unit {0}

  -- no fault at the instant
  no_fault_in : (m : Moment) (j : ℕ) (occs : List Occ) (n : ℕ) (occ : Occ) → fault_from f m S0 j occs ≡ None → slice_get occs n ≡ Some occ → own_fault f m S0 (j + n) occ ≡ None
  no_fault_in m j [] n occ e is = absurd (none_some is)
  no_fault_in m j (x ∷ occs) zero occ e is =
      let q = later_none (own_fault f m S0 j x) (fault_from f m S0 (suc j) occs) e in
      ap₂ (λ a b. own_fault f m S0 a b) (let z : j + 0 ≡ j = omega arith in z) (sym (some-same is)) ∙ q.0
  no_fault_in m j (x ∷ occs) (suc n) occ e is =
      let q = later_none (own_fault f m S0 j x) (fault_from f m S0 (suc j) occs) e in
      ap (λ a. own_fault f m S0 a occ) (let z : j + suc n ≡ suc j + n = omega arith in z) ∙ no_fault_in m (suc j) occs n occ q.1 is

  -- no operator that was evaluated had a fault
  pub no_fault : (k : ℕ) (occ : Occ) → slice_get f.occs k ≡ Some occ → S0 (AtUsed k) ≡ true → fault_of occ.at (answer f (moment_of f h nought i) S0 occ.block occ.form) ≡ None
  no_fault k occ is used =
      sym (ap (λ b. if_evaluated b (fault_of occ.at (answer f (moment_of f h nought i) S0 occ.block occ.form))) used)
      ∙ ap (λ j. own_fault f (moment_of f h nought i) S0 j occ) (let z : k ≡ 0 + k = omega arith in z)
      ∙ no_fault_in (moment_of f h nought i) 0 f.occs k occ start.fine is

  -- an active block was active at the instant
  pub active_is : (b : ℕ) → is_active (V0 (AtControl b)) ≡ true → is_active (S0 (AtControl b)) ≡ true
  active_is b on = ap (λ c. is_active c) (sym (hybrid_same b (active_hybrid f r h i at start.flow nought at-start w start.ground.regular start.ground.main b on))) ∙ on

  -- no definer's block is blank, neither then nor at the instant
  pub flow_not_blank : (b : ℕ) → is_blank (V0 (AtControl b)) ≡ false
  flow_not_blank b = not_blank (V0 (AtControl b)) (λ e. ⊎_elim (λ q. start.decided.blank b (sym q ∙ e)) (λ q. idle_blank (sym q.0 ∙ e)) (kept_control f w start.ground.regular r h i at start.flow start.solved b))
    where
      idle_blank : Idle ≡ Blank → ⊥
      idle_blank p = cc

  -- nor at the instant
  pub then_not_blank : (b : ℕ) → is_blank (S0 (AtControl b)) ≡ false
  then_not_blank b = not_blank (S0 (AtControl b)) (start.decided.blank b)

  -- none of a place's definers
  pub none_blank : (s : State) → ((b : ℕ) → is_blank (s (AtControl b)) ≡ false) → (ds : List Definer) → list_any (has_blank s) ds ≡ false
  none_blank s off [] = refl
  none_blank s off (Input n ∷ ds) = none_blank s off ds
  none_blank s off (Plain b k ∷ ds) = ap₂ (λ x y. x || y) (off b) (none_blank s off ds)
  none_blank s off (Der b slope arms ∷ ds) = ap₂ (λ x y. x || y) (off b) (none_blank s off ds)
  none_blank s off (Start b k ∷ ds) = ap₂ (λ x y. x || y) (off b) (none_blank s off ds)

  -- none of its `init`s
  none_blank_start : (s : State) → ((b : ℕ) → is_blank (s (AtControl b)) ≡ false) → (ds : List Definer) → list_any (has_blank_start s) ds ≡ false
  none_blank_start s off [] = refl
  none_blank_start s off (Input n ∷ ds) = none_blank_start s off ds
  none_blank_start s off (Plain b k ∷ ds) = none_blank_start s off ds
  none_blank_start s off (Der b slope arms ∷ ds) = none_blank_start s off ds
  none_blank_start s off (Start b k ∷ ds) = ap₂ (λ x y. x || y) (off b) (none_blank_start s off ds)

  -- no `init` value is used in a flow
  started_is : (ds : List Definer) (x : Option Value) → started M0 V0 ds x ≡ x
  started_is [] x = refl
  started_is (Input n ∷ ds) x = started_is ds x
  started_is (Plain b k ∷ ds) x = started_is ds x
  started_is (Der b slope arms ∷ ds) x = started_is ds x
  started_is (Start b k ∷ ds) x = started_is ds x

  -- `last` in the flow is the value of the instant
  pub last_is : (p : ℕ) (place : PlaceInfo) → slice_get f.places p ≡ Some place → is_active (S0 (AtControl place.block)) ≡ true → last_of M0 V0 p (Some place) ≡ S0 (AtPlace p)
  last_is p place is on =
      ap (λ b. if b then None else started M0 V0 place.definers (value_before M0 V0 p place)) (none_blank_start V0 flow_not_blank place.definers)
      ∙ started_is place.definers (value_before M0 V0 p place)
      ∙ ap (λ o. state_at (last_active (block_of_place o) (i ∷ h)) (AtPlace p)) is
      ∙ ap (λ b. state_at (if b then Some i else last_active place.block h) (AtPlace p)) on
