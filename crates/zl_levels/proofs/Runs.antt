-- At each instant without a fault of each beginning of a run, whatever is evaluated has a value.
use Rattle.std.specs.Prelude.{◌≡◌, ◌⊎◌, ℕ, zero, suc, ◌+◌, ◌<◌, nat_eq, Bool, true, false, not, ◌&&◌, ◌||◌, if◌then◌else◌, List, [], ◌∷◌, length, slice_get, get_or, IsSome, Option, Some, None}
use Rattle.std.specs.List.{find}
use Rattle.std.proofs.Common.{refl, sym, ap, ap₂, ◌∙◌, subst, inl, inr, ⊎_elim, arith}
use Rattle.std.proofs.lemmas.List.{length-map}
use Rattle.zl_value.specs.Fraction.{Fraction}
use Rattle.zl_value.specs.Lists.{Has, listed}
use Rattle.zl_value.specs.Times.{nought, is_same}
use Rattle.zl_value.specs.Instants.{Kind, Step, Left, latest_inputs, steps_at, steps_in, mark_of}
use Rattle.zl_value.specs.System.{next, is_demanded}
use Rattle.zl_value.specs.declared.script.Mark.{Mark}
use Rattle.zl_value.specs.declared.script.Ending.{Ending}
use Rattle.zl_value.specs.Operators.{Answer, Gives, Faults, Nothing}
use Rattle.zl_value.specs.Loop.{Next, Ends, Steps, Flows, next_after}
use Rattle.zl_value.specs.Runs.{StepAfter, LeftAfter}
use Rattle.zl_value.specs.Script.{IsSetAtStart, IsScriptFor}
use Rattle.zl_value.specs.Stops.{line_for, set_by, sets_of}
use Rattle.zl_value.specs.declared.value.Fault.{Fault}
use Rattle.zl_value.specs.declared.value.Ty.TheVariants.{Float}
use Rattle.zl_value.specs.declared.value.Value.{Value}
use Rattle.zl_value.specs.declared.value.Value.TheVariants.{B, I, F}
use Rattle.zl_value.specs.declared.script.Script.{Script}
use Rattle.zl_value.specs.declared.script.ScriptLine.{ScriptLine}
use Rattle.zl_value.specs.declared.script.Set.{Set}
use Rattle.zl_meaning.specs.FlatForm.{FlatForm, HasForm}
use Rattle.zl_meaning.specs.Uses.{PartOf, SlopeOf, IsUse, AsPart}
use Rattle.zl_meaning.specs.State.{Table, Node, State, AtControl, AtReset, AtLater, AtPlace, AtUsed, AtValue, Active, is_active, if_used, value_in}
use Rattle.zl_meaning.specs.Moment.{Moment, is_in_flow, is_fresh}
use Rattle.zl_meaning.specs.History.{Instant, History, state_of, last_active, is_live}
use Rattle.zl_meaning.specs.Places.{moved}
use Rattle.zl_meaning.specs.Occurrences.{answer, applied, gathered}
use Rattle.zl_meaning.specs.Equation.{equation}
use Rattle.zl_meaning.specs.Solves.{mode_of, moment_of, state_at, before_of, fault_of, block_of_place, block_of_occ, if_evaluated, or_later, own_fault, fault_from, instant_fault}
use Rattle.zl_meaning.specs.Inputs.{input_type, input_types}
use Rattle.zl_meaning.specs.Single.{IsSingle}
use Rattle.zl_meaning.specs.Regular.{IsRegular, IsAllowed}
use Rattle.zl_meaning.specs.Reading.{HasNodeRanks}
use Rattle.zl_meaning.specs.Run.{IsPrefix}
use Rattle.zl_meaning.specs.System.{system_of}
use Rattle.zl_meaning.specs.WellFormed.{Stands, IsForm, IsDefiner, IsWellFormed}
use Rattle.zl_meaning.specs.declared.place.Definer.TheVariants.{Der}
use Rattle.zl_meaning.specs.declared.place.DerArm.{DerArm}
use Rattle.zl_meaning.specs.declared.place.PlaceInfo.{PlaceInfo}
use Rattle.zl_meaning.specs.declared.occurrence.Form.TheVariants.{Op as Apply, Pre}
use Rattle.zl_meaning.specs.declared.occurrence.Occ.{Occ}
use Rattle.zl_value.specs.declared.op.Op.{Op}
use Rattle.zl_value.specs.declared.position.Pos.{Pos}
use Rattle.zl_meaning.proofs.Beginnings.{IsSolved, latest-solved, at-instant}
use Rattle.zl_meaning.proofs.Members.{all-has}
use Rattle.zl_meaning.proofs.WrittenForms.{some-same, true-false}
use Rattle.zl_meaning.proofs.GradesKept.UsesSay.{slope-used}
use Rattle.zl_meaning.proofs.GradesKept.OfTypes.{IsOf}
use Rattle.zl_meaning.proofs.GradesKept.Typed.{IsTyped, of_same}
use Rattle.zl_meaning.proofs.GradesKept.TypedRuns.{prefix_typed}
use Rattle.zl_levels.specs.Levels.{Early, Levels, AllowsForm, AllowsDefiner, AreLevels}
use Rattle.zl_levels.specs.MainForm.{IsMainForm}
use Rattle.zl_levels.specs.Standing.{HasStandingCalls}
use Rattle.zl_levels.proofs.Givens.{HasNoPlain, der_no_plain}
use Rattle.zl_levels.proofs.Standing.{CallStands, der_stands, used_by, standing_used, call_on}
use Rattle.zl_levels.proofs.Moments.{IsRight, IsGivenAt, HasPast}
use Rattle.zl_levels.proofs.Ranked.{all_given}
use Rattle.zl_levels.proofs.Idle.{idle_under}

-- the instant after this history is the first one
abbrev pub is_first : History → Bool
is_first [] = true
is_first (i ∷ h) = false

-- ---- faults

later_none : (x y : Option Fault) → or_later x y ≡ None → (x ≡ None) × (y ≡ None)
later_none None y e = (refl, e)
later_none (Some x) y e = absurd (let z : Some x ≡ None = e in let g : ⊥ = cc in g)

right_of : (at : Pos) (x : Answer) → fault_of at x ≡ None → IsRight x
right_of at (Gives v) e = tt
right_of at (Faults a) e = absurd (let z : fault_of at (Faults a) ≡ None = e in let g : ⊥ = cc in g)
right_of at Nothing e = tt

fault_at : (f : FlatForm) (m : Moment) (s : State) (j : ℕ) (occs : List Occ) (n : ℕ) (occ : Occ) → fault_from f m s j occs ≡ None → slice_get occs n ≡ Some occ → own_fault f m s (j + n) occ ≡ None
fault_at f m s j [] n occ e is = absurd (let z : None ≡ Some occ = is in let g : ⊥ = cc in g)
fault_at f m s j (x ∷ occs) zero occ e is =
    let q = later_none (own_fault f m s j x) (fault_from f m s (suc j) occs) e in
    ap₂ (λ n o. own_fault f m s n o) (let z : j + 0 ≡ j = omega arith in z) (sym (some-same is)) ∙ q.0
fault_at f m s j (x ∷ occs) (suc n) occ e is =
    let q = later_none (own_fault f m s j x) (fault_from f m s (suc j) occs) e in
    ap (λ n. own_fault f m s n occ) (let z : j + suc n ≡ suc j + n = omega arith in z) ∙ fault_at f m s (suc j) occs n occ q.1 is

-- ---- inputs

listed_get : (count j : ℕ) (make : ℕ → Option Value) (n : ℕ) → n < count → get_or (listed count j make) n None ≡ make (j + n)
listed_get zero j make n low = absurd (omega (arith, low))
listed_get (suc count) j make zero low = ap make (let z : j ≡ j + 0 = omega arith in z)
listed_get (suc count) j make (suc n) low = listed_get count (suc j) make n (omega (arith, low)) ∙ ap make (let z : suc j + n ≡ j + suc n = omega arith in z)

set_some : (n : ℕ) (sets : List Set) (had : Option Value) → IsSome had → IsSome (set_by n sets had)
set_some n [] had e = e
set_some n (set ∷ sets) had e = go (nat_eq set.input n) (set_some n sets had e)
  where
    go : (t : Bool) → IsSome (set_by n sets had) → IsSome (if t then Some set.value else set_by n sets had)
    go true rest = refl
    go false rest = rest

same_number : (a b : ℕ) → a ≡ b → nat_eq a b ≡ true
same_number a b e = grind (arith, e)

set_there : (n : ℕ) (sets : List Set) (had : Option Value) (k : ℕ) (set : Set) → slice_get sets k ≡ Some set → set.input ≡ n → IsSome (set_by n sets had)
set_there n [] had k set is e = absurd (let z : None ≡ Some set = is in let g : ⊥ = cc in g)
set_there n (x ∷ sets) had zero set is e =
    subst (λ t. IsSome (if t then Some x.value else set_by n sets had)) (sym (same_number x.input n (ap (λ (y : Set). y.input) (some-same is) ∙ e))) refl
set_there n (x ∷ sets) had (suc k) set is e = go (nat_eq x.input n) (set_there n sets had k set is e)
  where
    go : (t : Bool) → IsSome (set_by n sets had) → IsSome (if t then Some x.value else set_by n sets had)
    go true rest = refl
    go false rest = rest

-- at the first step each input is given
first_set : (n : ℕ) (lines : List ScriptLine) (had : Option Value) → IsSetAtStart n lines → IsSome (set_by n (sets_of (find (λ (line : ScriptLine). is_same line.time nought) lines)) had)
first_set n [] had at = absurd at
first_set n (line ∷ lines) had at =
    let same : is_same line.time nought ≡ true = ap (λ t. is_same t nought) at.0 in
    subst (λ t. IsSome (set_by n (sets_of (if t then Some line else find (λ (x : ScriptLine). is_same x.time nought) lines)) had)) (sym same)
    (set_there n line.sets had at.1.0 at.1.1 at.1.2 at.1.3)

at_home : {X : Type 0} (g : State → X) (j : Instant) (h : History) (b : ℕ) → b ≡ 0 → is_active (state_of j (AtControl 0)) ≡ true → g (state_at (last_active b (j ∷ h))) ≡ g (state_of j)
at_home g j h b e active = ap (λ t. g (state_at (if t then Some j else last_active b h))) (ap (λ c. is_active (state_of j (AtControl c))) e ∙ active)

some_moved : (x y : Option Value) (d : Fraction) → IsOf Float x → IsOf Float y → IsSome x → IsSome y → IsSome (moved x y d)
some_moved (Some (F a)) (Some (F b)) d p q e g = refl
some_moved None y d p q e g = true-false e refl
some_moved (Some (F a)) None d p q e g = true-false g refl
some_moved (Some (B a)) y d p q e g = absurd p
some_moved (Some (I a)) y d p q e g = absurd p
some_moved (Some (F a)) (Some (B b)) d p q e g = absurd q
some_moved (Some (F a)) (Some (I b)) d p q e g = absurd q

-- the main block is active at each instant, and isn't reset
pub record IsRunning (s : State) : Type 0 where
  pub active : is_active (s (AtControl 0)) ≡ true
  pub reset : s (AtReset 0) ≡ false
  pub later : s (AtLater 0) ≡ false

running : (f : FlatForm) (main : IsMainForm f) (m : Moment) (s : State) → ((a : Node) → s a ≡ equation f m s a) → IsRunning s
unfolding equation
running f main m s solves =
    let b = main.blocks in
    let p = main.parent in
    let q = main.kind in
    let active : s (AtControl 0) ≡ Active = (let e = solves (AtControl 0) in cc) in
    record {
      active = ap (λ c. is_active c) active;
      reset = let e = solves (AtReset 0) in cc;
      later = let e = solves (AtLater 0) in cc;
    }

not_in_flow : (kind : Kind) (t : Bool) → (not (is_in_flow (mode_of kind)) && t) ≡ t
not_in_flow Step t = refl
not_in_flow Left t = refl

module _ (f : FlatForm) (w : IsWellFormed f) (main : IsMainForm f) (single : IsSingle f) (regular : IsRegular f) (steady : HasStandingCalls f regular) (l : Levels) (are : AreLevels f l) (r : HasNodeRanks f) (grades : List ℕ) (script : Script) (suits : IsScriptFor (input_types f) script) where
  pub solves_at : (h : History) (i : Instant) (solved : IsSolved f h i) → (a : Node) → state_of i a ≡ equation f (moment_of f h solved.passed i) (state_of i) a
  solves_at h i solved = at-instant f h i solved

  pub runs : (h : History) (i : Instant) → IsSolved f h i → IsRunning (state_of i)
  runs h i solved = running f main (moment_of f h solved.passed i) (state_of i) (solves_at h i solved)

  fresh_at : (h : History) (i : Instant) (passed : Fraction) → IsRunning (state_of i) → is_fresh (moment_of f h passed i) (state_of i) 0 ≡ (not (is_live 0 h) || false)
  fresh_at h i passed run =
      not_in_flow i.kind (is_active (state_of i (AtControl 0)) && (not (is_live 0 h) || state_of i (AtReset 0)))
      ∙ ap₂ (λ a b. a && (not (is_live 0 h) || b)) run.active run.reset

  live_after : (j : Instant) (h : History) → IsRunning (state_of j) → is_live 0 (j ∷ h) ≡ true
  live_after j h run = ap₂ (λ a b. not a && (b || (not (state_of j (AtReset 0)) && is_live 0 h))) run.later run.active

  fine_at : (h : History) (i : Instant) → instant_fault f h i ≡ None → (k : ℕ) (op : Op) (ks : List ℕ) → HasForm f k (Apply op ks) → state_of i (AtUsed k) ≡ true → IsRight (applied (mode_of i.kind) op (gathered (state_of i) ks))
  fine_at h i fine k op ks form on =
      let m = moment_of f h nought i in
      let own = fault_at f m (state_of i) 0 f.occs k form.0 fine form.1 in
      let z : 0 + k ≡ k = omega arith in
      right_of form.0.at (applied (mode_of i.kind) op (gathered (state_of i) ks))
      (sym (ap (λ x. fault_of form.0.at (answer f m (state_of i) form.0.block x)) form.2)
      ∙ sym (ap (λ t. if_evaluated t (fault_of form.0.at (answer f m (state_of i) form.0.block form.0.form))) on)
      ∙ ap (λ n. own_fault f m (state_of i) n form.0) (sym z) ∙ own)

  -- what holds of an instant
  pub record IsGood (h : History) (i : Instant) : Type 0 where
    pub given : (a : Node) → IsGivenAt f l (is_first h) (state_of i) a
    pub inputs : (n : ℕ) → n < length f.ins → IsSome (get_or i.inputs n None)

  -- from what is before it
  module _ (h : History) (i : Instant) (solved : IsSolved f h i) (typed : IsTyped f (state_of i)) (inputs : (n : ℕ) → n < length f.ins → IsSome (get_or i.inputs n None)) (fine : instant_fault f h i ≡ None) where
    good_by : (first : Bool) → is_first h ≡ first → (is_fresh (moment_of f h solved.passed i) (state_of i) 0 ≡ is_first h) → HasPast f w main single regular steady l are h i solved.passed (is_first h) (state_of i) → IsGood h i
    good_by first at fresh past = record {
      given = all_given f w main single regular steady l are h i solved.passed (is_first h) (state_of i) past
          (λ t k call events arm under on. idle_under f w main single regular steady h i solved.passed (state_of i) (solves_at h i solved) (runs h i solved).active (fresh ∙ t) call events arm k under on)
          typed (solves_at h i solved) (runs h i solved).active fresh r;
      inputs = inputs;
    }

  good_first : (i : Instant) (solved : IsSolved f [] i) → IsTyped f (state_of i) → i.kind ≡ Step → ((n : ℕ) → n < length f.ins → IsSome (get_or i.inputs n None)) → instant_fault f [] i ≡ None → IsGood [] i
  good_first i solved typed kind inputs fine =
      good_by [] i solved typed inputs fine true refl (fresh_at [] i solved.passed (runs [] i solved))
      (record {
        last = λ t. true-false refl t;
        pre = λ t. true-false refl t;
        move = λ left. absurd (let z : Step ≡ Left = sym kind ∙ left in let g : ⊥ = cc in g);
        inputs = inputs;
        fine = fine_at [] i fine;
      })

  module _ (j : Instant) (h : History) (before : IsSolved f h j) (good : IsGood h j) (typed_before : IsTyped f (state_of j)) where
    on_before : IsRunning (state_of j)
    on_before = runs h j before

    place_before : (p : ℕ) (place : PlaceInfo) → slice_get f.places p ≡ Some place → (l.place p ≡ Early) ⊎ HasNoPlain place.definers → CallStands regular.context place.call → IsSome (state_of j (AtPlace p))
    place_before p place is early stands =
        good.given (AtPlace p) place is (⊎_elim (λ e. inl (λ t. e)) (λ e. inr e) early)
        (call_on f w main regular (moment_of f h before.passed j) (state_of j) (solves_at h j before) on_before.active place.block place.call (w.places p place is).call stands)

    home_place : (p : ℕ) (place : PlaceInfo) → slice_get f.places p ≡ Some place → before_of f (j ∷ h) (AtPlace p) ≡ state_of j (AtPlace p)
    home_place p place is = at_home (λ s. s (AtPlace p)) j h (block_of_place (slice_get f.places p)) (ap (λ o. block_of_place o) is ∙ (main.places p place is).0) on_before.active

    pre_before : (k x : ℕ) → HasForm f k (Pre x) → IsSome (value_in (before_of f (j ∷ h)) x)
    pre_before k x form =
        let m = moment_of f h before.passed j in
        let stands : Stands f form.0.block form.0.ty x = subst (λ y. IsForm f form.0.block form.0.ty y) form.2 (w.occs k form.0 form.1).form in
        let allow : AllowsForm f l k (Pre x) = subst (λ y. AllowsForm f l k y) form.2 (are.occs k form.0 form.1) in
        let context : IsAllowed (regular.context k) (Pre x) = subst (λ y. IsAllowed (regular.context k) y) form.2 (regular.occs k form.0 form.1).allowed in
        let on = standing_used f w main regular m (state_of j) (solves_at h j before) on_before.active k form.0 form.1 (inl context) in
        let used = used_by f w main regular m (state_of j) (solves_at h j before) on_before.active x stands.occ stands.is (PartOf k) (AsPart k (Pre x) form (record { index = 0; is = refl })) on in
        let home : block_of_occ (slice_get f.occs x) ≡ 0 = ap (λ o. block_of_occ o) stands.is ∙ main.occs x stands.occ stands.is in
        subst (λ o. IsSome o) (sym (at_home (λ s. value_in s x) j h (block_of_occ (slice_get f.occs x)) home on_before.active))
        (subst (λ t. IsSome (if_used t (state_of j (AtValue x)))) (sym used) (good.given (AtValue x) (λ t. allow.1) used))

    moved_before : (d : Fraction) (p b slope : ℕ) (arms : List DerArm) (place : PlaceInfo) → slice_get f.places p ≡ Some place → Has place.definers (Der b slope arms) → IsSome (moved (state_of j (AtPlace p)) (state_of j (AtValue slope)) d)
    moved_before d p b slope arms place is has =
        let m = moment_of f h before.passed j in
        let definer : IsDefiner f p place (Der b slope arms) = all-has (IsDefiner f p place) place.definers (Der b slope arms) (w.places p place is).definers has in
        let allow : AllowsDefiner l p place.block (Der b slope arms) = all-has (AllowsDefiner l p place.block) place.definers (Der b slope arms) (are.definers p place is) has in
        let named : IsUse f slope (SlopeOf place.call) = slope-used f slope p b place arms is has in
        let stands = der_stands f w main regular slope place.call named definer.2.occ definer.2.is in
        let on = call_on f w main regular m (state_of j) (solves_at h j before) on_before.active place.block place.call (w.places p place is).call stands in
        let used = used_by f w main regular m (state_of j) (solves_at h j before) on_before.active slope definer.2.occ definer.2.is (SlopeOf place.call) named on in
        some_moved (state_of j (AtPlace p)) (state_of j (AtValue slope)) d
        (of_same (state_of j (AtPlace p)) definer.1 (typed_before (AtPlace p) place is))
        (of_same (state_of j (AtValue slope)) definer.2.typed (typed_before (AtValue slope) definer.2.occ definer.2.is))
        (place_before p place is (inr (der_no_plain f w main p place is single b slope arms has)) stands)
        (good.given (AtValue slope) (λ t. allow.0) used)

    good_later : (i : Instant) (solved : IsSolved f (j ∷ h) i) → IsTyped f (state_of i) → ((n : ℕ) → n < length f.ins → IsSome (get_or i.inputs n None)) → instant_fault f (j ∷ h) i ≡ None → IsGood (j ∷ h) i
    good_later i solved typed inputs fine =
        good_by (j ∷ h) i solved typed inputs fine false refl
        (fresh_at (j ∷ h) i solved.passed (runs (j ∷ h) i solved) ∙ ap (λ t. not t || false) (live_after j h on_before))
        (record {
          last = λ t p place is early stands. subst (λ o. IsSome o) (sym (home_place p place is)) (place_before p place is early stands);
          pre = λ t k x form. pre_before k x form;
          move = λ left p b slope arms place is has. moved_before solved.passed p b slope arms place is has;
          inputs = inputs;
          fine = fine_at (j ∷ h) i fine;
        })

  -- ---- along a run
  no_fault_by : (time : Fraction) (mark : Mark) (o : Option Fault) (d : Bool) (n : ℕ) (v : Next) → ((e : Ending) → Ends e ≡ v → ⊥) → next_after script time mark o d n ≡ v → o ≡ None
  no_fault_by time mark None d n v apart e = refl
  no_fault_by time mark (Some x) d n v apart e = absurd (apart _ e)

  fault_before : (j : Instant) (h : History) (v : Next) → ((e : Ending) → Ends e ≡ v → ⊥) → next (system_of f grades) script (j ∷ h) ≡ v → instant_fault f h j ≡ None
  fault_before j h v apart e = no_fault_by j.time (mark_of h j) (instant_fault f h j) (is_demanded (system_of f grades) script (j ∷ h)) (steps_in (j ∷ h)) v apart e

  ends_steps : (e : Ending) → Ends e ≡ Steps → ⊥
  ends_steps e p = cc

  ends_flows : (e : Ending) → Ends e ≡ Flows → ⊥
  ends_flows e p = cc

  inputs_first : (i : Instant) → StepAfter (system_of f grades) script [] i → (n : ℕ) → n < length f.ins → IsSome (get_or i.inputs n None)
  inputs_first i step n low =
      let at = suits.given n (subst (λ c. n < c) (sym (length-map f.ins (input_type f))) low) in
      let z : 0 + n ≡ n = omega arith in
      subst (λ o. IsSome o)
      (sym (ap (λ xs. get_or xs n None) step.inputs
      ∙ listed_get (length f.ins) 0 (λ k. set_by k (sets_of (line_for script i.time 0)) (get_or (latest_inputs {X = Table} []) k None)) n low
      ∙ ap₂ (λ k time. set_by k (sets_of (line_for script time 0)) (get_or (latest_inputs {X = Table} []) k None)) z step.time))
      (first_set n script.lines (get_or (latest_inputs {X = Table} []) n None) at)

  inputs_later : (j i : Instant) (h : History) → ((n : ℕ) → n < length f.ins → IsSome (get_or j.inputs n None)) → StepAfter (system_of f grades) script (j ∷ h) i → (n : ℕ) → n < length f.ins → IsSome (get_or i.inputs n None)
  inputs_later j i h had step n low =
      let z : 0 + n ≡ n = omega arith in
      let sets = sets_of (line_for script i.time (steps_at i.time (j ∷ h))) in
      subst (λ o. IsSome o)
      (sym (ap (λ xs. get_or xs n None) step.inputs ∙ listed_get (length f.ins) 0 (λ k. set_by k sets (get_or j.inputs k None)) n low ∙ ap (λ k. set_by k sets (get_or j.inputs k None)) z))
      (set_some n sets (get_or j.inputs n None) (had n low))

  pub all_good : (h : History) (i : Instant) → IsPrefix f grades script (i ∷ h) → instant_fault f h i ≡ None → IsGood h i
  all_good [] i p fine = good_first i (latest-solved f grades script [] i p) (prefix_typed f script suits w r grades (i ∷ []) p).0 p.kind (inputs_first i p) fine
  all_good (j ∷ h) i p fine =
      let due = ⊎_elim
      (λ (step : StepAfter (system_of f grades) script (j ∷ h) i). fault_before j h Steps ends_steps step.due)
      (λ (left : LeftAfter (system_of f grades) script h j i). fault_before j h Flows ends_flows left.move.flow.due) p.1 in
      let before = all_good h j p.0 due in
      let inputs : (n : ℕ) → n < length f.ins → IsSome (get_or i.inputs n None) = ⊎_elim
      (λ (step : StepAfter (system_of f grades) script (j ∷ h) i). inputs_later j i h before.inputs step)
      (λ (left : LeftAfter (system_of f grades) script h j i). λ n low. subst (λ xs. IsSome (get_or xs n None)) (sym left.inputs) (before.inputs n low)) p.1 in
      good_later j h (latest-solved f grades script h j p.0) before (prefix_typed f script suits w r grades (j ∷ h) p.0).0 i (latest-solved f grades script (j ∷ h) i p) (prefix_typed f script suits w r grades (i ∷ j ∷ h) p).0 inputs fine
