-- At each instant of a run all values are in the width.
use Rattle.std.specs.Prelude.{◌≡◌, ℕ, zero, suc, ◌+◌, nat_eq, Bool, true, false, if◌then◌else◌, List, [], ◌∷◌, length, slice_get, IsSome, Option, Some, None}
use Rattle.std.specs.List.{AllByRecursion, find}
use Rattle.std.proofs.Common.{refl, sym, ap, ap₂, ◌∙◌, ⊎_elim, subst, arith}
use Rattle.zl_value.specs.Fraction.{Fraction, add, mul, fits}
use Rattle.zl_value.specs.Lists.{Has, listed}
use Rattle.zl_value.specs.Times.{nought, is_same}
use Rattle.zl_value.specs.Instants.{Step, Left, latest_inputs, steps_at}
use Rattle.zl_value.specs.Runs.{StepAfter, LeftAfter}
use Rattle.zl_value.specs.Script.{IsSetFor, IsLineFor, IsScriptFor}
use Rattle.zl_value.specs.Stops.{line_at, line_for, set_by, sets_of}
use Rattle.zl_value.specs.System.{Motion, increments, arrivals, move_tests}
use Rattle.zl_value.specs.Widths.{Tested, first_wide}
use Rattle.zl_value.specs.declared.arith.Arith.TheVariants.{Range}
use Rattle.zl_value.specs.declared.value.Fault.{Fault}
use Rattle.zl_value.specs.declared.value.Value.{Value}
use Rattle.zl_value.specs.declared.value.Value.TheVariants.{B, I, F}
use Rattle.zl_value.specs.declared.value.Ty.TheVariants.{Float}
use Rattle.zl_value.specs.declared.script.Script.{Script}
use Rattle.zl_value.specs.declared.script.ScriptLine.{ScriptLine}
use Rattle.zl_value.specs.declared.script.Set.{Set}
use Rattle.zl_meaning.specs.FlatForm.{FlatForm}
use Rattle.zl_meaning.specs.State.{State, AtControl, AtReset, AtLater, AtEntry, AtRunning, AtStrong, AtWeak, AtPlace, AtUsed, AtValue, state_in, nothing}
use Rattle.zl_meaning.specs.History.{Instant, History, state_of, last_active}
use Rattle.zl_meaning.specs.Places.{moved}
use Rattle.zl_meaning.specs.Slopes.{derivative_by, motion, motion_by, motions}
use Rattle.zl_meaning.specs.Solves.{moment_of, state_at, before_of, home}
use Rattle.zl_meaning.specs.Flow.{flow_moment}
use Rattle.zl_meaning.specs.Inputs.{input_types}
use Rattle.zl_meaning.specs.System.{system_of}
use Rattle.zl_meaning.specs.Run.{IsPrefix}
use Rattle.zl_meaning.specs.Reading.{HasNodeRanks}
use Rattle.zl_meaning.specs.WellFormed.{IsWellFormed}
use Rattle.zl_meaning.specs.Decided.{HasDerivatives}
use Rattle.zl_meaning.specs.declared.place.PlaceInfo.{PlaceInfo}
use Rattle.zl_meaning.proofs.Beginnings.{AllHold, at-latest}
use Rattle.zl_meaning.proofs.Members.{has-left, has-right, has-later, has-map, has-cases, has-none}
use Rattle.zl_meaning.proofs.OneTable.{solves_each}
use Rattle.zl_meaning.proofs.WrittenForms.{some-same, true-false, at-start}
use Rattle.zl_meaning.proofs.GradesKept.OfTypes.{IsOf}
use Rattle.zl_meaning.proofs.GradesKept.TypedRuns.{prefix_typed}
use Rattle.zl_meaning.proofs.GradesKept.Typed.{of_same}
use Rattle.zl_meaning.proofs.GradesKept.UsesSay.{slope-stands}
use Rattle.zl_normal.specs.MainBlock.{IsMain}
use Rattle.zl_normal.specs.Starts.{HasNarrowDerivatives}
use Rattle.zl_premises.proofs.Widths.{IsNarrow, AllNarrow, NarrowInputs, narrow_literal, narrow_if, all_narrow, main_active}

abbrev pub NarrowHistory : History → Type 0
NarrowHistory [] = Unit {0}
NarrowHistory (i ∷ h) = AllNarrow (state_of i) × NarrowInputs i.inputs × NarrowHistory h

nothing_narrow : AllNarrow nothing
nothing_narrow (AtPlace p) = tt
nothing_narrow (AtValue k) = tt
nothing_narrow (AtControl b) = tt
nothing_narrow (AtReset b) = tt
nothing_narrow (AtLater b) = tt
nothing_narrow (AtEntry b) = tt
nothing_narrow (AtRunning b) = tt
nothing_narrow (AtStrong b) = tt
nothing_narrow (AtWeak b) = tt
nothing_narrow (AtUsed b) = tt

states_narrow : (h : History) → NarrowHistory h → AllHold (λ i. AllNarrow (state_of i)) h
states_narrow [] t = tt
states_narrow (i ∷ h) t = (t.0, states_narrow h t.2)

active_narrow : (b : ℕ) (h : History) → NarrowHistory h → AllNarrow (state_at (last_active b h))
active_narrow b h t = at-latest AllNarrow nothing_narrow b h (states_narrow h t)

pub before_narrow : (f : FlatForm) (h : History) → NarrowHistory h → AllNarrow (before_of f h)
before_narrow f h t (AtPlace p) = active_narrow (home f (AtPlace p)) h t (AtPlace p)
before_narrow f h t (AtValue k) = active_narrow (home f (AtValue k)) h t (AtValue k)
before_narrow f h t (AtControl b) = tt
before_narrow f h t (AtReset b) = tt
before_narrow f h t (AtLater b) = tt
before_narrow f h t (AtEntry b) = tt
before_narrow f h t (AtRunning b) = tt
before_narrow f h t (AtStrong b) = tt
before_narrow f h t (AtWeak b) = tt
before_narrow f h t (AtUsed b) = tt

latest_narrow : (h : History) → NarrowHistory h → NarrowInputs (latest_inputs h)
latest_narrow [] t = λ n. tt
latest_narrow (i ∷ h) t = t.1

-- ---- inputs

listed_narrow : (count j : ℕ) (make : ℕ → Option Value) → ((n : ℕ) → IsNarrow (make n)) → NarrowInputs (listed count j make)
listed_narrow zero j make all n = tt
listed_narrow (suc count) j make all zero = all j
listed_narrow (suc count) j make all (suc n) = listed_narrow count (suc j) make all n

set_narrow : (f : FlatForm) (n : ℕ) (sets : List Set) (had : Option Value) → AllByRecursion (IsSetFor (input_types f)) sets → IsNarrow had → IsNarrow (set_by n sets had)
set_narrow f n [] had all e = e
set_narrow f n (set ∷ sets) had all e = narrow_if (nat_eq set.input n) (Some set.value) (set_by n sets had) (narrow_literal all.0.0 set.value all.0.2) (set_narrow f n sets had all.1 e)

find_has : {X : Type 0} (P : X → Type 0) (test : X → Bool) (xs : List X) (x : X) → AllByRecursion P xs → find test xs ≡ Some x → P x
find_has {X = X} P test [] x all is = absurd (let z : None ≡ Some x = is in let g : ⊥ = cc in g)
find_has {X = X} P test (y ∷ xs) x all is = go (test y) is (find_has P test xs x all.1)
  where
    go : (t : Bool) → (if t then Some y else find test xs) ≡ Some x → (find test xs ≡ Some x → P x) → P x
    go true e rest = subst P (some-same e) all.0
    go false e rest = rest e

-- ---- what moves

none_not : {x : Fault} → Some x ≡ None → ⊥
none_not e = cc

wide_none : (ts : List Tested) → first_wide ts ≡ None → (t : Tested) → Has ts t → fits t.number ≡ true
wide_none [] e t h = absurd (has-none t h)
wide_none (x ∷ ts) e t h = go (record { kind = Range; at = x.at }) (fits x.number) refl e (wide_none ts)
  where
    go : (fault : Fault) (b : Bool) → fits x.number ≡ b → (if b then first_wide ts else Some fault) ≡ None → (first_wide ts ≡ None → (u : Tested) → Has ts u → fits u.number ≡ true) → fits t.number ≡ true
    go fault true q p rest = has-cases (fits t.number ≡ true) x ts t h (λ same. ap (λ (u : Tested). fits u.number) (sym same) ∙ q) (λ later. rest p t later)
    go fault false q p rest = absurd (none_not p)

motion_in : (s start : State) (n : ℕ) (places : List PlaceInfo) (j slope : ℕ) (place : PlaceInfo) (from k : Fraction) → slice_get places j ≡ Some place → derivative_by s place.definers ≡ Some slope → start (AtPlace (n + j)) ≡ Some (F from) → start (AtValue slope) ≡ Some (F k) → Has (motions s start n places) (record { from = from; slope = k; at = place.at })
motion_in s start n [] j slope place from k is by a b = absurd (let z : None ≡ Some place = is in let g : ⊥ = cc in g)
motion_in s start n (x ∷ places) zero slope place from k is by a b =
    let same : x ≡ place = some-same is in
    let at : start (AtPlace n) ≡ Some (F from) = ap (λ q. start (AtPlace q)) (let z : n ≡ n + 0 = omega arith in z) ∙ a in
    let e : motion_by start n x (derivative_by s x.definers) ≡ record { from = from; slope = k; at = place.at } ∷ [] =
    ap (λ (y : PlaceInfo). motion_by start n y (derivative_by s y.definers)) same
    ∙ ap (λ o. motion_by start n place o) by
    ∙ ap₂ (λ u v. motion place.at u v) at b in
    has-left (motion_by start n x (derivative_by s x.definers)) (motions s start (suc n) places) (record { from = from; slope = k; at = place.at })
    (subst (λ l. Has l (record { from = from; slope = k; at = place.at })) (sym e) (record { index = 0; is = refl }))
motion_in s start n (x ∷ places) (suc j) slope place from k is by a b =
    has-right (motion_by start n x (derivative_by s x.definers)) (motions s start (suc n) places) (record { from = from; slope = k; at = place.at })
    (motion_in s start (suc n) places j slope place from k is by (ap (λ q. start (AtPlace q)) (let z : suc n + j ≡ n + suc j = omega arith in z) ∙ a) b)

-- what a motion comes to is tested
arrival_narrow : (t d : Fraction) (ms : List Motion) (mo : Motion) → first_wide (move_tests t d ms) ≡ None → Has ms mo → fits (add mo.from (mul d mo.slope)) ≡ true
arrival_narrow t d ms mo e h =
    let the : Tested = record { number = add mo.from (mul d mo.slope); at = mo.at } in
    let among : Has (arrivals d ms) the = has-map (λ (x : Motion). record { number = add x.from (mul d x.slope); at = x.at }) ms mo h in
    wide_none (move_tests t d ms) e the (has-later _ _ the (has-later _ _ the (has-right (increments d ms) (arrivals d ms) the among)))

module _ (f : FlatForm) (w : IsWellFormed f) (main : IsMain f) (r : HasNodeRanks f) (grades : List ℕ) (script : Script) (suits : IsScriptFor (input_types f) script) where
  sets_all : (o : Option ScriptLine) → ((line : ScriptLine) → o ≡ Some line → AllByRecursion (IsSetFor (input_types f)) line.sets) → AllByRecursion (IsSetFor (input_types f)) (sets_of o)
  sets_all None all = tt
  sets_all (Some line) all = all line refl

  line_sets : (time : Fraction) (n : ℕ) → AllByRecursion (IsSetFor (input_types f)) (sets_of (line_for script time n))
  line_sets time n = go (nat_eq n 0)
    where
      go : (t : Bool) → AllByRecursion (IsSetFor (input_types f)) (sets_of (if t then line_at script time else None))
      go false = tt
      go true = sets_all (line_at script time) (λ line is. (find_has (IsLineFor (input_types f) script.horizon) (λ (x : ScriptLine). is_same x.time time) script.lines line suits.lines is).sets)

  step_narrow : (h : History) (i : Instant) → NarrowHistory h → StepAfter (system_of f grades) script h i → NarrowInputs i.inputs
  step_narrow h i t step =
      subst (λ l. NarrowInputs l) (sym step.inputs)
      (listed_narrow (length f.ins) 0 _ (λ n. set_narrow f n (sets_of (line_for script i.time (steps_at i.time h))) _ (line_sets i.time (steps_at i.time h)) (latest_narrow h t n)))

  at_step : (h : History) (i : Instant) → NarrowHistory h → StepAfter (system_of f grades) script h i → NarrowHistory (i ∷ h)
  at_step h i t step =
      let m = moment_of f h nought i in
      let inputs = step_narrow h i t step in
      let solves = solves_each f m i.table step.solves in
      let active = main_active f main m (state_of i) solves in
      (all_narrow f w main h i nought (before_narrow f h t) inputs (state_of i) active (λ left. absurd (let z : Step ≡ Left = sym step.kind ∙ left in let g : ⊥ = cc in g)) (state_of i) r solves active, inputs, t)

  at_left : (h : History) (j i : Instant) → NarrowHistory (j ∷ h) → LeftAfter (system_of f grades) script h j i → NarrowHistory (i ∷ j ∷ h)
  at_left h j i t left =
      let m = moment_of f (j ∷ h) left.duration i in
      let inputs : NarrowInputs i.inputs = subst (λ l. NarrowInputs l) (sym left.inputs) t.1 in
      let solves = solves_each f m i.table left.solves in
      let active = main_active f main m (state_of i) solves in
      let first = left.flow nought in
      let starts = solves_each f (flow_moment f h j nought) first.table (ap (λ x. x.table) (left.move.flow.solves nought at-start.reduced at-start.after)) in
      let began = main_active f main (flow_moment f h j nought) (state_in first.table) starts in
      (all_narrow f w main (j ∷ h) i left.duration (before_narrow f (j ∷ h) t) inputs (state_in first.table) began (λ kind p slope place is by. arrived p slope place is by (state_of j (AtPlace p)) (state_of j (AtValue slope)) refl refl) (state_of i) r solves active, inputs, t)
    where
      arrived : (p slope : ℕ) (place : PlaceInfo) → slice_get f.places p ≡ Some place → derivative_by (state_in (left.flow nought).table) place.definers ≡ Some slope → (x y : Option Value) → state_of j (AtPlace p) ≡ x → state_of j (AtValue slope) ≡ y → IsNarrow (moved x y left.duration)
      arrived p slope place is by (Some (F a)) (Some (F k)) ea ek =
          arrival_narrow j.time left.duration (motions (state_in (left.flow nought).table) (state_of j) 0 f.places) (record { from = a; slope = k; at = place.at }) left.fits
          (motion_in (state_in (left.flow nought).table) (state_of j) 0 f.places p slope place a k is by (ap (λ q. state_of j (AtPlace q)) (let z : 0 + p ≡ p = omega arith in z) ∙ ea) ek)
      arrived p slope place is by (Some (F a)) (Some (B k)) ea ek = tt
      arrived p slope place is by (Some (F a)) (Some (I k)) ea ek = tt
      arrived p slope place is by (Some (F a)) None ea ek = tt
      arrived p slope place is by (Some (B a)) y ea ek = tt
      arrived p slope place is by (Some (I a)) y ea ek = tt
      arrived p slope place is by None y ea ek = tt

  -- each beginning of a run
  pub prefix_narrow : (h : History) → IsPrefix f grades script h → NarrowHistory h
  prefix_narrow [] p = absurd p
  prefix_narrow (i ∷ []) p = at_step [] i tt p
  prefix_narrow (i ∷ j ∷ h) p =
      let t = prefix_narrow (j ∷ h) p.0 in
      ⊎_elim (λ (step : StepAfter (system_of f grades) script (j ∷ h) i). at_step (j ∷ h) i t step) (λ (left : LeftAfter (system_of f grades) script h j i). at_left h j i t left) p.1

-- a float that is there and in the width
narrow_float : (x : Option Value) → IsSome x → IsOf Float x → IsNarrow x → (slope : Fraction) × (x ≡ Some (F slope)) × (fits slope ≡ true)
narrow_float (Some (F k)) some of narrow = (k, refl, narrow)
narrow_float (Some (B k)) some of narrow = absurd of
narrow_float (Some (I k)) some of narrow = absurd of
narrow_float None some of narrow = absurd (true-false some refl)

pub derivatives_narrow : (f : FlatForm) (grades : List ℕ) → IsWellFormed f → IsMain f → HasNodeRanks f → HasDerivatives f grades → HasNarrowDerivatives f grades
derivatives_narrow f grades w main r slopes script h i suits prefix fine k call used on =
    let there = slopes script h i suits prefix fine k call used on in
    let stands = slope-stands f k w call used in
    let typed = (prefix_typed f script suits w r grades (i ∷ h) prefix).0 (AtValue k) stands.1.occ stands.1.is in
    let narrow = (prefix_narrow f w main r grades script suits (i ∷ h) prefix).0 (AtValue k) in
    narrow_float (state_of i (AtValue k)) there (of_same (state_of i (AtValue k)) stands.1.typed typed) narrow
