-- In each run values have the types of what they are values of, and fractions are in lowest terms.
use Rattle.std.specs.Prelude.{◌≡◌, ℕ, zero, suc, ◌+◌, ◌<◌, nat_eq, Bool, true, false, if◌then◌else◌, List, [], ◌∷◌, length, slice_get, get_or, Option, Some, None}
use Rattle.std.specs.List.{AllByRecursion, find}
use Rattle.std.specs.Option.{option_map}
use Rattle.std.proofs.Common.{refl, sym, ap, ◌∙◌, ⊎_elim, subst, arith, eqb-true}
use Rattle.std.proofs.lemmas.Option.{slice_get-map, slice_get_within}
use Rattle.zl_value.specs.Fraction.{Fraction}
use Rattle.zl_value.specs.Lists.{listed}
use Rattle.zl_value.specs.Times.{is_same}
use Rattle.zl_value.specs.Script.{IsOfType, IsSetFor, IsLineFor, IsScriptFor}
use Rattle.zl_value.specs.Stops.{line_at, line_for, set_by, sets_of, inputs_after}
use Rattle.zl_value.specs.declared.value.Value.{Value}
use Rattle.zl_value.specs.declared.script.Script.{Script}
use Rattle.zl_value.specs.declared.script.ScriptLine.{ScriptLine}
use Rattle.zl_value.specs.declared.script.Set.{Set}
use Rattle.zl_value.specs.Instants.{latest_inputs, steps_at}
use Rattle.zl_value.specs.Runs.{StepAfter, LeftAfter}
use Rattle.zl_meaning.specs.FlatForm.{FlatForm}
use Rattle.zl_meaning.specs.State.{Table, AtControl, AtReset, AtLater, AtEntry, AtRunning, AtStrong, AtWeak, AtPlace, AtUsed, AtValue, state_in, nothing}
use Rattle.zl_meaning.specs.History.{Instant, History, state_of, latest_state, last_active}
use Rattle.zl_meaning.specs.Solves.{moment_of, state_at, before_of, home}
use Rattle.zl_meaning.specs.Flow.{Flow, flow_moment}
use Rattle.zl_meaning.specs.Inputs.{type_in, input_type, input_types}
use Rattle.zl_meaning.specs.System.{system_of}
use Rattle.zl_meaning.specs.Run.{IsPrefix}
use Rattle.zl_meaning.specs.Reading.{HasNodeRanks}
use Rattle.zl_meaning.specs.WellFormed.{IsWellFormed}
use Rattle.zl_meaning.specs.KeepsGrades.{IsMoment}
use Rattle.zl_meaning.specs.declared.place.PlaceInfo.{PlaceInfo}
use Rattle.zl_meaning.proofs.Beginnings.{AllHold, IsSolved, latest-solved, at-instant, at-moment, at-latest, at-newest}
use Rattle.zl_meaning.proofs.WrittenForms.{some-same}
use Rattle.zl_meaning.proofs.GradesKept.OfTypes.{IsOf, literal_of}
use Rattle.zl_meaning.proofs.GradesKept.Typed.{IsTyped, typed}

-- the inputs are of the types of their places
abbrev pub InputsTyped : FlatForm → List (Option Value) → Type 0
InputsTyped f inputs = (n p : ℕ) (place : PlaceInfo) → slice_get f.ins n ≡ Some p → slice_get f.places p ≡ Some place → IsOf place.ty (get_or inputs n None)

-- at each instant what stands there and the inputs are of their types
abbrev pub TypedHistory : FlatForm → History → Type 0
TypedHistory f [] = Unit {0}
TypedHistory f (i ∷ h) = IsTyped f (state_of i) × InputsTyped f i.inputs × TypedHistory f h

module _ (f : FlatForm) where
  -- nothing is of each type
  nothing_typed : IsTyped f nothing
  nothing_typed (AtPlace p) = λ place is. tt
  nothing_typed (AtValue k) = λ occ is. tt
  nothing_typed (AtControl b) = tt
  nothing_typed (AtReset b) = tt
  nothing_typed (AtLater b) = tt
  nothing_typed (AtEntry b) = tt
  nothing_typed (AtRunning b) = tt
  nothing_typed (AtStrong b) = tt
  nothing_typed (AtWeak b) = tt
  nothing_typed (AtUsed b) = tt

  -- the states alone
  states_typed : (h : History) → TypedHistory f h → AllHold (λ i. IsTyped f (state_of i)) h
  states_typed [] t = tt
  states_typed (i ∷ h) t = (t.0, states_typed h t.2)

  -- at the latest instant at which a block was active
  active_typed : (b : ℕ) (h : History) → TypedHistory f h → IsTyped f (state_at (last_active b h))
  active_typed b h t = at-latest (IsTyped f) nothing_typed b h (states_typed h t)

  -- each entry at its own
  before_typed : (h : History) → TypedHistory f h → IsTyped f (before_of f h)
  before_typed h t (AtPlace p) = active_typed (home f (AtPlace p)) h t (AtPlace p)
  before_typed h t (AtValue k) = active_typed (home f (AtValue k)) h t (AtValue k)
  before_typed h t (AtControl b) = tt
  before_typed h t (AtReset b) = tt
  before_typed h t (AtLater b) = tt
  before_typed h t (AtEntry b) = tt
  before_typed h t (AtRunning b) = tt
  before_typed h t (AtStrong b) = tt
  before_typed h t (AtWeak b) = tt
  before_typed h t (AtUsed b) = tt

  -- at the latest instant
  latest_typed : (h : History) → TypedHistory f h → IsTyped f (latest_state h)
  latest_typed h t = at-newest (IsTyped f) nothing_typed h (states_typed h t)

  -- its inputs
  latest_inputs_typed : (h : History) → TypedHistory f h → InputsTyped f (latest_inputs h)
  latest_inputs_typed [] t = λ n p place a b. tt
  latest_inputs_typed (i ∷ h) t = t.1

-- what stands in a list that is made by number
listed_get : {X : Type 0} (count j n : ℕ) (make : ℕ → X) (d : X) → n < count → get_or (listed count j make) n d ≡ make (j + n)
listed_get zero j n make d l = absurd (omega (arith, l))
listed_get (suc count) j zero make d l = ap make (let e : j ≡ j + 0 = omega arith in e)
listed_get (suc count) j (suc n) make d l = listed_get count (suc j) n make d (omega (arith, l)) ∙ ap make (let e : suc j + n ≡ j + suc n = omega arith in e)

-- what is found meets what all do
find_has : {X : Type 0} (P : X → Type 0) (test : X → Bool) (xs : List X) (x : X) → AllByRecursion P xs → find test xs ≡ Some x → P x
find_has {X = X} P test [] x all is = absurd (let z : None ≡ Some x = is in let g : ⊥ = cc in g)
find_has {X = X} P test (y ∷ xs) x all is = go (test y) is (find_has P test xs x all.1)
  where
    go : (t : Bool) → (if t then Some y else find test xs) ≡ Some x → (find test xs ≡ Some x → P x) → P x
    go true e rest = subst P (let z : Some y ≡ Some x = e in let g : y ≡ x = cc in g) all.0
    go false e rest = rest e

module _ (f : FlatForm) (script : Script) (fits : IsScriptFor (input_types f) script) where
  -- what a line sets
  set_typed : (n p : ℕ) (place : PlaceInfo) → slice_get f.ins n ≡ Some p → slice_get f.places p ≡ Some place → (sets : List Set) → AllByRecursion (IsSetFor (input_types f)) sets → (had : Option Value) → IsOf place.ty had → IsOf place.ty (set_by n sets had)
  set_typed n p place is there [] all had t = t
  set_typed n p place is there (set ∷ sets) all had t = go (nat_eq set.input n) refl (set_typed n p place is there sets all.1 had t)
    where
      go : (c : Bool) → nat_eq set.input n ≡ c → IsOf place.ty (set_by n sets had) → IsOf place.ty (if c then Some set.value else set_by n sets had)
      go false e rest = rest
      go true e rest =
          let same : set.input ≡ n = eqb-true set.input n e in
          let a : slice_get (input_types f) n ≡ Some all.0.0 = ap (λ j. slice_get (input_types f) j) (sym same) ∙ all.0.1 in
          let b : slice_get (input_types f) n ≡ Some (input_type f p) = slice_get-map (input_type f) f.ins n ∙ ap (λ o. option_map (input_type f) o) is in
          let c : all.0.0 ≡ place.ty = some-same (sym a ∙ b) ∙ ap (λ o. type_in o) there in
          literal_of place.ty set.value (subst (λ ty. IsOfType ty set.value) c all.0.2)

  -- what is set at a time
  line_typed : (time : Fraction) (o : Option ScriptLine) → ((line : ScriptLine) → o ≡ Some line → AllByRecursion (IsSetFor (input_types f)) line.sets) → AllByRecursion (IsSetFor (input_types f)) (sets_of o)
  line_typed time None all = tt
  line_typed time (Some line) all = all line refl

  -- by the line of a step
  line_sets : (time : Fraction) (n : ℕ) → AllByRecursion (IsSetFor (input_types f)) (sets_of (line_for script time n))
  line_sets time n = go (nat_eq n 0)
    where
      go : (t : Bool) → AllByRecursion (IsSetFor (input_types f)) (sets_of (if t then line_at script time else None))
      go false = tt
      go true = line_typed time (line_at script time) (λ line is. (find_has (IsLineFor (input_types f) script.horizon) (λ (x : ScriptLine). is_same x.time time) script.lines line fits.lines is).sets)

  -- the inputs of a step
  inputs_typed : (time : Fraction) (n : ℕ) (had : List (Option Value)) → InputsTyped f had → InputsTyped f (inputs_after (length f.ins) (line_for script time n) had)
  inputs_typed time n had t j p place is there =
      subst (λ v. IsOf place.ty v) (sym (listed_get (length f.ins) 0 j (λ k. set_by k (sets_of (line_for script time n)) (get_or had k None)) None (slice_get_within f.ins j p is)))
      (let e : j ≡ 0 + j = omega arith in subst (λ k. IsOf place.ty (set_by k (sets_of (line_for script time n)) (get_or had k None))) e
      (set_typed j p place is there (sets_of (line_for script time n)) (line_sets time n) (get_or had j None) (t j p place is there)))

  module _ (w : IsWellFormed f) (r : HasNodeRanks f) (grades : List ℕ) where
    -- an instant after instants that are
    instant_typed : (h : History) (i : Instant) → TypedHistory f h → InputsTyped f i.inputs → IsSolved f h i → TypedHistory f (i ∷ h)
    instant_typed h i t inputs solved =
        (typed f w (moment_of f h solved.passed i) (record { before = before_typed f h t; start = latest_typed f h t; inputs = inputs; passed = solved.reduced }) (state_of i) r (at-instant f h i solved), inputs, t)

    -- the inputs of a step of a run
    step_inputs : (h : History) (i : Instant) → TypedHistory f h → StepAfter (system_of f grades) script h i → InputsTyped f i.inputs
    step_inputs h i t step = subst (λ l. InputsTyped f l) (sym step.inputs) (inputs_typed i.time (steps_at i.time h) (latest_inputs h) (latest_inputs_typed f h t))

    -- each beginning of a run is typed
    pub prefix_typed : (h : History) → IsPrefix f grades script h → TypedHistory f h
    prefix_typed [] p = absurd p
    prefix_typed (i ∷ []) p = instant_typed [] i tt (step_inputs [] i tt p) (latest-solved f grades script [] i p)
    prefix_typed (i ∷ j ∷ h) p =
        let t = prefix_typed (j ∷ h) p.0 in
        instant_typed (j ∷ h) i t
        (⊎_elim
        (λ (step : StepAfter (system_of f grades) script (j ∷ h) i). step_inputs (j ∷ h) i t step)
        (λ (left : LeftAfter (system_of f grades) script h j i). subst (λ l. InputsTyped f l) (sym left.inputs) t.1) p.1)
        (latest-solved f grades script (j ∷ h) i p)

-- and so is each moment of a flow
pub flow_typed : (f : FlatForm) (w : IsWellFormed f) (r : HasNodeRanks f) (h : History) (i : Instant) (at : Fraction → Table) → TypedHistory f (i ∷ h) → Flow f h i at → (s : Fraction) → IsMoment s → IsTyped f (state_in (at s))
flow_typed f w r h i at t flow s m =
    typed f w (flow_moment f h i s) (record { before = before_typed f (i ∷ h) t; start = t.0; inputs = t.1; passed = m.reduced }) (state_in (at s)) r (at-moment f h i at flow s m)
