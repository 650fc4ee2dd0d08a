-- What must have a value has one, in a form of the main block alone that has levels.
use Rattle.std.specs.Prelude.{◌≡◌, ℕ, zero, suc, ◌<◌, List, [], ◌∷◌, length, slice_get, IsSome, Option, Some, None}
use Rattle.std.proofs.Common.{refl, ap, ◌∙◌, subst, inl, arith}
use Rattle.zl_value.specs.Lists.{Has}
use Rattle.zl_value.specs.Script.{IsScriptFor}
use Rattle.zl_value.specs.declared.script.Script.{Script}
use Rattle.zl_meaning.specs.FlatForm.{FlatForm}
use Rattle.zl_meaning.specs.Uses.{SlopeOf, StartOf, ResetOf, ArgumentOf, IsUse, AsSlope, AsStart, AsReset, AsArgument}
use Rattle.zl_meaning.specs.State.{AtPlace, AtValue}
use Rattle.zl_meaning.specs.History.{Instant, History, state_of}
use Rattle.zl_meaning.specs.Solves.{instant_fault, moment_of}
use Rattle.zl_meaning.specs.Run.{IsPrefix}
use Rattle.zl_meaning.specs.Inputs.{input_types}
use Rattle.zl_meaning.specs.Decided.{IsThere, AtAllInstants}
use Rattle.zl_meaning.specs.Reading.{HasNodeRanks}
use Rattle.zl_meaning.specs.Regular.{IsRegular}
use Rattle.zl_meaning.specs.Single.{IsSingle}
use Rattle.zl_meaning.specs.WellFormed.{IsWellFormed}
use Rattle.zl_meaning.specs.declared.place.Definer.{Definer}
use Rattle.zl_meaning.specs.declared.place.Definer.TheVariants.{Der, Start}
use Rattle.zl_meaning.specs.declared.place.DerArm.{DerArm}
use Rattle.zl_meaning.specs.declared.place.PlaceInfo.{PlaceInfo}
use Rattle.std.specs.Option.{option_and_then}
use Rattle.zl_meaning.proofs.Beginnings.{latest-solved}
use Rattle.zl_meaning.proofs.Members.{all-has}
use Rattle.zl_levels.specs.Levels.{Early, Levels, AllowsDefiner, AreLevels}
use Rattle.zl_levels.specs.MainForm.{IsMainForm}
use Rattle.zl_levels.specs.Standing.{HasStandingCalls}
use Rattle.zl_levels.specs.Initialised.{IsInitialised}
use Rattle.zl_levels.proofs.Untested.{no_test}
use Rattle.zl_levels.proofs.Standing.{CallStands, call_on}
use Rattle.zl_levels.proofs.Runs.{all_good, solves_at, runs}

-- a number below the length names an element
past_end : {X : Type 0} (xs : List X) (n : ℕ) → n < length xs → slice_get xs n ≡ None → ⊥
past_end [] n low e = omega (arith, low)
past_end (x ∷ xs) zero low e = let z : Some x ≡ None = e in let g : ⊥ = cc in g
past_end (x ∷ xs) (suc n) low e = past_end xs n (omega (arith, low)) e

module _ (f : FlatForm) (l : Levels) (grades : List ℕ) (w : IsWellFormed f) (main : IsMainForm f) (single : IsSingle f) (regular : IsRegular f) (steady : HasStandingCalls f regular) (r : HasNodeRanks f) (are : AreLevels f l) where
  -- what is early is there
  early_there : (k : ℕ) → l.occ k ≡ Early → AtAllInstants f grades (λ i. IsThere (state_of i) k)
  early_there k early script h i suits prefix fine on = (all_good f w main single regular steady l are r grades script suits h i prefix fine).given (AtValue k) (λ t. early) on

  definer_allows : (p : ℕ) (d : Definer) → (place : PlaceInfo) → slice_get f.places p ≡ Some place → Has place.definers d → AllowsDefiner l p place.block d
  definer_allows p d place is has = all-has (AllowsDefiner l p place.block) place.definers d (are.definers p place is) has

  slope_early : (k : ℕ) (call : Option ℕ) → IsUse f k (SlopeOf call) → l.occ k ≡ Early
  slope_early k call (AsSlope p b resets _ has at) = (definer_allows p (Der b k resets) has.0 has.1 has.2).0

  start_early : (k b : ℕ) (call : Option ℕ) → IsUse f k (StartOf call b) → l.occ k ≡ Early
  start_early k b call (AsStart p _ _ has at) = definer_allows p (Start b k) has.0 has.1 has.2

  reset_early : (k arm : ℕ) (call : Option ℕ) (events : List ℕ) → IsUse f k (ResetOf call events arm) → l.occ k ≡ Early
  reset_early k arm call events (AsReset p b slope _ resets the _ has at value own) =
      subst (λ j. l.occ j ≡ Early) value
      (all-has (λ (x : DerArm). (l.occ x.event ≡ Early) × (l.occ x.value ≡ Early)) resets the (definer_allows p (Der b slope resets) has.0 has.1 has.2).1 (record { index = arm; is = at })).1

  argument_early : (k : ℕ) → IsUse f k ArgumentOf → l.occ k ≡ Early
  argument_early k (AsArgument n site is e) = subst (λ j. l.occ j ≡ Early) e (are.arguments n site is)

  out_stands : (p : ℕ) → Has f.outs p → (place : PlaceInfo) → slice_get f.places p ≡ Some place → (call : Option ℕ) → place.call ≡ call → CallStands regular.context call
  out_stands p has place is None e = tt
  out_stands p has place is (Some c) e = steady.outs p c has (ap (option_and_then (λ (x : PlaceInfo). x.call)) is ∙ e)

  out_there : (script : Script) (h : History) (i : Instant) → IsScriptFor (input_types f) script → IsPrefix f grades script (i ∷ h) → instant_fault f h i ≡ None → (p : ℕ) → Has f.outs p → (o : Option PlaceInfo) → slice_get f.places p ≡ o → IsSome (state_of i (AtPlace p))
  out_there script h i suits prefix fine p has None is =
      let low : p < length f.places = all-has (λ q. q < length f.places) f.outs p w.outs has in
      absurd (past_end f.places p low is)
  out_there script h i suits prefix fine p has (Some place) is =
      let good = all_good f w main single regular steady l are r grades script suits h i prefix fine in
      let solved = latest-solved f grades script h i prefix in
      let stands = out_stands p has place is place.call refl in
      good.given (AtPlace p) place is (inl (λ t. are.outs p has))
      (call_on f w main regular (moment_of f h solved.passed i) (state_of i)
      (solves_at f w main single regular steady l are r grades script suits h i solved) (runs f w main single regular steady l are r grades script suits h i solved).active place.block place.call (w.places p place is).call stands)

  pub initialised : IsInitialised f l grades
  initialised = record {
    outputs = λ script h i suits prefix fine p has. out_there script h i suits prefix fine p has (slice_get f.places p) refl;
    tests = λ script h i suits prefix fine k named. absurd (no_test f main w k named);
    starts = λ script h i suits prefix fine k b call named. early_there k (start_early k b call named) script h i suits prefix fine;
    resets = λ script h i suits prefix fine k arm call events named. early_there k (reset_early k arm call events named) script h i suits prefix fine;
    derivatives = λ script h i suits prefix fine k call named. early_there k (slope_early k call named) script h i suits prefix fine;
    arguments = λ script h i suits prefix fine k named. early_there k (argument_early k named) script h i suits prefix fine;
    again = λ script h i suits prefix fine step k has. early_there k (are.again k has) script h i suits prefix fine;
    early = λ script h i suits prefix fine k early. early_there k early script h i suits prefix fine;
  }
