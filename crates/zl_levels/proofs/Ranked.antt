-- By rank: at an instant whatever is evaluated has a value, if what is before it does.
use Rattle.std.specs.Prelude.{◌≡◌, ℕ, zero, suc, ◌<◌, Bool, true, List, slice_get, IsSome, Option, Some, None, ⊤}
use Rattle.std.proofs.Common.{refl, sym, ap, ◌∙◌, subst, arith}
use Rattle.zl_value.specs.Fraction.{Fraction}
use Rattle.zl_meaning.specs.FlatForm.{FlatForm}
use Rattle.zl_meaning.specs.Uses.{ResetOf}
use Rattle.zl_meaning.specs.Branches.{Under}
use Rattle.zl_meaning.specs.State.{Node, State, AtControl, AtReset, AtLater, AtEntry, AtRunning, AtStrong, AtWeak, AtPlace, AtUsed, AtValue, is_active}
use Rattle.zl_meaning.specs.Moment.{Moment, is_fresh}
use Rattle.zl_meaning.specs.History.{Instant, History}
use Rattle.zl_meaning.specs.Places.{place_of}
use Rattle.zl_meaning.specs.Occurrences.{value_of, used_of}
use Rattle.zl_meaning.specs.Equation.{equation}
use Rattle.zl_meaning.specs.Solves.{moment_of}
use Rattle.zl_meaning.specs.Single.{IsSingle}
use Rattle.zl_meaning.specs.Regular.{IsRegular}
use Rattle.zl_meaning.specs.Reading.{ReadsPlace, ReadsValue, HasNodeRanks}
use Rattle.zl_meaning.specs.WellFormed.{IsWellFormed}
use Rattle.zl_meaning.specs.declared.occurrence.Occ.{Occ}
use Rattle.zl_meaning.proofs.WrittenForms.{true-false}
use Rattle.zl_meaning.proofs.GradesKept.Typed.{IsTyped}
use Rattle.zl_levels.specs.Levels.{Levels, AreLevels}
use Rattle.zl_levels.specs.MainForm.{IsMainForm}
use Rattle.zl_levels.specs.Standing.{HasStandingCalls}
use Rattle.zl_levels.proofs.Moments.{IsOwed, IsGivenAt, HasPast, place_some, occ_some}

module _ (f : FlatForm) (w : IsWellFormed f) (main : IsMainForm f) (single : IsSingle f) (regular : IsRegular f) (steady : HasStandingCalls f regular) (l : Levels) (are : AreLevels f l) (h : History) (i : Instant) (passed : Fraction) (first : Bool) (s : State) where
  abbrev m : Moment
  m = moment_of f h passed i

  module _ (past : HasPast f w main single regular steady l are h i passed first s) (idle : first ≡ true → (k : ℕ) (call : Option ℕ) (events : List ℕ) (arm : ℕ) → Under f (ResetOf call events arm) k → s (AtUsed k) ≡ true → ⊥) (typed : IsTyped f s) (solves : (a : Node) → s a ≡ equation f m s a) (active : is_active (s (AtControl 0)) ≡ true) (fresh_is : is_fresh m s 0 ≡ first) (r : HasNodeRanks f) where
    at_value : (k : ℕ) → IsOwed first (l.occ k) → s (AtUsed k) ≡ true → ((x : Node) → r.rank x < r.rank (AtValue k) → IsGivenAt f l first s x) → (o : Option Occ) → slice_get f.occs k ≡ o → IsSome (s (AtValue k))
    unfolding equation
    at_value k owed on below None is = true-false on (solves (AtUsed k) ∙ ap (λ o. used_of f m s k o) is)
    at_value k owed on below (Some occ) is =
        let reads = subst (λ o. ReadsValue f (λ b. r.rank b < r.rank (AtValue k)) (λ b. ⊤) o) is (r.lower (AtValue k)) in
        subst (λ v. IsSome v) (sym (solves (AtValue k) ∙ ap (λ o. value_of f m s o) is))
        (occ_some f w main single regular steady l are h i passed first s past idle typed solves active fresh_is (λ b. r.rank b < r.rank (AtValue k)) below k occ is on owed reads)

    given_below : (n : ℕ) (a : Node) → r.rank a < n → IsGivenAt f l first s a
    unfolding equation
    given_below zero a low = absurd (omega (arith, low))
    given_below (suc n) (AtPlace p) low = λ place is owed on.
        let reads = subst (λ o. ReadsPlace (λ b. r.rank b < r.rank (AtPlace p)) (λ b. ⊤) p o) is (r.lower (AtPlace p)) in
        subst (λ v. IsSome v) (sym (solves (AtPlace p) ∙ ap (λ o. place_of m s p o) is))
        (place_some f w main single regular steady l are h i passed first s past idle typed solves active fresh_is (λ b. r.rank b < r.rank (AtPlace p)) (λ x lower. given_below n x (omega (arith, low, lower))) p place is on owed reads.3 reads.2)
    given_below (suc n) (AtValue k) low = λ owed on. at_value k owed on (λ x lower. given_below n x (omega (arith, low, lower))) (slice_get f.occs k) refl
    given_below (suc n) (AtControl b) low = tt
    given_below (suc n) (AtReset b) low = tt
    given_below (suc n) (AtLater b) low = tt
    given_below (suc n) (AtEntry b) low = tt
    given_below (suc n) (AtRunning b) low = tt
    given_below (suc n) (AtStrong b) low = tt
    given_below (suc n) (AtWeak b) low = tt
    given_below (suc n) (AtUsed b) low = tt

    pub all_given : (a : Node) → IsGivenAt f l first s a
    all_given a = given_below (suc (r.rank a)) a (omega arith)
