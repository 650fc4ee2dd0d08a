-- What holds at each instant of a beginning of a run, and at each moment of the flow after it.
use Rattle.std.specs.Prelude.{◌≡◌, ℕ, pos, Bool, true, false, if◌then◌else◌, List, [], ◌∷◌, Some}
use Rattle.std.proofs.Common.{⊎_elim}
use Rattle.zl_value.specs.Fraction.{Fraction, IsReduced}
use Rattle.zl_value.specs.Times.{nought}
use Rattle.zl_value.specs.Runs.{StepAfter, LeftAfter}
use Rattle.zl_value.specs.declared.script.Script.{Script}
use Rattle.zl_value.proofs.FractionLaws.{IsReduced-whole}
use Rattle.zl_meaning.specs.FlatForm.{FlatForm}
use Rattle.zl_meaning.specs.State.{Table, Node, AtControl, State, state_in, nothing, is_active}
use Rattle.zl_meaning.specs.History.{Instant, History, state_of, last_active, latest_state}
use Rattle.zl_meaning.specs.Equation.{equation}
use Rattle.zl_meaning.specs.Solves.{solved, moment_of, state_at}
use Rattle.zl_meaning.specs.Flow.{Flow, flow_moment}
use Rattle.zl_meaning.specs.Run.{IsPrefix}
use Rattle.zl_meaning.specs.System.{system_of}
use Rattle.zl_meaning.specs.KeepsGrades.{IsMoment}
use Rattle.zl_meaning.proofs.OneTable.{solves_each}

abbrev pub AllHold : (Instant → Type 0) → History → Type 0
AllHold P [] = Unit {0}
AllHold P (i ∷ h) = P i × AllHold P h

-- an instant that solves what is before it
pub record IsSolved (f : FlatForm) (h : History) (i : Instant) : Type 0 where
  pub passed : Fraction
  pub reduced : IsReduced passed
  pub table : i.table ≡ solved f h passed i

module _ (f : FlatForm) (grades : List ℕ) (script : Script) where
  pub latest-solved : (h : History) (i : Instant) → IsPrefix f grades script (i ∷ h) → IsSolved f h i
  latest-solved [] i step = record { passed = nought; reduced = IsReduced-whole (pos 0); table = step.solves }
  latest-solved (j ∷ h) i begins =
      ⊎_elim
      (λ (step : StepAfter (system_of f grades) script (j ∷ h) i). record { passed = nought; reduced = IsReduced-whole (pos 0); table = step.solves })
      (λ (left : LeftAfter (system_of f grades) script h j i). record { passed = left.duration; reduced = left.move.lasts.reduced; table = left.solves })
      begins.1

  -- what follows from what is before an instant and from its equations holds at each
  pub each-instant : (P : Instant → Type 0) → ((h : History) (i : Instant) → AllHold P h → IsSolved f h i → P i) → (h : History) → IsPrefix f grades script h → AllHold P h
  each-instant P step [] begins = absurd begins
  each-instant P step (i ∷ []) begins = (step [] i tt (latest-solved [] i begins), tt)
  each-instant P step (i ∷ j ∷ h) begins =
      let before = each-instant P step (j ∷ h) begins.0 in (step (j ∷ h) i before (latest-solved (j ∷ h) i begins), before)

-- each entry of an instant, and of a moment, is what its equation says
pub at-instant : (f : FlatForm) (h : History) (i : Instant) (solved : IsSolved f h i) (a : Node) → state_of i a ≡ equation f (moment_of f h solved.passed i) (state_of i) a
at-instant f h i solved a = solves_each f (moment_of f h solved.passed i) i.table solved.table a

pub at-moment : (f : FlatForm) (h : History) (i : Instant) (at : Fraction → Table) → Flow f h i at → (s : Fraction) → IsMoment s → (a : Node) → state_in (at s) a ≡ equation f (flow_moment f h i s) (state_in (at s)) a
at-moment f h i at flow s m a = solves_each f (flow_moment f h i s) (at s) (flow.table s m.reduced m.after) a

-- what holds of each instant and of none holds at the latest at which a block was active
pub at-latest : (Q : State → Type 0) → Q nothing → (b : ℕ) (h : History) → AllHold (λ i. Q (state_of i)) h → Q (state_at (last_active b h))
at-latest Q none b [] all = none
at-latest Q none b (i ∷ h) all = by_control (is_active (state_of i (AtControl b))) (at-latest Q none b h all.1)
  where
    by_control : (c : Bool) → Q (state_at (last_active b h)) → Q (state_at (if c then Some i else last_active b h))
    by_control true rest = all.0
    by_control false rest = rest

-- and at the latest instant
pub at-newest : (Q : State → Type 0) → Q nothing → (h : History) → AllHold (λ i. Q (state_of i)) h → Q (latest_state h)
at-newest Q none [] all = none
at-newest Q none (i ∷ h) all = all.0
