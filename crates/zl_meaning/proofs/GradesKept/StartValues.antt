-- At moment 0 of a flow everything that is graded is as it was at the instant.
use Rattle.std.specs.Prelude.{◌≡◌, ℕ, zero, suc, ◌<◌, ◌≤◌, Bool, true, false, List, slice_get, Some, ⊤}
use Rattle.std.proofs.Common.{refl, sym, ap, ap₂, ◌∙◌, subst, arith}
use Rattle.zl_value.specs.Fraction.{Fraction}
use Rattle.zl_value.specs.Times.{nought}
use Rattle.zl_value.specs.Lists.{Has}
use Rattle.zl_value.specs.declared.op.Op.{Op}
use Rattle.zl_meaning.specs.FlatForm.{FlatForm}
use Rattle.zl_meaning.specs.State.{Table, Node, AtControl, AtReset, AtLater, AtEntry, AtRunning, AtStrong, AtWeak, AtPlace, AtUsed, AtValue, State, state_in, value_in, if_used}
use Rattle.zl_meaning.specs.History.{Instant, History, state_of}
use Rattle.zl_meaning.specs.Moment.{Moment}
use Rattle.zl_meaning.specs.Places.{place_of}
use Rattle.zl_meaning.specs.Solves.{moment_of}
use Rattle.zl_meaning.specs.Equation.{equation}
use Rattle.zl_meaning.specs.Flow.{flow_moment}
use Rattle.zl_meaning.specs.Reading.{ReadsPlace, HasNodeRanks}
use Rattle.zl_meaning.specs.WellFormed.{IsWellFormed}
use Rattle.zl_meaning.specs.Regular.{is_value}
use Rattle.zl_meaning.specs.Grades.{Grading, grade_of, IsGraded}
use Rattle.zl_meaning.specs.declared.occurrence.Form.TheVariants.{Op as Apply}
use Rattle.zl_meaning.specs.declared.occurrence.Occ.{Occ}
use Rattle.zl_meaning.proofs.WrittenForms.{at-start, true-false}
use Rattle.zl_meaning.proofs.GradesKept.GradeTable.{not_ungraded}
use Rattle.zl_meaning.proofs.GradesKept.LinearLaw.{graded_of}
use Rattle.zl_meaning.proofs.GradesKept.AtStart.{IsStart, StartAt, flow_is, made_is}
use Rattle.zl_meaning.proofs.GradesKept.PlacesAtStart.{place_same}
use Rattle.zl_meaning.proofs.GradesKept.ValuesAtStart.{steady_same, value_same}
use Rattle.zl_meaning.proofs.GradesKept.UsedAtStart.{used_same}

module _ (f : FlatForm) (g : Grading) (h : History) (i : Instant) (at : Fraction → Table) (start : IsStart f g h i at) where
  abbrev r : HasNodeRanks f
  r = start.ground.ranks

  abbrev w : IsWellFormed f
  w = start.ground.formed

  abbrev V0 : State
  V0 = state_in (at nought)

  abbrev S0 : State
  S0 = state_of i

  abbrev M0 : Moment
  M0 = flow_moment f h i nought

  abbrev N0 : Moment
  N0 = moment_of f h start.solved.passed i

  -- by rank
  start_below : (n : ℕ) (a : Node) → r.rank a < n → StartAt f g h i at start a
  unfolding equation
  start_below zero a l = absurd (omega (arith, l))
  start_below (suc n) (AtUsed k) l = λ gr.
      flow_is f g h i at start (AtUsed k)
      ∙ used_same f g h i at start (r.rank (AtUsed k)) (λ a low. start_below n a (omega (arith, l, low))) k gr (r.lower (AtUsed k))
      ∙ sym (made_is f g h i at start (AtUsed k))
  start_below (suc n) (AtValue k) l = λ gr used there.
      flow_is f g h i at start (AtValue k)
      ∙ value_same f g h i at start (r.rank (AtValue k)) (λ a low. start_below n a (omega (arith, l, low))) k gr used there (r.lower (AtValue k))
      ∙ sym (made_is f g h i at start (AtValue k))
  start_below (suc n) (AtPlace p) l = λ place is hy gr.
      place_same f g h i at start (r.rank (AtPlace p)) (λ a low. start_below n a (omega (arith, l, low))) p place is hy gr
      (subst (λ o. ReadsPlace (λ b. r.rank b < r.rank (AtPlace p)) (λ b. ⊤) p o) is (r.lower (AtPlace p)))
      (flow_is f g h i at start (AtPlace p) ∙ ap (λ o. place_of M0 V0 p o) is)
      (made_is f g h i at start (AtPlace p) ∙ ap (λ o. place_of N0 S0 p o) is)
  start_below (suc n) (AtControl b) l = tt
  start_below (suc n) (AtReset b) l = tt
  start_below (suc n) (AtLater b) l = tt
  start_below (suc n) (AtEntry b) l = tt
  start_below (suc n) (AtRunning b) l = tt
  start_below (suc n) (AtStrong b) l = tt
  start_below (suc n) (AtWeak b) l = tt

  -- everything
  start_at : (a : Node) → StartAt f g h i at start a
  start_at a = start_below (suc (r.rank a)) a (omega arith)

  -- a graded occurrence that is evaluated at moment 0 was evaluated at the instant, and had this value
  graded_used : (k : ℕ) → IsGraded f k → V0 (AtUsed k) ≡ S0 (AtUsed k)
  graded_used k gr = start_at (AtUsed k) gr

  graded_value : (k : ℕ) → IsGraded f k → V0 (AtUsed k) ≡ true → V0 (AtValue k) ≡ S0 (AtValue k)
  graded_value k gr used = start_at (AtValue k) gr used (sym (graded_used k gr) ∙ used)

  -- an occurrence with a grade up to 2, if it is no event, has at moment 0 the value that it had at the instant
  pub value_start : (k : ℕ) (occ : Occ) → slice_get f.occs k ≡ Some occ → is_value occ.form ≡ true → grade_of g k ≤ 2 → value_in V0 k ≡ value_in S0 k
  value_start k occ is value le = go (V0 (AtUsed k)) refl (S0 (AtUsed k)) refl
    where
      go : (a : Bool) → V0 (AtUsed k) ≡ a → (b : Bool) → S0 (AtUsed k) ≡ b → value_in V0 k ≡ value_in S0 k
      go false e false d = ap (λ u. if_used u (V0 (AtValue k))) e ∙ sym (ap (λ u. if_used u (S0 (AtValue k))) d)
      go false e true d = absurd (not_ungraded f w start.ground.regular start.ground.starts g start.ground.grades k le (λ gr. true-false d (sym (graded_used k gr) ∙ e)))
      go true e b d =
          let gr = graded_of f g start.ground h i at start.flow start.typed nought at-start k occ is value e in
          ap₂ (λ u v. if_used u v) (graded_used k gr) (graded_value k gr e)

  -- an operator that is evaluated at moment 0 was evaluated at the instant
  pub failing_used : (k : ℕ) (occ : Occ) → slice_get f.occs k ≡ Some occ → is_value occ.form ≡ true → V0 (AtUsed k) ≡ true → S0 (AtUsed k) ≡ true
  failing_used k occ is value used = sym (graded_used k (graded_of f g start.ground h i at start.flow start.typed nought at-start k occ is value used)) ∙ used

  -- and had these operands
  pub failing_operands : (k j : ℕ) (op : Op) (ks : List ℕ) (occ : Occ) → slice_get f.occs k ≡ Some occ → occ.form ≡ Apply op ks → V0 (AtUsed k) ≡ true → Has ks j → V0 (AtValue j) ≡ S0 (AtValue j)
  failing_operands k j op ks occ is e used has =
      let gr = graded_of f g start.ground h i at start.flow start.typed nought at-start k occ is (ap (λ form. is_value form) e) used in
      steady_same f g h i at start (suc (r.rank (AtValue j))) (λ a low. start_at a) j k (Apply op ks) (occ, is, e) has gr used (sym (graded_used k gr) ∙ used) (omega arith)
