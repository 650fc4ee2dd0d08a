-- At moment 0 of a flow what is graded is evaluated as at the instant.
use Rattle.std.specs.Prelude.{◌≡◌, ℕ, suc, ◌<◌, Bool, true, false, ◌&&◌, ◌||◌, List, [], ◌∷◌, slice_get, Option, Some, None, ⊤}
use Rattle.std.specs.List.{AllByRecursion, list_any}
use Rattle.std.specs.Option.{option_and_then}
use Rattle.std.proofs.Common.{refl, sym, ap, ap₂, ◌∙◌, subst}
use Rattle.zl_value.specs.Fraction.{Fraction, whole}
use Rattle.zl_value.specs.Times.{nought}
use Rattle.zl_value.specs.Lists.{Has}
use Rattle.zl_meaning.specs.FlatForm.{FlatForm, HasForm, Here}
use Rattle.zl_meaning.specs.State.{Table, Node, AtControl, AtUsed, AtValue, State, state_in, is_active}
use Rattle.zl_meaning.specs.History.{Instant, History, state_of}
use Rattle.zl_meaning.specs.Moment.{Moment, is_called}
use Rattle.zl_meaning.specs.Uses.{Use, PartOf, BranchOf, DefinerOf, SlopeOf, EventOf, StartOf, ResetOf, TestOf, ArgumentOf, AgainOf, uses_of, IsUse, AsPart}
use Rattle.zl_meaning.specs.Branches.{Is}
use Rattle.zl_meaning.specs.Occurrences.{takes, asks, is_asked, used_of}
use Rattle.zl_meaning.specs.Solves.{moment_of}
use Rattle.zl_meaning.specs.Flow.{flow_moment}
use Rattle.zl_meaning.specs.Reading.{Entries, ReadsCall, ReadsUse, ReadsAsked, ReadsUsed, HasNodeRanks}
use Rattle.zl_meaning.specs.WellFormed.{IsWellFormed}
use Rattle.zl_meaning.specs.Regular.{is_value, is_event}
use Rattle.zl_meaning.specs.Grades.{Grading, IsGraded}
use Rattle.zl_meaning.specs.declared.occurrence.Form.{Form}
use Rattle.zl_meaning.specs.declared.occurrence.Form.TheVariants.{Lit, Read, Last, Op as Apply, If, Arrow, Pre, Result, Up, Fired, Step}
use Rattle.zl_meaning.specs.declared.occurrence.Occ.{Occ}
use Rattle.zl_meaning.proofs.WrittenForms.{at-start, true-false}
use Rattle.zl_meaning.proofs.Standing.{part-in}
use Rattle.zl_meaning.proofs.UseCases.{use-of-listed}
use Rattle.zl_meaning.proofs.GradesKept.UsedFlow.{used_active}
use Rattle.zl_meaning.proofs.GradesKept.GradeTable.{graded_part}
use Rattle.zl_meaning.proofs.GradesKept.AtStart.{IsStart, StartAt, active_is, flow_used, hybrid_same, made_used}
use Rattle.zl_meaning.proofs.GradesKept.Outer.{call-graded, definer-in-copy, whole-graded}
use Rattle.zl_meaning.proofs.GradesKept.UsesSay.{if-of-branch, whole-of-branch, whole-of-part}

module _ (f : FlatForm) (g : Grading) (h : History) (i : Instant) (at : Fraction → Table) (start : IsStart f g h i at) where
  abbrev r : HasNodeRanks f
  r = start.ground.ranks

  abbrev w : IsWellFormed f
  w = start.ground.formed

  abbrev V0 : State
  V0 = state_in (at nought)

  abbrev S0 : State
  S0 = state_of i

  abbrev M0 : Moment
  M0 = flow_moment f h i nought

  abbrev N0 : Moment
  N0 = moment_of f h start.solved.passed i

  module _ (n : ℕ) (below : (a : Node) → r.rank a < n → StartAt f g h i at start a) where
    abbrev P : Entries
    P a = r.rank a < n

    abbrev Q : Entries
    Q a = ⊤

    -- evaluated as at the instant
    pub call_same : (c : Option ℕ) → ReadsCall P c → ((d : ℕ) → c ≡ Some d → IsGraded f d) → is_called V0 c ≡ is_called S0 c
    call_same None l gr = refl
    call_same (Some c) l gr = below (AtUsed c) l (gr c refl)

    -- whether a branch is taken
    takes_same : (k whole c : ℕ) (side : Bool) → IsUse f k (BranchOf whole c side) → IsGraded f whole → P (AtUsed whole) → P (AtValue c) → (V0 (AtUsed whole) && takes side (V0 (AtValue c))) ≡ (S0 (AtUsed whole) && takes side (S0 (AtValue c)))
    takes_same k whole c side has gr l q = go (V0 (AtUsed whole)) refl
      where
        go : (b : Bool) → V0 (AtUsed whole) ≡ b → (V0 (AtUsed whole) && takes side (V0 (AtValue c))) ≡ (S0 (AtUsed whole) && takes side (S0 (AtValue c)))
        go false e = ap (λ x. x && takes side (V0 (AtValue c))) e ∙ sym (ap (λ x. x && takes side (S0 (AtValue c))) (sym (below (AtUsed whole) l gr) ∙ e))
        go true e =
            let parts_of = if-of-branch f k whole c side has in
            let there : HasForm f whole (If c parts_of.0 parts_of.1) = parts_of.2 in
            let named = AsPart whole (If c parts_of.0 parts_of.1) there (record { index = 0; is = refl }) in
            let part = whole-of-part f c whole named in
            let inner = graded_part f w start.ground.regular start.ground.starts c whole gr part in
            let stands = part-in f w c whole part in
            let on = ap (λ b. is_active (V0 (AtControl b))) stands.1.block ∙ used_active f r h i at start.flow nought at-start w start.ground.regular start.ground.main whole part.occ part.is e in
            ap₂ (λ a b. a && takes side b) (below (AtUsed whole) l gr)
            (below (AtValue c) q inner (flow_used f g h i at start c stands.1.occ stands.1.is on (PartOf whole) named e)
            (made_used f g h i at start c stands.1.occ stands.1.is (active_is f g h i at start stands.1.occ.block on) (PartOf whole) named (sym (below (AtUsed whole) l gr) ∙ e)))

    -- whether a use asks
    asks_same : (k : ℕ) (u : Use) → IsGraded f k → IsUse f k u → ReadsUse P Q u → asks M0 V0 u ≡ asks N0 S0 u
    asks_same k (PartOf whole) gr has l = below (AtUsed whole) l (whole-graded f w start.ground.regular k whole (whole-of-part f k whole has) gr)
    asks_same k (BranchOf whole c side) gr has l = takes_same k whole c side has (whole-graded f w start.ground.regular k whole (whole-of-branch f k whole c side has) gr) l.0 l.1
    asks_same k (DefinerOf call) gr has l = call_same call l (λ c e. call-graded f w start.ground.regular c k (definer-in-copy f w start.ground.regular k c (DefinerOf call) call has refl e) gr)
    asks_same k (SlopeOf call) gr has l = call_same call l (λ c e. call-graded f w start.ground.regular c k (definer-in-copy f w start.ground.regular k c (SlopeOf call) call has refl e) gr)
    asks_same k (EventOf call) gr has l = call_same call l (λ c e. call-graded f w start.ground.regular c k (definer-in-copy f w start.ground.regular k c (EventOf call) call has refl e) gr)
    asks_same k (StartOf call b) gr has l = absurd (gr.start call b (Is k has))
    asks_same k (ResetOf call events arm) gr has l = absurd (gr.reset call events arm (Is k has))
    asks_same k TestOf gr has l =
        let e : is_event gr.occ.form ≡ true = (start.ground.regular.occs k gr.occ gr.is).tests TestOf has ∙ gr.hybrid in
        absurd (not_both gr.occ.form e gr.value)
      where
        not_both : (form : Form) → is_event form ≡ true → is_value form ≡ true → ⊥
        not_both (Fired ks) a b = true-false b refl
        not_both (Up site) a b = true-false b refl
        not_both (Lit v) a b = true-false a refl
        not_both (Read v) a b = true-false a refl
        not_both (Last v) a b = true-false a refl
        not_both (Apply op ks) a b = true-false a refl
        not_both (If x y z) a b = true-false a refl
        not_both (Arrow x y) a b = true-false a refl
        not_both (Pre x) a b = true-false a refl
        not_both (Result x) a b = true-false a refl
        not_both Step a b = true-false a refl
    asks_same k ArgumentOf gr has l = refl
    asks_same k AgainOf gr has l = refl

    -- whether one of some does
    any_same : (k : ℕ) (us : List Use) → IsGraded f k → ((u : Use) → Has us u → IsUse f k u) → AllByRecursion (ReadsUse P Q) us → list_any (asks M0 V0) us ≡ list_any (asks N0 S0) us
    any_same k [] gr has l = refl
    any_same k (u ∷ us) gr has l =
        ap₂ (λ x y. x || y) (asks_same k u gr (has u (record { index = 0; is = refl })) l.0) (any_same k us gr (λ v x. has v (record { index = suc x.index; is = x.is })) l.1)

    -- whether anything asks for it
    asked_same : (k : ℕ) (us : List Use) (gr : IsGraded f k) → ((u : Use) → Has us u → IsUse f k u) → ReadsAsked P Q gr.occ.call us → is_asked M0 V0 gr.occ.call us ≡ is_asked N0 S0 gr.occ.call us
    asked_same k [] gr has l = call_same gr.occ.call l (λ c e. call-graded f w start.ground.regular c k (Here k (ap (λ o. option_and_then (λ (x : Occ). x.call) o) gr.is ∙ e)) gr)
    asked_same k (u ∷ us) gr has l = any_same k (u ∷ us) gr has l

    -- whether it is evaluated
    pub used_same : (k : ℕ) → (gr : IsGraded f k) → ReadsUsed f P Q k (slice_get f.occs k) → used_of f M0 V0 k (slice_get f.occs k) ≡ used_of f N0 S0 k (slice_get f.occs k)
    used_same k gr l =
        let reads : ReadsUsed f P Q k (Some gr.occ) = subst (λ o. ReadsUsed f P Q k o) gr.is l in
        ap (λ o. used_of f M0 V0 k o) gr.is
        ∙ ap₂ (λ x y. x && y) (ap (λ c. is_active c) (hybrid_same f g h i at start gr.occ.block gr.hybrid)) (asked_same k (uses_of f k) gr (use-of-listed f k) reads.1)
        ∙ sym (ap (λ o. used_of f N0 S0 k o) gr.is)
