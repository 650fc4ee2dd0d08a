-- At moment 0 of a flow what is graded and evaluated has the value that it had at the instant.
use Rattle.std.specs.Prelude.{◌≡◌, ℕ, suc, ◌<◌, Bool, true, false, ◌&&◌, if◌then◌else◌, List, [], ◌∷◌, slice_get, Option, Some, None, ⊤}
use Rattle.std.specs.Option.{option_map, option_and_then}
use Rattle.std.proofs.Common.{refl, sym, ap, ap₂, ◌∙◌, subst}
use Rattle.zl_value.specs.Fraction.{Fraction, whole}
use Rattle.zl_value.specs.Times.{nought}
use Rattle.zl_value.specs.Lists.{Has}
use Rattle.zl_value.specs.Operators.{answered}
use Rattle.zl_value.specs.declared.value.Value.{Value}
use Rattle.zl_value.specs.declared.value.Value.TheVariants.{B, I, F}
use Rattle.zl_value.specs.declared.op.Op.{Op}
use Rattle.zl_meaning.specs.FlatForm.{FlatForm, HasForm}
use Rattle.zl_meaning.specs.State.{Table, Node, AtControl, AtPlace, AtUsed, AtValue, State, state_in, is_active}
use Rattle.zl_meaning.specs.History.{Instant, History, state_of}
use Rattle.zl_meaning.specs.Moment.{InFlow, Moment}
use Rattle.zl_meaning.specs.Uses.{Use, PartOf, BranchOf, IsUse, AsBranch, AsPart, steady_parts}
use Rattle.zl_meaning.specs.Branches.{IsPart}
use Rattle.zl_meaning.specs.Occurrences.{gathered, given, applied, branch, answer, value_of, takes, asks}
use Rattle.zl_meaning.specs.Solves.{moment_of, fault_of}
use Rattle.zl_meaning.specs.Flow.{flow_moment}
use Rattle.zl_meaning.specs.Reading.{Entries, ReadsValues, ReadsForm, ReadsValue, HasNodeRanks}
use Rattle.zl_meaning.specs.WellFormed.{IsWellFormed}
use Rattle.zl_meaning.specs.Regular.{is_value, IsAllowed}
use Rattle.zl_meaning.specs.Grades.{Grading, IsGraded}
use Rattle.zl_meaning.specs.declared.place.PlaceInfo.{PlaceInfo}
use Rattle.zl_meaning.specs.declared.occurrence.Form.{Form}
use Rattle.zl_meaning.specs.declared.occurrence.Form.TheVariants.{Lit, Read, Last, Op as Apply, If, Arrow, Pre, Result, Up, Fired, Step}
use Rattle.zl_meaning.proofs.WrittenForms.{at-start, true-false}
use Rattle.zl_meaning.proofs.Standing.{branch-part, part-in, part-of-form, steady-part}
use Rattle.zl_meaning.proofs.GradesKept.UsedFlow.{used_active}
use Rattle.zl_meaning.proofs.GradesKept.GradeTable.{graded_part}
use Rattle.zl_meaning.proofs.GradesKept.StartControls.{outer_hybrid}
use Rattle.zl_meaning.proofs.GradesKept.AtStart.{IsStart, StartAt, active_is, flow_used, hybrid_same, made_used, no_fault, applied_same}
use Rattle.zl_meaning.proofs.GradesKept.Outer.{call-graded}
use Rattle.zl_meaning.proofs.GradesKept.Contexts.{reads_now}

module _ (f : FlatForm) (g : Grading) (h : History) (i : Instant) (at : Fraction → Table) (start : IsStart f g h i at) where
  abbrev r : HasNodeRanks f
  r = start.ground.ranks

  abbrev w : IsWellFormed f
  w = start.ground.formed

  abbrev V0 : State
  V0 = state_in (at nought)

  abbrev S0 : State
  S0 = state_of i

  abbrev M0 : Moment
  M0 = flow_moment f h i nought

  abbrev N0 : Moment
  N0 = moment_of f h start.solved.passed i

  module _ (n : ℕ) (below : (a : Node) → r.rank a < n → StartAt f g h i at start a) where
    abbrev P : Entries
    P a = r.rank a < n

    abbrev Q : Entries
    Q a = ⊤

    -- a part that the same use asks for, then and now
    pub part_same : (k whole : ℕ) (u : Use) (part : IsPart f k whole) → IsGraded f whole → V0 (AtUsed whole) ≡ true → IsUse f k u → asks M0 V0 u ≡ true → asks N0 S0 u ≡ true → P (AtValue k) → V0 (AtValue k) ≡ S0 (AtValue k)
    part_same k whole u part gr used is e e2 l =
        let stands = part-in f w k whole part in
        let on = ap (λ b. is_active (V0 (AtControl b))) stands.1.block ∙ used_active f r h i at start.flow nought at-start w start.ground.regular start.ground.main whole part.occ part.is used in
        below (AtValue k) l (graded_part f w start.ground.regular start.ground.starts k whole gr part)
        (flow_used f g h i at start k stands.1.occ stands.1.is on u is e)
        (made_used f g h i at start k stands.1.occ stands.1.is (active_is f g h i at start stands.1.occ.block on) u is e2)

    -- a part that is evaluated with its whole
    pub steady_same : (k whole : ℕ) (form : Form) → HasForm f whole form → Has (steady_parts form) k → IsGraded f whole → V0 (AtUsed whole) ≡ true → S0 (AtUsed whole) ≡ true → P (AtValue k) → V0 (AtValue k) ≡ S0 (AtValue k)
    steady_same k whole form there has gr used also l =
        part_same k whole (PartOf whole) (part-of-form f k whole form there (steady-part form k has)) gr used (AsPart whole form there has) used also l

    -- a branch that is taken
    branch_is_same : (k whole c x y : ℕ) (side : Bool) → HasForm f whole (If c x y) → k ≡ (if side then x else y) → IsGraded f whole → V0 (AtUsed whole) ≡ true → S0 (AtUsed whole) ≡ true → V0 (AtValue c) ≡ S0 (AtValue c) → takes side (V0 (AtValue c)) ≡ true → P (AtValue k) → V0 (AtValue k) ≡ S0 (AtValue k)
    branch_is_same k whole c x y side there e gr used also same taken l =
        part_same k whole (BranchOf whole c side) (branch-part f side k whole c x y there e) gr used (AsBranch whole c x y side there e)
        (ap₂ (λ a b. a && b) used taken) (ap₂ (λ a b. a && b) also (ap (λ v. takes side v) (sym same) ∙ taken)) l

    -- the operands of an operator
    gathered_same : (whole : ℕ) (op : Op) (ks : List ℕ) → HasForm f whole (Apply op ks) → IsGraded f whole → V0 (AtUsed whole) ≡ true → S0 (AtUsed whole) ≡ true → (js : List ℕ) → ((j : ℕ) → Has js j → Has ks j) → ReadsValues P js → gathered V0 js ≡ gathered S0 js
    gathered_same whole op ks there gr used also [] has l = refl
    gathered_same whole op ks there gr used also (j ∷ js) has l =
        ap₂ (λ v vs. option_and_then (λ x. option_map (λ xs. x ∷ xs) vs) v)
        (steady_same j whole (Apply op ks) there (has j (record { index = 0; is = refl })) gr used also l.0)
        (gathered_same whole op ks there gr used also js (λ x y. has x (record { index = suc y.index; is = y.is })) l.1)

    -- the branch that the condition takes
    branch_same : (k c x y : ℕ) → HasForm f k (If c x y) → IsGraded f k → V0 (AtUsed k) ≡ true → S0 (AtUsed k) ≡ true → V0 (AtValue c) ≡ S0 (AtValue c) → P (AtValue x) → P (AtValue y) → branch (V0 (AtValue c)) (V0 (AtValue x)) (V0 (AtValue y)) ≡ branch (S0 (AtValue c)) (S0 (AtValue x)) (S0 (AtValue y))
    branch_same k c x y there gr used also same lx ly = go (V0 (AtValue c)) refl
      where
        both : (v : Option Value) → V0 (AtValue c) ≡ v → branch v (V0 (AtValue x)) (V0 (AtValue y)) ≡ branch v (S0 (AtValue x)) (S0 (AtValue y)) → branch (V0 (AtValue c)) (V0 (AtValue x)) (V0 (AtValue y)) ≡ branch (S0 (AtValue c)) (S0 (AtValue x)) (S0 (AtValue y))
        both v d q = ap (λ u. branch u (V0 (AtValue x)) (V0 (AtValue y))) d ∙ q ∙ sym (ap (λ u. branch u (S0 (AtValue x)) (S0 (AtValue y))) (sym same ∙ d))

        go : (v : Option Value) → V0 (AtValue c) ≡ v → branch (V0 (AtValue c)) (V0 (AtValue x)) (V0 (AtValue y)) ≡ branch (S0 (AtValue c)) (S0 (AtValue x)) (S0 (AtValue y))
        go (Some (B true)) d = both _ d (branch_is_same x k c x y true there refl gr used also same (ap (λ v. takes true v) d) lx)
        go (Some (B false)) d = both _ d (branch_is_same y k c x y false there refl gr used also same (ap (λ v. takes false v) d) ly)
        go None d = both _ d refl
        go (Some (I a)) d = both _ d refl
        go (Some (F a)) d = both _ d refl

    -- what it answers: no operator had a fault, and nothing looks back
    answer_same : (k : ℕ) (gr : IsGraded f k) → V0 (AtUsed k) ≡ true → S0 (AtUsed k) ≡ true → (form : Form) → gr.occ.form ≡ form → ReadsForm f P Q gr.occ.block form → answered (answer f M0 V0 gr.occ.block form) ≡ answered (answer f N0 S0 gr.occ.block form)
    answer_same k gr used also (Lit v) e l = refl
    answer_same k gr used also (Read p) e l =
        let d = start.ground.regular.copies.declared k p gr.occ gr.is e in
        ap (λ v. answered (given v)) (below (AtPlace p) l d.0 d.1 (outer_hybrid f w start.ground.regular d.0.block gr.occ.block d.2 gr.hybrid) (λ c q. call-graded f w start.ground.regular c k (start.ground.regular.copies.names k p c (gr.occ, gr.is, e) (ap (λ o. option_and_then (λ (x : PlaceInfo). x.call) o) d.1 ∙ q)) gr))
    answer_same k gr used also (Last p) e l = absurd ((reads_now f w start.ground.regular r).last k p gr.occ gr gr.is e)
    answer_same k gr used also (Apply op ks) e l =
        ap (λ o. answered (applied InFlow op o)) (gathered_same k op ks (gr.occ, gr.is, e) gr used also ks (λ j x. x) l)
        ∙ applied_same gr.occ.at op i.kind (gathered S0 ks) (sym (ap (λ form. fault_of gr.occ.at (answer f (moment_of f h nought i) S0 gr.occ.block form)) e) ∙ no_fault f g h i at start k gr.occ gr.is also)
    answer_same k gr used also (If c x y) e l =
        let there : HasForm f k (If c x y) = (gr.occ, gr.is, e) in
        let same = steady_same c k (If c x y) there (record { index = 0; is = refl }) gr used also l.0 in
        ap (λ v. answered (given v)) (branch_same k c x y there gr used also same l.1 l.2)
    answer_same k gr used also (Arrow x y) e l = absurd ((reads_now f w start.ground.regular r).arrow k x y gr.occ gr gr.is e)
    answer_same k gr used also (Pre x) e l = absurd ((reads_now f w start.ground.regular r).pre k x gr.occ gr gr.is e)
    answer_same k gr used also (Result x) e l =
        ap (λ v. answered (given v)) (steady_same x k (Result x) (gr.occ, gr.is, e) (record { index = 0; is = refl }) gr used also l)
    answer_same k gr used also (Up site) e l = absurd (true-false (sym (ap (λ form. is_value form) e) ∙ gr.value) refl)
    answer_same k gr used also (Fired ks) e l = absurd (true-false (sym (ap (λ form. is_value form) e) ∙ gr.value) refl)
    answer_same k gr used also Step e l = absurd (subst (λ form. IsAllowed (start.ground.regular.context k) form) e (start.ground.regular.occs k gr.occ gr.is).allowed)

    -- its value
    pub value_same : (k : ℕ) (gr : IsGraded f k) → V0 (AtUsed k) ≡ true → S0 (AtUsed k) ≡ true → ReadsValue f P Q (slice_get f.occs k) → value_of f M0 V0 (slice_get f.occs k) ≡ value_of f N0 S0 (slice_get f.occs k)
    value_same k gr used there l =
        let reads : ReadsValue f P Q (Some gr.occ) = subst (λ o. ReadsValue f P Q o) gr.is l in
        ap (λ o. value_of f M0 V0 o) gr.is
        ∙ ap₂ (λ x y. if x then y else None) (ap (λ c. is_active c) (hybrid_same f g h i at start gr.occ.block gr.hybrid)) (answer_same k gr used there gr.occ.form refl reads.1)
        ∙ sym (ap (λ o. value_of f N0 S0 o) gr.is)
