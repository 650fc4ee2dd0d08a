-- The wires of slopes in a flow hold the slopes of occurrences, where these are fine.
use Rattle.std.specs.Prelude.{◌≡◌, ℕ, ◌≤◌, Bool, true, false, ◌&&◌, if◌then◌else◌, [], ◌∷◌, slice_get, Some, None}
use Rattle.std.proofs.Common.{refl, sym, ap, ap₂, ◌∙◌, subst}
use Rattle.zl_value.specs.Fraction.{Fraction, sub, fits}
use Rattle.zl_value.specs.Lists.{Has}
use Rattle.zl_value.specs.Times.{nought, unit, holds, fails}
use Rattle.zl_value.specs.declared.value.Value.TheVariants.{B, F}
use Rattle.zl_value.specs.declared.value.Ty.TheVariants.{Float}
use Rattle.zl_value.proofs.FractionLaws.{sub-self}
use Rattle.zl_meaning.specs.FlatForm.{FlatForm}
use Rattle.zl_meaning.specs.Uses.{PartOf, BranchOf, AsPart, AsBranch}
use Rattle.zl_meaning.specs.State.{AtUsed, AtValue}
use Rattle.zl_meaning.specs.Occurrences.{branch}
use Rattle.zl_meaning.specs.Slopes.{all_fine, slope_fits, less, sources}
use Rattle.zl_meaning.specs.Grades.{Grading, grade_of}
use Rattle.zl_meaning.specs.KeepsGrades.{passed_by}
use Rattle.zl_meaning.specs.WellFormed.{IsForm, IsWellFormed}
use Rattle.zl_meaning.specs.Single.{IsSingle}
use Rattle.zl_meaning.specs.declared.occurrence.Form.{Form}
use Rattle.zl_meaning.specs.declared.occurrence.Form.TheVariants.{Read, If}
use Rattle.zl_meaning.specs.declared.occurrence.Occ.{Occ}
use Rattle.zl_meaning.proofs.StraightLines.{answered-given}
use Rattle.zl_meaning.proofs.WrittenForms.{at-start, at-unit}
use Rattle.zl_kernel.specs.KernelForm.{KernelForm}
use Rattle.zl_kernel.specs.Wires.{held, branch as kernel_branch}
use Rattle.zl_kernel.specs.declared.wire.Def.TheVariants.{If as IfWire}
use Rattle.zl_normal.specs.Evaluated.{HasGuardRanks}
use Rattle.zl_normal.specs.Wiring.{Wiring}
use Rattle.zl_normal.specs.SlopeWires.{IsChosenSlope, One, Kept, Either}
use Rattle.zl_normal.specs.Normal.{IsNormalInFlows}
use Rattle.zl_normal.specs.MainBlock.{IsMain}
use Rattle.zl_normal.proofs.Wires.Solved.{given_is}
use Rattle.zl_normal.proofs.Slopes.FlowValues.{InFlowOf, some_f, V, value_by, used_by, fine_at}
use Rattle.zl_normal.proofs.Slopes.Moving.{reduced_of, fine_of, and_true, same_test, no_more, nought_fits}
use Rattle.zl_normal.proofs.Slopes.MovingForms.{branch_there, branch_is, chosen_source}
use Rattle.zl_normal.proofs.Slopes.SlopeWires.{flow_wire_is, if_fine, passed_on}
use Rattle.zl_normal.proofs.Slopes.SlopeOperators.{BesideFlow, Sloped, fine_fits, open_is, zero_is}

module _ (f : FlatForm) (g : Grading) (main : IsMain f) (formed : IsWellFormed f) (c : InFlowOf f g) (single : IsSingle f) (ranks : HasGuardRanks f) (k : KernelForm) (N : Wiring) (moving : IsNormalInFlows f g.occs k N) (d : BesideFlow f g main c k N) where
  abbrev Slope : ℕ → Type 0
  Slope j = Sloped f g main formed c single ranks k N moving d j

  module _ (j : ℕ) (occ : Occ) (is : slice_get f.occs j ≡ Some occ) (ty : occ.ty ≡ Float) (low : grade_of c.whole j ≤ 1) (on : V f g main c nought (AtUsed j) ≡ true) (a b : Fraction) (v : V f g main c nought (AtValue j) ≡ Some (F a)) (w : V f g main c unit (AtValue j) ≡ Some (F b)) where
    abbrev Here : Type 0
    Here = held d.y (N.S j) ≡ if_fine (fine_of f g main formed c j) (sub b a)

    pub fine_is : (form : Form) → occ.form ≡ form → fine_of f g main formed c j ≡ (fits (sub b a) && all_fine c.fine (sources f (V f g main c nought) form))
    fine_is form e = fine_at f g main c j occ form is e ∙ ap₂ (λ m n. slope_fits (less m n) && all_fine c.fine (sources f (V f g main c nought) form)) w v

    nothing_moved : b ≡ a → sub b a ≡ nought
    nothing_moved e = ap (λ x. sub x a) e ∙ sub-self a (reduced_of f g main formed c nought at-start j occ is ty a v).above

    -- what stands still, whose wire is that of zero
    pub still_here : N.S j ≡ N.zero → b ≡ a → fine_of f g main formed c j ≡ true → Here
    still_here zero_wire same fine =
        ap (λ n. held d.y n) zero_wire ∙ zero_is f g main formed c single ranks k N moving d ∙ ap (λ x. Some (F x)) (sym (nothing_moved same)) ∙ ap (λ z. if_fine z (sub b a)) (sym fine)

    pub leaf_here : (form : Form) → occ.form ≡ form → N.S j ≡ N.zero → V f g main c unit (AtValue j) ≡ V f g main c nought (AtValue j) → sources f (V f g main c nought) form ≡ [] → Here
    leaf_here form e zero_wire same none =
        let equal = some_f b a (sym w ∙ same ∙ v) in
        still_here zero_wire equal (fine_is form e ∙ and_true _ _ (ap (λ x. fits x) (nothing_moved equal) ∙ nought_fits) (ap (λ l. all_fine c.fine l) none))

    -- what passes on the value of a part
    pub alias_here : (x : ℕ) (xocc : Occ) (form : Form) → occ.form ≡ form → slice_get f.occs x ≡ Some xocc → xocc.ty ≡ Float → grade_of c.whole x ≤ grade_of c.whole j → V f g main c nought (AtUsed x) ≡ true → V f g main c nought (AtValue j) ≡ V f g main c nought (AtValue x) → V f g main c unit (AtValue j) ≡ V f g main c unit (AtValue x) → sources f (V f g main c nought) form ≡ x ∷ [] → held d.y (N.S j) ≡ held d.y (N.S x) → Slope x → Here
    alias_here x xocc form e at xty less_than used start end one same hx =
        let vx = sym start ∙ v in
        let wx = sym end ∙ w in
        same ∙ hx xocc at xty (no_more _ _ less_than low) used a b vx wx
        ∙ passed_on (fine_of f g main formed c x) true (sub b a) (λ q. fine_fits f g main formed c single ranks k N moving d x xocc at a b vx wx q) refl
        ∙ ap (λ z. if_fine z (sub b a)) (sym (fine_is form e ∙ ap (λ l. fits (sub b a) && all_fine c.fine l) one))

    pub if_here : (x y z : ℕ) → occ.form ≡ If x y z → IsChosenSlope f g.occs k N j x y z → Slope y → Slope z → Here
    if_here x y z e chosen hy hz = by t.0 t.1 t.2
      where
        stands : IsForm f occ.block occ.ty (If x y z)
        stands = subst (λ q. IsForm f occ.block occ.ty q) e (formed.occs j occ is).form

        start : V f g main c nought (AtValue j) ≡ branch (V f g main c nought (AtValue x)) (V f g main c nought (AtValue y)) (V f g main c nought (AtValue z))
        start = value_by f g main c nought at-start j occ is (If x y z) e ∙ answered-given _

        end : V f g main c unit (AtValue j) ≡ branch (V f g main c unit (AtValue x)) (V f g main c unit (AtValue y)) (V f g main c unit (AtValue z))
        end = value_by f g main c unit at-unit j occ is (If x y z) e ∙ answered-given _

        t : (s : Bool) × (V f g main c nought (AtValue x) ≡ Some (B s)) × ((if s then V f g main c nought (AtValue y) else V f g main c nought (AtValue z)) ≡ Some (F a))
        t = branch_there f g main formed c (V f g main c nought (AtValue x)) (V f g main c nought (AtValue y)) (V f g main c nought (AtValue z)) (F a) (sym start ∙ v)

        test_used : V f g main c nought (AtUsed x) ≡ true
        test_used = used_by f g main c nought at-start x stands.0.occ (PartOf j) stands.0.is (AsPart j (If x y z) (occ, is, e) (record { index = 0; is = refl })) on

        later : (s : Bool) → V f g main c nought (AtValue x) ≡ Some (B s) → V f g main c unit (AtValue x) ≡ Some (B s)
        later s q = same_test f g main formed c x stands.0.occ stands.0.is stands.0.typed test_used (B s) q

        test_wire : (s : Bool) → V f g main c nought (AtValue x) ≡ Some (B s) → held d.y (N.w x) ≡ Some (B s)
        test_wire s q = open_is f g main formed c single ranks k N moving d x stands.0.occ stands.0.is test_used (B s) q

        wire : (s : Bool) → V f g main c nought (AtValue x) ≡ Some (B s) → (if s then V f g main c nought (AtValue y) else V f g main c nought (AtValue z)) ≡ Some (F a) → IsChosenSlope f g.occs k N j x y z → held d.y (N.S j) ≡ held d.y (if s then N.S y else N.S z)
        wire true q r (One same own) = ap (λ n. held d.y n) own
        wire false q r (One same own) = ap (λ n. held d.y n) (own ∙ same)
        wire true q r (Kept blank own) = ap (λ n. held d.y n) own
        wire false q r (Kept blank own) =
            let none : V f g main c nought (AtValue z) ≡ None =
            value_by f g main c nought at-start z blank.occ blank.is (Read blank.p) blank.form ∙ answered-given _ ∙ d.blank blank.p blank.place blank.place_is blank.definers in
            absurd (let u : None ≡ Some (F a) = sym none ∙ r in let g : ⊥ = cc in g)
        wire s q r (Either is alone) =
            flow_wire_is k d.i d.y d.wired (N.S j) (IfWire (N.w x) (N.S y) (N.S z)) None is
            ∙ given_is (kernel_branch (held d.y (N.w x)) (held d.y (N.S y)) (held d.y (N.S z)))
            ∙ ap (λ o. kernel_branch o (held d.y (N.S y)) (held d.y (N.S z))) (test_wire s q) ∙ side s
          where
            side : (s : Bool) → kernel_branch (Some (B s)) (held d.y (N.S y)) (held d.y (N.S z)) ≡ held d.y (if s then N.S y else N.S z)
            side true = refl
            side false = refl

        by : (s : Bool) → V f g main c nought (AtValue x) ≡ Some (B s) → (if s then V f g main c nought (AtValue y) else V f g main c nought (AtValue z)) ≡ Some (F a) → Here
        by true q r =
            let used = used_by f g main c nought at-start y stands.1.occ (BranchOf j x true) stands.1.is (AsBranch j x y z true (occ, is, e) refl) (and_true _ _ on (ap (λ o. holds o) q)) in
            let lower = c.keeps.passes j y occ is ty low (subst (λ q. Has (passed_by q) y) (sym e) (record { index = 0; is = refl })) used in
            alias_here y stands.1.occ (If x y z) e stands.1.is (stands.1.typed ∙ ty) lower used (start ∙ branch_is f g main formed c true _ _ _ q) (end ∙ branch_is f g main formed c true _ _ _ (later true q)) (chosen_source f g main formed c x y z true q) (wire true q r chosen) hy
        by false q r =
            let used = used_by f g main c nought at-start z stands.2.occ (BranchOf j x false) stands.2.is (AsBranch j x y z false (occ, is, e) refl) (and_true _ _ on (ap (λ o. fails o) q)) in
            let lower = c.keeps.passes j z occ is ty low (subst (λ q. Has (passed_by q) z) (sym e) (record { index = 1; is = refl })) used in
            alias_here z stands.2.occ (If x y z) e stands.2.is (stands.2.typed ∙ ty) lower used (start ∙ branch_is f g main formed c false _ _ _ q) (end ∙ branch_is f g main formed c false _ _ _ (later false q)) (chosen_source f g main formed c x y z false q) (wire false q r chosen) hz
