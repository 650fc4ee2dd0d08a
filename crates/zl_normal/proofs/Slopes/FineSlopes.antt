-- Where a flow has no fault, the slope of each occurrence that has a number and a grade of 0 or 1 is fine.
use Rattle.std.specs.Prelude.{◌≡◌, ℕ, zero, suc, ◌<◌, ◌≤◌, nat_le, Bool, true, false, ◌&&◌, if◌then◌else◌, List, [], ◌∷◌, length, slice_get, get_or, Option, Some, None, ⊤}
use Rattle.std.specs.List.{AllByRecursion}
use Rattle.std.proofs.Common.{refl, sym, ap, ap₂, ◌∙◌, arith, subst, inr, ⊎_elim}
use Rattle.std.proofs.lemmas.Bool.Decides.{leb_tells}
use Rattle.zl_value.specs.Fraction.{Fraction, sub, fits}
use Rattle.zl_value.specs.Lists.{Has}
use Rattle.zl_value.specs.Times.{nought, unit, holds, fails}
use Rattle.zl_value.specs.OperatorTypes.{type_of}
use Rattle.zl_value.specs.declared.value.Value.TheVariants.{B, F}
use Rattle.zl_value.specs.declared.value.Ty.TheVariants.{Float}
use Rattle.zl_value.specs.declared.op.Op.{Op}
use Rattle.zl_value.specs.declared.op.Op.TheVariants.{AddInt, SubInt, MulInt, DivInt, ModInt, NegInt, AddFloat, SubFloat, MulFloat, DivFloat, NegFloat, FloatOfInt, Truncate, EqBool, NeBool, LtBool, LeBool, GtBool, GeBool, EqInt, NeInt, LtInt, LeInt, GtInt, GeInt, EqFloat, NeFloat, LtFloat, LeFloat, GtFloat, GeFloat, And, Or, Not}
use Rattle.zl_meaning.specs.FlatForm.{FlatForm}
use Rattle.zl_meaning.specs.Uses.{PartOf, BranchOf, DefinerOf, AsPart, AsBranch}
use Rattle.zl_meaning.specs.State.{AtPlace, AtUsed, AtValue}
use Rattle.zl_meaning.specs.Occurrences.{branch}
use Rattle.zl_meaning.specs.Slopes.{all_fine, slope_fits, less, sources}
use Rattle.zl_meaning.specs.Grades.{Grading, grade_of, place_grade, keeps_lines, op_grade}
use Rattle.zl_meaning.specs.KeepsGrades.{passed_by, passes_on}
use Rattle.zl_meaning.specs.WellFormed.{AllStand, Stands, IsForm, IsDefiner, IsWellFormed}
use Rattle.zl_meaning.specs.Single.{IsSingle}
use Rattle.zl_meaning.specs.Reading.{ReadsValues, ReadsForm, ReadsValue, ReadsDefiner, ReadsPlace}
use Rattle.zl_meaning.specs.declared.place.Definer.{Definer}
use Rattle.zl_meaning.specs.declared.place.Definer.TheVariants.{Input, Plain, Der, Start}
use Rattle.zl_meaning.specs.declared.place.PlaceInfo.{PlaceInfo}
use Rattle.zl_meaning.specs.declared.occurrence.Form.{Form}
use Rattle.zl_meaning.specs.declared.occurrence.Form.TheVariants.{Lit, Read, Last, Op as Apply, If, Arrow, Pre, Result, Up, Fired, Step}
use Rattle.zl_meaning.specs.declared.occurrence.Occ.{Occ}
use Rattle.zl_meaning.proofs.Members.{all-has}
use Rattle.zl_meaning.proofs.StraightLines.{answered-given}
use Rattle.zl_meaning.proofs.WrittenForms.{at-start}
use Rattle.zl_meaning.proofs.GradesKept.UsesSay.{plain-used}
use Rattle.zl_kernel.specs.KernelForm.{KernelForm}
use Rattle.zl_normal.specs.Evaluated.{HasGuardRanks}
use Rattle.zl_normal.specs.Wiring.{Wiring}
use Rattle.zl_normal.specs.PlaceWires.{definer_of}
use Rattle.zl_normal.specs.Normal.{IsNormalInFlows}
use Rattle.zl_normal.specs.MainBlock.{IsMain}
use Rattle.zl_meaning.specs.Places.{last_of}
use Rattle.zl_normal.proofs.Values.Entries.{defined_by}
use Rattle.zl_normal.proofs.Wires.FirstFaults.{clash}
use Rattle.zl_normal.proofs.Slopes.FlowValues.{InFlowOf, V, M, live_then, value_by, used_by, one_there, fine_at}
use Rattle.zl_normal.proofs.Slopes.Moving.{MovesTo, fine_of, number_of, and_true, no_more}
use Rattle.zl_normal.proofs.Slopes.MovingForms.{branch_there, branch_is, chosen_source}
use Rattle.zl_normal.proofs.Slopes.MovingOperators.{Low, low_sum, low_product, low_quotient, two}
use Rattle.zl_normal.proofs.Slopes.MovingPlaces.{plain_names, definer_has, no_start, AtPlaces, at_places, sources_are, moves}
use Rattle.zl_normal.proofs.Slopes.SlopeOperators.{BesideFlow}
use Rattle.zl_normal.proofs.Slopes.NarrowSlopes.{HasOwn, narrow_same, narrow_form}
use Rattle.zl_normal.proofs.Slopes.WideSlopes.{is_wide, low_true}
use Rattle.zl_normal.proofs.Slopes.SlopeFaults.{slope_at, old_grade}

module _ (f : FlatForm) (g : Grading) (main : IsMain f) (formed : IsWellFormed f) (c : InFlowOf f g) (single : IsSingle f) (ranks : HasGuardRanks f) (k : KernelForm) (N : Wiring) (moving : IsNormalInFlows f g.occs k N) (d : BesideFlow f g main c k N) (right : (j : ℕ) (occ : Occ) → slice_get f.occs j ≡ Some occ → slope_at f g main formed c single ranks k N moving d j occ ≡ None) where
  abbrev pub Fine : ℕ → Type 0
  Fine j = (occ : Occ) → slice_get f.occs j ≡ Some occ → occ.ty ≡ Float → grade_of c.whole j ≤ 1 → V f g main c nought (AtUsed j) ≡ true → (a : Fraction) → V f g main c nought (AtValue j) ≡ Some (F a) → fine_of f g main formed c j ≡ true

  module _ (j : ℕ) (occ : Occ) (is : slice_get f.occs j ≡ Some occ) (ty : occ.ty ≡ Float) (low : grade_of c.whole j ≤ 1) (on : V f g main c nought (AtUsed j) ≡ true) (a : Fraction) (v : V f g main c nought (AtValue j) ≡ Some (F a)) where
    m : MovesTo f g main formed c j a
    m = moves f g main formed c single ranks j occ is ty low on a v

    -- what it is made from is fine
    abbrev Made : Form → Type 0
    Made form = all_fine c.fine (sources f (V f g main c nought) form) ≡ true

    narrow : Made occ.form → fits (sub m.b a) ≡ true
    narrow all = ⊎_elim (λ yes. appended yes.1) (λ other. old other.1) (leb_tells (length g.occs) j)
      where
        old : j < length g.occs → fits (sub m.b a) ≡ true
        old less = by (fits (sub m.b a)) refl
          where
            by : (b : Bool) → fits (sub m.b a) ≡ b → b ≡ true
            by true q = refl
            by false q =
                absurd
                (clash _
                (sym (right j occ is)
                ∙ is_wide (V f g main c nought (AtUsed j)) (nat_le (get_or g.occs j 3) 1) (all_fine c.fine (sources f (V f g main c nought) occ.form)) (V f g main c nought (AtValue j)) (V f g main c unit (AtValue j)) occ.at a m.b
                on (low_true _ (subst (λ x. x ≤ 1) (c.form.old j less) low)) all v m.there q))

        passed : (op : Op) (ks : List ℕ) → passes_on occ.form ≡ true → occ.form ≡ Apply op ks → ⊥
        passed op ks e q = let z : true ≡ false = sym e ∙ ap (λ x. passes_on x) q in absurd cc

        appended : length g.occs ≤ j → fits (sub m.b a) ≡ true
        appended less =
            ⊎_elim
            (λ still. narrow_same f g main formed c single ranks k N moving d j occ is ty low on a m.b v m.there (m.still (zeroed still.0)).0)
            (λ slope. ⊎_elim (λ z. z) (λ (own : HasOwn f g main formed c single ranks k N moving d j occ is ty low on a m.b v m.there occ.form). absurd (passed own.op own.ks (c.form.appended j occ is less ty) own.says)) (narrow_form f g main formed c single ranks k N moving d j occ is ty low on a m.b v m.there occ.form refl (formed.occs j occ is).form slope all))
            (moving.slopes j occ is ty (inr less))
          where
            zeroed : get_or g.occs j 3 ≡ 0 → grade_of c.whole j ≡ 0
            zeroed e = old_grade f g main formed c single ranks k N moving d j (omega (arith, e)) ∙ e

    fine_if : Made occ.form → fine_of f g main formed c j ≡ true
    fine_if all =
        fine_at f g main c j occ occ.form is refl
        ∙ ap₂ (λ x y. slope_fits (less x y) && all_fine c.fine (sources f (V f g main c nought) occ.form)) m.there v ∙ and_true _ _ (narrow all) all

    one_fine : (ks : List ℕ) (x : ℕ) → ks ≡ x ∷ [] → fine_of f g main formed c x ≡ true → all_fine c.fine ks ≡ true
    one_fine ks x e fine = ap (λ l. all_fine c.fine l) e ∙ and_true _ _ fine refl

    -- two operands
    both_fine : (x y : ℕ) (op : Op) → occ.form ≡ Apply op (x ∷ y ∷ []) → Stands f occ.block Float x → Stands f occ.block Float y → Low (grade_of c.whole j) (grade_of c.whole x) (grade_of c.whole y) → Fine x → Fine y → all_fine c.fine (x ∷ y ∷ []) ≡ true
    both_fine x y op e sx sy l fx fy =
        let t = (two f g main formed c j x y occ.block occ op is e sx sy l.left l.right on a v (moves f g main formed c single ranks x) (moves f g main formed c single ranks y)).0 in
        and_true _ _ (fx sx.occ sx.is sx.typed l.left t.used_left t.p t.left) (and_true _ _ (fy sy.occ sy.is sy.typed l.right t.used_right t.q t.right) refl)

    operator_fine : (op : Op) (ks : List ℕ) → occ.form ≡ Apply op ks → AllStand f occ.block (type_of op).operands ks → op_grade c.whole op ks ≤ grade_of c.whole j → AllByRecursion Fine ks → all_fine c.fine (if keeps_lines op then ks else []) ≡ true
    operator_fine AddFloat (x ∷ y ∷ []) e st gr h = both_fine x y AddFloat e st.0 st.1.0 (low_sum (grade_of c.whole j) (grade_of c.whole x) (grade_of c.whole y) low gr) h.0 h.1.0
    operator_fine AddFloat [] e st gr h = absurd st
    operator_fine AddFloat (x ∷ []) e st gr h = absurd st.1
    operator_fine AddFloat (x ∷ y ∷ z ∷ ks) e st gr h = absurd st.1.1
    operator_fine SubFloat (x ∷ y ∷ []) e st gr h = both_fine x y SubFloat e st.0 st.1.0 (low_sum (grade_of c.whole j) (grade_of c.whole x) (grade_of c.whole y) low gr) h.0 h.1.0
    operator_fine SubFloat [] e st gr h = absurd st
    operator_fine SubFloat (x ∷ []) e st gr h = absurd st.1
    operator_fine SubFloat (x ∷ y ∷ z ∷ ks) e st gr h = absurd st.1.1
    operator_fine MulFloat (x ∷ y ∷ []) e st gr h = both_fine x y MulFloat e st.0 st.1.0 (low_product (grade_of c.whole j) (grade_of c.whole x) (grade_of c.whole y) low gr) h.0 h.1.0
    operator_fine MulFloat [] e st gr h = absurd st
    operator_fine MulFloat (x ∷ []) e st gr h = absurd st.1
    operator_fine MulFloat (x ∷ y ∷ z ∷ ks) e st gr h = absurd st.1.1
    operator_fine DivFloat (x ∷ y ∷ []) e st gr h = both_fine x y DivFloat e st.0 st.1.0 ((low_quotient (grade_of c.whole j) (grade_of c.whole x) (grade_of c.whole y) low gr).0) h.0 h.1.0
    operator_fine DivFloat [] e st gr h = absurd st
    operator_fine DivFloat (x ∷ []) e st gr h = absurd st.1
    operator_fine DivFloat (x ∷ y ∷ z ∷ ks) e st gr h = absurd st.1.1
    operator_fine NegFloat (x ∷ []) e st gr h =
        let there = one_there NegFloat (V f g main c nought) x (F a) (sym (value_by f g main c nought at-start j occ is (Apply NegFloat (x ∷ [])) e) ∙ v) in
        let p = number_of f g main formed c nought at-start x st.0.occ st.0.is st.0.typed there.0 there.1 in
        let used = used_by f g main c nought at-start x st.0.occ (PartOf j) st.0.is (AsPart j (Apply NegFloat (x ∷ [])) (occ, is, e) (record { index = 0; is = refl })) on in
        and_true _ _ (h.0 st.0.occ st.0.is st.0.typed (no_more _ _ gr low) used p.number p.is) refl
    operator_fine NegFloat [] e st gr h = absurd st
    operator_fine NegFloat (x ∷ y ∷ ks) e st gr h = absurd st.1
    operator_fine AddInt ks e st gr h = refl
    operator_fine SubInt ks e st gr h = refl
    operator_fine MulInt ks e st gr h = refl
    operator_fine DivInt ks e st gr h = refl
    operator_fine ModInt ks e st gr h = refl
    operator_fine NegInt ks e st gr h = refl
    operator_fine FloatOfInt ks e st gr h = refl
    operator_fine Truncate ks e st gr h = refl
    operator_fine EqBool ks e st gr h = refl
    operator_fine NeBool ks e st gr h = refl
    operator_fine LtBool ks e st gr h = refl
    operator_fine LeBool ks e st gr h = refl
    operator_fine GtBool ks e st gr h = refl
    operator_fine GeBool ks e st gr h = refl
    operator_fine EqInt ks e st gr h = refl
    operator_fine NeInt ks e st gr h = refl
    operator_fine LtInt ks e st gr h = refl
    operator_fine LeInt ks e st gr h = refl
    operator_fine GtInt ks e st gr h = refl
    operator_fine GeInt ks e st gr h = refl
    operator_fine EqFloat ks e st gr h = refl
    operator_fine NeFloat ks e st gr h = refl
    operator_fine LtFloat ks e st gr h = refl
    operator_fine LeFloat ks e st gr h = refl
    operator_fine GtFloat ks e st gr h = refl
    operator_fine GeFloat ks e st gr h = refl
    operator_fine And ks e st gr h = refl
    operator_fine Or ks e st gr h = refl
    operator_fine Not ks e st gr h = refl

    -- a part that is evaluated with it
    passed_fine : (x : ℕ) (form : Form) (xocc : Occ) → occ.form ≡ form → slice_get f.occs x ≡ Some xocc → xocc.ty ≡ Float → V f g main c nought (AtUsed x) ≡ true → (has : Has (passed_by form) x) → V f g main c nought (AtValue j) ≡ V f g main c nought (AtValue x) → Fine x → fine_of f g main formed c x ≡ true
    passed_fine x form xocc e at xty used has start fx = fx xocc at xty (no_more _ _ (c.keeps.passes j x occ is ty low (subst (λ q. Has (passed_by q) x) (sym e) has) used) low) used a (sym start ∙ v)

    read_fine : (p : ℕ) → occ.form ≡ Read p → (place : PlaceInfo) → slice_get f.places p ≡ Some place → place.ty ≡ Float → ((b x : ℕ) → definer_of place.definers ≡ Some (Plain b x) → Fine x) → Made (Read p)
    read_fine p e place at pty fx = ap (λ l. all_fine c.fine l) (sources_are f g main formed c single ranks p place at) ∙ by (definer_of place.definers) refl there.start
      where
        from : V f g main c nought (AtValue j) ≡ V f g main c nought (AtPlace p)
        from = value_by f g main c nought at-start j occ is (Read p) e ∙ answered-given _

        there : AtPlaces f g main formed c single ranks p place
        there = at_places f g main formed c single ranks p place at (F a) (sym from ∙ v)

        by : (q : Option Definer) → definer_of place.definers ≡ q → V f g main c nought (AtPlace p) ≡ defined_by f main (M f g main c nought) (V f g main c nought) (c.solves nought at-start) (live_then f g main c nought) p q (last_of (M f g main c nought) (V f g main c nought) p (Some place)) → all_fine c.fine (plain_names q) ≡ true
        by None q start = refl
        by (Some (Input n)) q start = refl
        by (Some (Der b x arms)) q start = refl
        by (Some (Start b x)) q start = absurd (no_start place.definers b x q)
        by (Some (Plain b x)) q start =
            let has = definer_has place.definers (Plain b x) q in
            let stands : Stands f b place.ty x = (all-has (IsDefiner f p place) place.definers (Plain b x) (formed.places p place at).definers has).1 in
            let used = used_by f g main c nought at-start x stands.occ (DefinerOf place.call) stands.is (plain-used f x p b place at has) there.called in
            let less : place_grade c.whole p ≤ grade_of c.whole j = c.form.names j p occ is ty low e in
            let lower = c.keeps.definers p b x place at pty (no_more _ _ less low) has used in
            let below : grade_of c.whole x ≤ grade_of c.whole j = omega (arith, lower, less) in
            and_true _ _ (fx b x q stands.occ stands.is (stands.typed ∙ pty) (no_more _ _ below low) used a (sym (from ∙ start) ∙ v)) refl

    if_fine : (x y z : ℕ) → occ.form ≡ If x y z → IsForm f occ.block occ.ty (If x y z) → Fine y → Fine z → Made (If x y z)
    if_fine x y z e stands fy fz = by t.0 t.1
      where
        start : V f g main c nought (AtValue j) ≡ branch (V f g main c nought (AtValue x)) (V f g main c nought (AtValue y)) (V f g main c nought (AtValue z))
        start = value_by f g main c nought at-start j occ is (If x y z) e ∙ answered-given _

        t : (s : Bool) × (V f g main c nought (AtValue x) ≡ Some (B s)) × ((if s then V f g main c nought (AtValue y) else V f g main c nought (AtValue z)) ≡ Some (F a))
        t = branch_there f g main formed c (V f g main c nought (AtValue x)) (V f g main c nought (AtValue y)) (V f g main c nought (AtValue z)) (F a) (sym start ∙ v)

        by : (s : Bool) → V f g main c nought (AtValue x) ≡ Some (B s) → Made (If x y z)
        by true q =
            let used = used_by f g main c nought at-start y stands.1.occ (BranchOf j x true) stands.1.is (AsBranch j x y z true (occ, is, e) refl) (and_true _ _ on (ap (λ o. holds o) q)) in
            one_fine _ y (chosen_source f g main formed c x y z true q)
            (passed_fine y (If x y z) stands.1.occ e stands.1.is (stands.1.typed ∙ ty) used (record { index = 0; is = refl }) (start ∙ branch_is f g main formed c true _ _ _ q) fy)
        by false q =
            let used = used_by f g main c nought at-start z stands.2.occ (BranchOf j x false) stands.2.is (AsBranch j x y z false (occ, is, e) refl) (and_true _ _ on (ap (λ o. fails o) q)) in
            one_fine _ z (chosen_source f g main formed c x y z false q)
            (passed_fine z (If x y z) stands.2.occ e stands.2.is (stands.2.typed ∙ ty) used (record { index = 1; is = refl }) (start ∙ branch_is f g main formed c false _ _ _ q) fz)

    module _ (n : ℕ) (below : (x : ℕ) → ranks.entries.rank (AtValue x) < n → Fine x) where
      all_below : (ks : List ℕ) → ReadsValues (λ b. ranks.entries.rank b < n) ks → AllByRecursion Fine ks
      all_below [] rd = tt
      all_below (x ∷ ks) rd = (below x rd.0, all_below ks rd.1)

      plain_read : (p : ℕ) (place : PlaceInfo) → slice_get f.places p ≡ Some place → (b x : ℕ) → definer_of place.definers ≡ Some (Plain b x) → ranks.entries.rank (AtPlace p) < n → ranks.entries.rank (AtValue x) < n
      plain_read p place is b x q low =
          let reads : ReadsPlace (λ a. ranks.entries.rank a < ranks.entries.rank (AtPlace p)) (λ a. ⊤) p (Some place) = subst (λ o. ReadsPlace (λ a. ranks.entries.rank a < ranks.entries.rank (AtPlace p)) (λ a. ⊤) p o) is (ranks.entries.lower (AtPlace p)) in
          let one = all-has (ReadsDefiner (λ a. ranks.entries.rank a < ranks.entries.rank (AtPlace p)) (λ a. ⊤) p) place.definers (Plain b x) reads.2 (definer_has place.definers (Plain b x) q) in
          let l = one.1 in omega (arith, l, low)

      form_fine : (form : Form) → occ.form ≡ form → IsForm f occ.block occ.ty form → ReadsForm f (λ b. ranks.entries.rank b < n) (λ b. ⊤) occ.block form → Made form
      form_fine (Lit x) e st rd = refl
      form_fine (Read p) e st rd = read_fine p e st.place st.is (st.typed ∙ ty) (λ b x q. below x (plain_read p st.place st.is b x q rd))
      form_fine (Last p) e st rd = refl
      form_fine (Apply op ks) e st rd = operator_fine op ks e st.0 (c.form.operators j op ks occ is ty low e) (all_below ks rd)
      form_fine (If x y z) e st rd = if_fine x y z e st (below y rd.1) (below z rd.2)
      form_fine (Arrow x y) e st rd =
          let used = used_by f g main c nought at-start y st.1.occ (PartOf j) st.1.is (AsPart j (Arrow x y) (occ, is, e) (record { index = 1; is = refl })) on in
          one_fine (y ∷ []) y refl (passed_fine y (Arrow x y) st.1.occ e st.1.is (st.1.typed ∙ ty) used (record { index = 0; is = refl }) (value_by f g main c nought at-start j occ is (Arrow x y) e ∙ answered-given _) (below y rd.2))
      form_fine (Pre x) e st rd = refl
      form_fine (Result x) e st rd =
          let used = used_by f g main c nought at-start x st.occ (PartOf j) st.is (AsPart j (Result x) (occ, is, e) (record { index = 0; is = refl })) on in
          one_fine (x ∷ []) x refl (passed_fine x (Result x) st.occ e st.is (st.typed ∙ ty) used (record { index = 0; is = refl }) (value_by f g main c nought at-start j occ is (Result x) e ∙ answered-given _) (below x rd))
      form_fine (Up u) e st rd = refl
      form_fine (Fired ks) e st rd = refl
      form_fine Step e st rd = refl

  fine_below : (n j : ℕ) → ranks.entries.rank (AtValue j) < n → Fine j
  fine_below zero j low = absurd (omega (arith, low))
  fine_below (suc n) j low = λ occ is ty grade on a v.
      let reads : ReadsValue f (λ b. ranks.entries.rank b < ranks.entries.rank (AtValue j)) (λ b. ⊤) (Some occ) = subst (λ o. ReadsValue f (λ b. ranks.entries.rank b < ranks.entries.rank (AtValue j)) (λ b. ⊤) o) is (ranks.entries.lower (AtValue j)) in
      fine_if j occ is ty grade on a v
      (form_fine j occ is ty grade on a v (ranks.entries.rank (AtValue j)) (λ x less. fine_below n x (omega (arith, low, less))) occ.form refl (formed.occs j occ is).form reads.1)

  -- each slope is fine
  pub fine : (j : ℕ) → Fine j
  fine j = fine_below (suc (ranks.entries.rank (AtValue j))) j (omega arith)
