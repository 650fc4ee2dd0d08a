-- The wires of slopes in a flow: names of places, and so each occurrence that has a grade of 0 or 1.
use Rattle.std.specs.Prelude.{◌≡◌, ℕ, zero, suc, ◌<◌, ◌≤◌, ◌⊎◌, true, List, [], ◌∷◌, length, slice_get, get_or, Option, Some, None, ⊤}
use Rattle.std.specs.List.{AllByRecursion}
use Rattle.std.proofs.Common.{refl, sym, ap, ap₂, ◌∙◌, arith, subst, inl, inr, ⊎_elim}
use Rattle.std.proofs.lemmas.Bool.Decides.{leb_tells}
use Rattle.zl_value.specs.Fraction.{Fraction, add, sub, mul, fits}
use Rattle.zl_value.specs.Lists.{Has}
use Rattle.zl_value.specs.Times.{nought, unit}
use Rattle.zl_value.specs.declared.value.Value.TheVariants.{F}
use Rattle.zl_value.specs.declared.value.Ty.TheVariants.{Bool as BoolTy, Float, Zero}
use Rattle.zl_value.proofs.LinearLaws.{line_slope}
use Rattle.zl_meaning.specs.FlatForm.{FlatForm}
use Rattle.zl_meaning.specs.Uses.{PartOf, DefinerOf, AsPart}
use Rattle.zl_meaning.specs.State.{AtPlace, AtUsed, AtValue}
use Rattle.zl_meaning.specs.History.{state_of}
use Rattle.zl_meaning.specs.Slopes.{all_fine}
use Rattle.zl_meaning.specs.Grades.{Grading, grade_of, place_grade}
use Rattle.zl_meaning.specs.KeepsGrades.{passed_by}
use Rattle.zl_meaning.specs.WellFormed.{Stands, IsForm, IsDefiner, IsWellFormed}
use Rattle.zl_meaning.specs.Single.{IsSingle}
use Rattle.zl_meaning.specs.Reading.{ReadsValues, ReadsForm, ReadsValue, ReadsDefiner, ReadsPlace}
use Rattle.zl_meaning.specs.declared.place.Definer.{Definer}
use Rattle.zl_meaning.specs.declared.place.Definer.TheVariants.{Input, Plain, Der, Start}
use Rattle.zl_meaning.specs.declared.place.PlaceInfo.{PlaceInfo}
use Rattle.zl_meaning.specs.declared.occurrence.Form.{Form}
use Rattle.zl_meaning.specs.declared.occurrence.Form.TheVariants.{Lit, Read, Last, Op as Apply, If, Arrow, Pre, Result, Up, Fired, Step}
use Rattle.zl_meaning.specs.declared.occurrence.Occ.{Occ}
use Rattle.zl_meaning.proofs.Members.{all-has}
use Rattle.zl_meaning.proofs.StraightLines.{answered-given}
use Rattle.zl_meaning.proofs.WrittenForms.{at-start, at-unit}
use Rattle.zl_meaning.proofs.GradesKept.OfTypes.{IsOf}
use Rattle.zl_meaning.proofs.GradesKept.UsesSay.{plain-used}
use Rattle.zl_kernel.specs.KernelForm.{KernelForm}
use Rattle.zl_kernel.specs.Wires.{held}
use Rattle.zl_normal.specs.Evaluated.{HasGuardRanks}
use Rattle.zl_normal.specs.Wiring.{Wiring}
use Rattle.zl_normal.specs.PlaceWires.{definer_of}
use Rattle.zl_normal.specs.SlopeWires.{Moves as IsGraded, IsAppended, IsFormSlope, IsPlaceSlope}
use Rattle.zl_normal.specs.Normal.{IsNormalInFlows}
use Rattle.zl_normal.specs.MainBlock.{IsMain}
use Rattle.zl_normal.proofs.Slopes.FlowValues.{InFlowOf, some_f, V, M, live_then, value_by, used_by}
use Rattle.zl_normal.proofs.Values.Entries.{defined_by}
use Rattle.zl_meaning.specs.Places.{last_of, moved}
use Rattle.zl_normal.proofs.Slopes.Moving.{fine_of, and_true, last_there, no_more}
use Rattle.zl_normal.proofs.Slopes.MovingPlaces.{plain_names, definer_has, no_start, moved_there, AtPlaces, at_places, sources_are, last_is, moves}
use Rattle.zl_normal.proofs.Slopes.SlopeWires.{if_fine}
use Rattle.zl_normal.proofs.Slopes.SlopeOperators.{BesideFlow, Sloped, operator_sloped}
use Rattle.zl_normal.proofs.Slopes.SlopeForms.{fine_is, still_here, leaf_here, alias_here, if_here}

module _ (f : FlatForm) (g : Grading) (main : IsMain f) (formed : IsWellFormed f) (c : InFlowOf f g) (single : IsSingle f) (ranks : HasGuardRanks f) (k : KernelForm) (N : Wiring) (moving : IsNormalInFlows f g.occs k N) (d : BesideFlow f g main c k N) where
  abbrev Slope : ℕ → Type 0
  Slope j = Sloped f g main formed c single ranks k N moving d j

  module _ (j : ℕ) (occ : Occ) (is : slice_get f.occs j ≡ Some occ) (ty : occ.ty ≡ Float) (low : grade_of c.whole j ≤ 1) (on : V f g main c nought (AtUsed j) ≡ true) (a b : Fraction) (v : V f g main c nought (AtValue j) ≡ Some (F a)) (w : V f g main c unit (AtValue j) ≡ Some (F b)) where
    abbrev Here : Type 0
    Here = held d.y (N.S j) ≡ if_fine (fine_of f g main formed c j) (sub b a)

    read_here : (p : ℕ) → occ.form ≡ Read p → N.S j ≡ N.D p → (place : PlaceInfo) → slice_get f.places p ≡ Some place → place.ty ≡ Float → ((b x : ℕ) → definer_of place.definers ≡ Some (Plain b x) → Slope x) → Here
    read_here p e same place at pty hx = by (definer_of place.definers) refl (moving.place_slopes p place at pty) there.start there.end
      where
        from : V f g main c nought (AtValue j) ≡ V f g main c nought (AtPlace p)
        from = value_by f g main c nought at-start j occ is (Read p) e ∙ answered-given _

        to : V f g main c unit (AtValue j) ≡ V f g main c unit (AtPlace p)
        to = value_by f g main c unit at-unit j occ is (Read p) e ∙ answered-given _

        there : AtPlaces f g main formed c single ranks p place
        there = at_places f g main formed c single ranks p place at (F a) (sym from ∙ v)

        less : place_grade c.whole p ≤ grade_of c.whole j
        less = c.form.names j p occ is ty low e

        by : (q : Option Definer) → definer_of place.definers ≡ q → IsPlaceSlope f g.occs k N p q → V f g main c nought (AtPlace p) ≡ defined_by f main (M f g main c nought) (V f g main c nought) (c.solves nought at-start) (live_then f g main c nought) p q (last_of (M f g main c nought) (V f g main c nought) p (Some place)) → V f g main c unit (AtPlace p) ≡ defined_by f main (M f g main c unit) (V f g main c unit) (c.solves unit at-unit) (live_then f g main c unit) p q (last_of (M f g main c unit) (V f g main c unit) p (Some place)) → Here
        by None q slope start end =
            leaf_here f g main formed c single ranks k N moving d j occ is ty low on a b v w (Read p) e (same ∙ slope)
            (to ∙ end ∙ last_is f g main formed c single ranks unit at-unit p place at ∙ sym (from ∙ start ∙ last_is f g main formed c single ranks nought at-start p place at))
            (sources_are f g main formed c single ranks p place at ∙ ap (λ x. plain_names x) q)
        by (Some (Input n)) q slope start end =
            leaf_here f g main formed c single ranks k N moving d j occ is ty low on a b v w (Read p) e (same ∙ slope) (to ∙ end ∙ sym (from ∙ start))
            (sources_are f g main formed c single ranks p place at ∙ ap (λ x. plain_names x) q)
        by (Some (Plain block x)) q slope start end =
            let has = definer_has place.definers (Plain block x) q in
            let stands : Stands f block place.ty x = (all-has (IsDefiner f p place) place.definers (Plain block x) (formed.places p place at).definers has).1 in
            let used = used_by f g main c nought at-start x stands.occ (DefinerOf place.call) stands.is (plain-used f x p block place at has) there.called in
            let lower = c.keeps.definers p block x place at pty (no_more _ _ less low) has used in
            let below : grade_of c.whole x ≤ grade_of c.whole j = let l = less in omega (arith, lower, l) in
            alias_here f g main formed c single ranks k N moving d j occ is ty low on a b v w x stands.occ (Read p) e stands.is (stands.typed ∙ pty) below used (from ∙ start) (to ∙ end)
            (sources_are f g main formed c single ranks p place at ∙ ap (λ x. plain_names x) q) (ap (λ n. held d.y n) (same ∙ slope)) (hx block x q)
        by (Some (Der block x arms)) q slope start end =
            let m = moved_there (state_of c.j (AtPlace p)) (state_of c.j (AtValue x)) a (sym (from ∙ start) ∙ v) in
            let der = d.ders p block x place arms m.from m.slope at q m.start m.derivative in
            let b_is : b ≡ add m.from (mul unit m.slope) = some_f b (add m.from (mul unit m.slope)) (sym w ∙ to ∙ end ∙ ap₂ (λ y z. moved y z unit) m.start m.derivative) in
            let stands : Stands f block Float x = (all-has (IsDefiner f p place) place.definers (Der block x arms) (formed.places p place at).definers (definer_has place.definers (Der block x arms) q)).2 in
            let from_reduced = subst (λ z. IsOf Float z) m.start (subst (λ t. IsOf t (state_of c.j (AtPlace p))) pty (c.instant_typed (AtPlace p) place at)) in
            let slope_reduced = subst (λ z. IsOf Float z) m.derivative (subst (λ t. IsOf t (state_of c.j (AtValue x))) stands.typed (c.instant_typed (AtValue x) stands.occ stands.is)) in
            let law : sub b a ≡ m.slope = ap₂ sub b_is m.is ∙ line_slope m.from m.slope from_reduced slope_reduced in
            ap (λ n. held d.y n) same ∙ der.0 ∙ ap (λ z. Some (F z)) (sym law)
            ∙ ap (λ z. if_fine z (sub b a))
            (sym
            (fine_is f g main formed c single ranks k N moving d j occ is ty low on a b v w (Read p) e
            ∙ and_true _ _ (ap (λ z. fits z) law ∙ der.1) (ap (λ l. all_fine c.fine l) (sources_are f g main formed c single ranks p place at ∙ ap (λ x. plain_names x) q))))
        by (Some (Start block x)) q slope start end = absurd (no_start place.definers block x q)

  module _ (n : ℕ) (below : (j : ℕ) → ranks.entries.rank (AtValue j) < n → Slope j) where
    all_slope : (ks : List ℕ) → ReadsValues (λ a. ranks.entries.rank a < n) ks → AllByRecursion Slope ks
    all_slope [] rd = tt
    all_slope (j ∷ js) rd = (below j rd.0, all_slope js rd.1)

    plain_read : (p : ℕ) (place : PlaceInfo) → slice_get f.places p ≡ Some place → (b x : ℕ) → definer_of place.definers ≡ Some (Plain b x) → ranks.entries.rank (AtPlace p) < n → ranks.entries.rank (AtValue x) < n
    plain_read p place is b x q low =
        let reads : ReadsPlace (λ a. ranks.entries.rank a < ranks.entries.rank (AtPlace p)) (λ a. ⊤) p (Some place) = subst (λ o. ReadsPlace (λ a. ranks.entries.rank a < ranks.entries.rank (AtPlace p)) (λ a. ⊤) p o) is (ranks.entries.lower (AtPlace p)) in
        let one = all-has (ReadsDefiner (λ a. ranks.entries.rank a < ranks.entries.rank (AtPlace p)) (λ a. ⊤) p) place.definers (Plain b x) reads.2 (definer_has place.definers (Plain b x) q) in
        let l = one.1 in omega (arith, l, low)

    form_here : (j : ℕ) (occ : Occ) (form : Form) → slice_get f.occs j ≡ Some occ → occ.form ≡ form → IsForm f occ.block occ.ty form → ReadsForm f (λ a. ranks.entries.rank a < n) (λ a. ⊤) occ.block form → IsFormSlope f g.occs k N j occ form → occ.ty ≡ Float → grade_of c.whole j ≤ 1 → V f g main c nought (AtUsed j) ≡ true → (a b : Fraction) → V f g main c nought (AtValue j) ≡ Some (F a) → V f g main c unit (AtValue j) ≡ Some (F b) → held d.y (N.S j) ≡ if_fine (fine_of f g main formed c j) (sub b a)
    form_here j occ (Lit x) is e st rd s ty low on a b v w =
        leaf_here f g main formed c single ranks k N moving d j occ is ty low on a b v w (Lit x) e s (value_by f g main c unit at-unit j occ is (Lit x) e ∙ sym (value_by f g main c nought at-start j occ is (Lit x) e)) refl
    form_here j occ (Read p) is e st rd s ty low on a b v w =
        read_here j occ is ty low on a b v w p e s st.place st.is (st.typed ∙ ty) (λ block x q. below x (plain_read p st.place st.is block x q rd))
    form_here j occ (Last p) is e st rd s ty low on a b v w =
        leaf_here f g main formed c single ranks k N moving d j occ is ty low on a b v w (Last p) e s
        (value_by f g main c unit at-unit j occ is (Last p) e ∙ answered-given _ ∙ last_there f g main formed c unit at-unit p st.0.place st.0.is
        ∙ sym (value_by f g main c nought at-start j occ is (Last p) e ∙ answered-given _ ∙ last_there f g main formed c nought at-start p st.0.place st.0.is)) refl
    form_here j occ (Apply op ks) is e st rd s ty low on a b v w =
        operator_sloped f g main formed c single ranks k N moving d j occ is ty low on a b v w op ks e st.0 (c.form.operators j op ks occ is ty low e) (all_slope ks rd) s
    form_here j occ (If x y z) is e st rd s ty low on a b v w = if_here f g main formed c single ranks k N moving d j occ is ty low on a b v w x y z e s (below y rd.1) (below z rd.2)
    form_here j occ (Arrow x y) is e st rd s ty low on a b v w =
        let used = used_by f g main c nought at-start y st.1.occ (PartOf j) st.1.is (AsPart j (Arrow x y) (occ, is, e) (record { index = 1; is = refl })) on in
        alias_here f g main formed c single ranks k N moving d j occ is ty low on a b v w y st.1.occ (Arrow x y) e st.1.is (st.1.typed ∙ ty)
        (c.keeps.passes j y occ is ty low (subst (λ q. Has (passed_by q) y) (sym e) (record { index = 0; is = refl })) used) used
        (value_by f g main c nought at-start j occ is (Arrow x y) e ∙ answered-given _) (value_by f g main c unit at-unit j occ is (Arrow x y) e ∙ answered-given _) refl (ap (λ n. held d.y n) s) (below y rd.2)
    form_here j occ (Pre x) is e st rd s ty low on a b v w =
        leaf_here f g main formed c single ranks k N moving d j occ is ty low on a b v w (Pre x) e s (value_by f g main c unit at-unit j occ is (Pre x) e ∙ sym (value_by f g main c nought at-start j occ is (Pre x) e)) refl
    form_here j occ (Result x) is e st rd s ty low on a b v w =
        let used = used_by f g main c nought at-start x st.occ (PartOf j) st.is (AsPart j (Result x) (occ, is, e) (record { index = 0; is = refl })) on in
        alias_here f g main formed c single ranks k N moving d j occ is ty low on a b v w x st.occ (Result x) e st.is (st.typed ∙ ty)
        (c.keeps.passes j x occ is ty low (subst (λ q. Has (passed_by q) x) (sym e) (record { index = 0; is = refl })) used) used
        (value_by f g main c nought at-start j occ is (Result x) e ∙ answered-given _) (value_by f g main c unit at-unit j occ is (Result x) e ∙ answered-given _) refl (ap (λ n. held d.y n) s) (below x rd)
    form_here j occ (Up u) is e st rd s ty low on a b v w = absurd (let z : Zero ≡ Float = sym st.3 ∙ ty in let w : ⊥ = cc in w)
    form_here j occ (Fired ks) is e st rd s ty low on a b v w = absurd (let z : BoolTy ≡ Float = sym st.1 ∙ ty in let w : ⊥ = cc in w)
    form_here j occ Step is e st rd s ty low on a b v w = absurd (let z : BoolTy ≡ Float = sym st ∙ ty in let w : ⊥ = cc in w)

  -- an occurrence of this grade has one of the form's, or was appended
  which : (j : ℕ) → grade_of c.whole j ≤ 1 → IsGraded f g.occs k N j ⊎ IsAppended f g.occs k N j
  which j low = ⊎_elim (λ yes. inr yes.1) (λ other. let l = other.1 in inl (subst (λ x. x ≤ 1) (c.form.old j (omega (arith, l))) low)) (leb_tells (length g.occs) j)

  slopes_below : (n j : ℕ) → ranks.entries.rank (AtValue j) < n → Slope j
  slopes_below zero j low = absurd (omega (arith, low))
  slopes_below (suc n) j low = λ occ is ty grade on a b v w.
      let reads : ReadsValue f (λ b. ranks.entries.rank b < ranks.entries.rank (AtValue j)) (λ b. ⊤) (Some occ) = subst (λ o. ReadsValue f (λ b. ranks.entries.rank b < ranks.entries.rank (AtValue j)) (λ b. ⊤) o) is (ranks.entries.lower (AtValue j)) in
      ⊎_elim
      (λ still.
      let m = moves f g main formed c single ranks j occ is ty grade on a v in
      let s = m.still (old_zero j still.0) in
      still_here f g main formed c single ranks k N moving d j occ is ty grade on a b v w still.1 (some_f b m.b (sym w ∙ m.there) ∙ s.0) s.1)
      (λ slope. form_here (ranks.entries.rank (AtValue j)) (λ x less. slopes_below n x (omega (arith, low, less))) j occ occ.form is refl (formed.occs j occ is).form reads.1 slope ty grade on a b v w)
      (moving.slopes j occ is ty (which j grade))
    where
      old_zero : (j : ℕ) → get_or g.occs j 3 ≡ 0 → grade_of c.whole j ≡ 0
      old_zero j e = c.form.old j (inside g.occs j e) ∙ e
        where
          inside : (l : List ℕ) (n : ℕ) → get_or l n 3 ≡ 0 → n < length l
          inside [] n e = absurd (let z : 3 ≡ 0 = e in omega (arith, z))
          inside (m ∷ l) zero e = omega arith
          inside (m ∷ l) (suc n) e = let i = inside l n e in omega (arith, i)

  -- the wire of a slope holds it, where it is fine
  pub slopes : (j : ℕ) → Slope j
  slopes j = slopes_below (suc (ranks.entries.rank (AtValue j))) j (omega arith)
