-- The slope of an occurrence that passes on those of others, all of them fine, is in the width.
use Rattle.std.specs.Prelude.{◌≡◌, ℕ, ◌≤◌, ◌⊎◌, Bool, true, false, ◌&&◌, if◌then◌else◌, List, [], ◌∷◌, slice_get, Option, Some, None}
use Rattle.std.proofs.Common.{refl, sym, ap, ap₂, ◌∙◌, subst, inl, inr}
use Rattle.zl_value.specs.Fraction.{Fraction, add, sub, mul, fits}
use Rattle.zl_value.specs.Times.{nought, unit}
use Rattle.zl_value.specs.OperatorTypes.{type_of}
use Rattle.zl_value.specs.declared.value.Value.TheVariants.{B, F}
use Rattle.zl_value.specs.declared.value.Ty.TheVariants.{Bool as BoolTy, Float, Zero}
use Rattle.zl_value.specs.declared.op.Op.{Op}
use Rattle.zl_value.specs.declared.op.Op.TheVariants.{AddFloat, SubFloat}
use Rattle.zl_value.proofs.FractionLaws.{sub-self}
use Rattle.zl_value.proofs.LinearLaws.{line_slope}
use Rattle.zl_meaning.specs.FlatForm.{FlatForm}
use Rattle.zl_meaning.specs.Uses.{PartOf, AsPart}
use Rattle.zl_meaning.specs.State.{AtPlace, AtUsed, AtValue}
use Rattle.zl_meaning.specs.History.{state_of}
use Rattle.zl_meaning.specs.Occurrences.{branch}
use Rattle.zl_meaning.specs.Places.{last_of, moved}
use Rattle.zl_meaning.specs.Slopes.{all_fine, sources}
use Rattle.zl_meaning.specs.Grades.{Grading, grade_of, keeps_lines, op_grade}
use Rattle.zl_meaning.specs.WellFormed.{AllStand, Stands, IsForm, IsDefiner, IsWellFormed}
use Rattle.zl_meaning.specs.Single.{IsSingle}
use Rattle.zl_meaning.specs.declared.place.Definer.{Definer}
use Rattle.zl_meaning.specs.declared.place.Definer.TheVariants.{Input, Plain, Der, Start}
use Rattle.zl_meaning.specs.declared.place.PlaceInfo.{PlaceInfo}
use Rattle.zl_meaning.specs.declared.occurrence.Form.{Form}
use Rattle.zl_meaning.specs.declared.occurrence.Form.TheVariants.{Lit, Read, Last, Op as Apply, If, Arrow, Pre, Result, Up, Fired, Step}
use Rattle.zl_meaning.specs.declared.occurrence.Occ.{Occ}
use Rattle.zl_meaning.proofs.Members.{all-has}
use Rattle.zl_meaning.proofs.StraightLines.{answered-given}
use Rattle.zl_meaning.proofs.WrittenForms.{at-start, at-unit}
use Rattle.zl_meaning.proofs.GradesKept.OfTypes.{IsOf}
use Rattle.zl_kernel.specs.KernelForm.{KernelForm}
use Rattle.zl_kernel.specs.Wires.{held}
use Rattle.zl_normal.specs.Evaluated.{HasGuardRanks}
use Rattle.zl_normal.specs.Wiring.{Wiring}
use Rattle.zl_normal.specs.PlaceWires.{definer_of}
use Rattle.zl_normal.specs.SlopeWires.{IsFormSlope, IsSlopeMade, IsOperatorSlope, LeftOfSum, RightOfSum, LeftOfDifference, Itself}
use Rattle.zl_normal.specs.Normal.{IsNormalInFlows}
use Rattle.zl_normal.specs.MainBlock.{IsMain}
use Rattle.zl_normal.proofs.Values.Entries.{defined_by}
use Rattle.zl_normal.proofs.Slopes.FlowValues.{InFlowOf, some_f, V, M, live_then, value_by, used_by}
use Rattle.zl_normal.proofs.Slopes.Moving.{fine_of, reduced_of, same_test, last_there, nought_fits}
use Rattle.zl_normal.proofs.Slopes.MovingForms.{branch_there, branch_is, chosen_source}
use Rattle.zl_normal.proofs.Slopes.MovingOperators.{low_sum, carries_sum, carries_difference}
use Rattle.zl_normal.proofs.Slopes.MovingPlaces.{plain_names, definer_has, no_start, moved_there, AtPlaces, at_places, sources_are, last_is}
use Rattle.zl_normal.proofs.Slopes.SlopeWires.{if_fine, there_fine}
use Rattle.zl_normal.proofs.Slopes.SlopeOperators.{BesideFlow, fine_fits, two_slopes}
use Rattle.zl_normal.proofs.Slopes.AllSlopes.{slopes}

both_true : (a b : Bool) → (a && b) ≡ true → (a ≡ true) × (b ≡ true)
both_true true b e = (refl, e)
both_true false b e = absurd cc

module _ (f : FlatForm) (g : Grading) (main : IsMain f) (formed : IsWellFormed f) (c : InFlowOf f g) (single : IsSingle f) (ranks : HasGuardRanks f) (k : KernelForm) (N : Wiring) (moving : IsNormalInFlows f g.occs k N) (d : BesideFlow f g main c k N) (j : ℕ) (occ : Occ) (is : slice_get f.occs j ≡ Some occ) (ty : occ.ty ≡ Float) (low : grade_of c.whole j ≤ 1) (on : V f g main c nought (AtUsed j) ≡ true) (a b : Fraction) (v : V f g main c nought (AtValue j) ≡ Some (F a)) (w : V f g main c unit (AtValue j) ≡ Some (F b)) where
  abbrev Narrow : Type 0
  Narrow = fits (sub b a) ≡ true

  -- what stands still
  pub narrow_same : b ≡ a → Narrow
  narrow_same e = ap (λ x. fits (sub x a)) e ∙ ap (λ x. fits x) (sub-self a (reduced_of f g main formed c nought at-start j occ is ty a v).above) ∙ nought_fits

  narrow_leaf : V f g main c unit (AtValue j) ≡ V f g main c nought (AtValue j) → Narrow
  narrow_leaf same = narrow_same (some_f b a (sym w ∙ same ∙ v))

  -- what has the value of another
  narrow_alias : (x : ℕ) (xocc : Occ) → slice_get f.occs x ≡ Some xocc → V f g main c nought (AtValue j) ≡ V f g main c nought (AtValue x) → V f g main c unit (AtValue j) ≡ V f g main c unit (AtValue x) → fine_of f g main formed c x ≡ true → Narrow
  narrow_alias x xocc at start end fine = fine_fits f g main formed c single ranks k N moving d x xocc at a b (sym start ∙ v) (sym end ∙ w) fine

  first_fine : (ks js : List ℕ) (x : ℕ) → all_fine c.fine ks ≡ true → ks ≡ x ∷ js → fine_of f g main formed c x ≡ true
  first_fine ks js x all e = (both_true (fine_of f g main formed c x) (all_fine c.fine js) (sym (ap (λ l. all_fine c.fine l) e) ∙ all)).0

  -- a name of a place
  narrow_read : (p : ℕ) → occ.form ≡ Read p → (place : PlaceInfo) → slice_get f.places p ≡ Some place → place.ty ≡ Float → all_fine c.fine (sources f (V f g main c nought) (Read p)) ≡ true → Narrow
  narrow_read p e place at pty all = by (definer_of place.definers) refl there.start there.end
    where
      from : V f g main c nought (AtValue j) ≡ V f g main c nought (AtPlace p)
      from = value_by f g main c nought at-start j occ is (Read p) e ∙ answered-given _

      to : V f g main c unit (AtValue j) ≡ V f g main c unit (AtPlace p)
      to = value_by f g main c unit at-unit j occ is (Read p) e ∙ answered-given _

      there : AtPlaces f g main formed c single ranks p place
      there = at_places f g main formed c single ranks p place at (F a) (sym from ∙ v)

      by : (q : Option Definer) → definer_of place.definers ≡ q → V f g main c nought (AtPlace p) ≡ defined_by f main (M f g main c nought) (V f g main c nought) (c.solves nought at-start) (live_then f g main c nought) p q (last_of (M f g main c nought) (V f g main c nought) p (Some place)) → V f g main c unit (AtPlace p) ≡ defined_by f main (M f g main c unit) (V f g main c unit) (c.solves unit at-unit) (live_then f g main c unit) p q (last_of (M f g main c unit) (V f g main c unit) p (Some place)) → Narrow
      by None q start end =
          narrow_leaf (to ∙ end ∙ last_is f g main formed c single ranks unit at-unit p place at ∙ sym (from ∙ start ∙ last_is f g main formed c single ranks nought at-start p place at))
      by (Some (Input n)) q start end = narrow_leaf (to ∙ end ∙ sym (from ∙ start))
      by (Some (Plain block x)) q start end =
          let stands : Stands f block place.ty x = (all-has (IsDefiner f p place) place.definers (Plain block x) (formed.places p place at).definers (definer_has place.definers (Plain block x) q)).1 in
          narrow_alias x stands.occ stands.is (from ∙ start) (to ∙ end) (first_fine _ [] x all (sources_are f g main formed c single ranks p place at ∙ ap (λ o. plain_names o) q))
      by (Some (Der block x arms)) q start end =
          let m = moved_there (state_of c.j (AtPlace p)) (state_of c.j (AtValue x)) a (sym (from ∙ start) ∙ v) in
          let der = d.ders p block x place arms m.from m.slope at q m.start m.derivative in
          let b_is : b ≡ add m.from (mul unit m.slope) = some_f b (add m.from (mul unit m.slope)) (sym w ∙ to ∙ end ∙ ap₂ (λ y z. moved y z unit) m.start m.derivative) in
          let stands : Stands f block Float x = (all-has (IsDefiner f p place) place.definers (Der block x arms) (formed.places p place at).definers (definer_has place.definers (Der block x arms) q)).2 in
          let from_reduced = subst (λ z. IsOf Float z) m.start (subst (λ t. IsOf t (state_of c.j (AtPlace p))) pty (c.instant_typed (AtPlace p) place at)) in
          let slope_reduced = subst (λ z. IsOf Float z) m.derivative (subst (λ t. IsOf t (state_of c.j (AtValue x))) stands.typed (c.instant_typed (AtValue x) stands.occ stands.is)) in
          let law : sub b a ≡ m.slope = ap₂ sub b_is m.is ∙ line_slope m.from m.slope from_reduced slope_reduced in ap (λ z. fits z) law ∙ der.1
      by (Some (Start block x)) q start end = absurd (no_start place.definers block x q)

  -- an `if`
  narrow_if : (x y z : ℕ) → occ.form ≡ If x y z → IsForm f occ.block occ.ty (If x y z) → all_fine c.fine (sources f (V f g main c nought) (If x y z)) ≡ true → Narrow
  narrow_if x y z e stands all = by t.0 t.1
    where
      start : V f g main c nought (AtValue j) ≡ branch (V f g main c nought (AtValue x)) (V f g main c nought (AtValue y)) (V f g main c nought (AtValue z))
      start = value_by f g main c nought at-start j occ is (If x y z) e ∙ answered-given _

      end : V f g main c unit (AtValue j) ≡ branch (V f g main c unit (AtValue x)) (V f g main c unit (AtValue y)) (V f g main c unit (AtValue z))
      end = value_by f g main c unit at-unit j occ is (If x y z) e ∙ answered-given _

      t : (s : Bool) × (V f g main c nought (AtValue x) ≡ Some (B s)) × ((if s then V f g main c nought (AtValue y) else V f g main c nought (AtValue z)) ≡ Some (F a))
      t = branch_there f g main formed c (V f g main c nought (AtValue x)) (V f g main c nought (AtValue y)) (V f g main c nought (AtValue z)) (F a) (sym start ∙ v)

      later : (s : Bool) → V f g main c nought (AtValue x) ≡ Some (B s) → V f g main c unit (AtValue x) ≡ Some (B s)
      later s q =
          same_test f g main formed c x stands.0.occ stands.0.is stands.0.typed
          (used_by f g main c nought at-start x stands.0.occ (PartOf j) stands.0.is (AsPart j (If x y z) (occ, is, e) (record { index = 0; is = refl })) on) (B s) q

      by : (s : Bool) → V f g main c nought (AtValue x) ≡ Some (B s) → Narrow
      by true q = narrow_alias y stands.1.occ stands.1.is (start ∙ branch_is f g main formed c true _ _ _ q) (end ∙ branch_is f g main formed c true _ _ _ (later true q)) (first_fine _ [] y all (chosen_source f g main formed c x y z true q))
      by false q = narrow_alias z stands.2.occ stands.2.is (start ∙ branch_is f g main formed c false _ _ _ q) (end ∙ branch_is f g main formed c false _ _ _ (later false q)) (first_fine _ [] z all (chosen_source f g main formed c x y z false q))

  -- what has the wire of a slope that is fine
  narrow_wire : (x : ℕ) (slope : Fraction) → N.S j ≡ N.S x → held d.y (N.S x) ≡ if_fine (fine_of f g main formed c x) slope → fine_of f g main formed c x ≡ true → Narrow
  narrow_wire x slope same holds fine =
      let there : Some (F slope) ≡ if_fine (fine_of f g main formed c j) (sub b a) = sym (ap (λ n. held d.y n) same ∙ holds ∙ ap (λ t. if_fine t slope) fine) ∙ slopes f g main formed c single ranks k N moving d j occ is ty low on a b v w in
      fine_fits f g main formed c single ranks k N moving d j occ is a b v w (there_fine (fine_of f g main formed c j) (sub b a) slope there).0

  -- this form is an operator whose slope is a wire of its own
  pub record HasOwn (form : Form) : Type 0 where
    pub op : Op
    pub ks : List ℕ
    pub says : form ≡ Apply op ks
    pub made : IsSlopeMade f g.occs k N j occ op ks

  -- an operator whose slope is that of one operand
  narrow_operator : (op : Op) (ks : List ℕ) → occ.form ≡ Apply op ks → AllStand f occ.block (type_of op).operands ks → op_grade c.whole op ks ≤ grade_of c.whole j → all_fine c.fine (if keeps_lines op then ks else []) ≡ true → IsOperatorSlope f g.occs k N j occ op ks → Narrow ⊎ HasOwn (Apply op ks)
  narrow_operator _ _ e st gr all (Itself op ks made) = inr (record { op = op; ks = ks; says = refl; made = made })
  narrow_operator _ _ e st gr all (LeftOfSum x y nil same) =
      let l = low_sum (grade_of c.whole j) (grade_of c.whole x) (grade_of c.whole y) low gr in
      let s = two_slopes f g main formed c single ranks k N moving d j occ is ty low on a b v w x y AddFloat add e refl st.0 st.1.0 l (λ t z. carries_sum a t.p t.q t.moves_left.b t.moves_right.b z) (slopes f g main formed c single ranks k N moving d x) (slopes f g main formed c single ranks k N moving d y) in
      inl (narrow_wire x (sub s.t.moves_left.b s.t.p) same s.left (both_true _ _ all).0)
  narrow_operator _ _ e st gr all (RightOfSum x y nil same) =
      let l = low_sum (grade_of c.whole j) (grade_of c.whole x) (grade_of c.whole y) low gr in
      let s = two_slopes f g main formed c single ranks k N moving d j occ is ty low on a b v w x y AddFloat add e refl st.0 st.1.0 l (λ t z. carries_sum a t.p t.q t.moves_left.b t.moves_right.b z) (slopes f g main formed c single ranks k N moving d x) (slopes f g main formed c single ranks k N moving d y) in
      inl (narrow_wire y (sub s.t.moves_right.b s.t.q) same s.right (both_true _ _ (both_true (fine_of f g main formed c x) _ all).1).0)
  narrow_operator _ _ e st gr all (LeftOfDifference x y nil same) =
      let l = low_sum (grade_of c.whole j) (grade_of c.whole x) (grade_of c.whole y) low gr in
      let s = two_slopes f g main formed c single ranks k N moving d j occ is ty low on a b v w x y SubFloat sub e refl st.0 st.1.0 l (λ t z. carries_difference a t.p t.q t.moves_left.b t.moves_right.b z) (slopes f g main formed c single ranks k N moving d x) (slopes f g main formed c single ranks k N moving d y) in
      inl (narrow_wire x (sub s.t.moves_left.b s.t.p) same s.left (both_true _ _ all).0)

  -- each form: the slope is in the width, if all that it is made from is fine, or an operator's wire is the slope
  pub narrow_form : (form : Form) → occ.form ≡ form → IsForm f occ.block occ.ty form → IsFormSlope f g.occs k N j occ form → all_fine c.fine (sources f (V f g main c nought) form) ≡ true → Narrow ⊎ HasOwn form
  narrow_form (Lit x) e st s all = inl (narrow_leaf (value_by f g main c unit at-unit j occ is (Lit x) e ∙ sym (value_by f g main c nought at-start j occ is (Lit x) e)))
  narrow_form (Read p) e st s all = inl (narrow_read p e st.place st.is (st.typed ∙ ty) all)
  narrow_form (Last p) e st s all =
      inl
      (narrow_leaf
      (value_by f g main c unit at-unit j occ is (Last p) e ∙ answered-given _ ∙ last_there f g main formed c unit at-unit p st.0.place st.0.is
      ∙ sym (value_by f g main c nought at-start j occ is (Last p) e ∙ answered-given _ ∙ last_there f g main formed c nought at-start p st.0.place st.0.is)))
  narrow_form (Apply op ks) e st s all = narrow_operator op ks e st.0 (c.form.operators j op ks occ is ty low e) all s
  narrow_form (If x y z) e st s all = inl (narrow_if x y z e st all)
  narrow_form (Arrow x y) e st s all =
      inl (narrow_alias y st.1.occ st.1.is (value_by f g main c nought at-start j occ is (Arrow x y) e ∙ answered-given _) (value_by f g main c unit at-unit j occ is (Arrow x y) e ∙ answered-given _) (first_fine _ [] y all refl))
  narrow_form (Pre x) e st s all = inl (narrow_leaf (value_by f g main c unit at-unit j occ is (Pre x) e ∙ sym (value_by f g main c nought at-start j occ is (Pre x) e)))
  narrow_form (Result x) e st s all =
      inl (narrow_alias x st.occ st.is (value_by f g main c nought at-start j occ is (Result x) e ∙ answered-given _) (value_by f g main c unit at-unit j occ is (Result x) e ∙ answered-given _) (first_fine _ [] x all refl))
  narrow_form (Up u) e st s all = absurd (let z : Zero ≡ Float = sym st.3 ∙ ty in let w : ⊥ = cc in w)
  narrow_form (Fired ks) e st s all = absurd (let z : BoolTy ≡ Float = sym st.1 ∙ ty in let w : ⊥ = cc in w)
  narrow_form Step e st s all = absurd (let z : BoolTy ≡ Float = sym st ∙ ty in let w : ⊥ = cc in w)
