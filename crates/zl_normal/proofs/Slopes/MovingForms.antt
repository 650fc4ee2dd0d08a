-- The flow after an instant: each occurrence that is evaluated at its start and has a number there has one at moment 1.
use Rattle.std.specs.Prelude.{◌≡◌, ℕ, ◌≤◌, Bool, true, false, if◌then◌else◌, List, [], ◌∷◌, ◌++◌, slice_get, Option, Some, None}
use Rattle.std.specs.List.{AllByRecursion}
use Rattle.std.proofs.Common.{refl, sym, ap, ap₂, ◌∙◌, subst}
use Rattle.zl_value.specs.Fraction.{Fraction, add, sub, mul, div, neg}
use Rattle.zl_value.specs.Lists.{Has, when}
use Rattle.zl_value.specs.Times.{nought, unit, holds, fails}
use Rattle.std.specs.Option.{option_map, option_and_then}
use Rattle.zl_value.specs.Operators.{answered, exact}
use Rattle.zl_value.specs.declared.value.Value.{Value}
use Rattle.zl_value.specs.declared.value.Value.TheVariants.{B, I, F}
use Rattle.zl_value.specs.declared.value.Ty.TheVariants.{Bool as BoolTy, Int, Float}
use Rattle.zl_value.specs.OperatorTypes.{type_of}
use Rattle.zl_value.specs.declared.op.Op.{Op}
use Rattle.zl_value.specs.declared.op.Op.TheVariants.{AddInt, SubInt, MulInt, DivInt, ModInt, NegInt, AddFloat, SubFloat, MulFloat, DivFloat, NegFloat, FloatOfInt, Truncate, EqBool, NeBool, LtBool, LeBool, GtBool, GeBool, EqInt, NeInt, LtInt, LeInt, GtInt, GeInt, EqFloat, NeFloat, LtFloat, LeFloat, GtFloat, GeFloat, And, Or, Not}
use Rattle.zl_meaning.specs.FlatForm.{FlatForm}
use Rattle.zl_meaning.specs.Uses.{PartOf, BranchOf, AsPart, AsBranch}
use Rattle.zl_meaning.specs.State.{AtUsed, AtValue, State}
use Rattle.zl_meaning.specs.Moment.{InFlow}
use Rattle.zl_meaning.specs.Occurrences.{gathered, applied, branch}
use Rattle.zl_meaning.specs.Slopes.{sources}
use Rattle.zl_meaning.specs.Grades.{Grading, grade_of, op_grade}
use Rattle.zl_meaning.specs.KeepsGrades.{passed_by}
use Rattle.zl_meaning.specs.WellFormed.{AllStand, IsForm, IsWellFormed}
use Rattle.zl_meaning.specs.declared.occurrence.Form.{Form}
use Rattle.zl_meaning.specs.declared.occurrence.Form.TheVariants.{Op as Apply, If}
use Rattle.zl_meaning.specs.declared.occurrence.Occ.{Occ}
use Rattle.zl_meaning.proofs.StraightLines.{answered-given}
use Rattle.zl_meaning.proofs.WrittenForms.{at-start, at-unit}
use Rattle.zl_normal.specs.MainBlock.{IsMain}
use Rattle.zl_normal.proofs.Slopes.FlowValues.{InFlowOf, some_f, one_there, V, value_by, used_by}
use Rattle.zl_normal.proofs.Slopes.Moving.{MovesTo, Moves, number_of, fine_still, and_true, leaf, alias, same_test, same_int, no_more, below_zero}
use Rattle.zl_normal.proofs.Slopes.MovingOperators.{low_sum, low_product, low_quotient, carries_sum, carries_difference, carries_product, carries_quotient, two, two_move}

module _ (f : FlatForm) (g : Grading) (main : IsMain f) (formed : IsWellFormed f) (c : InFlowOf f g) where
  abbrev V0 : State
  V0 = V f g main c nought

  -- what reads a test moves as the side that it takes
  pub chosen_source : (x y z : ℕ) (b : Bool) → V0 (AtValue x) ≡ Some (B b) → (when (holds (V0 (AtValue x))) y ++ when (fails (V0 (AtValue x))) z) ≡ (if b then y else z) ∷ []
  chosen_source x y z true e = ap (λ v. when (holds v) y ++ when (fails v) z) e
  chosen_source x y z false e = ap (λ v. when (holds v) y ++ when (fails v) z) e

  -- a branch that gives a number
  pub branch_there : (t x y : Option Value) (v : Value) → branch t x y ≡ Some v → (b : Bool) × (t ≡ Some (B b)) × ((if b then x else y) ≡ Some v)
  branch_there (Some (B true)) x y v e = (true, refl, e)
  branch_there (Some (B false)) x y v e = (false, refl, e)
  branch_there (Some (I n)) x y v e = absurd cc
  branch_there (Some (F n)) x y v e = absurd cc
  branch_there None x y v e = absurd cc

  pub branch_is : (b : Bool) (t x y : Option Value) → t ≡ Some (B b) → branch t x y ≡ (if b then x else y)
  branch_is true t x y e = rw e refl
  branch_is false t x y e = rw e refl

  pub if_moves : (k x y z : ℕ) (occ : Occ) → slice_get f.occs k ≡ Some occ → occ.form ≡ If x y z → occ.ty ≡ Float → grade_of c.whole k ≤ 1 → V0 (AtUsed k) ≡ true → (a : Fraction) → V0 (AtValue k) ≡ Some (F a) → Moves f g main formed c y → Moves f g main formed c z → MovesTo f g main formed c k a
  if_moves k x y z occ is e ty low on a v my mz = by t.0 t.1 t.2
    where
      stands : IsForm f occ.block occ.ty (If x y z)
      stands = subst (λ w. IsForm f occ.block occ.ty w) e (formed.occs k occ is).form

      start : V0 (AtValue k) ≡ branch (V0 (AtValue x)) (V0 (AtValue y)) (V0 (AtValue z))
      start = value_by f g main c nought at-start k occ is (If x y z) e ∙ answered-given _

      end : V f g main c unit (AtValue k) ≡ branch (V f g main c unit (AtValue x)) (V f g main c unit (AtValue y)) (V f g main c unit (AtValue z))
      end = value_by f g main c unit at-unit k occ is (If x y z) e ∙ answered-given _

      t : (b : Bool) × (V0 (AtValue x) ≡ Some (B b)) × ((if b then V0 (AtValue y) else V0 (AtValue z)) ≡ Some (F a))
      t = branch_there (V0 (AtValue x)) (V0 (AtValue y)) (V0 (AtValue z)) (F a) (sym start ∙ v)

      test_used : V0 (AtUsed x) ≡ true
      test_used = used_by f g main c nought at-start x stands.0.occ (PartOf k) stands.0.is (AsPart k (If x y z) (occ, is, e) (record { index = 0; is = refl })) on

      later : (b : Bool) → V0 (AtValue x) ≡ Some (B b) → V f g main c unit (AtValue x) ≡ Some (B b)
      later b q = same_test f g main formed c x stands.0.occ stands.0.is stands.0.typed test_used (B b) q

      by : (b : Bool) → V0 (AtValue x) ≡ Some (B b) → (if b then V0 (AtValue y) else V0 (AtValue z)) ≡ Some (F a) → MovesTo f g main formed c k a
      by true q w =
          let used = used_by f g main c nought at-start y stands.1.occ (BranchOf k x true) stands.1.is (AsBranch k x y z true (occ, is, e) refl) (and_true _ _ on (ap (λ o. holds o) q)) in
          let less = c.keeps.passes k y occ is ty low (subst (λ w. Has (passed_by w) y) (sym e) (record { index = 0; is = refl })) used in
          alias f g main formed c k y occ stands.1.occ (If x y z) is e ty stands.1.is (stands.1.typed ∙ ty) a v (start ∙ branch_is true _ _ _ q) (end ∙ branch_is true _ _ _ (later true q)) less (chosen_source x y z true q)
          (my stands.1.occ stands.1.is (stands.1.typed ∙ ty) (no_more _ _ less low) used a w)
      by false q w =
          let used = used_by f g main c nought at-start z stands.2.occ (BranchOf k x false) stands.2.is (AsBranch k x y z false (occ, is, e) refl) (and_true _ _ on (ap (λ o. fails o) q)) in
          let less = c.keeps.passes k z occ is ty low (subst (λ w. Has (passed_by w) z) (sym e) (record { index = 1; is = refl })) used in
          alias f g main formed c k z occ stands.2.occ (If x y z) is e ty stands.2.is (stands.2.typed ∙ ty) a v (start ∙ branch_is false _ _ _ q) (end ∙ branch_is false _ _ _ (later false q)) less (chosen_source x y z false q)
          (mz stands.2.occ stands.2.is (stands.2.typed ∙ ty) (no_more _ _ less low) used a w)

  -- what passes on the value of a part that is evaluated with it
  pub passed_moves : (k x n : ℕ) (occ xocc : Occ) (form : Form) → slice_get f.occs k ≡ Some occ → occ.form ≡ form → occ.ty ≡ Float → slice_get f.occs x ≡ Some xocc → xocc.ty ≡ Float → grade_of c.whole k ≤ 1 → V0 (AtUsed x) ≡ true → Has (passed_by form) x → sources f V0 form ≡ x ∷ [] → (a : Fraction) → V0 (AtValue k) ≡ Some (F a) → V0 (AtValue k) ≡ V0 (AtValue x) → V f g main c unit (AtValue k) ≡ V f g main c unit (AtValue x) → Moves f g main formed c x → MovesTo f g main formed c k a
  passed_moves k x n occ xocc form is e ty at xty low used has one a v start end mx =
      let less = c.keeps.passes k x occ is ty low (subst (λ w. Has (passed_by w) x) (sym e) has) used in
      alias f g main formed c k x occ xocc form is e ty at xty a v start end less one (mx xocc at xty (no_more _ _ less low) used a (sym start ∙ v))

  -- an operator on operands that are there
  pub shown : (op : Op) (x y : ℕ) (p q : Fraction) → V0 (AtValue x) ≡ Some (F p) → V0 (AtValue y) ≡ Some (F q) → {w : Option Value} → answered (applied InFlow op (gathered V0 (x ∷ y ∷ []))) ≡ w → answered (exact op (F p ∷ F q ∷ [])) ≡ w
  shown op x y p q ex ey e = sym (ap₂ (λ m n. answered (applied InFlow op (option_and_then (λ v. option_map (λ vs. v ∷ vs) (option_and_then (λ w. option_map (λ ws. w ∷ ws) (Some [])) n)) m))) ex ey) ∙ e

  pub shown_one : (op : Op) (x : ℕ) (p : Value) → V0 (AtValue x) ≡ Some p → {w : Option Value} → answered (applied InFlow op (gathered V0 (x ∷ []))) ≡ w → answered (exact op (p ∷ [])) ≡ w
  shown_one op x p ex e = sym (ap (λ m. answered (applied InFlow op (option_and_then (λ v. option_map (λ vs. v ∷ vs) (Some [])) m))) ex) ∙ e

  -- operators
  abbrev Each : List ℕ → Type 0
  Each ks = AllByRecursion (Moves f g main formed c) ks

  bool_apart : BoolTy ≡ Float → ⊥
  bool_apart e = absurd cc

  int_apart : Int ≡ Float → ⊥
  int_apart e = absurd cc

  module _ (k : ℕ) (occ : Occ) (is : slice_get f.occs k ≡ Some occ) (ty : occ.ty ≡ Float) (low : grade_of c.whole k ≤ 1) (on : V0 (AtUsed k) ≡ true) (a : Fraction) (v : V0 (AtValue k) ≡ Some (F a)) where
    pub operator : (op : Op) (ks : List ℕ) → occ.form ≡ Apply op ks → AllStand f occ.block (type_of op).operands ks → (type_of op).result ≡ occ.ty → op_grade c.whole op ks ≤ grade_of c.whole k → Each ks → MovesTo f g main formed c k a
    operator AddFloat (x ∷ y ∷ []) e st r gr m =
        let l = low_sum (grade_of c.whole k) (grade_of c.whole x) (grade_of c.whole y) low gr in
        let t = two f g main formed c k x y occ.block occ AddFloat is e st.0 st.1.0 l.left l.right on a v m.0 m.1.0 in
        two_move f g main formed c k x y occ AddFloat add is e ty refl l.none a v t.0
        (carries_sum a t.0.p t.0.q t.0.moves_left.b t.0.moves_right.b (shown AddFloat x y t.0.p t.0.q t.0.left t.0.right t.1))
    operator SubFloat (x ∷ y ∷ []) e st r gr m =
        let l = low_sum (grade_of c.whole k) (grade_of c.whole x) (grade_of c.whole y) low gr in
        let t = two f g main formed c k x y occ.block occ SubFloat is e st.0 st.1.0 l.left l.right on a v m.0 m.1.0 in
        two_move f g main formed c k x y occ SubFloat sub is e ty refl l.none a v t.0
        (carries_difference a t.0.p t.0.q t.0.moves_left.b t.0.moves_right.b (shown SubFloat x y t.0.p t.0.q t.0.left t.0.right t.1))
    operator MulFloat (x ∷ y ∷ []) e st r gr m =
        let l = low_product (grade_of c.whole k) (grade_of c.whole x) (grade_of c.whole y) low gr in
        let t = two f g main formed c k x y occ.block occ MulFloat is e st.0 st.1.0 l.left l.right on a v m.0 m.1.0 in
        two_move f g main formed c k x y occ MulFloat mul is e ty refl l.none a v t.0
        (carries_product a t.0.p t.0.q t.0.moves_left.b t.0.moves_right.b (shown MulFloat x y t.0.p t.0.q t.0.left t.0.right t.1))
    operator DivFloat (x ∷ y ∷ []) e st r gr m =
        let l = low_quotient (grade_of c.whole k) (grade_of c.whole x) (grade_of c.whole y) low gr in
        let t = two f g main formed c k x y occ.block occ DivFloat is e st.0 st.1.0 l.0.left l.0.right on a v m.0 m.1.0 in
        two_move f g main formed c k x y occ DivFloat div is e ty refl l.0.none a v t.0
        (carries_quotient a t.0.p t.0.q t.0.moves_left.b t.0.moves_right.b (t.0.moves_right.still l.1).0 (shown DivFloat x y t.0.p t.0.q t.0.left t.0.right t.1)).0
    operator NegFloat (x ∷ []) e st r gr m =
        let made = sym (value_by f g main c nought at-start k occ is (Apply NegFloat (x ∷ [])) e) ∙ v in
        let there = one_there NegFloat V0 x (F a) made in
        let p = number_of f g main formed c nought at-start x st.0.occ st.0.is st.0.typed there.0 there.1 in
        let used = used_by f g main c nought at-start x st.0.occ (PartOf k) st.0.is (AsPart k (Apply NegFloat (x ∷ [])) (occ, is, e) (record { index = 0; is = refl })) on in
        let moves = m.0 st.0.occ st.0.is st.0.typed (no_more _ _ gr low) used p.number p.is in
        let from : a ≡ neg p.number = some_f a (neg p.number) (sym (shown_one NegFloat x (F p.number) p.is made)) in
        let end : V f g main c unit (AtValue k) ≡ Some (F (neg moves.b)) =
        value_by f g main c unit at-unit k occ is (Apply NegFloat (x ∷ [])) e ∙ ap (λ m. answered (applied InFlow NegFloat (option_and_then (λ v. option_map (λ vs. v ∷ vs) (Some [])) m))) moves.there in
        record {
          b = neg moves.b;
          there = end;
          still = λ z.
              let s = moves.still (below_zero _ _ gr z) in
              let same = ap (λ t. neg t) s.0 ∙ sym from in
              (same, fine_still f g main formed c k occ (Apply NegFloat (x ∷ [])) is e ty a (neg moves.b) v end same (and_true _ _ s.1 refl));
        }
    operator FloatOfInt (x ∷ []) e st r gr m =
        let made = sym (value_by f g main c nought at-start k occ is (Apply FloatOfInt (x ∷ [])) e) ∙ v in
        let there = one_there FloatOfInt V0 x (F a) made in
        let used = used_by f g main c nought at-start x st.0.occ (PartOf k) st.0.is (AsPart k (Apply FloatOfInt (x ∷ [])) (occ, is, e) (record { index = 0; is = refl })) on in
        let same = same_int f g main formed c x st.0.occ st.0.is st.0.typed used there.0 there.1 in
        leaf f g main formed c k occ (Apply FloatOfInt (x ∷ [])) is e ty a v
        (value_by f g main c unit at-unit k occ is (Apply FloatOfInt (x ∷ [])) e
        ∙ ap (λ m. answered (applied InFlow FloatOfInt (option_and_then (λ v. option_map (λ vs. v ∷ vs) (Some [])) m))) (same ∙ sym there.1)
        ∙ sym (value_by f g main c nought at-start k occ is (Apply FloatOfInt (x ∷ [])) e))
        refl
    operator AddFloat [] e st r gr m = absurd st
    operator AddFloat (x ∷ []) e st r gr m = absurd st.1
    operator AddFloat (x ∷ y ∷ z ∷ ks) e st r gr m = absurd st.1.1
    operator SubFloat [] e st r gr m = absurd st
    operator SubFloat (x ∷ []) e st r gr m = absurd st.1
    operator SubFloat (x ∷ y ∷ z ∷ ks) e st r gr m = absurd st.1.1
    operator MulFloat [] e st r gr m = absurd st
    operator MulFloat (x ∷ []) e st r gr m = absurd st.1
    operator MulFloat (x ∷ y ∷ z ∷ ks) e st r gr m = absurd st.1.1
    operator DivFloat [] e st r gr m = absurd st
    operator DivFloat (x ∷ []) e st r gr m = absurd st.1
    operator DivFloat (x ∷ y ∷ z ∷ ks) e st r gr m = absurd st.1.1
    operator NegFloat [] e st r gr m = absurd st
    operator NegFloat (x ∷ y ∷ ks) e st r gr m = absurd st.1
    operator FloatOfInt [] e st r gr m = absurd st
    operator FloatOfInt (x ∷ y ∷ ks) e st r gr m = absurd st.1
    operator AddInt ks e st r gr m = absurd (int_apart (r ∙ ty))
    operator SubInt ks e st r gr m = absurd (int_apart (r ∙ ty))
    operator MulInt ks e st r gr m = absurd (int_apart (r ∙ ty))
    operator DivInt ks e st r gr m = absurd (int_apart (r ∙ ty))
    operator ModInt ks e st r gr m = absurd (int_apart (r ∙ ty))
    operator NegInt ks e st r gr m = absurd (int_apart (r ∙ ty))
    operator Truncate ks e st r gr m = absurd (int_apart (r ∙ ty))
    operator EqBool ks e st r gr m = absurd (bool_apart (r ∙ ty))
    operator NeBool ks e st r gr m = absurd (bool_apart (r ∙ ty))
    operator LtBool ks e st r gr m = absurd (bool_apart (r ∙ ty))
    operator LeBool ks e st r gr m = absurd (bool_apart (r ∙ ty))
    operator GtBool ks e st r gr m = absurd (bool_apart (r ∙ ty))
    operator GeBool ks e st r gr m = absurd (bool_apart (r ∙ ty))
    operator EqInt ks e st r gr m = absurd (bool_apart (r ∙ ty))
    operator NeInt ks e st r gr m = absurd (bool_apart (r ∙ ty))
    operator LtInt ks e st r gr m = absurd (bool_apart (r ∙ ty))
    operator LeInt ks e st r gr m = absurd (bool_apart (r ∙ ty))
    operator GtInt ks e st r gr m = absurd (bool_apart (r ∙ ty))
    operator GeInt ks e st r gr m = absurd (bool_apart (r ∙ ty))
    operator EqFloat ks e st r gr m = absurd (bool_apart (r ∙ ty))
    operator NeFloat ks e st r gr m = absurd (bool_apart (r ∙ ty))
    operator LtFloat ks e st r gr m = absurd (bool_apart (r ∙ ty))
    operator LeFloat ks e st r gr m = absurd (bool_apart (r ∙ ty))
    operator GtFloat ks e st r gr m = absurd (bool_apart (r ∙ ty))
    operator GeFloat ks e st r gr m = absurd (bool_apart (r ∙ ty))
    operator And ks e st r gr m = absurd (bool_apart (r ∙ ty))
    operator Or ks e st r gr m = absurd (bool_apart (r ∙ ty))
    operator Not ks e st r gr m = absurd (bool_apart (r ∙ ty))
