-- The grades of a form give its operators slopes.
use Rattle.std.specs.Prelude.{◌≡◌, ℕ, ◌<◌, ◌≤◌, ◌⊎◌, Bool, true, false, not, ◌&&◌, ◌||◌, if◌then◌else◌, nat_eq, nat_le, List, [], ◌∷◌, length, slice_get, get_or, Some}
use Rattle.std.proofs.Common.{refl, sym, ap, ◌∙◌, arith, subst, inl, inr}
use Rattle.std.proofs.lemmas.Bool.{and_parts, or_cases, not-true, cases_eq, leb-true, eqb-true, eq-eqb}
use Rattle.std.proofs.lemmas.Option.{slice_get_within}
use Rattle.zl_value.specs.OperatorTypes.{type_of}
use Rattle.zl_value.specs.declared.op.Op.{Op}
use Rattle.zl_value.specs.declared.op.Op.TheVariants.{AddFloat, SubFloat, MulFloat, DivFloat, NegFloat}
use Rattle.zl_meaning.specs.FlatForm.{FlatForm}
use Rattle.zl_meaning.specs.WellFormed.{IsForm, AllStand, IsWellFormed}
use Rattle.zl_meaning.specs.Grades.{Grading, grade_of, product_grade, op_grade, form_grade, IsGraded, AreGrades}
use Rattle.zl_meaning.specs.declared.occurrence.Form.TheVariants.{Op as Apply}
use Rattle.zl_meaning.specs.declared.occurrence.Occ.{Occ}
use Rattle.zl_normal.specs.Tables.{is_float, is_graded, is_still, moves}
use Rattle.zl_normal.specs.HasSlopes.{HasSlope, OfNegated, OfSum, OfDifference, OfProduct, OfQuotient, HasSlopes}

-- one factor of a product that goes on a straight line stands still
one_stands : (a b : ℕ) → product_grade a b ≤ 1 → (a ≡ 0) ⊎ (b ≡ 0)
one_stands a b l = by (nat_eq a 0) refl (nat_eq b 0) refl
  where
    by : (s : Bool) → nat_eq a 0 ≡ s → (r : Bool) → nat_eq b 0 ≡ r → (a ≡ 0) ⊎ (b ≡ 0)
    by true p r q = inl (eqb-true a 0 p)
    by false p true q = inr (eqb-true b 0 q)
    by false p false q =
        let two : product_grade a b ≡ 2 = ap (λ s. if s then b else if nat_eq b 0 then a else 2) p ∙ ap (λ r. if r then a else 2) q in
        absurd (omega (arith, l, two))

has_slope : (f : FlatForm) (g : Grading) (block : ℕ) (op : Op) (ks : List ℕ) → AllStand f block (type_of op).operands ks → op_grade g op ks ≤ 1 → (op_grade g op ks ≡ 0 → ⊥) → HasSlope g.occs op ks
has_slope f g block AddFloat [] st l z = absurd st
has_slope f g block AddFloat (a ∷ []) st l z = absurd st.1
has_slope f g block AddFloat (a ∷ b ∷ []) st l z = OfSum a b
has_slope f g block AddFloat (a ∷ b ∷ c ∷ ks) st l z = absurd st.1.1
has_slope f g block SubFloat [] st l z = absurd st
has_slope f g block SubFloat (a ∷ []) st l z = absurd st.1
has_slope f g block SubFloat (a ∷ b ∷ []) st l z = OfDifference a b
has_slope f g block SubFloat (a ∷ b ∷ c ∷ ks) st l z = absurd st.1.1
has_slope f g block MulFloat [] st l z = absurd st
has_slope f g block MulFloat (a ∷ []) st l z = absurd st.1
has_slope f g block MulFloat (a ∷ b ∷ []) st l z = OfProduct a b (one_stands (grade_of g a) (grade_of g b) l)
has_slope f g block MulFloat (a ∷ b ∷ c ∷ ks) st l z = absurd st.1.1
has_slope f g block DivFloat [] st l z = absurd st
has_slope f g block DivFloat (a ∷ []) st l z = absurd st.1
has_slope f g block DivFloat (a ∷ b ∷ []) st l z = OfQuotient a b
has_slope f g block DivFloat (a ∷ b ∷ c ∷ ks) st l z = absurd st.1.1
has_slope f g block NegFloat [] st l z = absurd st
has_slope f g block NegFloat (a ∷ []) st l z = OfNegated a
has_slope f g block NegFloat (a ∷ b ∷ ks) st l z = absurd st.1
has_slope f g block op ks st l z = absurd (z refl)

module _ (f : FlatForm) (g : Grading) (formed : IsWellFormed f) (grades : AreGrades f g) where
  low : (j : ℕ) (occ : Occ) → slice_get f.occs j ≡ Some occ → moves g.occs j occ ≡ true → grade_of g j ≤ 1
  low j occ is m = by (or_cases (nat_le (get_or g.occs j 3) 1) (nat_le (length g.occs) j) (and_parts (is_graded g.occs j) (not (is_still g.occs j)) (and_parts (is_float occ.ty) (is_graded g.occs j && not (is_still g.occs j)) m).1).0)
    where
      by : (nat_le (get_or g.occs j 3) 1 ≡ true) ⊎ (nat_le (length g.occs) j ≡ true) → grade_of g j ≤ 1
      by (inl e) = leb-true (get_or g.occs j 3) 1 e
      by (inr e) = let past = leb-true (length g.occs) j e in let inside = slice_get_within f.occs j occ is in let size = grades.occs_length in absurd (omega (arith, past, inside, size))

  by_form : (j : ℕ) (occ : Occ) → slice_get f.occs j ≡ Some occ → grade_of g j ≤ 1 → grade_of g j ≡ form_grade g occ.form
  by_form j occ is l = by (cases_eq (grade_of g j) (form_grade g occ.form))
    where
      by : (grade_of g j ≡ form_grade g occ.form) ⊎ (grade_of g j ≡ form_grade g occ.form → ⊥) → grade_of g j ≡ form_grade g occ.form
      by (inl e) = e
      by (inr other) = let three = grades.others j (λ graded. other (grades.graded j occ is graded)) in absurd (omega (arith, three, l))

  pub graded_slopes : HasSlopes f g.occs
  graded_slopes = record {
    graded = λ j occ op ks is e m. low j occ is m;
    operators = λ j occ op ks is e m.
        let l = low j occ is m in
        let same : grade_of g j ≡ op_grade g op ks = by_form j occ is l ∙ ap (λ form. form_grade g form) e in
        let st : IsForm f occ.block occ.ty (Apply op ks) = subst (λ form. IsForm f occ.block occ.ty form) e (formed.occs j occ is).form in
        let moving : is_still g.occs j ≡ false = not-true _ (and_parts (is_graded g.occs j) (not (is_still g.occs j)) (and_parts (is_float occ.ty) (is_graded g.occs j && not (is_still g.occs j)) m).1).1 in
        has_slope f g occ.block op ks st.0 (omega (arith, l, same)) (λ z. let on : is_still g.occs j ≡ true = eq-eqb (get_or g.occs j 3) 0 (same ∙ z) in cc);
  }
