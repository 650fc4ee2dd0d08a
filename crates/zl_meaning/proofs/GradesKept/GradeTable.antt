-- What the table of grades says of a form in which no more than is allowed is graded.
use Rattle.std.specs.Prelude.{◌≡◌, ℕ, zero, suc, ◌<◌, ◌≤◌, max, nat_eq, nat_le, Bool, true, false, if◌then◌else◌, List, [], ◌∷◌, slice_get, Some}
use Rattle.std.specs.List.{AllByRecursion}
use Rattle.std.proofs.Common.{refl, sym, ap, ◌∙◌, ⊎_elim, subst, arith, eqb-true}
use Rattle.std.proofs.lemmas.Bool.{cases_lt, eqb-false, leb-true}
use Rattle.zl_value.specs.Lists.{Has}
use Rattle.zl_value.specs.OperatorTypes.{type_of}
use Rattle.zl_value.specs.declared.value.Ty.{Ty}
use Rattle.zl_value.specs.declared.value.Ty.TheVariants.{Bool as BoolTy, Int, Float, Zero}
use Rattle.zl_value.specs.declared.op.Op.{Op}
use Rattle.zl_value.specs.declared.op.Op.TheVariants.{AddInt, SubInt, MulInt, DivInt, ModInt, NegInt, AddFloat, SubFloat, MulFloat, DivFloat, NegFloat, FloatOfInt, Truncate, EqBool, NeBool, LtBool, LeBool, GtBool, GeBool, EqInt, NeInt, LtInt, LeInt, GtInt, GeInt, EqFloat, NeFloat, LtFloat, LeFloat, GtFloat, GeFloat, And, Or, Not}
use Rattle.zl_meaning.specs.FlatForm.{FlatForm}
use Rattle.zl_meaning.specs.Uses.{Use, PartOf, BranchOf, StartOf, ResetOf, parts, IsUse}
use Rattle.zl_meaning.specs.Branches.{IsPart, Under}
use Rattle.zl_meaning.specs.WellFormed.{Stands, AllStand, IsForm, IsOccurrence, IsWellFormed}
use Rattle.zl_meaning.specs.Regular.{is_value, is_hybrid_block, is_event, IsRegular}
use Rattle.zl_meaning.specs.Grades.{Grading, grade_of, place_grade, IsGraded, product_grade, quotient_grade, op_grade, form_grade, if_graded, greatest_grade, AreGrades, keeps_lines, IsNeeded, Condition, Operand, IsOverGraded}
use Rattle.zl_meaning.specs.declared.place.Definer.{Definer}
use Rattle.zl_meaning.specs.declared.place.Definer.TheVariants.{Input, Plain, Der, Start}
use Rattle.zl_meaning.specs.declared.occurrence.Form.{Form}
use Rattle.zl_meaning.specs.declared.occurrence.Form.TheVariants.{Lit, Read, Last, Op as Apply, If, Arrow, Pre, Result, Up, Fired, Step}
use Rattle.zl_meaning.specs.declared.occurrence.Occ.{Occ}
use Rattle.zl_meaning.specs.Reading.{HasNodeRanks}
use Rattle.zl_meaning.specs.Single.{IsSingle}
use Rattle.zl_meaning.proofs.Standing.{IsUsedIn, part-used}
use Rattle.zl_meaning.proofs.Members.{has-cases, has-none}
use Rattle.zl_meaning.proofs.WrittenForms.{some-same, true-false}
use Rattle.zl_meaning.proofs.GradesKept.UsedFlow.{NeverAsks, KeepsStarts, ByReset, ByStart}

-- no other type is that of an `up`
bool_zero : BoolTy ≡ Zero → ⊥
bool_zero p = cc

int_zero : Int ≡ Zero → ⊥
int_zero p = cc

pub float_zero : Float ≡ Zero → ⊥
float_zero p = cc

-- none of these types is that of an `up`
abbrev NoZeros : List Ty → Type 0
NoZeros tys = AllByRecursion (λ ty. ty ≡ Zero → ⊥) tys

-- no operand is an `up`
operands_no_zero : (op : Op) → NoZeros (type_of op).operands
operands_no_zero AddInt = (int_zero, (int_zero, tt))
operands_no_zero SubInt = (int_zero, (int_zero, tt))
operands_no_zero MulInt = (int_zero, (int_zero, tt))
operands_no_zero DivInt = (int_zero, (int_zero, tt))
operands_no_zero ModInt = (int_zero, (int_zero, tt))
operands_no_zero NegInt = (int_zero, tt)
operands_no_zero AddFloat = (float_zero, (float_zero, tt))
operands_no_zero SubFloat = (float_zero, (float_zero, tt))
operands_no_zero MulFloat = (float_zero, (float_zero, tt))
operands_no_zero DivFloat = (float_zero, (float_zero, tt))
operands_no_zero NegFloat = (float_zero, tt)
operands_no_zero FloatOfInt = (int_zero, tt)
operands_no_zero Truncate = (float_zero, tt)
operands_no_zero EqBool = (bool_zero, (bool_zero, tt))
operands_no_zero NeBool = (bool_zero, (bool_zero, tt))
operands_no_zero LtBool = (bool_zero, (bool_zero, tt))
operands_no_zero LeBool = (bool_zero, (bool_zero, tt))
operands_no_zero GtBool = (bool_zero, (bool_zero, tt))
operands_no_zero GeBool = (bool_zero, (bool_zero, tt))
operands_no_zero EqInt = (int_zero, (int_zero, tt))
operands_no_zero NeInt = (int_zero, (int_zero, tt))
operands_no_zero LtInt = (int_zero, (int_zero, tt))
operands_no_zero LeInt = (int_zero, (int_zero, tt))
operands_no_zero GtInt = (int_zero, (int_zero, tt))
operands_no_zero GeInt = (int_zero, (int_zero, tt))
operands_no_zero EqFloat = (float_zero, (float_zero, tt))
operands_no_zero NeFloat = (float_zero, (float_zero, tt))
operands_no_zero LtFloat = (float_zero, (float_zero, tt))
operands_no_zero LeFloat = (float_zero, (float_zero, tt))
operands_no_zero GtFloat = (float_zero, (float_zero, tt))
operands_no_zero GeFloat = (float_zero, (float_zero, tt))
operands_no_zero And = (bool_zero, (bool_zero, tt))
operands_no_zero Or = (bool_zero, (bool_zero, tt))
operands_no_zero Not = (bool_zero, tt)

-- what is no event and no `up` is a value
pub value_of_none : (form : Form) → is_event form ≡ false → ((site : ℕ) → form ≡ Up site → ⊥) → is_value form ≡ true
value_of_none (Up site) e not = absurd (not site refl)
value_of_none (Fired ks) e not = absurd (true-false refl e)
value_of_none (Lit v) e not = refl
value_of_none (Read v) e not = refl
value_of_none (Last v) e not = refl
value_of_none (Apply op ks) e not = refl
value_of_none (If c x y) e not = refl
value_of_none (Arrow x y) e not = refl
value_of_none (Pre x) e not = refl
value_of_none (Result x) e not = refl
value_of_none Step e not = refl

-- the grade of a sum is at most 2
max_le : {a b n : ℕ} → a ≤ n → b ≤ n → max a b ≤ n
max_le p q = omega (arith, p, q)

-- that of a product
product_le : (a b : ℕ) → a ≤ 2 → b ≤ 2 → product_grade a b ≤ 2
product_le a b p q = go (nat_eq a 0) (nat_eq b 0)
  where
    go : (s t : Bool) → (if s then b else (if t then a else 2)) ≤ 2
    go true t = q
    go false true = p
    go false false = omega arith

-- that of a quotient
quotient_le : (a b : ℕ) → a ≤ 2 → quotient_grade a b ≤ 2
quotient_le a b p = go (nat_eq b 0)
  where
    go : (t : Bool) → (if t then a else 2) ≤ 2
    go true = p
    go false = omega arith

-- what a definer adds
if_graded_le : (n : ℕ) → if_graded n ≤ 2
if_graded_le n = go (nat_le n 2) refl
  where
    go : (t : Bool) → nat_le n 2 ≡ t → (if t then n else 0) ≤ 2
    go true e = leb-true n 2 e
    go false e = omega arith

module _ (f : FlatForm) (w : IsWellFormed f) (regular : IsRegular f) (starts : KeepsStarts f) where
  -- a part and its type, which isn't that of an `up`
  record Part (b k : ℕ) : Type 0 where
    pub ty : Ty
    pub not_zero : ty ≡ Zero → ⊥
    pub stands : Stands f b ty k

  -- an operand
  operand_part : (b : ℕ) (tys : List Ty) (ks : List ℕ) (k : ℕ) → AllStand f b tys ks → NoZeros tys → Has ks k → Part b k
  operand_part b [] [] k st nz h = absurd (has-none k h)
  operand_part b (ty ∷ tys) (j ∷ ks) k st nz h =
      has-cases (Part b k) j ks k h (λ e. subst (λ n. Part b n) e (record { ty = ty; not_zero = nz.0; stands = st.0 })) (λ g. operand_part b tys ks k st.1 nz.1 g)
  operand_part b [] (j ∷ ks) k st nz h = absurd st
  operand_part b (ty ∷ tys) [] k st nz h = absurd st

  -- the only part
  one_part : (b j k : ℕ) (ty : Ty) → (ty ≡ Zero → ⊥) → Stands f b ty j → Has (j ∷ []) k → Part b k
  one_part b j k ty nz st h = has-cases (Part b k) j [] k h (λ e. subst (λ n. Part b n) e (record { ty = ty; not_zero = nz; stands = st })) (λ g. absurd (has-none k g))

  -- one of two parts
  two_part : (b i j k : ℕ) (ty : Ty) → (ty ≡ Zero → ⊥) → Stands f b ty i → Stands f b ty j → Has (i ∷ j ∷ []) k → Part b k
  two_part b i j k ty nz p q h = has-cases (Part b k) i (j ∷ []) k h (λ e. subst (λ n. Part b n) e (record { ty = ty; not_zero = nz; stands = p })) (λ g. one_part b j k ty nz q g)

  -- a part of a value
  form_part : (b : ℕ) (ty : Ty) (form : Form) (k : ℕ) → IsForm f b ty form → is_value form ≡ true → (ty ≡ Zero → ⊥) → Has (parts form) k → Part b k
  form_part b ty (Lit v) k is value nz h = absurd (has-none k h)
  form_part b ty (Read p) k is value nz h = absurd (has-none k h)
  form_part b ty (Last p) k is value nz h = absurd (has-none k h)
  form_part b ty (Apply op ks) k is value nz h = operand_part b (type_of op).operands ks k is.0 (operands_no_zero op) h
  form_part b ty (If c x y) k is value nz h =
      has-cases (Part b k) c (x ∷ y ∷ []) k h (λ e. subst (λ n. Part b n) e (record { ty = BoolTy; not_zero = bool_zero; stands = is.0 })) (λ g. two_part b x y k ty nz is.1 is.2 g)
  form_part b ty (Arrow x y) k is value nz h = two_part b x y k ty nz is.0 is.1 h
  form_part b ty (Pre x) k is value nz h = one_part b x k ty nz is h
  form_part b ty (Result x) k is value nz h = one_part b x k ty nz is h
  form_part b ty (Up site) k is value nz h = absurd (has-none k h)
  form_part b ty (Fired ks) k is value nz h = absurd (true-false value refl)
  form_part b ty Step k is value nz h = absurd (has-none k h)

  -- a value isn't of the type of an `up`
  value_not_zero : (occ : Occ) → IsOccurrence f occ → is_value occ.form ≡ true → occ.ty ≡ Zero → ⊥
  value_not_zero occ is value z = let up = is.crossing z in true-false (sym (ap (λ form. is_value form) up.1) ∙ value) refl

  -- an `up` is
  pub zero_of_up : (k : ℕ) (occ : Occ) (site : ℕ) → slice_get f.occs k ≡ Some occ → occ.form ≡ Up site → occ.ty ≡ Zero
  zero_of_up k occ site is e = (subst (λ form. IsForm f occ.block occ.ty form) e (w.occs k occ is).form).3

  -- a part of a value is one
  event_not : (k whole : ℕ) (occ : Occ) → slice_get f.occs k ≡ Some occ → IsUsedIn f k whole → is_event occ.form ≡ false
  event_not k whole occ is used =
      ⊎_elim (λ u. (regular.occs k occ is).tests (PartOf whole) u)
      (λ (u : (c : ℕ) × (side : Bool) × IsUse f k (BranchOf whole c side)). (regular.occs k occ is).tests (BranchOf whole u.0 u.1) u.2) used

  -- what stands under a use has its whole there
  whole_under : (of : Use) → NeverAsks of → (k whole : ℕ) → IsPart f k whole → Under f of k → Under f of whole
  whole_under of apart k whole part under =
      ⊎_elim (λ u. starts.uses of apart k under (PartOf whole) u)
      (λ (u : (c : ℕ) × (side : Bool) × IsUse f k (BranchOf whole c side)). starts.uses of apart k under (BranchOf whole u.0 u.1) u.2) (part-used f k whole part)

  -- a part of what is graded is graded
  pub graded_part : (k whole : ℕ) → IsGraded f whole → IsPart f k whole → IsGraded f k
  graded_part k whole g part =
      let same : part.occ ≡ g.occ = some-same (sym part.is ∙ g.is) in
      let has : Has (parts g.occ.form) k = subst (λ (o : Occ). Has (parts o.form) k) same part.part in
      let stands_whole = w.occs whole g.occ g.is in
      let p = form_part g.occ.block g.occ.ty g.occ.form k stands_whole.form g.value (value_not_zero g.occ stands_whole g.value) has in
      record {
        occ = p.stands.occ;
        is = p.stands.is;
        hybrid = ap (λ b. is_hybrid_block f b) p.stands.block ∙ g.hybrid;
        value = value_of_none p.stands.occ.form (event_not k whole p.stands.occ p.stands.is (part-used f k whole part)) (λ site e. p.not_zero (sym p.stands.typed ∙ zero_of_up k p.stands.occ site p.stands.is e));
        start = λ call b u. g.start call b (whole_under (StartOf call b) (ByStart call b) k whole part u);
        reset = λ call events arm u. g.reset call events arm (whole_under (ResetOf call events arm) (ByReset call events arm) k whole part u);
      }

  module _ (g : Grading) (grades : AreGrades f g) where
    -- what isn't graded has grade 3
    pub not_ungraded : (k : ℕ) → grade_of g k ≤ 2 → (IsGraded f k → ⊥) → ⊥
    not_ungraded k l not = let e = grades.others k not in let x : ⊥ = omega (arith, l, e) in x

    -- a grade up to 2 is the table's
    pub table_at : (k : ℕ) (occ : Occ) → slice_get f.occs k ≡ Some occ → grade_of g k ≤ 2 → grade_of g k ≡ form_grade g occ.form
    table_at k occ is l = go (nat_eq (grade_of g k) (form_grade g occ.form)) refl
      where
        go : (t : Bool) → nat_eq (grade_of g k) (form_grade g occ.form) ≡ t → grade_of g k ≡ form_grade g occ.form
        go true e = eqb-true (grade_of g k) (form_grade g occ.form) e
        go false e = absurd (not_ungraded k l (λ gr. eqb-false (grade_of g k) (form_grade g occ.form) e (grades.graded k occ is gr)))

    -- the grade of a place is at most 2
    places_le : (ds : List Definer) → greatest_grade g ds ≤ 2
    places_le [] = omega arith
    places_le (Input n ∷ ds) = max_le (let z : 0 ≤ 2 = omega arith in z) (places_le ds)
    places_le (Plain b k ∷ ds) = max_le (if_graded_le (grade_of g k)) (places_le ds)
    places_le (Der b slope arms ∷ ds) = max_le (let z : 1 ≤ 2 = omega arith in z) (places_le ds)
    places_le (Start b k ∷ ds) = max_le (let z : 0 ≤ 2 = omega arith in z) (places_le ds)

    -- that of an operator
    op_le : (op : Op) (ks : List ℕ) → ((k : ℕ) → Has ks k → grade_of g k ≤ 2) → op_grade g op ks ≤ 2
    op_le AddFloat (a ∷ b ∷ []) all = max_le (all a (record { index = 0; is = refl })) (all b (record { index = 1; is = refl }))
    op_le SubFloat (a ∷ b ∷ []) all = max_le (all a (record { index = 0; is = refl })) (all b (record { index = 1; is = refl }))
    op_le MulFloat (a ∷ b ∷ []) all = product_le (grade_of g a) (grade_of g b) (all a (record { index = 0; is = refl })) (all b (record { index = 1; is = refl }))
    op_le DivFloat (a ∷ b ∷ []) all = quotient_le (grade_of g a) (grade_of g b) (all a (record { index = 0; is = refl }))
    op_le NegFloat (a ∷ []) all = all a (record { index = 0; is = refl })
    op_le op ks all = omega arith

    -- a name reads a place that is there
    named_le : (k p : ℕ) (occ : Occ) → slice_get f.occs k ≡ Some occ → occ.form ≡ Read p → place_grade g p ≤ 2
    named_le k p occ is e =
        let typed = subst (λ form. IsForm f occ.block occ.ty form) e (w.occs k occ is).form in
        let eq = grades.places p typed.place typed.is in
        let le = places_le typed.place.definers in
        omega (arith, eq, le)

    -- that of each form
    by_form : (k : ℕ) (occ : Occ) → slice_get f.occs k ≡ Some occ → (form : Form) → occ.form ≡ form → ((j : ℕ) → Has (parts form) j → grade_of g j ≤ 2) → form_grade g form ≤ 2
    by_form k occ is (Lit v) e all = omega arith
    by_form k occ is (Read p) e all = named_le k p occ is e
    by_form k occ is (Last p) e all = omega arith
    by_form k occ is (Apply op ks) e all = op_le op ks all
    by_form k occ is (If c x y) e all = max_le (all x (record { index = 1; is = refl })) (all y (record { index = 2; is = refl }))
    by_form k occ is (Arrow x y) e all = all y (record { index = 1; is = refl })
    by_form k occ is (Pre x) e all = omega arith
    by_form k occ is (Result x) e all = all x (record { index = 0; is = refl })
    by_form k occ is (Up site) e all = omega arith
    by_form k occ is (Fired ks) e all = omega arith
    by_form k occ is Step e all = omega arith

    -- by height
    le_below : (n k : ℕ) → w.heights.height k < n → IsGraded f k → grade_of g k ≤ 2
    le_below zero k l gr = absurd (omega (arith, l))
    le_below (suc n) k l gr =
        let rest = by_form k gr.occ gr.is gr.occ.form refl (λ j has.
        let low = w.heights.parts k j gr.occ gr.is has in
        le_below n j (omega (arith, l, low)) (graded_part j k gr (record { occ = gr.occ; is = gr.is; part = has }))) in
        let e = grades.graded k gr.occ gr.is gr in
        omega (arith, rest, e)

    -- what is graded has a grade up to 2
    pub graded_le : (k : ℕ) → IsGraded f k → grade_of g k ≤ 2
    graded_le k gr = le_below (suc (w.heights.height k)) k (omega arith) gr

    module _ (fine : (k : ℕ) → IsOverGraded f g k → ⊥) where
      -- what needs a grade has it
      pub needed_le : (k limit : ℕ) → IsNeeded f k limit → grade_of g k ≤ limit
      needed_le k limit need = ⊎_elim (λ over. absurd (fine k (limit, need, over))) (λ le. le) (cases_lt limit (grade_of g k))

      -- the condition of a graded `if` has grade 0
      pub condition_still : (k c x y : ℕ) (occ : Occ) → slice_get f.occs k ≡ Some occ → occ.form ≡ If c x y → grade_of g k ≤ 2 → grade_of g c ≡ 0
      condition_still k c x y occ is e l =
          ⊎_elim (λ over. absurd (not_ungraded k l (λ gr. let le = needed_le c 0 (Condition c k x y occ gr is e) in let z : ⊥ = omega (arith, le, over) in z))) (λ le. let z : grade_of g c ≡ 0 = omega (arith, le) in z) (cases_lt 0 (grade_of g c))

      -- and so has each operand of a graded operator that doesn't keep lines
      pub operand_still : (k j : ℕ) (op : Op) (ks : List ℕ) (occ : Occ) → slice_get f.occs k ≡ Some occ → occ.form ≡ Apply op ks → keeps_lines op ≡ false → Has ks j → grade_of g k ≤ 2 → grade_of g j ≡ 0
      operand_still k j op ks occ is e keeps has l =
          ⊎_elim (λ over. absurd (not_ungraded k l (λ gr. let le = needed_le j 0 (Operand j k op ks occ gr is e keeps has) in let z : ⊥ = omega (arith, le, over) in z))) (λ le. let z : grade_of g j ≡ 0 = omega (arith, le) in z) (cases_lt 0 (grade_of g j))

-- what the law rests on
pub record Ground (f : FlatForm) (g : Grading) : Type 0 where
  pub formed : IsWellFormed f
  pub regular : IsRegular f
  pub main : is_hybrid_block f 0 ≡ true
  pub single : IsSingle f
  pub starts : KeepsStarts f
  pub ranks : HasNodeRanks f
  pub grades : AreGrades f g
  pub fine : (k : ℕ) → IsOverGraded f g k → ⊥
