-- What a form keeps of its table of grades, moment 0 left out: `still` to `arguments`, `others`, `definers`, `passes`, and `FormKeeps` for the table itself.
use Rattle.std.specs.Prelude.{◌≡◌, ℕ, zero, suc, ◌<◌, ◌≤◌, max, nat_le, if◌then◌else◌, Bool, true, false, List, [], ◌∷◌, length, slice_get, Option, Some, None, ⊤}
use Rattle.std.specs.List.{AllByRecursion}
use Rattle.std.proofs.Common.{refl, sym, ap, ap₂, ◌∙◌, subst, arith, inl, inr}
use Rattle.std.proofs.lemmas.Option.{slice_get_within}
use Rattle.std.proofs.lemmas.Bool.{leb-true}
use Rattle.zl_value.specs.Fraction.{Fraction}
use Rattle.zl_value.specs.Times.{nought}
use Rattle.zl_value.specs.Lists.{Has}
use Rattle.zl_value.specs.OperatorTypes.{type_of}
use Rattle.zl_value.specs.declared.value.Value.TheVariants.{B}
use Rattle.zl_value.specs.Operators.{answered}
use Rattle.zl_value.specs.declared.value.Ty.{Ty}
use Rattle.zl_value.specs.declared.value.Ty.TheVariants.{Bool as BoolTy, Int, Float}
use Rattle.zl_value.specs.declared.op.Op.{Op}
use Rattle.zl_value.specs.declared.op.Op.TheVariants.{AddFloat, SubFloat, MulFloat, DivFloat, NegFloat}
use Rattle.zl_meaning.specs.Occurrences.{answer, value_of}
use Rattle.zl_meaning.specs.Equation.{equation}
use Rattle.zl_meaning.specs.FlatForm.{FlatForm}
use Rattle.zl_meaning.specs.State.{Table, Node, AtControl, AtReset, AtLater, AtEntry, AtRunning, AtStrong, AtWeak, AtPlace, AtUsed, AtValue, State, state_in, if_used, is_active}
use Rattle.zl_meaning.specs.History.{Instant, History}
use Rattle.zl_meaning.specs.Uses.{SlopeOf, ArgumentOf, IsUse}
use Rattle.zl_meaning.specs.Flow.{Flow, flow_moment}
use Rattle.zl_meaning.specs.Reading.{ReadsDefiner, ReadsValue, ReadsPlace, ReadsForm, HasNodeRanks}
use Rattle.zl_meaning.specs.WellFormed.{Stands, IsForm, IsDefiner}
use Rattle.zl_meaning.specs.Grades.{Grading, grade_of, place_grade, op_grade, form_grade, if_graded, definer_grade, greatest_grade, Derivative, Argument}
use Rattle.zl_meaning.specs.KeepsGrades.{IsMoment, StandsStill, MovesOnLine, IsStillType, is_operator, passed_by, value_along, place_along, FormKeeps}
use Rattle.zl_meaning.specs.declared.place.Definer.{Definer}
use Rattle.zl_meaning.specs.declared.place.Definer.TheVariants.{Input, Plain, Der, Start}
use Rattle.zl_meaning.specs.declared.place.PlaceInfo.{PlaceInfo}
use Rattle.zl_meaning.specs.declared.occurrence.Form.{Form}
use Rattle.zl_meaning.specs.declared.occurrence.Form.TheVariants.{Lit, Read, Last, Op as Apply, If, Arrow, Pre, Result, Up, Fired, Step}
use Rattle.zl_meaning.specs.declared.occurrence.Occ.{Occ}
use Rattle.zl_meaning.specs.Regular.{is_value}
use Rattle.zl_meaning.proofs.Members.{all-has, has-cases, has-none}
use Rattle.zl_meaning.proofs.WrittenForms.{at-start, true-false}
use Rattle.zl_meaning.proofs.GradesKept.TypedRuns.{TypedHistory}
use Rattle.zl_meaning.proofs.GradesKept.LineKinds.{Moves, moves, on_its_line, Goes, Nowhere}
use Rattle.zl_meaning.proofs.GradesKept.GradeTable.{table_at, graded_le, needed_le, Ground}
use Rattle.zl_meaning.proofs.GradesKept.LinearLaw.{kept_at, graded_of, is_floats, plain_graded, typed_at, active_still}
use Rattle.zl_meaning.proofs.GradesKept.Typed.{of_same}
use Rattle.zl_meaning.proofs.GradesKept.StillFlow.{each}
use Rattle.zl_meaning.proofs.GradesKept.UsesSay.{argument-stands}
use Rattle.zl_meaning.proofs.GradesKept.KeptBy.{plain_le}

-- a float is of no type that stands still
type_apart : {ty : Ty} → Float ≡ ty → IsStillType ty → ⊥
type_apart e (inl p) = let z : Float ≡ BoolTy = e ∙ p in let g : ⊥ = cc in g
type_apart e (inr p) = let z : Float ≡ Int = e ∙ p in let g : ⊥ = cc in g

module _ (f : FlatForm) (g : Grading) (ground : Ground f g) where
  -- what one definer adds is at most the grade of the place
  definer_le : (ds : List Definer) (d : Definer) → Has ds d → definer_grade g d ≤ greatest_grade g ds
  definer_le [] d h = absurd (has-none d h)
  definer_le (x ∷ ds) d h =
      has-cases (definer_grade g d ≤ max (definer_grade g x) (greatest_grade g ds)) x ds d h
      (λ e. let q = ap (λ y. definer_grade g y) e in omega (arith, q))
      (λ later. let q = definer_le ds d later in omega (arith, q))

  -- a grade of at most 2 is that of the table
  table : (k : ℕ) (occ : Occ) → slice_get f.occs k ≡ Some occ → grade_of g k ≤ 2 → grade_of g k ≡ form_grade g occ.form
  table k occ is le = table_at f ground.formed ground.regular ground.starts g ground.grades k occ is le

  -- nothing of the form is appended
  not_appended : (k : ℕ) (occ : Occ) → slice_get f.occs k ≡ Some occ → length g.occs ≤ k → ⊥
  not_appended k occ is le = let a = slice_get_within f.occs k occ is in let b = ground.grades.occs_length in omega (arith, a, b, le)

  -- the form keeps the table itself
  pub form_keeps : FormKeeps f g g
  form_keeps = record {
    appended = λ k occ is past ty. absurd (not_appended k occ is past);
    no_fault = λ k occ is past. absurd (not_appended k occ is past);
    occs_length = ground.grades.occs_length;
    places_length = ground.grades.places_length;
    old = λ k low. refl;
    operators = λ k op ks occ is ty le e. let q = table k occ is (omega (arith, le)) ∙ ap (λ form. form_grade g form) e in omega (arith, q);
    names = λ k p occ is ty le e. let q = table k occ is (omega (arith, le)) ∙ ap (λ form. form_grade g form) e in omega (arith, q);
    sites = λ k has. needed_le f ground.formed ground.regular ground.starts g ground.grades ground.fine k 1 (Argument k has);
  }

  -- what is of type bool or int has grade 0
  module _ (r : HasNodeRanks f) where
    TypeZero : Node → Type 0
    TypeZero (AtPlace p) = (place : PlaceInfo) → slice_get f.places p ≡ Some place → IsStillType place.ty → place_grade g p ≡ 0
    TypeZero (AtValue k) = (occ : Occ) → slice_get f.occs k ≡ Some occ → IsStillType occ.ty → grade_of g k ≤ 2 → grade_of g k ≡ 0
    TypeZero _ = Unit {0}

    module _ (n : ℕ) (zeros_below : (a : Node) → r.rank a < n → TypeZero a) where
      part_zero : (b k : ℕ) (ty : Ty) → Stands f b ty k → IsStillType ty → r.rank (AtValue k) < n → grade_of g k ≤ 2 → grade_of g k ≡ 0
      unfolding TypeZero
      part_zero b k ty st still l le = zeros_below (AtValue k) l st.occ st.is (subst (λ t. IsStillType t) (sym st.typed) still) le

      op_zero : (op : Op) (ks : List ℕ) → IsStillType (type_of op).result → op_grade g op ks ≡ 0
      op_zero AddFloat ks still = absurd (type_apart refl still)
      op_zero SubFloat ks still = absurd (type_apart refl still)
      op_zero MulFloat ks still = absurd (type_apart refl still)
      op_zero DivFloat ks still = absurd (type_apart refl still)
      op_zero NegFloat ks still = absurd (type_apart refl still)
      op_zero op ks still = refl

      form_zero : (b : ℕ) (ty : Ty) (form : Form) → IsForm f b ty form → IsStillType ty → ReadsForm f (λ a. r.rank a < n) (λ a. ⊤) b form → form_grade g form ≤ 2 → form_grade g form ≡ 0
      unfolding TypeZero
      form_zero b ty (Lit v) is still l le = refl
      form_zero b ty (Read p) is still l le = zeros_below (AtPlace p) l is.place is.is (subst (λ t. IsStillType t) (sym is.typed) still)
      form_zero b ty (Last p) is still l le = refl
      form_zero b ty (Apply op ks) is still l le = op_zero op ks (subst (λ t. IsStillType t) (sym is.1) still)
      form_zero b ty (If c x y) is still l le =
          let p = part_zero b x ty is.1 still l.1 (omega (arith, le)) in
          let q = part_zero b y ty is.2 still l.2 (omega (arith, le)) in
          omega (arith, p, q)
      form_zero b ty (Arrow x y) is still l le = part_zero b y ty is.1 still l.2 le
      form_zero b ty (Pre x) is still l le = refl
      form_zero b ty (Result x) is still l le = part_zero b x ty is still l le
      form_zero b ty (Up site) is still l le = refl
      form_zero b ty (Fired ks) is still l le = refl
      form_zero b ty Step is still l le = refl

      plain_zero : (b k : ℕ) (ty : Ty) → Stands f b ty k → IsStillType ty → r.rank (AtValue k) < n → if_graded (grade_of g k) ≡ 0
      plain_zero b k ty st still l = go (nat_le (grade_of g k) 2) refl
        where
          go : (t : Bool) → nat_le (grade_of g k) 2 ≡ t → (if t then grade_of g k else 0) ≡ 0
          go true e = part_zero b k ty st still l (leb-true (grade_of g k) 2 e)
          go false e = refl

      definers_zero : (p : ℕ) (place : PlaceInfo) → IsStillType place.ty → (ds : List Definer) → AllByRecursion (IsDefiner f p place) ds → AllByRecursion (ReadsDefiner (λ a. r.rank a < n) (λ a. ⊤) p) ds → greatest_grade g ds ≡ 0
      definers_zero p place still [] are l = refl
      definers_zero p place still (Input j ∷ ds) are l = let q = definers_zero p place still ds are.1 l.1 in omega (arith, q)
      definers_zero p place still (Plain b k ∷ ds) are l =
          let q = definers_zero p place still ds are.1 l.1 in let z = plain_zero b k place.ty are.0.1 still l.0.1 in omega (arith, q, z)
      definers_zero p place still (Der b slope arms ∷ ds) are l = absurd (type_apart (sym are.0.1) still)
      definers_zero p place still (Start b k ∷ ds) are l = let q = definers_zero p place still ds are.1 l.1 in omega (arith, q)

    -- by rank
    zero_below : (n : ℕ) (a : Node) → r.rank a < n → TypeZero a
    unfolding TypeZero
    zero_below zero a l = absurd (omega (arith, l))
    zero_below (suc n) (AtPlace p) l = λ place is still.
        let reads : ReadsPlace (λ b. r.rank b < r.rank (AtPlace p)) (λ b. ⊤) p (Some place) = subst (λ o. ReadsPlace (λ b. r.rank b < r.rank (AtPlace p)) (λ b. ⊤) p o) is (r.lower (AtPlace p)) in
        ground.grades.places p place is ∙ definers_zero (r.rank (AtPlace p)) (λ x low. zero_below n x (omega (arith, l, low))) p place still place.definers (ground.formed.places p place is).definers reads.2
    zero_below (suc n) (AtValue k) l = λ occ is still le.
        let reads : ReadsValue f (λ b. r.rank b < r.rank (AtValue k)) (λ b. ⊤) (Some occ) = subst (λ o. ReadsValue f (λ b. r.rank b < r.rank (AtValue k)) (λ b. ⊤) o) is (r.lower (AtValue k)) in
        let e = table k occ is le in
        e ∙ form_zero (r.rank (AtValue k)) (λ x low. zero_below n x (omega (arith, l, low))) occ.block occ.ty occ.form (ground.formed.occs k occ is).form still reads.1 (omega (arith, e, le))
    zero_below (suc n) (AtControl b) l = tt
    zero_below (suc n) (AtReset b) l = tt
    zero_below (suc n) (AtLater b) l = tt
    zero_below (suc n) (AtEntry b) l = tt
    zero_below (suc n) (AtRunning b) l = tt
    zero_below (suc n) (AtStrong b) l = tt
    zero_below (suc n) (AtWeak b) l = tt
    zero_below (suc n) (AtUsed b) l = tt

    -- what is graded and of type bool or int has grade 0
    type_zero : (k : ℕ) (occ : Occ) → slice_get f.occs k ≡ Some occ → IsStillType occ.ty → grade_of g k ≤ 2 → grade_of g k ≡ 0
    unfolding TypeZero
    type_zero k = zero_below (suc (r.rank (AtValue k))) (AtValue k) (omega arith)

  module _ (h : History) (i : Instant) (at : Fraction → Table) (flow : Flow f h i at) (t : TypedHistory f (i ∷ h)) where
    abbrev V : Fraction → State
    V s = state_in (at s)

    -- whether an occurrence is evaluated stands still
    used_still : (k : ℕ) (s : Fraction) → IsMoment s → V s (AtUsed k) ≡ V nought (AtUsed k)
    used_still k = kept_at f g ground h i at flow t (AtUsed k)

    -- what has grade 0 stands still
    pub still : (k : ℕ) → grade_of g k ≡ 0 → StandsStill (value_along at k)
    still k z s m = ap₂ (λ u v. if_used u v) (used_still k s m) ((kept_at f g ground h i at flow t (AtValue k)).0 z s m)

    pub still_places : (p : ℕ) → place_grade g p ≡ 0 → StandsStill (place_along at p)
    still_places p z = (kept_at f g ground h i at flow t (AtPlace p)).0 z

    -- a value that moves, where it is evaluated, is on a line
    along : (k : ℕ) → Moves (λ s. V s (AtValue k)) → MovesOnLine (value_along at k)
    along k m = on_its_line (value_along at k) (go (V nought (AtUsed k)) refl m)
      where
        go : (b : Bool) → V nought (AtUsed k) ≡ b → Moves (λ s. V s (AtValue k)) → Moves (value_along at k)
        go false e x = Nowhere (λ s m. ap (λ u. if_used u (V s (AtValue k))) (used_still k s m ∙ e))
        go true e (Nowhere p) = Nowhere (λ s m. ap₂ (λ u v. if_used u v) (used_still k s m ∙ e) (p s m))
        go true e (Goes a c p q x) = Goes a c p q (λ s m. ap₂ (λ u v. if_used u v) (used_still k s m ∙ e) (x s m))

    -- a number of grade at most 1
    line_at : (k b : ℕ) → Stands f b Float k → grade_of g k ≤ 1 → MovesOnLine (value_along at k)
    line_at k b st le = along k (moves _ (is_floats f g ground h i at flow t b k st) ((kept_at f g ground h i at flow t (AtValue k)).1 le))

    -- what has grade 1 is on a line
    pub lines : (k : ℕ) (occ : Occ) → slice_get f.occs k ≡ Some occ → occ.ty ≡ Float → grade_of g k ≡ 1 → MovesOnLine (value_along at k)
    lines k occ is ty e = line_at k occ.block (record { occ = occ; is = is; block = refl; typed = ty }) (omega (arith, e))

    pub line_places : (p : ℕ) (place : PlaceInfo) → slice_get f.places p ≡ Some place → place.ty ≡ Float → place_grade g p ≡ 1 → MovesOnLine (place_along at p)
    line_places p place is ty e =
        on_its_line (place_along at p) (moves _ (λ s m. of_same (V s (AtPlace p)) ty (typed_at f g ground h i at flow t s m (AtPlace p) place is)) ((kept_at f g ground h i at flow t (AtPlace p)).1 (omega (arith, e))))

    -- derivatives stand still
    pub derivatives : (k : ℕ) (call : Option ℕ) → IsUse f k (SlopeOf call) → StandsStill (value_along at k)
    derivatives k call has = let le = needed_le f ground.formed ground.regular ground.starts g ground.grades ground.fine k 0 (Derivative k call has) in still k (omega (arith, le))

    -- arguments of sites are on lines
    pub arguments : (k : ℕ) → IsUse f k ArgumentOf → MovesOnLine (value_along at k)
    arguments k has =
        let le = needed_le f ground.formed ground.regular ground.starts g ground.grades ground.fine k 1 (Argument k has) in
        let stands = argument-stands f k ground.formed has in
        line_at k stands.0 stands.1 le

    -- what is evaluated has a grade of at most 2
    used_two : (s : Fraction) → IsMoment s → (k : ℕ) (occ : Occ) → slice_get f.occs k ≡ Some occ → is_value occ.form ≡ true → V s (AtUsed k) ≡ true → grade_of g k ≤ 2
    used_two s m k occ is value e = graded_le f ground.formed ground.regular ground.starts g ground.grades k (graded_of f g ground h i at flow t s m k occ is value e)

    -- an operator is a value
    operator_value : (form : Form) → is_operator form ≡ true → is_value form ≡ true
    operator_value (Apply op ks) e = refl
    operator_value (Lit v) e = refl
    operator_value (Read v) e = refl
    operator_value (Last v) e = refl
    operator_value (If c x y) e = refl
    operator_value (Arrow x y) e = refl
    operator_value (Pre x) e = refl
    operator_value (Result x) e = refl
    operator_value (Up x) e = e
    operator_value (Fired x) e = e
    operator_value Step e = refl

    -- an operator that isn't graded isn't evaluated
    pub others : (k : ℕ) (s : Fraction) (occ : Occ) → IsMoment s → grade_of g k ≡ 3 → slice_get f.occs k ≡ Some occ → is_operator occ.form ≡ true → V s (AtUsed k) ≡ false
    others k s occ m three is op = go (V s (AtUsed k)) refl
      where
        go : (b : Bool) → V s (AtUsed k) ≡ b → V s (AtUsed k) ≡ false
        go false e = e
        go true e = absurd (let le = used_two s m k occ is (operator_value occ.form op) e in let z : ⊥ = omega (arith, le, three) in z)

    -- events and `up`s are false in a flow
    event_off : (k : ℕ) (occ : Occ) (s : Fraction) → IsMoment s → slice_get f.occs k ≡ Some occ → is_value occ.form ≡ false → V s (AtValue k) ≡ (if is_active (V s (AtControl occ.block)) then Some (B false) else None)
    unfolding equation
    event_off k occ s m is e =
        each f ground.ranks h i at flow s m (AtValue k) ∙ ap (λ o. value_of f (flow_moment f h i s) (V s) o) is ∙ ap (λ v. if is_active (V s (AtControl occ.block)) then v else None) (go occ.form e)
      where
        go : (form : Form) → is_value form ≡ false → answered (answer f (flow_moment f h i s) (V s) occ.block form) ≡ Some (B false)
        go (Up site) x = refl
        go (Fired ks) x = refl
        go (Lit v) x = absurd (true-false refl x)
        go (Read v) x = absurd (true-false refl x)
        go (Last v) x = absurd (true-false refl x)
        go (Apply op ks) x = absurd (true-false refl x)
        go (If c y z) x = absurd (true-false refl x)
        go (Arrow y z) x = absurd (true-false refl x)
        go (Pre y) x = absurd (true-false refl x)
        go (Result y) x = absurd (true-false refl x)
        go Step x = absurd (true-false refl x)

    -- what is of type bool or int stands still
    pub still_types : (k : ℕ) (occ : Occ) → slice_get f.occs k ≡ Some occ → IsStillType occ.ty → StandsStill (value_along at k)
    still_types k occ is ty s m = go (V nought (AtUsed k)) refl (is_value occ.form) refl
      where
        go : (b : Bool) → V nought (AtUsed k) ≡ b → (c : Bool) → is_value occ.form ≡ c → value_along at k s ≡ value_along at k nought
        go false e c v = ap (λ u. if_used u (V s (AtValue k))) (used_still k s m ∙ e) ∙ sym (ap (λ u. if_used u (V nought (AtValue k))) e)
        go true e true v = still k (type_zero ground.ranks k occ is ty (used_two nought at-start k occ is v e)) s m
        go true e false v =
            ap₂ (λ u x. if_used u x) (used_still k s m)
            (event_off k occ s m is v ∙ ap (λ b. if b then Some (B false) else None) (active_still f g ground h i at flow t occ.block s m) ∙ sym (event_off k occ nought at-start is v))

    -- what a definer of a place names has at most its grade
    pub definers : (p b k : ℕ) (place : PlaceInfo) → slice_get f.places p ≡ Some place → Has place.definers (Plain b k) → V nought (AtUsed k) ≡ true → grade_of g k ≤ place_grade g p
    definers p b k place is has used =
        let st : IsDefiner f p place (Plain b k) = all-has (IsDefiner f p place) place.definers (Plain b k) (ground.formed.places p place is).definers has in
        let two = plain_graded f g ground h i at flow t 0 (λ a l. absurd (let z : ⊥ = omega (arith, l) in z)) p place b k is has st.1 used in
        let most = definer_le place.definers (Plain b k) has in
        let e = plain_le (grade_of g k) two in
        let q = ground.grades.places p place is in
        omega (arith, most, e, q)

    -- what an occurrence passes on has at most its grade
    pub passes : (k j : ℕ) (occ : Occ) → slice_get f.occs k ≡ Some occ → grade_of g k ≤ 1 → Has (passed_by occ.form) j → grade_of g j ≤ grade_of g k
    passes k j occ is le has =
        let e = table k occ is (omega (arith, le)) in let p = go occ.form has in omega (arith, e, p)
      where
        go : (form : Form) → Has (passed_by form) j → grade_of g j ≤ form_grade g form
        go (If c x y) h = has-cases (grade_of g j ≤ max (grade_of g x) (grade_of g y)) x (y ∷ []) j h (λ q. let d = ap (λ n. grade_of g n) q in omega (arith, d)) (λ l. has-cases (grade_of g j ≤ max (grade_of g x) (grade_of g y)) y [] j l (λ q. let d = ap (λ n. grade_of g n) q in omega (arith, d)) (λ z. absurd (has-none j z)))
        go (Arrow x y) h = has-cases (grade_of g j ≤ grade_of g y) y [] j h (λ q. let d = ap (λ n. grade_of g n) q in omega (arith, d)) (λ z. absurd (has-none j z))
        go (Result x) h = has-cases (grade_of g j ≤ grade_of g x) x [] j h (λ q. let d = ap (λ n. grade_of g n) q in omega (arith, d)) (λ z. absurd (has-none j z))
        go (Lit v) h = absurd (has-none j h)
        go (Read v) h = absurd (has-none j h)
        go (Last v) h = absurd (has-none j h)
        go (Apply op ks) h = absurd (has-none j h)
        go (Pre v) h = absurd (has-none j h)
        go (Up v) h = absurd (has-none j h)
        go (Fired v) h = absurd (has-none j h)
        go Step h = absurd (has-none j h)
