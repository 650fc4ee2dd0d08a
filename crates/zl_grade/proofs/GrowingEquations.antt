-- Where the nodes that it reads have greater grades, a node's equation gives no less, and 2 at most.
use Rattle.std.proofs.Common.{◌≡◌, ◌⊎◌, inl, inr, ℕ, zero, suc, ◌<◌, ◌≤◌, max, nat_eq, if◌then◌else◌, Bool, true, false, List, [], ◌∷◌, get_or, slice_get, Option, Some, None, refl, ap, arith, eqb-true}
use Rattle.std.proofs.lemmas.Bool.{cases_lt, eqb-false}
use Rattle.zl_value.specs.Lists.{Has}
use Rattle.zl_value.specs.declared.op.Op.{Op}
use Rattle.zl_value.specs.declared.op.Op.TheVariants.{AddFloat, SubFloat, MulFloat, DivFloat, NegFloat}
use Rattle.zl_meaning.specs.FlatForm.{FlatForm}
use Rattle.zl_meaning.specs.Uses.{parts}
use Rattle.zl_meaning.specs.Grades.{Grading, grade_of, place_grade, product_grade, quotient_grade, op_grade, form_grade, if_graded, greatest_grade}
use Rattle.zl_meaning.specs.declared.occurrence.Form.{Form}
use Rattle.zl_meaning.specs.declared.occurrence.Form.TheVariants.{Lit, Read, Last, Op as Apply, If, Arrow, Pre, Result, Up, Fired, Step}
use Rattle.zl_meaning.specs.declared.occurrence.Occ.{Occ as Occurrence}
use Rattle.zl_meaning.specs.declared.place.Definer.{Definer}
use Rattle.zl_meaning.specs.declared.place.Definer.TheVariants.{Input, Plain, Der, Start}
use Rattle.zl_meaning.specs.declared.place.PlaceInfo.{PlaceInfo}
use Rattle.zl_grade.specs.Equations.{grade_at, given_occ, given_place, given}
use Rattle.zl_grade.specs.Table.{AreInRange, AreClosed}
use Rattle.zl_grade.specs.declared.node.Node.{Node}
use Rattle.zl_grade.specs.declared.node.Node.TheVariants.{Occ, Place}

-- no less, and 2 at most
abbrev pub Grows : ℕ → ℕ → Type 0
Grows a b = (a ≤ b) × (b ≤ 2)

-- or both aren't graded
abbrev pub Follows : ℕ → ℕ → Type 0
Follows a b = Grows a b ⊎ ((a ≡ 3) × (b ≡ 3))

max_grows : (a b c d : ℕ) → Grows a b → Grows c d → Grows (max a c) (max b d)
max_grows a b c d p q = (omega (arith, p.0, q.0), omega (arith, p.1, q.1))

-- which of three values a product has, and which of two a quotient
abbrev ProductIs : ℕ → ℕ → ℕ → Type 0
ProductIs a c v = ((a ≤ 0) × (v ≡ c)) ⊎ (((0 < a) × (c ≤ 0) × (v ≡ a)) ⊎ ((0 < a) × (0 < c) × (v ≡ 2)))

abbrev QuotientIs : ℕ → ℕ → ℕ → Type 0
QuotientIs a c v = ((c ≤ 0) × (v ≡ a)) ⊎ ((0 < c) × (v ≡ 2))

some_of : (n : ℕ) → nat_eq n 0 ≡ false → 0 < n
some_of n e = elim (cases_lt 0 n) [ inl l ↦ l | inr l ↦ absurd (eqb-false n 0 e (omega (arith, l))) ]

none_of : (n : ℕ) → nat_eq n 0 ≡ true → n ≤ 0
none_of n e = let z = eqb-true n 0 e in omega (arith, z)

product_is : (a c : ℕ) → ProductIs a c (product_grade a c)
product_is a c = by_tests (nat_eq a 0) refl (nat_eq c 0) refl
  where
    by_tests : (s : Bool) → nat_eq a 0 ≡ s → (t : Bool) → nat_eq c 0 ≡ t → ProductIs a c (if s then c else if t then a else 2)
    by_tests true e t d = inl (none_of a e, refl)
    by_tests false e true d = inr (inl (some_of a e, none_of c d, refl))
    by_tests false e false d = inr (inr (some_of a e, some_of c d, refl))

quotient_is : (a c : ℕ) → QuotientIs a c (quotient_grade a c)
quotient_is a c = by_test (nat_eq c 0) refl
  where
    by_test : (t : Bool) → nat_eq c 0 ≡ t → QuotientIs a c (if t then a else 2)
    by_test true e = inl (none_of c e, refl)
    by_test false e = inr (some_of c e, refl)

product_values : (a b c d v w : ℕ) → Grows a b → Grows c d → ProductIs a c v → ProductIs b d w → Grows v w
product_values a b c d v w p q (inl x) (inl y) = (omega (arith, x.1, y.1, q.0), omega (arith, y.1, q.1))
product_values a b c d v w p q (inl x) (inr (inl y)) = (omega (arith, x.1, y.1, y.2, q.0), omega (arith, y.2, p.1))
product_values a b c d v w p q (inl x) (inr (inr y)) = (omega (arith, x.1, y.2, q.0, q.1), omega (arith, y.2))
product_values a b c d v w p q (inr (inl x)) (inl y) = absurd (let n : ⊥ = omega (arith, x.0, y.0, p.0) in n)
product_values a b c d v w p q (inr (inl x)) (inr (inl y)) = (omega (arith, x.2, y.2, p.0), omega (arith, y.2, p.1))
product_values a b c d v w p q (inr (inl x)) (inr (inr y)) = (omega (arith, x.2, y.2, p.0, p.1), omega (arith, y.2))
product_values a b c d v w p q (inr (inr x)) (inl y) = absurd (let n : ⊥ = omega (arith, x.0, y.0, p.0) in n)
product_values a b c d v w p q (inr (inr x)) (inr (inl y)) = absurd (let n : ⊥ = omega (arith, x.1, y.1, q.0) in n)
product_values a b c d v w p q (inr (inr x)) (inr (inr y)) = (omega (arith, x.2, y.2), omega (arith, y.2))

quotient_values : (a b c d v w : ℕ) → Grows a b → Grows c d → QuotientIs a c v → QuotientIs b d w → Grows v w
quotient_values a b c d v w p q (inl x) (inl y) = (omega (arith, x.1, y.1, p.0), omega (arith, y.1, p.1))
quotient_values a b c d v w p q (inl x) (inr y) = (omega (arith, x.1, y.1, p.0, p.1), omega (arith, y.1))
quotient_values a b c d v w p q (inr x) (inl y) = absurd (let n : ⊥ = omega (arith, x.0, y.0, q.0) in n)
quotient_values a b c d v w p q (inr x) (inr y) = (omega (arith, x.1, y.1), omega (arith, y.1))

product_grows : (a b c d : ℕ) → Grows a b → Grows c d → Grows (product_grade a c) (product_grade b d)
product_grows a b c d p q = product_values a b c d (product_grade a c) (product_grade b d) p q (product_is a c) (product_is b d)

quotient_grows : (a b c d : ℕ) → Grows a b → Grows c d → Grows (quotient_grade a c) (quotient_grade b d)
quotient_grows a b c d p q = quotient_values a b c d (quotient_grade a c) (quotient_grade b d) p q (quotient_is a c) (quotient_is b d)

-- what is graded adds its grade
graded_is : (n : ℕ) → n ≤ 2 → if_graded n ≡ n
graded_is zero l = refl
graded_is (suc zero) l = refl
graded_is (suc (suc zero)) l = refl
graded_is (suc (suc (suc n))) l = absurd (omega (arith, l))

graded_grows : (a b : ℕ) → Follows a b → Grows (if_graded a) (if_graded b)
graded_grows a b (inl p) =
    let low = graded_is a (omega (arith, p.0, p.1)) in
    let high = graded_is b p.1 in
    (omega (arith, low, high, p.0), omega (arith, high, p.1))
graded_grows a b (inr p) =
    let low : if_graded a ≡ 0 = ap (λ n. if_graded n) p.0 in
    let high : if_graded b ≡ 0 = ap (λ n. if_graded n) p.1 in
    (omega (arith, low, high), omega (arith, high))

module _ (f : FlatForm) (marks : List Bool) (closed : AreClosed f marks) (g h : Grading) (low : AreInRange marks g) (high : AreInRange marks h) (up : (m : Node) → grade_at g m ≤ grade_at h m) where
  -- an occurrence that is marked
  marked_grows : (k : ℕ) → get_or marks k false ≡ true → Grows (grade_of g k) (grade_of h k)
  marked_grows k e = (up (Occ k), high.graded k e)

  place_grows : (p : ℕ) → Grows (place_grade g p) (place_grade h p)
  place_grows p = (up (Place p), high.places p)

  follows : (k : ℕ) → Follows (grade_of g k) (grade_of h k)
  follows k = by_mark (get_or marks k false) refl
    where
      by_mark : (b : Bool) → get_or marks k false ≡ b → Follows (grade_of g k) (grade_of h k)
      by_mark true e = inl (marked_grows k e)
      by_mark false e = inr (low.others k e, high.others k e)

  op_grows : (op : Op) (ks : List ℕ) → ((j : ℕ) → Has ks j → Grows (grade_of g j) (grade_of h j)) → Grows (op_grade g op ks) (op_grade h op ks)
  op_grows AddFloat (a ∷ b ∷ []) all = max_grows (grade_of g a) (grade_of h a) (grade_of g b) (grade_of h b) (all a (record { index = 0; is = refl })) (all b (record { index = 1; is = refl }))
  op_grows SubFloat (a ∷ b ∷ []) all = max_grows (grade_of g a) (grade_of h a) (grade_of g b) (grade_of h b) (all a (record { index = 0; is = refl })) (all b (record { index = 1; is = refl }))
  op_grows MulFloat (a ∷ b ∷ []) all = product_grows (grade_of g a) (grade_of h a) (grade_of g b) (grade_of h b) (all a (record { index = 0; is = refl })) (all b (record { index = 1; is = refl }))
  op_grows DivFloat (a ∷ b ∷ []) all = quotient_grows (grade_of g a) (grade_of h a) (grade_of g b) (grade_of h b) (all a (record { index = 0; is = refl })) (all b (record { index = 1; is = refl }))
  op_grows NegFloat (a ∷ []) all = all a (record { index = 0; is = refl })
  op_grows op ks all = (omega arith, omega arith)

  form_grows : (form : Form) → ((j : ℕ) → Has (parts form) j → Grows (grade_of g j) (grade_of h j)) → Grows (form_grade g form) (form_grade h form)
  form_grows (Lit v) all = (omega arith, omega arith)
  form_grows (Read p) all = place_grows p
  form_grows (Last p) all = (omega arith, omega arith)
  form_grows (Apply op ks) all = op_grows op ks all
  form_grows (If c x y) all = max_grows (grade_of g x) (grade_of h x) (grade_of g y) (grade_of h y) (all x (record { index = 1; is = refl })) (all y (record { index = 2; is = refl }))
  form_grows (Arrow x y) all = all y (record { index = 1; is = refl })
  form_grows (Pre x) all = (omega arith, omega arith)
  form_grows (Result x) all = all x (record { index = 0; is = refl })
  form_grows (Up s) all = (omega arith, omega arith)
  form_grows (Fired ks) all = (omega arith, omega arith)
  form_grows Step all = (omega arith, omega arith)

  definers_grow : (ds : List Definer) → Grows (greatest_grade g ds) (greatest_grade h ds)
  definers_grow [] = (omega arith, omega arith)
  definers_grow (Input n ∷ ds) = max_grows 0 0 (greatest_grade g ds) (greatest_grade h ds) (omega arith, omega arith) (definers_grow ds)
  definers_grow (Plain b k ∷ ds) = max_grows (if_graded (grade_of g k)) (if_graded (grade_of h k)) (greatest_grade g ds) (greatest_grade h ds) (graded_grows (grade_of g k) (grade_of h k) (follows k)) (definers_grow ds)
  definers_grow (Der b slope arms ∷ ds) = max_grows 1 1 (greatest_grade g ds) (greatest_grade h ds) (omega arith, omega arith) (definers_grow ds)
  definers_grow (Start b k ∷ ds) = max_grows 0 0 (greatest_grade g ds) (greatest_grade h ds) (omega arith, omega arith) (definers_grow ds)

  occ_grows : (k : ℕ) → get_or marks k false ≡ true → (o : Option Occurrence) → slice_get f.occs k ≡ o → Grows (given_occ g true o) (given_occ h true o)
  occ_grows k e None is = (omega arith, omega arith)
  occ_grows k e (Some occ) is = form_grows occ.form (λ j has. marked_grows j (closed k j occ e is has))

  -- what the equation of a place gives, and of an occurrence that is marked
  pub given_place_grows : (p : ℕ) → Grows (given f marks g (Place p)) (given f marks h (Place p))
  given_place_grows p = by_case (slice_get f.places p)
    where
      by_case : (o : Option PlaceInfo) → Grows (given_place g o) (given_place h o)
      by_case None = (omega arith, omega arith)
      by_case (Some place) = definers_grow place.definers

  pub given_occ_grows : (k : ℕ) → get_or marks k false ≡ true → Grows (given f marks g (Occ k)) (given f marks h (Occ k))
  given_occ_grows k e = by_mark (get_or marks k false) e
    where
      by_mark : (b : Bool) → b ≡ true → Grows (given_occ g b (slice_get f.occs k)) (given_occ h b (slice_get f.occs k))
      by_mark true s = occ_grows k e (slice_get f.occs k) refl
      by_mark false s = absurd (let x : ⊥ = cc in x)

  -- no equation gives less
  pub given_up : (node : Node) → given f marks g node ≤ given f marks h node
  given_up (Place p) = (given_place_grows p).0
  given_up (Occ k) = by_mark (get_or marks k false) refl
    where
      by_mark : (b : Bool) → get_or marks k false ≡ b → given_occ g b (slice_get f.occs k) ≤ given_occ h b (slice_get f.occs k)
      by_mark true e = (occ_grows k e (slice_get f.occs k) refl).0
      by_mark false e = omega arith

-- what isn't marked has 3
pub given_other : (f : FlatForm) (marks : List Bool) (g : Grading) (k : ℕ) → get_or marks k false ≡ false → given f marks g (Occ k) ≡ 3
given_other f marks g k e = ap (λ b. given_occ g b (slice_get f.occs k)) e
