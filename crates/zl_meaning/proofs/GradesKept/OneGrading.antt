-- A form has one table of grades at most: by rank, two tables have one grade at each entry.
use Rattle.std.specs.List.{AllByRecursion}
use Rattle.std.specs.Prelude.{◌≡◌, ℕ, zero, suc, ◌<◌, max, nat_eq, Bool, true, false, List, [], ◌∷◌, slice_get, Option, Some, None, ⊤}
use Rattle.std.proofs.Common.{refl, sym, ap, ap₂, ◌∙◌, arith, eqb-true, ⊎_elim}
use Rattle.std.proofs.lemmas.Bool.{eqb-false}
use Rattle.std.proofs.lemmas.List.{ext_get_or}
use Rattle.std.proofs.lemmas.List.{get_or_past}
use Rattle.std.proofs.lemmas.Option.{slice_get_cases}
use Rattle.zl_value.specs.declared.op.Op.{Op}
use Rattle.zl_value.specs.declared.op.Op.TheVariants.{AddFloat, SubFloat, MulFloat, DivFloat, NegFloat}
use Rattle.zl_meaning.specs.FlatForm.{FlatForm}
use Rattle.zl_meaning.specs.State.{Node, AtControl, AtReset, AtLater, AtEntry, AtRunning, AtStrong, AtWeak, AtPlace, AtUsed, AtValue}
use Rattle.zl_meaning.specs.Reading.{ReadsValues, ReadsDefiner, ReadsPlace, ReadsForm, ReadsValue, HasNodeRanks}
use Rattle.zl_meaning.specs.WellFormed.{IsWellFormed}
use Rattle.zl_meaning.specs.Causality.{HasRanks}
use Rattle.zl_meaning.specs.Grades.{Grading, grade_of, place_grade, IsGraded, product_grade, quotient_grade, op_grade, form_grade, if_graded, greatest_grade, AreGrades}
use Rattle.zl_meaning.specs.declared.place.Definer.{Definer}
use Rattle.zl_meaning.specs.declared.place.Definer.TheVariants.{Input, Plain, Der, Start}
use Rattle.zl_meaning.specs.declared.place.PlaceInfo.{PlaceInfo}
use Rattle.zl_meaning.specs.declared.occurrence.Form.{Form}
use Rattle.zl_meaning.specs.declared.occurrence.Form.TheVariants.{Read, Op as Apply, If, Arrow, Result}
use Rattle.zl_meaning.specs.declared.occurrence.Occ.{Occ}
use Rattle.zl_meaning.proofs.LevelsOfRanks.{levels-of-ranks}
use Rattle.zl_meaning.proofs.RanksOfLevels.{ranks-of-levels}
use Rattle.zl_meaning.proofs.GradesKept.UsedFlow.{none_some}

-- the table of these lists
abbrev made : List ℕ → List ℕ → Grading
made occs places = record { occs = occs; places = places }

module _ (f : FlatForm) (r : HasNodeRanks f) (g h : Grading) (is_g : AreGrades f g) (is_h : AreGrades f h) where
  -- both have the same grade there
  abbrev SameAt : Node → Type 0
  SameAt (AtPlace p) = place_grade g p ≡ place_grade h p
  SameAt (AtValue k) = grade_of g k ≡ grade_of h k
  SameAt _ = Unit {0}

  module _ (n : ℕ) (below : (a : Node) → r.rank a < n → SameAt a) where
    occs : (k : ℕ) → r.rank (AtValue k) < n → grade_of g k ≡ grade_of h k
    occs k l = below (AtValue k) l

    -- an operator
    op_same : (op : Op) (ks : List ℕ) → ReadsValues (λ a. r.rank a < n) ks → op_grade g op ks ≡ op_grade h op ks
    op_same AddFloat (a ∷ b ∷ []) l = ap₂ (λ x y. max x y) (occs a l.0) (occs b l.1.0)
    op_same SubFloat (a ∷ b ∷ []) l = ap₂ (λ x y. max x y) (occs a l.0) (occs b l.1.0)
    op_same MulFloat (a ∷ b ∷ []) l = ap₂ (λ x y. product_grade x y) (occs a l.0) (occs b l.1.0)
    op_same DivFloat (a ∷ b ∷ []) l = ap₂ (λ x y. quotient_grade x y) (occs a l.0) (occs b l.1.0)
    op_same NegFloat (a ∷ []) l = occs a l.0
    op_same op ks l = refl

    -- an occurrence by its form
    form_same : (b : ℕ) (form : Form) → ReadsForm f (λ a. r.rank a < n) (λ a. ⊤) b form → form_grade g form ≡ form_grade h form
    form_same b (Read p) l = below (AtPlace p) l
    form_same b (Result x) l = occs x l
    form_same b (Apply op ks) l = op_same op ks l
    form_same b (If c x y) l = ap₂ (λ x y. max x y) (occs x l.1) (occs y l.2)
    form_same b (Arrow x y) l = occs y l.2
    form_same b form l = refl

    -- a place by its definers
    definers_same : (p : ℕ) (ds : List Definer) → AllByRecursion (ReadsDefiner (λ a. r.rank a < n) (λ a. ⊤) p) ds → greatest_grade g ds ≡ greatest_grade h ds
    definers_same p [] l = refl
    definers_same p (Input m ∷ ds) l = ap (λ x. max 0 x) (definers_same p ds l.1)
    definers_same p (Plain b k ∷ ds) l = ap₂ (λ x y. max (if_graded x) y) (occs k l.0.1) (definers_same p ds l.1)
    definers_same p (Der b slope arms ∷ ds) l = ap (λ x. max 1 x) (definers_same p ds l.1)
    definers_same p (Start b k ∷ ds) l = ap (λ x. max 0 x) (definers_same p ds l.1)

    -- none has a place that isn't there
    past_end : (p : ℕ) (t : Grading) → AreGrades f t → slice_get f.places p ≡ None → place_grade t p ≡ 0
    past_end p t is_t none =
        ⊎_elim (λ there. absurd (none_some (sym none ∙ there.2))) (λ past. let low = past.0 in let same = is_t.places_length in get_or_past t.places p 0 (omega (arith, low, same))) (slice_get_cases f.places p).1

    place_same : (p : ℕ) (o : Option PlaceInfo) → slice_get f.places p ≡ o → ReadsPlace (λ a. r.rank a < n) (λ a. ⊤) p o → place_grade g p ≡ place_grade h p
    place_same p None is l = past_end p g is_g is ∙ sym (past_end p h is_h is)
    place_same p (Some place) is l = is_g.places p place is ∙ definers_same p place.definers l.2 ∙ sym (is_h.places p place is)

    -- what is graded has the grade of its form, and anything else has 3
    occ_same : (k : ℕ) (o : Option Occ) → slice_get f.occs k ≡ o → ReadsValue f (λ a. r.rank a < n) (λ a. ⊤) o → grade_of g k ≡ grade_of h k
    occ_same k None is l = is_g.others k none ∙ sym (is_h.others k none)
      where
        none : IsGraded f k → ⊥
        none graded = none_some (sym is ∙ graded.is)
    occ_same k (Some occ) is l = by_test (nat_eq (grade_of g k) (grade_of h k)) refl
      where
        ungraded : nat_eq (grade_of g k) (grade_of h k) ≡ false → IsGraded f k → ⊥
        ungraded e graded = eqb-false (grade_of g k) (grade_of h k) e (is_g.graded k occ is graded ∙ form_same occ.block occ.form l.1 ∙ sym (is_h.graded k occ is graded))

        by_test : (t : Bool) → nat_eq (grade_of g k) (grade_of h k) ≡ t → grade_of g k ≡ grade_of h k
        by_test true e = eqb-true (grade_of g k) (grade_of h k) e
        by_test false e = is_g.others k (ungraded e) ∙ sym (is_h.others k (ungraded e))

  -- by rank
  same_below : (n : ℕ) (a : Node) → r.rank a < n → SameAt a
  same_below zero a l = absurd (omega (arith, l))
  same_below (suc n) (AtPlace p) l = place_same (r.rank (AtPlace p)) (λ a low. same_below n a (omega (arith, l, low))) p (slice_get f.places p) refl (r.lower (AtPlace p))
  same_below (suc n) (AtValue k) l = occ_same (r.rank (AtValue k)) (λ a low. same_below n a (omega (arith, l, low))) k (slice_get f.occs k) refl (r.lower (AtValue k))
  same_below (suc n) (AtControl b) l = tt
  same_below (suc n) (AtReset b) l = tt
  same_below (suc n) (AtLater b) l = tt
  same_below (suc n) (AtEntry a) l = tt
  same_below (suc n) (AtRunning a) l = tt
  same_below (suc n) (AtStrong a) l = tt
  same_below (suc n) (AtWeak a) l = tt
  same_below (suc n) (AtUsed k) l = tt

  same_at : (a : Node) → SameAt a
  same_at a = same_below (suc (r.rank a)) a (omega arith)

  -- so they are one
  same_grading : g ≡ h
  same_grading =
      let occs = ext_get_or 3 g.occs h.occs (is_g.occs_length ∙ sym is_h.occs_length) (λ k low. same_at (AtValue k)) in
      let places = ext_get_or 0 g.places h.places (is_g.places_length ∙ sym is_h.places_length) (λ p low. same_at (AtPlace p)) in
      ap₂ (λ o p. made o p) occs places

-- a well-formed form with ranks has one table of grades at most
pub has_one_grading : (f : FlatForm) → IsWellFormed f → HasRanks f → (g h : Grading) → AreGrades f g → AreGrades f h → g ≡ h
has_one_grading f formed ranks g h is_g is_h = same_grading f (ranks-of-levels f formed (levels-of-ranks f formed ranks.of_places ranks.of_blocks ranks.grow)) g h is_g is_h
