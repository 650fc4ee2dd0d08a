-- The flow after an instant: what is evaluated at its start and has a number there has one at moment 1 too, and what has grade
-- 0 the same.
use Rattle.std.specs.Prelude.{◌≡◌, ℕ, ◌≤◌, Bool, true, false, not, ◌&&◌, if◌then◌else◌, [], ◌∷◌, slice_get, get_or, Option, Some}
use Rattle.std.proofs.Common.{refl, ap, ap₂, ◌∙◌, arith, subst, inl, inr}
use Rattle.zl_value.specs.Fraction.{Fraction, IsReduced, sub, fits}
use Rattle.zl_value.specs.Times.{nought, unit}
use Rattle.zl_value.specs.declared.value.Value.{Value}
use Rattle.zl_value.specs.declared.value.Value.TheVariants.{F}
use Rattle.zl_value.specs.declared.value.Ty.TheVariants.{Bool as BoolTy, Int, Float}
use Rattle.zl_value.proofs.FractionLaws.{sub-self}
use Rattle.zl_meaning.specs.FlatForm.{FlatForm}
use Rattle.zl_meaning.specs.State.{AtPlace, AtUsed, AtValue, if_used}
use Rattle.zl_meaning.specs.History.{is_live}
use Rattle.zl_meaning.specs.Places.{last_of}
use Rattle.zl_meaning.specs.Slopes.{all_fine, sources, slope_fits, less}
use Rattle.zl_meaning.proofs.GradesKept.OfTypes.{IsOf}
use Rattle.zl_meaning.specs.Grades.{Grading, grade_of}
use Rattle.zl_meaning.specs.KeepsGrades.{IsMoment, IsStillType}
use Rattle.zl_meaning.specs.WellFormed.{IsWellFormed}
use Rattle.zl_meaning.specs.declared.place.PlaceInfo.{PlaceInfo}
use Rattle.zl_meaning.specs.declared.occurrence.Form.{Form}
use Rattle.zl_meaning.specs.declared.occurrence.Occ.{Occ}
use Rattle.zl_meaning.proofs.WrittenForms.{at-start, at-unit}
use Rattle.zl_normal.specs.MainBlock.{IsMain}
use Rattle.zl_normal.proofs.Values.Entries.{last_if}
use Rattle.zl_normal.proofs.Slopes.FlowValues.{InFlowOf, IsNumber, is_number, V, M, live_then, fine_at}

pub nought_fits : fits nought ≡ true
unfolding fits
nought_fits = refl

pub and_true : (a b : Bool) → a ≡ true → b ≡ true → (a && b) ≡ true
and_true a b p q = rw (p, q) refl

pub below_zero : (a b : ℕ) → a ≤ b → b ≡ 0 → a ≡ 0
below_zero a b l e = omega (arith, l, e)

pub no_more : (a b : ℕ) → a ≤ b → b ≤ 1 → a ≤ 1
no_more a b l e = omega (arith, l, e)

module _ (f : FlatForm) (g : Grading) (main : IsMain f) (formed : IsWellFormed f) (c : InFlowOf f g) where
  abbrev pub fine_of : ℕ → Bool
  fine_of k = get_or c.fine k true

  -- it has a number at moment 1, the one that it has where it is of grade 0
  pub record MovesTo (k : ℕ) (a : Fraction) : Type 0 where
    pub b : Fraction
    pub there : V f g main c unit (AtValue k) ≡ Some (F b)
    pub still : grade_of c.whole k ≡ 0 → (b ≡ a) × (fine_of k ≡ true)

  abbrev pub Moves : ℕ → Type 0
  Moves k = (occ : Occ) → slice_get f.occs k ≡ Some occ → occ.ty ≡ Float → grade_of c.whole k ≤ 1 → V f g main c nought (AtUsed k) ≡ true → (a : Fraction) → V f g main c nought (AtValue k) ≡ Some (F a) → MovesTo k a

  pub number_of : (s : Fraction) → IsMoment s → (k : ℕ) (occ : Occ) → slice_get f.occs k ≡ Some occ → occ.ty ≡ Float → (v : Value) → V f g main c s (AtValue k) ≡ Some v → IsNumber (V f g main c s (AtValue k))
  number_of s m k occ is ty v e = is_number (V f g main c s (AtValue k)) v (subst (λ t. IsOf t (V f g main c s (AtValue k))) ty (c.typed s m (AtValue k) occ is)) e

  pub reduced_of : (s : Fraction) → IsMoment s → (k : ℕ) (occ : Occ) → slice_get f.occs k ≡ Some occ → occ.ty ≡ Float → (a : Fraction) → V f g main c s (AtValue k) ≡ Some (F a) → IsReduced a
  reduced_of s m k occ is ty a e = subst (λ x. IsOf Float x) e (subst (λ t. IsOf t (V f g main c s (AtValue k))) ty (c.typed s m (AtValue k) occ is))

  -- what stands still is fine where what it is made from is
  pub fine_still : (k : ℕ) (occ : Occ) (form : Form) → slice_get f.occs k ≡ Some occ → occ.form ≡ form → occ.ty ≡ Float → (a b : Fraction) → V f g main c nought (AtValue k) ≡ Some (F a) → V f g main c unit (AtValue k) ≡ Some (F b) → b ≡ a → all_fine c.fine (sources f (V f g main c nought) form) ≡ true → fine_of k ≡ true
  fine_still k occ form is e ty a b p q same all =
      fine_at f g main c k occ form is e
      ∙ and_true _ _
      (ap₂ (λ x y. slope_fits (less x y)) q p ∙ ap (λ x. fits (sub x a)) same ∙ ap (λ x. fits x) (sub-self a (reduced_of nought at-start k occ is ty a p).above) ∙ nought_fits)
      all

  -- what has the same value at all moments
  pub leaf : (k : ℕ) (occ : Occ) (form : Form) → slice_get f.occs k ≡ Some occ → occ.form ≡ form → occ.ty ≡ Float → (a : Fraction) → V f g main c nought (AtValue k) ≡ Some (F a) → V f g main c unit (AtValue k) ≡ V f g main c nought (AtValue k) → sources f (V f g main c nought) form ≡ [] → MovesTo k a
  leaf k occ form is e ty a p same none = record {
    b = a;
    there = same ∙ p;
    still = λ z. (refl, fine_still k occ form is e ty a a p (same ∙ p) refl (ap (λ l. all_fine c.fine l) none));
  }

  -- what has the value of a part
  pub alias : (k x : ℕ) (occ xocc : Occ) (form : Form) → slice_get f.occs k ≡ Some occ → occ.form ≡ form → occ.ty ≡ Float → slice_get f.occs x ≡ Some xocc → xocc.ty ≡ Float → (a : Fraction) → V f g main c nought (AtValue k) ≡ Some (F a) → V f g main c nought (AtValue k) ≡ V f g main c nought (AtValue x) → V f g main c unit (AtValue k) ≡ V f g main c unit (AtValue x) → grade_of c.whole x ≤ grade_of c.whole k → sources f (V f g main c nought) form ≡ x ∷ [] → MovesTo x a → MovesTo k a
  alias k x occ xocc form is e ty at xty a p start end low one moves = record {
    b = moves.b;
    there = end ∙ moves.there;
    still = λ z.
        let s = moves.still (below_zero _ _ low z) in
        (s.0, fine_still k occ form is e ty a moves.b p (end ∙ moves.there) s.0 (ap (λ l. all_fine c.fine l) one ∙ and_true _ _ s.1 refl));
  }

  -- `last` of a place is what it was at the instant
  pub last_there : (s : Fraction) → IsMoment s → (p : ℕ) (place : PlaceInfo) → slice_get f.places p ≡ Some place → last_of (M f g main c s) (V f g main c s) p (slice_get f.places p) ≡ (M f g main c nought).before (AtPlace p)
  last_there s m p place is =
      ap (λ o. last_of (M f g main c s) (V f g main c s) p o) is
      ∙ last_if f main (M f g main c s) (V f g main c s) (c.solves s m) (live_then f g main c s) p place is
      ∙ by (is_live 0 (c.j ∷ c.h)) c.live _ _
    where
      by : (b : Bool) → b ≡ true → (x y : Option Value) → (if not b then x else y) ≡ y
      by b e x y = rw e refl

  -- what has a type that stands still has the same value
  still_value : (x : ℕ) (occ : Occ) → slice_get f.occs x ≡ Some occ → IsStillType occ.ty → V f g main c nought (AtUsed x) ≡ true → (v : Value) → V f g main c nought (AtValue x) ≡ Some v → V f g main c unit (AtValue x) ≡ Some v
  still_value x occ is ty used v e =
      shown (V f g main c unit (AtUsed x)) (V f g main c unit (AtValue x)) v
      (c.keeps.still_types x occ is ty unit at-unit ∙ ap₂ (λ b o. if_used b o) used e)
    where
      shown : (b : Bool) (o : Option Value) (v : Value) → if_used b o ≡ Some v → o ≡ Some v
      shown true o v e = e
      shown false o v e = absurd cc

  pub same_test : (x : ℕ) (occ : Occ) → slice_get f.occs x ≡ Some occ → occ.ty ≡ BoolTy → V f g main c nought (AtUsed x) ≡ true → (v : Value) → V f g main c nought (AtValue x) ≡ Some v → V f g main c unit (AtValue x) ≡ Some v
  same_test x occ is ty = still_value x occ is (inl ty)

  pub same_int : (x : ℕ) (occ : Occ) → slice_get f.occs x ≡ Some occ → occ.ty ≡ Int → V f g main c nought (AtUsed x) ≡ true → (v : Value) → V f g main c nought (AtValue x) ≡ Some v → V f g main c unit (AtValue x) ≡ Some v
  same_int x occ is ty = still_value x occ is (inr ty)
