-- The grades of the simplest form with a flow.
use Rattle.std.specs.Prelude.{◌≡◌, ℕ, zero, suc, List, [], ◌∷◌, slice_get, Option, Some, None}
use Rattle.std.specs.Option.{option_and_then}
use Rattle.std.proofs.Common.{refl, sym, ap, ◌∙◌, subst}
use Rattle.zl_value.specs.Lists.{Has}
use Rattle.zl_value.specs.declared.thin.Thin.{Thin}
use Rattle.zl_meaning.specs.FlatForm.{call_of}
use Rattle.zl_meaning.specs.Uses.{Use, StartOf, ResetOf, SlopeOf, parts, uses_of}
use Rattle.zl_meaning.specs.Branches.{IsPart, Under, Is, Part, Called}
use Rattle.zl_meaning.proofs.UseCases.{listed-of-use, use-of-listed}
use Rattle.zl_meaning.specs.Grades.{Grading, grade_of, place_grade, form_grade, greatest_grade, IsGraded}
use Rattle.zl_meaning.specs.declared.place.PlaceInfo.{PlaceInfo}
use Rattle.zl_meaning.specs.declared.occurrence.Occ.{Occ}
use Rattle.zl_meaning.specs.ThinForm.{ThinText, thin_form, thin_grades, ThinIsGraded}
use Rattle.zl_meaning.proofs.NodeRanks.{numbered}

abbrev grading : Grading
grading = record { occs = thin_grades; places = 1 ∷ [] }

none_some : {X : Type 0} {x : X} → None ≡ Some x → ⊥
none_some p = cc

has_none : {X : Type 0} {x : X} → Has [] x → ⊥
has_none h = none_some h.is

abbrev parts_in : Option Occ → List ℕ
parts_in None = []
parts_in (Some occ) = parts occ.form

module _ (thin : Thin) (text : ThinText) where
  -- nothing is a part, nor stands in a call: what stands under a use is used so
  no_part : (k whole : ℕ) → IsPart (thin_form thin text) k whole → ⊥
  no_part k whole part =
      let none : parts_in (slice_get (thin_form thin text).occs whole) ≡ [] = numbered (λ n o. parts_in o ≡ []) (thin_form thin text).occs (λ n. refl) (refl, (refl, (refl, tt))) whole in
      let empty : parts part.occ.form ≡ [] = sym (ap (λ o. parts_in o) part.is) ∙ none in
      let H : List ℕ → Type 0 = λ ks. Has ks k in
      has_none (subst H empty part.part)

  no_call : (k call : ℕ) → call_of (thin_form thin text) k ≡ Some call → ⊥
  no_call k call is =
      let none : call_of (thin_form thin text) k ≡ None = numbered (λ n o. option_and_then (λ (occ : Occ). occ.call) o ≡ None) (thin_form thin text).occs (λ n. refl) (refl, (refl, (refl, tt))) k in
      none_some (sym none ∙ is)

  used_so : (of : Use) (k : ℕ) → Under (thin_form thin text) of k → Has (uses_of (thin_form thin text) k) of
  used_so of _ (Is k u) = listed-of-use (thin_form thin text) k of u
  used_so of _ (Part k whole part under) = absurd (no_part k whole part)
  used_so of _ (Called k call is under) = absurd (no_call k call is)

  no_start : {call : Option ℕ} {b : ℕ} → Has (SlopeOf None ∷ []) (StartOf call b) → ⊥
  no_start {call} {b} h = at h.index h.is
    where
      at : (n : ℕ) → slice_get (SlopeOf None ∷ []) n ≡ Some (StartOf call b) → ⊥
      at zero p = cc
      at (suc n) p = none_some p

  no_reset : {call : Option ℕ} {events : List ℕ} {arm : ℕ} → Has (SlopeOf None ∷ []) (ResetOf call events arm) → ⊥
  no_reset {call} {events} {arm} h = at h.index h.is
    where
      at : (n : ℕ) → slice_get (SlopeOf None ∷ []) n ≡ Some (ResetOf call events arm) → ⊥
      at zero p = cc
      at (suc n) p = none_some p

  result_is : IsGraded (thin_form thin text) 0
  result_is = record {
    occ = _;
    is = refl;
    hybrid = refl;
    value = refl;
    start = λ call b u. has_none (used_so (StartOf call b) 0 u);
    reset = λ call events arm u. has_none (used_so (ResetOf call events arm) 0 u);
  }

  slope_is : IsGraded (thin_form thin text) 1
  slope_is = record {
    occ = _;
    is = refl;
    hybrid = refl;
    value = refl;
    start = λ call b u. no_start (used_so (StartOf call b) 1 u);
    reset = λ call events arm u. no_reset (used_so (ResetOf call events arm) 1 u);
  }

  start_is : IsGraded (thin_form thin text) 2 → ⊥
  start_is g = g.start None 0 (Is 2 (use-of-listed (thin_form thin text) 2 (StartOf None 0) (record { index = 0; is = refl })))

  GradedAt : ℕ → Option Occ → Type 0
  GradedAt k None = Unit {0}
  GradedAt k (Some occ) = IsGraded (thin_form thin text) k → grade_of grading k ≡ form_grade grading occ.form

  PlaceAt : ℕ → Option PlaceInfo → Type 0
  PlaceAt p None = Unit {0}
  PlaceAt p (Some place) = place_grade grading p ≡ greatest_grade grading place.definers

  graded_is : (k : ℕ) (occ : Occ) → slice_get (thin_form thin text).occs k ≡ Some occ → IsGraded (thin_form thin text) k → grade_of grading k ≡ form_grade grading occ.form
  unfolding GradedAt
  graded_is k occ is =
      let T : Option Occ → Type 0 = λ o. GradedAt k o in
      subst T is (numbered GradedAt (thin_form thin text).occs (λ n. tt) ((λ g. refl), ((λ g. refl), ((λ g. absurd (start_is g)), tt))) k)

  others_are : (k : ℕ) → (IsGraded (thin_form thin text) k → ⊥) → grade_of grading k ≡ 3
  others_are zero n = absurd (n result_is)
  others_are (suc zero) n = absurd (n slope_is)
  others_are (suc (suc zero)) n = refl
  others_are (suc (suc (suc k))) n = refl

  places_are : (p : ℕ) (place : PlaceInfo) → slice_get (thin_form thin text).places p ≡ Some place → place_grade grading p ≡ greatest_grade grading place.definers
  unfolding PlaceAt
  places_are p place is =
      let T : Option PlaceInfo → Type 0 = λ o. PlaceAt p o in
      subst T is (numbered PlaceAt (thin_form thin text).places (λ n. tt) (refl, tt) p)

pub thin_graded : ThinIsGraded
thin_graded thin text = record {
  occs_length = refl;
  places_length = refl;
  graded = graded_is thin text;
  others = others_are thin text;
  places = places_are thin text;
}
