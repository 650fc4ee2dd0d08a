-- In the flat form of a program each occurrence has one use, or is the result of a call that nothing uses, which a definer
-- names too; that definer's place has the call's own call.
use Rattle.std.proofs.Common.{◌≡◌, ◌⊎◌, inl, inr, ℕ, List, [], ◌∷◌, slice_get, Option, Some, refl, sym, ap, subst, ◌∙◌}
use Rattle.std.specs.Option.{option_and_then}
use Rattle.zl_value.specs.Lists.{Has}
use Rattle.zl_meaning.specs.FlatForm.{FlatForm, HasForm, call_of}
use Rattle.zl_meaning.specs.Uses.{Use, PartOf, DefinerOf, IsUse, AsDefiner, IsUnused, uses_of}
use Rattle.zl_meaning.specs.WellFormed.{HasHeights, KeepsBranches}
use Rattle.zl_meaning.specs.Regular.{IsRegular}
use Rattle.zl_meaning.specs.Single.{IsOneUse, Unused, Once, OfCall}
use Rattle.zl_meaning.specs.declared.place.Definer.TheVariants.{Plain}
use Rattle.zl_meaning.specs.declared.place.PlaceInfo.{PlaceInfo}
use Rattle.zl_meaning.specs.declared.occurrence.Form.TheVariants.{Result}
use Rattle.zl_meaning.specs.declared.occurrence.Occ.{Occ}
use Rattle.zl_meaning.proofs.UseCases.{use-of-listed}
use Rattle.zl_flat.specs.Expansion.{MainOf, main_form}
use Rattle.zl_flat.proofs.WellFormedDecls.{IsMainKept}
use Rattle.zl_flat.proofs.UsesNamed.{all-has, listed-unused}
use Rattle.zl_flat.proofs.UsesBranches.{HasCall, IsOfUnused, IsNoResult, KeepsCalls, same-occ, same-number, result-call, named-call, keeps-branches}
use Rattle.zl_flat.proofs.UsesCallsMain.{AreVariablesCalled, main-calls}
use Rattle.zl_flat.proofs.UsesOnce as once
use Rattle.zl_flat.proofs.UsesOnce.{AreUses, main-counted}

module _ (f : FlatForm) (keeps : KeepsCalls f) (k whole : ℕ) (is : HasForm f whole (Result k)) where
  -- a place whose definer names the result of a call has the call's own call, and nothing uses the call
  pub record IsNamedAside (call : Option ℕ) : Type 0 where
    pub outer : call_of f whole ≡ call
    pub unused : IsUnused f whole

  -- the result stands in the call
  own : HasCall f (Some whole) k
  own = result-call f keeps k whole is.0 is.1 is.2

  -- a definer of place number `p` names it
  by-place : (p b : ℕ) (place : PlaceInfo) → slice_get f.places p ≡ Some place → Has place.definers (Plain b k) → HasCall f place.call k ⊎ IsOfUnused f place.call k → IsNamedAside place.call
  by-place p b place there has (inl a) =
      let same = same-occ a.occ own.occ (slice_get f.occs k) a.is own.is in
      let call_is : place.call ≡ Some whole = sym a.call_is ∙ ap (λ (o : Occ). o.call) same ∙ own.call_is in
      absurd (all-has (IsNoResult f place.call) place.definers (Plain b k) (keeps.results p place there) has whole k b call_is is refl)
  by-place p b place there has (inr a) =
      let same = same-occ a.occ own.occ (slice_get f.occs k) a.is own.is in
      let whole_is : a.whole ≡ whole = same-number a.whole whole (sym a.call_is ∙ ap (λ (o : Occ). o.call) same ∙ own.call_is) in
      record {
        outer = subst (λ n. call_of f n ≡ place.call) whole_is (ap (option_and_then (λ (o : Occ). o.call)) a.own_is ∙ a.own_call);
        unused = subst (IsUnused f) whole_is (listed-unused f a.whole a.unused);
      }

  -- so where a definer uses it
  pub by-definer : (call : Option ℕ) → IsUse f k (DefinerOf call) → IsNamedAside call
  by-definer call (AsDefiner p b c has at) =
      let place = has.0 in
      let call_is : place.call ≡ call = sym (ap (option_and_then (λ (x : PlaceInfo). x.call)) has.1) ∙ at in
      subst IsNamedAside call_is (by-place p b place has.1 has.2 (named-call f keeps p k place (Plain b k) has.1 has.2 (record { index = 0; is = refl })))

module _ (f : FlatForm) (keeps : KeepsCalls f) (k : ℕ) where
  -- uses that are counted are those of an occurrence that has one
  one-use : (us : List Use) → uses_of f k ≡ us → AreUses f k us → IsOneUse f k us
  one-use us e once.Unused = Unused
  one-use us e (once.Once of) = Once of
  one-use us e (once.OfCall whole call is) =
      let has : Has (uses_of f k) (DefinerOf call) = subst (λ xs. Has xs (DefinerOf call)) (sym e) (record { index = 1; is = refl }) in
      let a = by-definer f keeps k whole is call (use-of-listed f k (DefinerOf call) has) in
      subst (λ c. IsOneUse f k (PartOf whole ∷ DefinerOf c ∷ [])) a.outer (OfCall whole is a.unused)

-- the field `uses` of what is single
pub main-uses : (names : List (List ℕ)) (m : MainOf) → IsMainKept names m → AreVariablesCalled (main_form names m) names m → (k : ℕ) (occ : Occ) → slice_get (main_form names m).occs k ≡ Some occ → IsOneUse (main_form names m) k (uses_of (main_form names m) k)
main-uses names m kept variables k occ is = let f = main_form names m in one-use f (main-calls names m kept variables) k (uses_of f k) refl (main-counted names m kept k occ is)

-- the field `branches` of what is well-formed
pub main-branches : (names : List (List ℕ)) (m : MainOf) → IsMainKept names m → AreVariablesCalled (main_form names m) names m → IsRegular (main_form names m) → HasHeights (main_form names m) → KeepsBranches (main_form names m)
main-branches names m kept variables regular heights = keeps-branches (main_form names m) (main-calls names m kept variables) (record { context = regular.context; occs = regular.occs }) heights (main-uses names m kept variables)
