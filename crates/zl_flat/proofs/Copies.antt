-- The flat form of a program keeps copies: what stands in which copy of a body.
use Rattle.std.proofs.Common.{◌≡◌, ℕ, List, slice_get, Some, subst, arith}
use Rattle.zl_value.specs.Lists.{Has}
use Rattle.zl_meaning.specs.FlatForm.{FlatForm}
use Rattle.zl_meaning.specs.Uses.{AgainOf, IsUse, AsAgain, uses_of}
use Rattle.zl_meaning.specs.Copies.{KeepsCopies}
use Rattle.zl_meaning.specs.Single.{IsOneUse}
use Rattle.zl_meaning.specs.WellFormed.{HasHeights, IsDeclared}
use Rattle.zl_meaning.specs.declared.occurrence.Form.TheVariants.{Read}
use Rattle.zl_meaning.specs.declared.occurrence.Occ.{Occ}
use Rattle.zl_meaning.proofs.Members.{has-none}
use Rattle.zl_flat.specs.Expansion.{MainOf, main_form}
use Rattle.zl_flat.proofs.WellFormedDecls.{IsMainKept}
use Rattle.zl_flat.proofs.WellFormedOrder.{IsMainInOrder}
use Rattle.zl_flat.proofs.WellFormedHeightsForm.{main-heights}
use Rattle.zl_flat.proofs.WellFormedReads.{FormPlaced}
use Rattle.zl_flat.proofs.WellFormedReadsMain.{FormPlaces, main-places}
use Rattle.zl_flat.proofs.UsesBranches.{KeepsCalls, HasContexts, calm-inside}
use Rattle.zl_flat.proofs.UsesCallsMain.{main-calls}
use Rattle.zl_flat.proofs.UsesSingle.{main-uses}
use Rattle.zl_flat.proofs.UsesProgram.{main-variables}
use Rattle.zl_flat.proofs.CopiesCalls.{parts-called, results-called, calls-called, definers-called, names-called}
use Rattle.zl_flat.proofs.CopiesSites.{sites-apart}

module _ (f : FlatForm) (keeps : KeepsCalls f) (places : FormPlaces f) (contexts : HasContexts f) (heights : HasHeights f) (once : (k : ℕ) (occ : Occ) → slice_get f.occs k ≡ Some occ → IsOneUse f k (uses_of f k)) where
  -- a name stands in the block of its place, or inside it
  names-declared : (k p : ℕ) (occ : Occ) → slice_get f.occs k ≡ Some occ → occ.form ≡ Read p → IsDeclared f occ.block p
  names-declared k p occ is form = let placed = subst (FormPlaced f occ.block occ.ty) form (places.occs k occ is) in placed.1

  -- nothing is evaluated again
  none-again : (k : ℕ) → IsUse f k AgainOf → ⊥
  none-again k (AsAgain has) = has-none k (subst (λ ks. Has ks k) keeps.again has)

  -- a form that keeps calls and places, in which occurrences have contexts and one use each, keeps copies
  form-copies : KeepsCopies f
  form-copies = record {
    parts = parts-called f keeps;
    results = results-called f keeps;
    calls = calls-called f keeps;
    definers = definers-called f keeps;
    names = names-called f keeps;
    declared = names-declared;
    sites = sites-apart f keeps contexts once (λ k c occ is call calm. calm-inside f keeps contexts heights (heights.height c) k c occ is call calm (omega arith));
    again = λ k apart again. none-again k again;
  }

-- the form of `main` keeps copies, where its occurrences have contexts
pub main-copies : (names : List (List ℕ)) (m : MainOf) → IsMainKept names m → IsMainInOrder names m → HasContexts (main_form names m) → KeepsCopies (main_form names m)
main-copies names m kept order contexts =
    let variables = main-variables names m kept in
    form-copies (main_form names m) (main-calls names m kept variables) (main-places names m order) contexts (main-heights names m kept) (main-uses names m kept variables)
