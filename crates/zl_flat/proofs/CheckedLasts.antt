-- A `last` of a place in the copy of a call stands in that copy, in the flat form of each program that keeps the rules.
use Rattle.std.proofs.Common.{ℕ, List, sym, ap, subst}
use Rattle.std.specs.Option.{option_and_then}
use Rattle.zl_meaning.specs.FlatForm.{FlatForm, place_call}
use Rattle.zl_meaning.specs.declared.occurrence.Occ.{Occ}
use Rattle.zl_flat.specs.Expansion.{MainOf, main_form}
use Rattle.zl_flat.specs.Lasts.{HasLastsInCopies, LastsStandInCopies}
use Rattle.zl_flat.proofs.WellFormedDecls.{IsMainKept}
use Rattle.zl_flat.proofs.UsesBranches.{KeepsCalls}
use Rattle.zl_flat.proofs.UsesCallsMain.{main-calls}
use Rattle.zl_flat.proofs.UsesProgram.{main-variables}
use Rattle.zl_flat.proofs.CopiesCalls.{reaches-called}
use Rattle.zl_flat.proofs.CheckedPrograms.{checked-kept}

-- a form that keeps calls has its `last`s so
calls-lasts : (f : FlatForm) → KeepsCalls f → HasLastsInCopies f
calls-lasts f keeps k p call h at =
    reaches-called f (place_call f p) h.0.call call k (keeps.lasts k p h.0 h.1 h.2) at (ap (option_and_then (λ (o : Occ). o.call)) h.1)

-- the form of `main` does
main-lasts : (names : List (List ℕ)) (m : MainOf) → IsMainKept names m → HasLastsInCopies (main_form names m)
main-lasts names m kept = calls-lasts (main_form names m) (main-calls names m kept (main-variables names m kept))

pub lasts-stand-in-copies : LastsStandInCopies
lasts-stand-in-copies p types form h flat =
    subst HasLastsInCopies (sym flat.is) (main-lasts p.names flat.main (checked-kept p types h flat.main flat.is_main))
