-- The flat form of a program is single, and keeps branches where it is regular.
use Rattle.std.proofs.Common.{ℕ, List, [], ◌∷◌}
use Rattle.zl_meaning.specs.FlatForm.{FlatForm}
use Rattle.zl_meaning.specs.Regular.{IsRegular}
use Rattle.zl_meaning.specs.Single.{IsSingle}
use Rattle.zl_meaning.specs.WellFormed.{HasHeights, KeepsBranches}
use Rattle.zl_flat.specs.declared.size.Size.{Size}
use Rattle.zl_flat.specs.Sizes.{decl_size}
use Rattle.zl_flat.specs.Instances.{Callee}
use Rattle.zl_flat.specs.Expansion.{Scoped, Named, found, with_name, decl_copy, MainOf, main_size, main_form}
use Rattle.zl_flat.proofs.WellFormedDecls.{IsMainKept}
use Rattle.zl_flat.proofs.DefinersDecls.{AllCalled}
use Rattle.zl_flat.proofs.DefinersCalled.{main-called}
use Rattle.zl_flat.proofs.DefinersForm.{main-single}
use Rattle.zl_flat.proofs.UsesDecls.{AllFacts}
use Rattle.zl_flat.proofs.UsesCallsMain.{VariablesCalled, AreVariablesCalled}
use Rattle.zl_flat.proofs.UsesSingle.{main-uses, main-branches}

-- the places of variables have the calls of their copies in all declarations
all-facts : (f : FlatForm) (base : ℕ) (names : List (List ℕ)) (cs : List (Named Callee)) (ss : List (Named Size)) (ds : List Scoped) → AllCalled f base names cs ss ds → AllFacts (VariablesCalled f base names) base names cs ss ds
all-facts f base names cs ss [] h = tt
all-facts f base names cs ss (d ∷ ds) h =
    (h.0, all-facts f base names (with_name cs d.decl.name.id (decl_copy base names (found cs) (found ss) d)) (with_name ss d.decl.name.id (decl_size d.infos (found ss) d.decl)) ds h.1)

-- so in `main`
pub main-variables : (names : List (List ℕ)) (m : MainOf) → IsMainKept names m → AreVariablesCalled (main_form names m) names m
main-variables names m kept =
    let f = main_form names m in
    let h = main-called f names m kept in
    record { before = all-facts f (main_size m).occs names [] [] m.before h.before; main = h.main }

-- the form of `main` is single
pub main-is-single : (names : List (List ℕ)) (m : MainOf) → IsMainKept names m → IsSingle (main_form names m)
main-is-single names m kept = main-single names m kept (main-uses names m kept (main-variables names m kept))

-- the form of `main` keeps branches, if it is regular and has heights
pub main-keeps-branches : (names : List (List ℕ)) (m : MainOf) → IsMainKept names m → IsRegular (main_form names m) → HasHeights (main_form names m) → KeepsBranches (main_form names m)
main-keeps-branches names m kept regular heights = main-branches names m kept (main-variables names m kept) regular heights
