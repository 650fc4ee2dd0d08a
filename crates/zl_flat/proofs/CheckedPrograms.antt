-- What the flat form of a program that keeps the rules keeps.
use Rattle.std.proofs.Common.{◌≡◌, List, Some, subst, sym}
use Rattle.zl_value.specs.declared.value.Ty.{Ty}
use Rattle.zl_ast.specs.declared.program.Program.{Program}
use Rattle.zl_ast.specs.declared.scope.VarInfo.{VarInfo}
use Rattle.zl_meaning.specs.FlatForm.{FlatForm}
use Rattle.zl_flat.specs.Flat.{IsFlatOf}
use Rattle.zl_ast.specs.Scopes.{scopes}
use Rattle.zl_ast.specs.NamesRules.{built_in}
use Rattle.zl_ast.specs.TypeEqualities.{equalities}
use Rattle.zl_meaning.specs.Copies.{KeepsCopies}
use Rattle.zl_meaning.specs.Regular.{IsRegular}
use Rattle.zl_meaning.specs.Single.{IsSingle}
use Rattle.zl_meaning.specs.WellFormed.{IsWellFormed}
use Rattle.zl_flat.specs.Checked.{IsChecked}
use Rattle.zl_flat.specs.Counted.{CountsAreLengths, CountIsSmall, PlacesAreNumbered}
use Rattle.zl_flat.specs.Expansion.{MainOf, scoped, main_form, main_size, program_main}
use Rattle.zl_flat.proofs.Copies.{main-copies}
use Rattle.zl_flat.proofs.FewPartsForm.{IsOfText, main-few, few-count, scoped-written, numberings-end}
use Rattle.zl_flat.proofs.RegularProgram.{program-regular}
use Rattle.zl_flat.proofs.UsesBranches.{HasContexts}
use Rattle.zl_flat.proofs.UsesCallsMain.{main-calls}
use Rattle.zl_flat.proofs.UsesProgram.{main-variables, main-is-single, main-keeps-branches}
use Rattle.zl_flat.proofs.WellFormedAssembled.{parsed-well-formed}
use Rattle.zl_flat.proofs.WellFormedDecls.{IsMainKept}
use Rattle.zl_flat.proofs.WellFormedHeightsForm.{main-heights}
use Rattle.zl_flat.proofs.WellFormedCopies.{all-counted}
use Rattle.zl_flat.proofs.WellFormedParsed.{parsed-written}
use Rattle.zl_flat.proofs.WellFormedOrder.{program-kept, program-in-order, decls-in-order, decls-kept, main-both}
use Rattle.zl_flat.proofs.WellFormedSizesForm.{main-makes}
use Rattle.zl_flat.proofs.WellFormedTypesPlaced.{parsed-order}

module _ (p : Program) (types : List (List Ty)) (h : IsChecked p types) (m : MainOf) (is : program_main p (scopes p) types ≡ Some m) where
  pub checked-kept : IsMainKept p.names m
  checked-kept = program-kept p types (parsed-order p types h.names h.typing h.parsed) m is

  checked-copies : HasContexts (main_form p.names m) → KeepsCopies (main_form p.names m)
  checked-copies = main-copies p.names m checked-kept (program-in-order p types (parsed-order p types h.names h.typing h.parsed) m is)

  pub checked-regular : IsRegular (main_form p.names m)
  checked-regular = program-regular p types (equalities p) h.parsed h.names h.typing h.placed m is checked-copies

  pub checked-single : IsSingle (main_form p.names m)
  checked-single = main-is-single p.names m checked-kept

  pub checked-well-formed : IsWellFormed (main_form p.names m)
  checked-well-formed =
      let heights = main-heights p.names m checked-kept in
      parsed-well-formed p types m is h.names h.typing h.parsed heights
      (main-keeps-branches p.names m checked-kept checked-regular heights) (main-calls p.names m checked-kept (main-variables p.names m checked-kept))

-- ---- a flat form

module _ (p : Program) (vars : List (List VarInfo)) (types : List (List Ty)) (f : FlatForm) where
  -- what holds of what `main` expands to holds of the flat form
  of-main : (P : FlatForm → Type 0) → vars ≡ scopes p → ((m : MainOf) → program_main p (scopes p) types ≡ Some m → P (main_form p.names m)) → IsFlatOf p vars types f → P f
  of-main P same h flat = subst P (sym flat.is) (h flat.main (subst (λ vs. program_main p vs types ≡ Some flat.main) same flat.is_main))

  pub flat_is_well_formed : vars ≡ scopes p → IsChecked p types → IsFlatOf p vars types f → IsWellFormed f
  flat_is_well_formed same h flat = of-main IsWellFormed same (checked-well-formed p types h) flat

  pub flat_is_single : vars ≡ scopes p → IsChecked p types → IsFlatOf p vars types f → IsSingle f
  flat_is_single same h flat = of-main IsSingle same (checked-single p types h) flat

  pub flat_is_regular : vars ≡ scopes p → IsChecked p types → IsFlatOf p vars types f → IsRegular f
  flat_is_regular same h flat = of-main IsRegular same (checked-regular p types h) flat

-- ---- the counts

pub counts-are-lengths : CountsAreLengths
counts-are-lengths p types h m is =
    let kept = checked-kept p types h m is in
    main-makes p.names m (main_size m).occs kept.before kept.counted kept.counted_main

pub count-is-small : CountIsSmall
count-is-small p types h m is fits =
    let kept = checked-kept p types h m is in
    let written = main-both IsOfText p.names (scoped p.decls (scopes p) types) m is (scoped-written p.decls (scopes p) types (parsed-written p h.parsed)) in
    few-count _ (main_size m) (main-few p.names m (main_size m).occs written.0 written.1) (counts-are-lengths p types h m is) fits

-- ---- places

pub places-are-numbered : PlacesAreNumbered
places-are-numbered p types h =
    let order = parsed-order p types h.names h.typing h.parsed in
    let ds = scoped p.decls (scopes p) types in
    let kept = decls-kept p types order in
    numberings-end p.names ds (all-counted p.names (built_in p.names) ds kept (decls-in-order p types order)) kept
