-- The places of the variables of `main`, and of each copy of a declaration before it, have the variables' types.
use Rattle.std.proofs.Common.{◌≡◌, ℕ, ◌<◌, List, [], ◌∷◌, map, length, Some, sym, subst}
use Rattle.std.specs.List.{AllByRecursion}
use Rattle.zl_value.specs.Lists.{listed}
use Rattle.zl_value.specs.declared.value.Ty.{Ty}
use Rattle.zl_ast.specs.declared.program.Decl.{Decl}
use Rattle.zl_ast.specs.declared.program.Program.{Program}
use Rattle.zl_ast.specs.NamesUsed.{Known}
use Rattle.zl_ast.specs.NamesRules.{built_in, declared_with, decl_broken, decls_broken, violations}
use Rattle.zl_ast.specs.Scopes.{scopes}
use Rattle.zl_ast.specs.Assignments.{IsTyping}
use Rattle.zl_ast.specs.TypeEqualities.{equalities}
use Rattle.zl_ast.specs.Parsed.{IsParsed}
use Rattle.zl_ast.proofs.TreeLaws as laws
use Rattle.zl_meaning.specs.FlatForm.{FlatForm}
use Rattle.zl_flat.specs.declared.size.Size.{Size}
use Rattle.zl_flat.specs.Parts.{start, past_block}
use Rattle.zl_flat.specs.Sizes.{decl_size}
use Rattle.zl_flat.specs.Instances.{Callee}
use Rattle.zl_flat.specs.Expansion.{Scoped, Named, found, with_name, with_sizes, with_callees, variables_from, argument_definers, input_definers, body_copy, instance, decl_copy, main_here, main_block, main_parts, MainOf, sizes_of, main_size, main_form, form_of, result_places, scoped, program_main}
use Rattle.zl_flat.proofs.WellFormedParts.{all-right, behind-block}
use Rattle.zl_flat.proofs.WellFormedGround.{standing}
use Rattle.zl_flat.proofs.RulesKept.{none-left, none-right}
use Rattle.zl_flat.proofs.WellFormedForm.{parts-sit}
use Rattle.zl_flat.proofs.WellFormedDecls.{IsMainKept, known_after}
use Rattle.zl_flat.proofs.WellFormedSizesForm.{AreOwnNames, KnowsBuiltIns, AllMake, built-ins-known, built-ins-still, own-name, and-own-name, and-one-makes, sized-instance, decl-makes, callees-make}
use Rattle.zl_flat.proofs.WellFormedFirsts.{Distinct}
use Rattle.zl_flat.proofs.WellFormedCopies.{IsInOrder, kept-distinct, order-counted, copy-variable}
use Rattle.zl_flat.proofs.WellFormedOrder.{IsTypedInOrder, decls-in-order, program-kept, main-both}
use Rattle.zl_flat.proofs.WellFormedGrammar.{IsWritten, AllWritten, decl_written, decls_written}
use Rattle.zl_flat.proofs.WellFormedParsed.{parsed-written}
use Rattle.zl_flat.proofs.WellFormedTypesForm.{FormTypes}
use Rattle.zl_flat.proofs.WellFormedTypesDecls.{PlacesOf, CopyPlaces, AllCopyPlaces}
use Rattle.zl_flat.proofs.WellFormedTypesMain.{PlacesFound}
use Rattle.zl_flat.proofs.WellFormedTypesProgram.{program-types}

-- the variables of a declaration that breaks no rule of names differ
order-distinct : (names : List (List ℕ)) (k : Known) (d : Scoped) → decl_broken names k d.decl ≡ [] → IsInOrder d → Distinct d.infos
order-distinct names k d kept order = subst Distinct (sym order.infos) (kept-distinct names k d.decl kept)

module _ (f : FlatForm) (base : ℕ) (names : List (List ℕ)) where
  -- the places of the variables of a copy have their types
  copy-places : (cs : List (Named Callee)) (zs : List (Named Size)) (k : Known) (d : Scoped) → AllMake cs zs → AreOwnNames names zs → IsInOrder d → decl_broken names k d.decl ≡ [] → CopyPlaces f base names cs zs d
  unfolding decl_copy
  copy-places cs zs k d make own order kept here roots s sits id v is =
      let c = copy-variable f base names (found cs) (found zs) d (argument_definers here s.places d.decl.params roots) here s
      (sized-instance base names cs zs d here.block s.places make own (order-counted names k d kept order)) order (order-distinct names k d kept order) sits id v is in
      record { place = c.place; is = c.is; typed = c.typed }

  -- so have those of each of these declarations
  all-places : (cs : List (Named Callee)) (zs : List (Named Size)) (k : Known) (ds : List Scoped) → AllMake cs zs → AreOwnNames names zs → KnowsBuiltIns names k → AllByRecursion IsInOrder ds → decls_broken names k (map (λ (d : Scoped). d.decl) ds) ≡ [] →
      AllCopyPlaces f base names cs zs ds
  all-places cs zs k [] make own known order kept = tt
  all-places cs zs k (d ∷ ds) make own known order kept =
      let one = decl_broken names k d.decl in
      let rest = decls_broken names (declared_with k d.decl) (map (λ (x : Scoped). x.decl) ds) in
      let c = decl_copy base names (found cs) (found zs) d in
      let z = decl_size d.infos (found zs) d.decl in
      let here_kept = none-left one rest kept in (
        copy-places cs zs k d make own order.0 here_kept,
        all-places (with_name cs d.decl.name.id c) (with_name zs d.decl.name.id z) (declared_with k d.decl) ds
            (and-one-makes cs zs d.decl.name.id c z make (decl-makes base names cs zs d make own (order-counted names k d here_kept order.0)))
            (and-own-name names zs d.decl.name.id z own (own-name names k d.decl known here_kept)) (built-ins-still names k d.decl known) order.1 (none-right one rest kept),
      )

-- so have those of `main`
main-variables : (names : List (List ℕ)) (m : MainOf) → IsMainKept names m → AllByRecursion IsInOrder m.before → IsInOrder m.main → PlacesOf (main_form names m) (variables_from (sizes_of m) m.main 0)
unfolding main_form main_parts past_block
main-variables names m h order order_main id v is =
    let base = (main_size m).occs in
    let cs = with_callees base names [] [] m.before in
    let zs = with_sizes [] m.before in
    let i = instance base names (found cs) (sizes_of m) m.main 0 0 in
    let d = m.main.decl in
    let here = main_here base names d in
    let p = main_parts base names (found cs) (sizes_of m) m.main in
    let ins = listed (length d.params) 0 (λ n. n) in
    let outs = result_places (variables_from (sizes_of m) m.main 0) d.results in
    let f = form_of p ins outs in
    let definers = input_definers 0 d.params in
    let copy = body_copy base names i d definers here (past_block start) in
    let k = known_after (built_in names) m.before in
    let make = callees-make base names [] [] (built_in names) m.before tt tt (built-ins-known names) h.counted h.before in
    let both = behind-block (standing f base) start (main_block base names d) copy.parts (parts-sit p ins outs base h.hidden_behind) in
    let c = copy-variable f base names (found cs) (found zs) m.main definers here (past_block start) (sized-instance base names cs zs m.main 0 0 make.0 make.1 h.counted_main) order_main (order-distinct names k m.main h.main order_main) both.1 id v is in
    record { place = c.place; is = c.is; typed = c.typed }

-- the places of all variables have their types
pub places-found : (names : List (List ℕ)) (m : MainOf) → IsMainKept names m → AllByRecursion IsInOrder m.before → IsInOrder m.main → PlacesFound names m
places-found names m h order order_main = record {
  places_before = all-places (main_form names m) (main_size m).occs names [] [] (built_in names) m.before tt tt (built-ins-known names) order h.before;
  places_main = main-variables names m h order order_main;
}

-- ---- a program

-- each declaration has a result
each-has-result : (ds : List Decl) → AllWritten (decls_written ds) → AllByRecursion (λ (d : Decl). 0 < length d.results) ds
each-has-result [] w = tt
each-has-result (d ∷ ds) w = (w.0, each-has-result ds (all-right IsWritten (decl_written d) (decls_written ds) w))

-- A program that is the tree of a text's tokens, breaks no rule of names and has types.
pub parsed-order : (p : Program) (types : List (List Ty)) → violations p ≡ [] → IsTyping (equalities p) (scopes p) types → IsParsed p → IsTypedInOrder p types
parsed-order p types none typing h =
    let grow = laws.places_grow p h in
    record { equalities = equalities p; typed = typing.types_of_variables; kept = none; in_text = grow.0; some = each-has-result p.decls (parsed-written p h) }

-- The flat form that its `main` expands to keeps what a flat form keeps of types.
pub parsed-types : (p : Program) (types : List (List Ty)) (m : MainOf) → program_main p (scopes p) types ≡ Some m → violations p ≡ [] → IsTyping (equalities p) (scopes p) types →
    IsParsed p → FormTypes (main_form p.names m)
parsed-types p types m is none typing h =
    let order = parsed-order p types none typing h in
    let kept = program-kept p types order m is in
    let both = main-both IsInOrder p.names (scoped p.decls (scopes p) types) m is (decls-in-order p types order) in
    program-types p types m is typing (parsed-written p h) kept (places-found p.names m kept both.0 both.1)
