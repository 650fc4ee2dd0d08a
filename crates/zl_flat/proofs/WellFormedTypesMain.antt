-- What `main` expands to keeps what a flat form keeps of types.
use Rattle.std.proofs.Common.{◌≡◌, ℕ, Bool, true, false, if◌then◌else◌, List, [], ◌∷◌, ◌++◌, map, length, Option, Some, None, refl, subst}
use Rattle.std.specs.List.{AllByRecursion}
use Rattle.zl_value.specs.Lists.{listed}
use Rattle.zl_ast.specs.Names.{is_main}
use Rattle.zl_ast.specs.NamesRules.{built_in, inside_of}
use Rattle.zl_ast.specs.Scopes as scope
use Rattle.zl_ast.specs.Assignments.{Assignment, Meets, Solves}
use Rattle.zl_ast.specs.TypeEqualities.{Environment, before_all, with_variables, with_declared, decl_equalities, decls_equalities}
use Rattle.zl_flat.specs.Parts.{start, past_block}
use Rattle.zl_flat.specs.Expansion.{Scoped, found, with_callees, variables_from, input_definers, body_copy, instance, main_here, main_block, main_parts, MainOf, behind, main_of, sizes_of, main_size, main_form, form_of, result_places}
use Rattle.zl_flat.proofs.WellFormedParts.{all-left, all-right, block-first, behind-block}
use Rattle.zl_flat.proofs.WellFormedGround.{standing}
use Rattle.zl_flat.proofs.WellFormedForm.{parts-sit}
use Rattle.zl_flat.proofs.WellFormedDecls.{IsMainKept, known_after}
use Rattle.zl_flat.proofs.WellFormedTypes.{typing}
use Rattle.zl_flat.proofs.WellFormedTypesForm.{FormTypes, form-types}
use Rattle.zl_flat.proofs.WellFormedTypesExprTrees.{NoZero}
use Rattle.zl_flat.proofs.WellFormedTypesDecls.{PlacesOf, IsTypedDecl, environment_after, AllCopyPlaces, inputs-typed, body-copy-typed, inside-typed, callees-typed, nothing-known}

-- The assignment meets the equalities of `main` and of the declarations before it, behind this environment, and their
-- variables have the types that it gives to their places in the text.
pub record IsTypedMain (e : Environment) (m : MainOf) (a : Assignment) : Type 0 where
  pub met_before : Solves (decls_equalities e (map (λ (d : Scoped). d.decl) m.before)) a
  pub met_main : Solves (decl_equalities (with_variables (environment_after e m.before) (scope.variables m.main.decl)) m.main.decl) a
  pub typed_before : AllByRecursion (IsTypedDecl a) m.before
  pub typed_main : IsTypedDecl a m.main

-- the places of the variables of `main`, and of each copy of a declaration before it, have the variables' types
pub record PlacesFound (names : List (List ℕ)) (m : MainOf) : Type 0 where
  pub places_before : AllCopyPlaces (main_form names m) (main_size m).occs names [] [] m.before
  pub places_main : PlacesOf (main_form names m) (variables_from (sizes_of m) m.main 0)

-- the flat form of `main` keeps types
pub main-typed : (names : List (List ℕ)) (m : MainOf) (a : Assignment) → NoZero a → IsMainKept names m → IsTypedMain (before_all names) m a → PlacesFound names m → FormTypes (main_form names m)
unfolding main_form main_parts past_block
main-typed names m a nz h typed places =
    let base = (main_size m).occs in
    let cs = with_callees base names [] [] m.before in
    let sizes = sizes_of m in
    let i = instance base names (found cs) sizes m.main 0 0 in
    let d = m.main.decl in
    let here = main_here base names d in
    let p = main_parts base names (found cs) sizes m.main in
    let ins = listed (length d.params) 0 (λ n. n) in
    let outs = result_places (variables_from sizes m.main 0) d.results in
    let f = form_of p ins outs in
    let copy = body_copy base names i d (input_definers 0 d.params) here (past_block start) in
    let sits = parts-sit p ins outs base h.hidden_behind in
    let k = known_after (built_in names) m.before in
    let e = environment_after (before_all names) m.before in
    let callees = callees-typed f base names a nz [] [] (built_in names) (before_all names) m.before (nothing-known f base names a nz) h.counted typed.typed_before h.before typed.met_before places.places_before in
    let b = inside-typed f base names a nz cs sizes m.main 0 0 k e h.counted_main typed.typed_main callees h.main places.places_main in
    let own = typed.typed_main in
    let both = behind-block (standing f base) start (main_block base names d) copy.parts sits in
    let c = body-copy-typed f base names a nz i (inside_of k d) (with_variables e (scope.variables d)) b.knows d (input_definers 0 d.params) b.visible b.covers b.entries b.results b.equations own.written typed.met_main here (past_block start)
    (λ at. inputs-typed f base names a nz i here 0 d.params b.params at) both.1 in
    form-types p ins outs (block-first (typing f) start (main_block base names d) copy.parts tt c.parts)

-- ---- `main` among the declarations of a program

-- there is one `main`
the-same : (m n : MainOf) → Some m ≡ Some n → m ≡ n
the-same m n h = cc

-- none is not one
no-main : (m : MainOf) → None ≡ Some m → ⊥
no-main m h = cc

-- what holds behind a declaration holds with it
typed-behind : (a : Assignment) (e : Environment) (d : Scoped) (o : Option MainOf) (m : MainOf) → behind d o ≡ Some m → Solves (decl_equalities (with_variables e (scope.variables d.decl)) d.decl) a → IsTypedDecl a d →
    ((n : MainOf) → o ≡ Some n → IsTypedMain (with_declared (with_variables e (scope.variables d.decl)) d.decl) n a) → IsTypedMain e m a
typed-behind a e d None m h met typed more = absurd (no-main m h)
typed-behind a e d (Some n) m h met typed more =
    let inside = with_variables e (scope.variables d.decl) in
    let b = more n refl in
    subst (λ l. IsTypedMain e l a) (the-same (record { before = d ∷ n.before; main = n.main }) m h)
    (record { met_before = both (decl_equalities inside d.decl) (decls_equalities (with_declared inside d.decl) (map (λ (x : Scoped). x.decl) n.before)) met b.met_before; met_main = b.met_main; typed_before = (typed, b.typed_before); typed_main = b.typed_main })
  where
    both : (xs ys : List _) → Solves xs a → Solves ys a → Solves (xs ++ ys) a
    both [] ys h k = k
    both (x ∷ xs) ys h k = (h.0, both xs ys h.1 k)

-- what holds of the declarations of a program holds of its `main` and of those before it
pub typed-split : (names : List (List ℕ)) (a : Assignment) (e : Environment) (ds : List Scoped) (m : MainOf) → main_of names ds ≡ Some m → Solves (decls_equalities e (map (λ (d : Scoped). d.decl) ds)) a → AllByRecursion (IsTypedDecl a) ds → IsTypedMain e m a
typed-split names a e [] m h met typed = absurd (no-main m h)
typed-split names a e (d ∷ ds) m h met typed =
    let inside = with_variables e (scope.variables d.decl) in
    let own = decl_equalities inside d.decl in
    let others = decls_equalities (with_declared inside d.decl) (map (λ (x : Scoped). x.decl) ds) in
    by_name (is_main names d.decl.name.id) h (all-left (Meets a) own others met)
    (λ n is. typed-split names a (with_declared inside d.decl) ds n is (all-right (Meets a) own others met) typed.1)
  where
    by_name : (b : Bool) → (if b then Some (record { before = []; main = d }) else behind d (main_of names ds)) ≡ Some m → Solves (decl_equalities (with_variables e (scope.variables d.decl)) d.decl) a →
        ((n : MainOf) → main_of names ds ≡ Some n → IsTypedMain (with_declared (with_variables e (scope.variables d.decl)) d.decl) n a) → IsTypedMain e m a
    by_name true is one more = subst (λ l. IsTypedMain e l a) (the-same (record { before = []; main = d }) m is) (record { met_before = tt; met_main = one; typed_before = tt; typed_main = typed.0 })
    by_name false is one more = typed-behind a e d (main_of names ds) m is one typed.0 more
