-- The declarations of a typed program that stands in the order of its text.
use Rattle.std.proofs.Common.{◌≡◌, ℕ, suc, ◌<◌, Bool, true, false, not, if◌then◌else◌, List, [], ◌∷◌, ◌++◌, map, length, Option, Some, None, refl, sym, ap, subst}
use Rattle.std.specs.List.{AllByRecursion}
use Rattle.std.proofs.lemmas.List.{map-append}
use Rattle.zl_value.specs.declared.position.Pos.{Pos}
use Rattle.zl_value.specs.declared.rule.Rule.TheVariants as rule
use Rattle.zl_value.specs.declared.value.Ty.{Ty}
use Rattle.zl_ast.specs.declared.constraint.Equality.{Equality}
use Rattle.zl_ast.specs.declared.scope.VarInfo.{VarInfo}
use Rattle.zl_ast.specs.declared.program.Decl.{Decl}
use Rattle.zl_ast.specs.declared.program.Program.{Program}
use Rattle.zl_ast.specs.Names.{is_main, broken_if}
use Rattle.zl_ast.specs.NamesRules.{built_in, decl_broken, decls_broken, violations, has_main}
use Rattle.zl_ast.specs.Scopes as scope
use Rattle.zl_ast.specs.Scopes.{scopes}
use Rattle.zl_ast.specs.Assignments.{HaveTypes, HaveTypesInEach, end, next, end_of_all, next_of_all}
use Rattle.zl_ast.specs.Spots.{Spot, all_spots, decl_spots}
use Rattle.zl_ast.specs.Parsed.{Before, Grow, places, spots}
use Rattle.zl_flat.specs.Expansion.{Scoped, scoped, MainOf, behind, main_of, program_main}
use Rattle.zl_flat.proofs.RulesKept.{none-left}
use Rattle.zl_flat.proofs.WellFormedDecls.{IsMainKept, known_after}
use Rattle.zl_flat.proofs.WellFormedProgram.{main-split}
use Rattle.zl_flat.proofs.WellFormedSizesForm.{main-kept}
use Rattle.zl_flat.proofs.WellFormedCopies.{IsInOrder, all-counted}

-- ---- lists

grow-left : (ps qs : List Pos) → Grow (ps ++ qs) → Grow ps
grow-left [] qs g = tt
grow-left (p ∷ ps) qs g = (all_left p ps g.0, grow-left ps qs g.1)
  where
    all_left : (p : Pos) (ps : List Pos) → AllByRecursion (Before p) (ps ++ qs) → AllByRecursion (Before p) ps
    all_left p [] h = tt
    all_left p (r ∷ rs) h = (h.0, all_left p rs h.1)

grow-right : (ps qs : List Pos) → Grow (ps ++ qs) → Grow qs
grow-right [] qs g = g
grow-right (p ∷ ps) qs g = grow-right ps qs g.1

have-lengths : (es : List Equality) (vs : List VarInfo) (ts : List Ty) → HaveTypes es vs ts → length ts ≡ length vs
have-lengths es _ _ end = refl
have-lengths es _ _ (next {vs = vs} {ts = ts} h more) = ap suc (have-lengths es vs ts more)

-- ---- declarations

-- declarations with their own variables and types, in the order of the text
pub scoped-in-order : (es : List Equality) (ds : List Decl) (tss : List (List Ty)) → HaveTypesInEach es (map scope.variables ds) tss → Grow (places (all_spots decl_spots ds)) → AllByRecursion (λ (d : Decl). 0 < length d.results) ds →
    AllByRecursion IsInOrder (scoped ds (map scope.variables ds) tss)
scoped-in-order es [] _ end_of_all g some = tt
scoped-in-order es (d ∷ ds) _ (next_of_all {ts = ts} {tss = tss} h more) g some =
    let split = subst Grow (map-append (λ (s : Spot). s.at) (decl_spots d) (all_spots decl_spots ds)) g in (
      record { infos = refl; types = have-lengths es (scope.variables d) ts h; in_text = grow-left (places (decl_spots d)) (places (all_spots decl_spots ds)) split; some = some.0 },
      scoped-in-order es ds tss more (grow-right (places (decl_spots d)) (places (all_spots decl_spots ds)) split) some.1,
    )

-- each declaration has its types
pub scoped-decls : (es : List Equality) (ds : List Decl) (tss : List (List Ty)) → HaveTypesInEach es (map scope.variables ds) tss → map (λ (d : Scoped). d.decl) (scoped ds (map scope.variables ds) tss) ≡ ds
scoped-decls es [] _ end_of_all = refl
scoped-decls es (d ∷ ds) _ (next_of_all {ts = ts} {tss = tss} h more) = ap (λ xs. d ∷ xs) (scoped-decls es ds tss more)

-- what holds of each declaration holds of `main` and of those before it
pub main-both : (P : Scoped → Type 0) (names : List (List ℕ)) (ds : List Scoped) (m : MainOf) → main_of names ds ≡ Some m → AllByRecursion P ds → AllByRecursion P m.before × P m.main
main-both P names [] m h all = absurd (cc)
main-both P names (d ∷ ds) m h all = by_name (is_main names d.decl.name.id) h (λ n e. main-both P names ds n e all.1)
  where
    same : (a b : MainOf) → Some a ≡ Some b → a ≡ b
    same a b e = cc

    behind_one : (o : Option MainOf) → behind d o ≡ Some m → ((n : MainOf) → o ≡ Some n → AllByRecursion P n.before × P n.main) → AllByRecursion P m.before × P m.main
    behind_one None e more = absurd (cc)
    behind_one (Some n) e more =
        let a = more n refl in
        subst (λ (k : MainOf). AllByRecursion P k.before × P k.main) (same (record { before = d ∷ n.before; main = n.main }) m e) ((all.0, a.0), a.1)

    by_name : (b : Bool) → (if b then Some (record { before = []; main = d }) else behind d (main_of names ds)) ≡ Some m → ((n : MainOf) → main_of names ds ≡ Some n → AllByRecursion P n.before × P n.main) → AllByRecursion P m.before × P m.main
    by_name true e more = subst (λ (k : MainOf). AllByRecursion P k.before × P k.main) (same (record { before = []; main = d }) m e) (tt, all.0)
    by_name false e more = behind_one (main_of names ds) e more

main-named : (names : List (List ℕ)) (ds : List Scoped) (m : MainOf) → main_of names ds ≡ Some m → is_main names m.main.decl.name.id ≡ true
main-named names [] m h = absurd (cc)
main-named names (d ∷ ds) m h = by_name (is_main names d.decl.name.id) refl h (λ n e. main-named names ds n e)
  where
    same : (a b : MainOf) → Some a ≡ Some b → a ≡ b
    same a b e = cc

    behind_one : (o : Option MainOf) → behind d o ≡ Some m → ((n : MainOf) → o ≡ Some n → is_main names n.main.decl.name.id ≡ true) → is_main names m.main.decl.name.id ≡ true
    behind_one None e more = absurd (cc)
    behind_one (Some n) e more = subst (λ (k : MainOf). is_main names k.main.decl.name.id ≡ true) (same (record { before = d ∷ n.before; main = n.main }) m e) (more n refl)

    by_name : (b : Bool) → is_main names d.decl.name.id ≡ b → (if b then Some (record { before = []; main = d }) else behind d (main_of names ds)) ≡ Some m → ((n : MainOf) → main_of names ds ≡ Some n → is_main names n.main.decl.name.id ≡ true) →
        is_main names m.main.decl.name.id ≡ true
    by_name true own e more = subst (λ (k : MainOf). is_main names k.main.decl.name.id ≡ true) (same (record { before = []; main = d }) m e) own
    by_name false own e more = behind_one (main_of names ds) e more

-- what holds of `main` and of the declarations before it, where no rule of names is broken and the program is in the order of its text
pub record IsMainInOrder (names : List (List ℕ)) (m : MainOf) : Type 0 where
  pub before : decls_broken names (built_in names) (map (λ (d : Scoped). d.decl) m.before) ≡ []
  pub main : decl_broken names (known_after (built_in names) m.before) m.main.decl ≡ []
  pub order : AllByRecursion IsInOrder m.before
  pub order_main : IsInOrder m.main
  pub named : is_main names m.main.decl.name.id ≡ true

-- ---- a program

-- What is known of a program that breaks no rule of names, whose variables have these types, whose places stand in the
-- order of the text, and whose declarations have results.
pub record IsTypedInOrder (p : Program) (types : List (List Ty)) : Type 0 where
  pub equalities : List Equality
  pub typed : HaveTypesInEach equalities (scopes p) types
  pub kept : violations p ≡ []
  pub in_text : Grow (places (spots p))
  pub some : AllByRecursion (λ (d : Decl). 0 < length d.results) p.decls

module _ (p : Program) (types : List (List Ty)) (h : IsTypedInOrder p types) where
  -- its declarations are in the order of the text
  pub decls-in-order : AllByRecursion IsInOrder (scoped p.decls (scopes p) types)
  decls-in-order = scoped-in-order h.equalities p.decls types h.typed h.in_text h.some

  -- and break no rule of names
  pub decls-kept : decls_broken p.names (built_in p.names) (map (λ (d : Scoped). d.decl) (scoped p.decls (scopes p) types)) ≡ []
  decls-kept =
      subst (λ ds. decls_broken p.names (built_in p.names) ds ≡ []) (sym (scoped-decls h.equalities p.decls types h.typed))
      (none-left (decls_broken p.names (built_in p.names) p.decls) (broken_if (not (has_main p.names p.decls)) rule.Main (record { line = 1; column = 1 })) h.kept)

  -- what is asked of `main` and the declarations before it
  pub program-kept : (m : MainOf) → program_main p (scopes p) types ≡ Some m → IsMainKept p.names m
  program-kept m is =
      let ds = scoped p.decls (scopes p) types in
      let a = main-split p.names (built_in p.names) ds m is decls-kept (all-counted p.names (built_in p.names) ds decls-kept decls-in-order) in
      main-kept p.names m a.before a.main a.counted a.counted_main

  -- and in the order of the text
  pub program-in-order : (m : MainOf) → program_main p (scopes p) types ≡ Some m → IsMainInOrder p.names m
  program-in-order m is =
      let ds = scoped p.decls (scopes p) types in
      let a = main-split p.names (built_in p.names) ds m is decls-kept (all-counted p.names (built_in p.names) ds decls-kept decls-in-order) in
      let b = main-both IsInOrder p.names ds m is decls-in-order in
      record { before = a.before; main = a.main; order = b.0; order_main = b.1; named = main-named p.names ds m is }
