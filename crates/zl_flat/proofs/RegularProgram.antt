-- The flat form of a program that breaks no rule of names or kinds is regular.
use Rattle.std.proofs.Common.{◌≡◌, ℕ, ◌<◌, length, Bool, true, false, not, if◌then◌else◌, List, [], ◌∷◌, ◌++◌, map, Option, Some, None, refl, sym, subst}
use Rattle.std.specs.List.{AllByRecursion}
use Rattle.zl_value.specs.declared.rule.Rule.TheVariants as rule
use Rattle.zl_value.specs.declared.value.Ty.{Ty}
use Rattle.zl_ast.specs.declared.scope.VarInfo.{VarInfo}
use Rattle.zl_ast.specs.declared.program.Decl.{Decl}
use Rattle.zl_ast.specs.declared.program.DeclKind.{DeclKind}
use Rattle.zl_ast.specs.declared.program.DeclKind.TheVariants as decl
use Rattle.zl_ast.specs.declared.program.Program.{Program}
use Rattle.zl_ast.specs.Names.{is_main, broken_if}
use Rattle.zl_ast.specs.NamesUsed.{Known, values_uses, eqns_uses}
use Rattle.zl_ast.specs.NamesRules.{is_hybrid, built_in, inside_of, declared_with, with_visible, main_broken, results_broken, variables_broken, uses_broken, decl_broken, decls_broken, violations}
use Rattle.zl_ast.specs.Scopes as scope
use Rattle.zl_ast.specs.Scopes.{scopes}
use Rattle.zl_ast.specs.Kinds as kinds
use Rattle.zl_ast.specs.Kinds.{Declared, misplaced, decl_misplaced, decls_misplaced}
use Rattle.zl_ast.specs.Parsed.{IsParsed}
use Rattle.zl_ast.specs.Assignments.{IsTyping}
use Rattle.zl_ast.specs.declared.constraint.Equality.{Equality}
use Rattle.zl_ast.proofs.TreeLaws.{places_grow}
use Rattle.zl_meaning.specs.Copies.{KeepsCopies}
use Rattle.zl_meaning.specs.Regular.{IsRegular}
use Rattle.zl_flat.specs.Expansion.{Scoped, scoped, MainOf, behind, main_of, main_form, program_main}
use Rattle.zl_flat.proofs.UsesBranches.{HasContexts}
use Rattle.zl_flat.proofs.RulesKept.{none-left, none-right, kept-if}
use Rattle.zl_flat.proofs.WellFormedDecls.{known_after}
use Rattle.zl_flat.proofs.WellFormedCopies.{IsInOrder}
use Rattle.zl_flat.proofs.WellFormedOrder.{IsTypedInOrder, scoped-decls, decls-in-order, decls-kept}
use Rattle.zl_flat.proofs.RegularUses.{all-map}
use Rattle.zl_flat.proofs.RegularEqnTrees.{eqns_crossed}
use Rattle.zl_flat.proofs.RegularDecls.{IsKept}
use Rattle.zl_flat.proofs.RegularCallees.{declared_after, AllKept}
use Rattle.zl_flat.proofs.RegularMain.{main-regular}
use Rattle.zl_flat.proofs.RegularParsed.{IsWhole, parsed-whole}

-- the declaration's events have zero-crossings
abbrev HasCrossings : Scoped → Type 0
HasCrossings d = eqns_crossed d.decl.eqs ≡ true

-- from the rules of all declarations to those of each
all-kept : (names : List (List ℕ)) (k : Known) (declared : Declared) (ds : List Scoped) → AllByRecursion IsInOrder ds → decls_broken names k (map (λ (d : Scoped). d.decl) ds) ≡ [] → decls_misplaced declared (map (λ (d : Scoped). d.decl) ds) ≡ [] → AllByRecursion HasCrossings ds →
    AllKept names k declared ds
all-kept names k declared [] order kept placed crossed = tt
all-kept names k declared (d ∷ ds) order kept placed crossed =
    let others = map (λ (e : Scoped). e.decl) ds in
    let one = decl_broken names k d.decl in
    let rest = decls_broken names (declared_with k d.decl) others in
    let first = decl_misplaced declared d.decl in
    let more = decls_misplaced (kinds.declared_with declared d.decl) others in (
      record { order = order.0; kept = none-left one rest kept; placed = none-left first more placed; crossed = crossed.0 },
      all-kept names (declared_with k d.decl) (kinds.declared_with declared d.decl) ds order.1 (none-right one rest kept) (none-right first more placed) crossed.1,
    )

-- a kind that is hybrid
hybrid-kind : (k : DeclKind) → is_hybrid k ≡ true → k ≡ decl.Hybrid
hybrid-kind decl.Constant h = absurd (cc)
hybrid-kind decl.Function h = absurd (cc)
hybrid-kind decl.Node h = absurd (cc)
hybrid-kind decl.Hybrid h = refl

-- `main` is hybrid
main-hybrid : (names : List (List ℕ)) (k : Known) (d : Decl) → is_main names d.name.id ≡ true → decl_broken names k d ≡ [] → d.kind ≡ decl.Hybrid
unfolding uses_broken
main-hybrid names k d is kept =
    let visible = with_visible [] (scope.variables d) in
    let values = values_uses (inside_of k d) d.results visible in
    let equations = eqns_uses (inside_of k d) d.eqs visible in
    let uses = none-right (variables_broken k d) (uses_broken names (inside_of k d) d) kept in
    let main = if is_main names d.name.id then main_broken visible d else [] in
    by_main (is_main names d.name.id) is (none-right equations main (none-right values (equations ++ main) uses))
  where
    not_false : (b : Bool) → not b ≡ false → b ≡ true
    not_false true e = refl
    not_false false e = cc

    by_main : (b : Bool) → b ≡ true → (if b then main_broken (with_visible [] (scope.variables d)) d else []) ≡ [] → d.kind ≡ decl.Hybrid
    by_main true e g = hybrid-kind d.kind (not_false (is_hybrid d.kind) (kept-if (not (is_hybrid d.kind)) rule.Main d.name.at (none-left (broken_if (not (is_hybrid d.kind)) rule.Main d.name.at) (results_broken (with_visible [] (scope.variables d)) d.results) g)))
    by_main false e g = absurd (cc)

-- `main`, and those before it
pub record IsSplitKept (names : List (List ℕ)) (k : Known) (declared : Declared) (m : MainOf) : Type 0 where
  pub before : AllKept names k declared m.before
  pub main : IsKept names (known_after k m.before) (declared_after declared m.before) m.main
  pub is_hybrid : m.main.decl.kind ≡ decl.Hybrid

-- what is found twice is one
same-main : (m n : MainOf) → Some m ≡ Some n → m ≡ n
same-main m n h = cc

-- `main` keeps the rules behind those before it
split-kept : (names : List (List ℕ)) (k : Known) (declared : Declared) (ds : List Scoped) (m : MainOf) → main_of names ds ≡ Some m → AllKept names k declared ds → IsSplitKept names k declared m
split-kept names k declared [] m h kept = absurd (cc)
split-kept names k declared (d ∷ ds) m h kept = by_name (is_main names d.decl.name.id) refl h (λ n e. split-kept names (declared_with k d.decl) (kinds.declared_with declared d.decl) ds n e kept.1)
  where
    own : is_main names d.decl.name.id ≡ true → IsSplitKept names k declared (record { before = []; main = d })
    own is = let first = kept.0 in record { before = tt; main = first; is_hybrid = main-hybrid names k d.decl is first.kept }

    later : (o : Option MainOf) → behind d o ≡ Some m → ((n : MainOf) → o ≡ Some n → IsSplitKept names (declared_with k d.decl) (kinds.declared_with declared d.decl) n) → IsSplitKept names k declared m
    later None e more = absurd (cc)
    later (Some n) e more =
        let a = more n refl in
        subst (IsSplitKept names k declared) (same-main (record { before = d ∷ n.before; main = n.main }) m e) (record { before = (kept.0, a.before); main = a.main; is_hybrid = a.is_hybrid })

    by_name : (b : Bool) → is_main names d.decl.name.id ≡ b → (if b then Some (record { before = []; main = d }) else behind d (main_of names ds)) ≡ Some m →
        ((n : MainOf) → main_of names ds ≡ Some n → IsSplitKept names (declared_with k d.decl) (kinds.declared_with declared d.decl) n) → IsSplitKept names k declared m
    by_name true is e more = subst (IsSplitKept names k declared) (same-main (record { before = []; main = d }) m e) (own is)
    by_name false is e more = later (main_of names ds) e more

-- each declaration with its scope and types is one of the program's
scoped-crossed : (ds : List Decl) (vss : List (List VarInfo)) (tss : List (List Ty)) → AllByRecursion IsWhole ds → AllByRecursion HasCrossings (scoped ds vss tss)
scoped-crossed [] vss tss h = tt
scoped-crossed (d ∷ ds) [] tss h = tt
scoped-crossed (d ∷ ds) (vs ∷ vss) [] h = tt
scoped-crossed (d ∷ ds) (vs ∷ vss) (ts ∷ tss) h = let first = h.0 in (first.crossed, scoped-crossed ds vss tss h.1)

-- What is asked of a typed program follows from the grammar, the rules of names, and the types of its variables.
pub parsed-in-order : (p : Program) (types : List (List Ty)) (es : List Equality) → IsParsed p → violations p ≡ [] → IsTyping es (scopes p) types → IsTypedInOrder p types
parsed-in-order p types es parsed kept typing = record {
  equalities = es;
  typed = typing.types_of_variables;
  kept = kept;
  in_text = (places_grow p parsed).0;
  some = all-map IsWhole (λ (d : Decl). 0 < length d.results) (λ d h. h.some) p.decls (parsed-whole p parsed);
}

-- the flat form of the `main` of a typed program that breaks no rule of names or kinds is regular, if it keeps copies
pub program-regular : (p : Program) (types : List (List Ty)) (es : List Equality) → IsParsed p → violations p ≡ [] → IsTyping es (scopes p) types → misplaced p ≡ [] → (m : MainOf) → program_main p (scopes p) types ≡ Some m → (HasContexts (main_form p.names m) → KeepsCopies (main_form p.names m)) → IsRegular (main_form p.names m)
program-regular p types es parsed named typing placed m is copies =
    let typed = parsed-in-order p types es parsed named typing in
    let ds = scoped p.decls (scopes p) types in
    let same = scoped-decls typed.equalities p.decls types typed.typed in
    let kept = all-kept p.names (built_in p.names) kinds.none_declared ds (decls-in-order p types typed) (decls-kept p types typed) (subst (λ es. decls_misplaced kinds.none_declared es ≡ []) (sym same) placed) (scoped-crossed p.decls (scopes p) types (parsed-whole p parsed)) in
    let split = split-kept p.names (built_in p.names) kinds.none_declared ds m is kept in
    main-regular p.names m (record { before = split.before; main = split.main; is_hybrid = split.is_hybrid }) copies
