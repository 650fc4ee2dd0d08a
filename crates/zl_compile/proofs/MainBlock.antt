-- The first block of the flat form of a program that keeps the rules of names is hybrid, as its `main` is.
use Rattle.std.proofs.Common.{◌≡◌, ℕ, Bool, true, false, not, if◌then◌else◌, List, [], ◌∷◌, ◌++◌, Option, Some, None, refl, sym, ap, ◌∙◌}
use Rattle.zl_value.specs.declared.rule.Rule.TheVariants as rule
use Rattle.zl_value.specs.declared.value.Ty.{Ty}
use Rattle.zl_ast.specs.declared.scope.VarInfo.{VarInfo}
use Rattle.zl_ast.specs.declared.program.Decl.{Decl}
use Rattle.zl_ast.specs.declared.program.Program.{Program}
use Rattle.zl_ast.specs.Names.{is_main, broken_if}
use Rattle.zl_ast.specs.NamesUsed.{Known, values_uses, eqns_uses}
use Rattle.zl_ast.specs.NamesRules.{is_hybrid, built_in, inside_of, declared_with, with_visible, main_broken, results_broken, variables_broken, uses_broken, decl_broken, decls_broken, has_main, violations}
use Rattle.zl_ast.specs.Scopes.{variables}
use Rattle.zl_meaning.specs.FlatForm.{FlatForm}
use Rattle.zl_meaning.specs.Regular.{is_hybrid_block}
use Rattle.zl_flat.specs.Expansion.{Scoped, scoped, MainOf, behind, main_of, main_form, main_parts}
use Rattle.zl_flat.specs.Flat.{IsFlatOf}
use Rattle.zl_flat.specs.Parts.{joined, one_block}
use Rattle.zl_flat.proofs.RulesKept.{none-left, none-right, kept-if}

-- a declaration that is called `main` and breaks no rule is hybrid
main_hybrid : (names : List (List ℕ)) (k : Known) (d : Decl) → is_main names d.name.id ≡ true → decl_broken names k d ≡ [] → is_hybrid d.kind ≡ true
unfolding uses_broken
main_hybrid names k d is kept =
    let visible = with_visible [] (variables d) in
    let values = values_uses (inside_of k d) d.results visible in
    let equations = eqns_uses (inside_of k d) d.eqs visible in
    let uses = none-right (variables_broken k d) (uses_broken names (inside_of k d) d) kept in
    let main = if is_main names d.name.id then main_broken visible d else [] in
    by_main (is_main names d.name.id) is (none-right equations main (none-right values (equations ++ main) uses))
  where
    not_false : (b : Bool) → not b ≡ false → b ≡ true
    not_false true e = refl
    not_false false e = cc

    by_main : (b : Bool) → b ≡ true → (if b then main_broken (with_visible [] (variables d)) d else []) ≡ [] → is_hybrid d.kind ≡ true
    by_main true e g =
        let own = broken_if (not (is_hybrid d.kind)) rule.Main d.name.at in
        not_false (is_hybrid d.kind) (kept-if (not (is_hybrid d.kind)) rule.Main d.name.at (none-left own (results_broken (with_visible [] (variables d)) d.results) g))
    by_main false e g = absurd (cc)

-- the `main` of declarations that break no rule is hybrid
found_hybrid : (names : List (List ℕ)) (k : Known) (ds : List Decl) (vss : List (List VarInfo)) (tss : List (List Ty)) (m : MainOf) → decls_broken names k ds ≡ [] → main_of names (scoped ds vss tss) ≡ Some m → is_hybrid m.main.decl.kind ≡ true
found_hybrid names k [] vss tss m kept h = absurd (cc)
found_hybrid names k (d ∷ ds) [] tss m kept h = absurd (cc)
found_hybrid names k (d ∷ ds) (vs ∷ vss) [] m kept h = absurd (cc)
found_hybrid names k (d ∷ ds) (vs ∷ vss) (ts ∷ tss) m kept h =
    by_name (is_main names d.name.id) refl h (λ n e. found_hybrid names (declared_with k d) ds vss tss n (none-right (decl_broken names k d) (decls_broken names (declared_with k d) ds) kept) e)
  where
    own : Scoped
    own = record { decl = d; infos = vs; types = ts }

    same : (m n : MainOf) → Some m ≡ Some n → is_hybrid m.main.decl.kind ≡ true → is_hybrid n.main.decl.kind ≡ true
    same m n e g = ap (λ o. hybrid_in o) (sym e) ∙ g
      where
        hybrid_in : Option MainOf → Bool
        hybrid_in None = false
        hybrid_in (Some m) = is_hybrid m.main.decl.kind

    later : (o : Option MainOf) → behind own o ≡ Some m → ((n : MainOf) → o ≡ Some n → is_hybrid n.main.decl.kind ≡ true) → is_hybrid m.main.decl.kind ≡ true
    later None e more = absurd (cc)
    later (Some n) e more = same (record { before = own ∷ n.before; main = n.main }) m e (more n refl)

    by_name : (b : Bool) → is_main names d.name.id ≡ b → (if b then Some (record { before = []; main = own }) else behind own (main_of names (scoped ds vss tss))) ≡ Some m →
        ((n : MainOf) → main_of names (scoped ds vss tss) ≡ Some n → is_hybrid n.main.decl.kind ≡ true) → is_hybrid m.main.decl.kind ≡ true
    by_name true is e more =
        same (record { before = []; main = own }) m e (main_hybrid names k d is (none-left (decl_broken names k d) (decls_broken names (declared_with k d) ds) kept))
    by_name false is e more = later (main_of names (scoped ds vss tss)) e more

-- the first block is that of `main`
first_block : (names : List (List ℕ)) (m : MainOf) → is_hybrid_block (main_form names m) 0 ≡ is_hybrid m.main.decl.kind
unfolding main_form main_parts joined one_block
first_block names m = refl

pub flat_is_hybrid : (p : Program) (vars : List (List VarInfo)) (types : List (List Ty)) (f : FlatForm) → violations p ≡ [] → IsFlatOf p vars types f → is_hybrid_block f 0 ≡ true
flat_is_hybrid p vars types f kept flat =
    let decls = decls_broken p.names (built_in p.names) p.decls in
    let absent = broken_if (not (has_main p.names p.decls)) rule.Main (record { line = 1; column = 1 }) in
    ap (λ f. is_hybrid_block f 0) flat.is ∙ first_block p.names flat.main
    ∙ found_hybrid p.names (built_in p.names) p.decls vars types flat.main (none-left decls absent kept) flat.is_main
