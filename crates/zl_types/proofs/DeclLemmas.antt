-- The variables of a declaration, by its number, and its equalities.
use Rattle.std.proofs.Common.{◌≡◌, ℕ, ◌+◌, ◌<◌, List, ◌∷◌, ◌++◌, map, length, drop, get_or, Some, append_assoc, sym, ap, ◌∙◌, slice_get, option_map}
use Rattle.std.proofs.lemmas.Grind.{common_steps}
use Rattle.std.proofs.lemmas.List.{append-nil, length-map, at_drop_more}
use Rattle.std.proofs.lemmas.Option.{slice_get-map, slice_get-get_or}
use Rattle.zl_ast.specs.declared.scope.VarInfo.{VarInfo}
use Rattle.zl_ast.specs.declared.program.Decl.{Decl}
use Rattle.zl_ast.specs.declared.constraint.Equality.{Equality}
use Rattle.zl_ast.specs.Scopes.{variables}
use Rattle.zl_ast.specs.TypeEqualities.{Environment, with_variables, with_declared, decl_equalities, decls_equalities}

-- A declaration's variables are those at its number.
pub variables-at : (decls : List Decl) (scopes : List (List VarInfo)) (i k : ℕ) (d : Decl) (vars : List VarInfo) →
    scopes ≡ map variables decls → i < length decls → k ≡ i → slice_get scopes k ≡ Some vars → d ≡ get_or decls i d → vars ≡ variables d
variables-at decls scopes i k d vars same below is found item =
    let at : Some vars ≡ Some (variables d) = sym found ∙ ap (λ xs. slice_get xs k) same ∙ ap (slice_get (map variables decls)) is ∙ slice_get-map variables decls i
    ∙ ap (option_map variables) (slice_get-get_or decls i d below) ∙ ap (λ x. Some (variables x)) (sym item) in
    cc

-- One declaration on.
pub decls-more : (decls : List Decl) (i : ℕ) (d : Decl) (vars : List VarInfo) (before after : List Equality) (e f : Environment) →
    i < length decls → d ≡ get_or decls i d → vars ≡ variables d
    → after ≡ before ++ decl_equalities (with_variables e vars) d → f ≡ with_declared (with_variables e vars) d
    → after ++ decls_equalities f (drop (i + 1) decls) ≡ before ++ decls_equalities e (drop i decls)
decls-more decls i d vars before after e f below item are es is =
    ap (λ xs. xs ++ decls_equalities f (drop (i + 1) decls)) es
    ∙ append_assoc before (decl_equalities (with_variables e vars) d) (decls_equalities f (drop (i + 1) decls))
    ∙ ap (λ g. before ++ (decl_equalities (with_variables e vars) d ++ decls_equalities g (drop (i + 1) decls))) is
    ∙ ap (λ vs. before ++ (decl_equalities (with_variables e vs) d ++ decls_equalities (with_declared (with_variables e vs) d) (drop (i + 1) decls))) are
    ∙ ap (λ x. before ++ decls_equalities e (x ∷ drop (i + 1) decls)) item
    ∙ sym (at_drop_more (λ ds. before ++ decls_equalities e ds) decls i d below)

pub ruleset decl_steps = (common_steps, append_assoc, append-nil, length-map, slice_get-map)
