-- The equalities of types of a program, declaration by declaration.
use Rattle.std.proofs.Common.{◌≡◌, List, [], ◌∷◌, ◌++◌, map, refl, ap, ◌∙◌}
use Rattle.zl_ast.specs.declared.constraint.Equality.{Equality}
use Rattle.zl_ast.specs.declared.program.Decl.{Decl}
use Rattle.zl_ast.specs.declared.scope.VarInfo.{VarInfo}
use Rattle.zl_ast.specs.Assignments.{joined}
use Rattle.zl_ast.specs.Scopes.{variables}
use Rattle.zl_ast.specs.TypeEqualities.{Environment, with_entry, params_equalities, decl_equalities, with_variables, with_declared, decls_equalities}
use Rattle.zl_flat.proofs.KnownDecls.{KnownDecl}

-- a declaration with its variables
pub record TypedDecl : Type 0 where
  pub decl : Decl
  pub infos : List VarInfo
  pub scope : variables decl ≡ infos
  pub known : KnownDecl decl

abbrev pub declared_by : Environment → TypedDecl → Environment
declared_by e t = record {
  names = e.names;
  variables = e.variables;
  declared = with_entry e.declared t.decl.name.id (record { params = map (λ p. p.name.at) t.decl.params; results = t.known.places.value });
}

abbrev pub decls_of : List TypedDecl → List Decl
decls_of ts = map (λ t. t.decl) ts

abbrev pub equalities_by : Environment → List TypedDecl → List Equality
equalities_by e [] = []
equalities_by e (t ∷ ts) =
    let inside = with_variables e t.infos in
    (params_equalities t.decl.params ++ (joined (t.known.typed_results inside).value ++ joined (t.known.typed_eqs inside).value)) ++ equalities_by (declared_by inside t) ts

pub equalities-by : (e : Environment) (ts : List TypedDecl) → decls_equalities e (decls_of ts) ≡ equalities_by e ts
equalities-by e [] = refl
equalities-by e (t ∷ ts) =
    let inside = with_variables e t.infos in
    let own = params_equalities t.decl.params ++ (joined (t.known.typed_results inside).value ++ joined (t.known.typed_eqs inside).value) in
    (λ j. decl_equalities (with_variables e (t.scope j)) t.decl ++ decls_equalities (with_declared (with_variables e (t.scope j)) t.decl) (decls_of ts))
    ∙ (λ j.
    (params_equalities t.decl.params ++ (joined ((t.known.typed_results inside).is j) ++ joined ((t.known.typed_eqs inside).is j)))
    ++ decls_equalities (record {
      names = e.names;
      variables = inside.variables;
      declared = with_entry e.declared t.decl.name.id (record { params = map (λ p. p.name.at) t.decl.params; results = t.known.places.is j });
    }) (decls_of ts))
    ∙ ap (λ es. own ++ es) (equalities-by (declared_by inside t) ts)
