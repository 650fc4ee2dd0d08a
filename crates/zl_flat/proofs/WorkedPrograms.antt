-- What is to be computed of a text, so that it expands to a form.
use Rattle.std.proofs.Common.{◌≡◌, ℕ, true, false, if◌then◌else◌, List, [], ◌∷◌, Option, Some, None, Ok, refl, sym, ap, subst, ◌∙◌}
use Rattle.zl_value.specs.declared.value.Ty.{Ty}
use Rattle.zl_lexer.specs.Tokens.{IsLexed}
use Rattle.zl_lexer.proofs.ReadTexts.{TokensOf}
use Rattle.zl_ast.specs.declared.program.Decl.{Decl}
use Rattle.zl_ast.specs.declared.program.Program.{Program}
use Rattle.zl_ast.specs.declared.scope.VarInfo.{VarInfo}
use Rattle.zl_ast.specs.Assignments.{Assignment, IsTyping}
use Rattle.zl_ast.specs.Kinds.{misplaced}
use Rattle.zl_ast.specs.Names.{is_main}
use Rattle.zl_ast.specs.NamesRules.{violations}
use Rattle.zl_ast.specs.Scopes.{variables, scopes}
use Rattle.zl_ast.specs.TypeEqualities.{before_all, equalities}
use Rattle.zl_meaning.specs.FlatForm.{FlatForm}
use Rattle.zl_flat.specs.declared.size.Size.{Size}
use Rattle.zl_flat.specs.Variables.{variables as variables_at}
use Rattle.zl_flat.specs.Numbering.{decl_numbering}
use Rattle.zl_flat.specs.Instances.{Callee}
use Rattle.zl_flat.specs.Expansion.{Scoped, MainOf, behind, found, with_callees, main_size, sizes_of, result_places}
use Rattle.zl_flat.specs.Limits.{Fits}
use Rattle.zl_flat.specs.Flat.{IsFlatOf}
use Rattle.zl_flat.specs.WorkedTexts.{Expands}
use Rattle.zl_flat.proofs.CheckedTypes.{is_typed, is_typed-typing}
use Rattle.zl_flat.proofs.KnownDecls.{KnownDecl}
use Rattle.zl_flat.proofs.KnownForms.{callee_by, callee-by, form_by, form-by}
use Rattle.zl_flat.proofs.KnownTypings.{TypedDecl, equalities_by, equalities-by}
use Rattle.zl_flat.proofs.ParseTexts.{read, is_read}

-- The text has these tokens, which are those of the program; the program keeps the rules, and this is its flat form.
expands : (text : List ℕ) (p : Program) (types : List (List Ty)) (form : FlatForm) (t : TokensOf text) → t.names ≡ p.names → read t.tokens ≡ Ok p.decls
    → violations p ≡ [] → IsTyping (equalities p) (scopes p) types → misplaced p ≡ [] → IsFlatOf p (scopes p) types form → Expands text p.names form
expands text p types form t named parsed names typing placed flat = record {
  program = p;
  types = types;
  checked = record { parsed = is_read text p t named parsed; names = names; typing = typing; placed = placed };
  lexed = subst (λ ns. IsLexed text t.tokens ns t.end) named t.lexed;
  names_are = refl;
  flat = flat;
}

-- with typed variables in place of the scopes
typing_of : (p : Program) (ts : List TypedDecl) (vss : List (List VarInfo)) (types : List (List Ty)) (a : Assignment) → scopes p ≡ vss → equalities p ≡ equalities_by (before_all p.names) ts
    → is_typed (equalities_by (before_all p.names) ts) a vss types ≡ true → IsTyping (equalities p) (scopes p) types
typing_of p ts vss types a scoped listed typed =
    subst (λ es. IsTyping es (scopes p) types) (sym listed)
    (subst (λ us. IsTyping (equalities_by (before_all p.names) ts) us types) (sym scoped)
    (is_typed-typing (equalities_by (before_all p.names) ts) a vss types typed))

-- ---- a program of `main` alone

module _ (names : List (List ℕ)) (main : Decl) (infos : List VarInfo) (types : List Ty) (known : KnownDecl main) where
  abbrev pub alone : Program
  alone = record { decls = main ∷ []; names = names }

  abbrev pub main_alone : MainOf
  main_alone = record { before = []; main = record { decl = main; infos = infos; types = types } }

  abbrev pub alone_typed : variables main ≡ infos → List TypedDecl
  alone_typed scope = record { decl = main; infos = infos; scope = scope; known = known } ∷ []

  pub alone_flat : (form : FlatForm) → is_main names main.name.id ≡ true → (size : Size) → main_size main_alone ≡ size → Fits size
      → (own outs : List ℕ) → (decl_numbering infos (sizes_of main_alone) main 0).own ≡ own → result_places (variables_at infos types own) main.results ≡ outs
      → form_by size.occs names main_alone (found []) own outs known ≡ form → IsFlatOf alone (infos ∷ []) (types ∷ []) form
  alone_flat form is_named size size_is fits own outs own_are outs_are form_is = record {
    main = main_alone;
    is_main = ap (λ b. if b then Some main_alone else None) is_named;
    fits = subst Fits (sym size_is) fits;
    is = sym (form-by size.occs names main_alone (found []) own outs known (ap (λ s. s.occs) size_is) refl own_are outs_are ∙ form_is);
  }

  pub alone_expands : (text : List ℕ) (form : FlatForm) (t : TokensOf text) → t.names ≡ names → read t.tokens ≡ Ok (main ∷ [])
      → (scope : variables main ≡ infos) → violations alone ≡ [] → misplaced alone ≡ []
      → (a : Assignment) → is_typed (equalities_by (before_all names) (alone_typed scope)) a (infos ∷ []) (types ∷ []) ≡ true
      → IsFlatOf alone (infos ∷ []) (types ∷ []) form → Expands text names form
  alone_expands text form t named parsed scope well_named placed a typed flat =
      let scoped : scopes alone ≡ infos ∷ [] = ap (λ vs. vs ∷ []) scope in
      expands text alone (types ∷ []) form t named parsed well_named
      (typing_of alone (alone_typed scope) (infos ∷ []) (types ∷ []) a scoped (equalities-by (before_all names) (alone_typed scope)) typed)
      placed
      (subst (λ vss. IsFlatOf alone vss (types ∷ []) form) (sym scoped) flat)

-- ---- a program of a declaration and `main`

module _ (names : List (List ℕ)) (first : Decl) (first_infos : List VarInfo) (first_types : List Ty) (first_known : KnownDecl first) (main : Decl) (infos : List VarInfo) (types : List Ty) (known : KnownDecl main) where
  abbrev pub two : Program
  two = record { decls = first ∷ main ∷ []; names = names }

  abbrev pub before_main : Scoped
  before_main = record { decl = first; infos = first_infos; types = first_types }

  abbrev pub main_behind : MainOf
  main_behind = record { before = before_main ∷ []; main = record { decl = main; infos = infos; types = types } }

  abbrev pub two_typed : variables first ≡ first_infos → variables main ≡ infos → List TypedDecl
  two_typed first_scope scope =
      record { decl = first; infos = first_infos; scope = first_scope; known = first_known }
      ∷ record { decl = main; infos = infos; scope = scope; known = known }
      ∷ []

  -- what `main` calls, where the places of the first declaration's variables are these
  abbrev pub first_called : ℕ → (ℕ → List ℕ) → ℕ → Option Callee
  first_called base own = found (record { name = first.name.id; what = callee_by base names (found []) (found []) before_main first_known own } ∷ [])

  pub two_flat : (form : FlatForm) → is_main names first.name.id ≡ false → is_main names main.name.id ≡ true → (size : Size) → main_size main_behind ≡ size → Fits size
      → (first_own : ℕ → List ℕ) → ((n : ℕ) → (decl_numbering first_infos (found []) first n).own ≡ first_own n)
      → (own outs : List ℕ) → (decl_numbering infos (sizes_of main_behind) main 0).own ≡ own → result_places (variables_at infos types own) main.results ≡ outs
      → form_by size.occs names main_behind (first_called size.occs first_own) own outs known ≡ form → IsFlatOf two (first_infos ∷ infos ∷ []) (first_types ∷ types ∷ []) form
  two_flat form is_other is_named size size_is fits first_own first_are own outs own_are outs_are form_is =
      let called : found (with_callees size.occs names [] [] main_behind.before) ≡ first_called size.occs first_own =
      λ j. found (record { name = first.name.id; what = callee-by size.occs names (found []) (found []) before_main first_known first_own first_are j } ∷ []) in
      record {
        main = main_behind;
        is_main = λ j. if is_other j then Some (record { before = []; main = before_main }) else behind before_main (if is_named j then Some (record { before = []; main = main_behind.main }) else None);
        fits = subst Fits (sym size_is) fits;
        is = sym (form-by size.occs names main_behind (first_called size.occs first_own) own outs known (ap (λ s. s.occs) size_is) called own_are outs_are ∙ form_is);
      }

  pub two_expand : (text : List ℕ) (form : FlatForm) (t : TokensOf text) → t.names ≡ names → read t.tokens ≡ Ok (first ∷ main ∷ [])
      → (first_scope : variables first ≡ first_infos) (scope : variables main ≡ infos) → violations two ≡ [] → misplaced two ≡ []
      → (a : Assignment) → is_typed (equalities_by (before_all names) (two_typed first_scope scope)) a (first_infos ∷ infos ∷ []) (first_types ∷ types ∷ []) ≡ true
      → IsFlatOf two (first_infos ∷ infos ∷ []) (first_types ∷ types ∷ []) form → Expands text names form
  two_expand text form t named parsed first_scope scope well_named placed a typed flat =
      let scoped : scopes two ≡ first_infos ∷ infos ∷ [] = λ j. first_scope j ∷ scope j ∷ [] in
      expands text two (first_types ∷ types ∷ []) form t named parsed well_named
      (typing_of two (two_typed first_scope scope) (first_infos ∷ infos ∷ []) (first_types ∷ types ∷ []) a scoped (equalities-by (before_all names) (two_typed first_scope scope)) typed)
      placed
      (subst (λ vss. IsFlatOf two vss (first_types ∷ types ∷ []) form) (sym scoped) flat)
