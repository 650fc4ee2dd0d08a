-- A text expands to one form at most.
use Rattle.std.proofs.Common.{◌≡◌, List, [], ◌∷◌, Some, refl, sym, ap, subst, ◌∙◌}
use Rattle.zl_value.specs.declared.value.Ty.{Ty}
use Rattle.zl_lexer.proofs.ReadingLemmas.{one_list}
use Rattle.zl_ast.specs.declared.constraint.Equality.{Equality}
use Rattle.zl_ast.specs.declared.program.Program.{Program}
use Rattle.zl_ast.specs.declared.scope.VarInfo.{VarInfo}
use Rattle.zl_ast.specs.Assignments.{Assignment, Solves, HaveTypes, end, next, HaveTypesInEach, end_of_all, next_of_all, IsTyping}
use Rattle.zl_ast.specs.Declarations.{IsDecls, nesting_limit}
use Rattle.zl_ast.specs.Scopes.{scopes}
use Rattle.zl_ast.specs.TypeEqualities.{equalities}
use Rattle.zl_ast.proofs.AgreeingDeclarations.{one_tree_at}
use Rattle.zl_meaning.specs.FlatForm.{FlatForm}
use Rattle.zl_flat.specs.Expansion.{MainOf, main_form}
use Rattle.zl_flat.specs.Flat.{IsFlatOf}
use Rattle.zl_flat.specs.WorkedTexts.{OneForm}

-- ---- one typing

module _ (es : List Equality) (a : Assignment) (s : Solves es a) where
  one_type_each : (vs : List VarInfo) (ts us : List Ty) → HaveTypes es vs ts → HaveTypes es vs us → ts ≡ us
  one_type_each [] _ _ end end = refl
  one_type_each (v ∷ vs) [] us h _ = elim h [ ]
  one_type_each (v ∷ vs) (t ∷ ts) [] _ k = elim k [ ]
  one_type_each (v ∷ vs) (t ∷ ts) (u ∷ us) (next h hs) (next k ks) = λ j. (sym (h a s) ∙ k a s) j ∷ one_type_each vs ts us hs ks j

  one_typing : (vss : List (List VarInfo)) (tss uss : List (List Ty)) → HaveTypesInEach es vss tss → HaveTypesInEach es vss uss → tss ≡ uss
  one_typing [] _ _ end_of_all end_of_all = refl
  one_typing (vs ∷ vss) [] uss h _ = elim h [ ]
  one_typing (vs ∷ vss) (ts ∷ tss) [] _ k = elim k [ ]
  one_typing (vs ∷ vss) (ts ∷ tss) (us ∷ uss) (next_of_all h hs) (next_of_all k ks) = λ j. one_type_each vs ts us h k j ∷ one_typing vss tss uss hs ks j

-- ---- one form

some_same : (m n : MainOf) → Some m ≡ Some n → m ≡ n
some_same m n e = cc

one_flat : (p : Program) (vss : List (List VarInfo)) (tss : List (List Ty)) (form other : FlatForm) → IsFlatOf p vss tss form → IsFlatOf p vss tss other → form ≡ other
one_flat p vss tss form other x y = x.is ∙ ap (main_form p.names) (some_same x.main y.main (sym x.is_main ∙ y.is_main)) ∙ sym y.is

pub one_form : OneForm
one_form text names more form other x y =
    let lists = one_list text x.checked.parsed.tokens y.checked.parsed.tokens x.program.names y.program.names x.checked.parsed.end y.checked.parsed.end x.lexed y.lexed in
    let trees : x.program.decls ≡ y.program.decls =
    one_tree_at nesting_limit x.checked.parsed.tokens x.program.decls y.program.decls x.checked.parsed.is_program
    (subst (λ ts. IsDecls nesting_limit ts y.program.decls) (sym lists.0) y.checked.parsed.is_program) in
    let same : y.program ≡ x.program = λ j. record { decls = sym trees j; names = sym lists.1 j } in
    let typing : IsTyping (equalities x.program) (scopes x.program) y.types = subst (λ p. IsTyping (equalities p) (scopes p) y.types) same y.checked.typing in
    let types : y.types ≡ x.types =
    one_typing (equalities x.program) typing.solution typing.solves (scopes x.program) y.types x.types typing.types_of_variables x.checked.typing.types_of_variables in
    let flat : IsFlatOf x.program (scopes x.program) x.types other =
    subst (λ tss. IsFlatOf x.program (scopes x.program) tss other) types (subst (λ p. IsFlatOf p (scopes p) y.types other) same y.flat) in
    (sym x.names_are ∙ lists.1 ∙ y.names_are, one_flat x.program (scopes x.program) x.types form other x.flat flat)
