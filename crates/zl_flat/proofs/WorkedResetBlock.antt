-- A reset of a `present` that calls a node.
use Rattle.std.proofs.Common.{◌≡◌, ℕ, true, List, [], ◌∷◌, Some, None, Ok, refl, arith}
use Rattle.std.proofs.Math.Nat.{add-zero}
use Rattle.zl_value.specs.declared.position.Pos.{Pos}
use Rattle.zl_value.specs.declared.value.Ty.{Ty}
use Rattle.zl_value.specs.declared.value.Ty.TheVariants.{Int, Float}
use Rattle.zl_lexer.proofs.ReadTexts.{TokensOf, tokens_of}
use Rattle.zl_ast.specs.declared.operator.Infix.TheVariants as infix_op
use Rattle.zl_ast.specs.declared.operator.FlowOp.TheVariants as flow_op
use Rattle.zl_ast.specs.declared.expr.Expr.{Expr}
use Rattle.zl_ast.specs.declared.expr.Expr.TheVariants as tree
use Rattle.zl_ast.specs.declared.eqn.Eqn.{Eqn}
use Rattle.zl_ast.specs.declared.eqn.Eqn.TheVariants as eqn
use Rattle.zl_ast.specs.declared.program.Decl.{Decl}
use Rattle.zl_ast.specs.declared.program.DeclKind.TheVariants as kind
use Rattle.zl_ast.specs.declared.scope.VarInfo.{VarInfo}
use Rattle.zl_ast.specs.declared.scope.VarClass.TheVariants.{Top}
use Rattle.zl_ast.specs.Equations.{body, arm}
use Rattle.zl_ast.specs.Expressions.{link}
use Rattle.zl_ast.specs.Kinds.{allows_present, none_declared, declared_with, misplaced}
use Rattle.zl_ast.specs.NamesUsed.{in_body}
use Rattle.zl_ast.specs.NamesRules.{built_in, declared_with as named_with, variables_broken, uses_broken, violations}
use Rattle.zl_ast.specs.Scopes.{variables}
use Rattle.zl_ast.specs.TypeEqualities.{before_all}
use Rattle.zl_ast.proofs.PlaceLemmas.{place_steps}
use Rattle.zl_meaning.specs.Worked.{at}
use Rattle.zl_meaning.specs.Worked.ResetBlock.{names, form}
use Rattle.zl_flat.specs.declared.size.Size.{Size}
use Rattle.zl_flat.specs.Parts.{nothing, joined, some_places, some_definers, one_block, one_place, one_occ, one_hidden, one_site, one_choice, one_automaton, after, past_block, past_occ, past_hidden, past_site, past_choice, past_automaton}
use Rattle.zl_flat.specs.Variables.{variables as variables_at}
use Rattle.zl_flat.specs.Sizes.{none, plus, a_place, an_occ, an_up, a_block, in_call, decl_size}
use Rattle.zl_flat.specs.Numbering.{decl_numbering}
use Rattle.zl_flat.specs.Expansion.{MainOf, found, main_size, sizes_of, result_places}
use Rattle.zl_flat.specs.Limits.{Fits}
use Rattle.zl_flat.specs.Worked.{name, variable, float}
use Rattle.zl_flat.specs.WorkedTexts.{reset_block_text, ResetBlockExpands}
use Rattle.zl_flat.proofs.CheckedTypes.{is_typed}
use Rattle.zl_flat.proofs.ContextSteps.{context_steps}
use Rattle.zl_flat.proofs.KnownDecls.{KnownDecl}
use Rattle.zl_flat.proofs.KnownForms.{form_by}
use Rattle.zl_flat.proofs.KnownOutlines.{known_outlines, variables-by, broken-by}
use Rattle.zl_flat.proofs.KnownTypes.{known_places, known_types}
use Rattle.zl_flat.proofs.KnownTypings.{equalities_by}
use Rattle.zl_flat.proofs.KnownWalks.{known_walks}
use Rattle.zl_flat.proofs.NameSteps.{name_steps}
use Rattle.zl_flat.proofs.NumberingSteps.{numbering_steps}
use Rattle.zl_flat.proofs.ParseTexts.{the_some, read}
use Rattle.zl_flat.proofs.SizeSteps.{size_steps}
use Rattle.zl_flat.proofs.StructParts.{struct_parts, on-result}
use Rattle.zl_flat.proofs.WorkedPrograms.{main_behind, first_called, two, two_typed, two_flat, two_expand}
use Rattle.zl_flat.proofs.WorkedTrees.{int, part, minus, up_of, resets_at, ints_at}

-- ---- the tree

abbrev count_results : List Expr
count_results = tree.Var (name 1 1 20) ∷ []

-- 1 fby (n + 1)
abbrev counted : Expr
counted = tree.Flow flow_op.Fby (at 1 38) (int 1 1 36) (tree.Chain (tree.Var (name 1 1 43)) (link infix_op.Plus (at 1 45) (int 1 1 47) ∷ []))

abbrev count_equations : List Eqn
count_equations = eqn.Plain (name 1 1 32 ∷ []) counted ∷ []

abbrev count : Decl
count = record { kind = kind.Node; name = name 0 1 10; params = []; results = count_results; eqs = count_equations }

-- the difference of t and a number
abbrev since : ℕ → ℕ → ℕ → Expr → Expr
since line t dot x = minus (tree.Var (name 3 line t)) line dot x

abbrev counts : Eqn
counts = eqn.Present (at 5 13) (arm (up_of 5 21 (since 5 24 26 (part 1 2 5 29))) (body [] (eqn.Plain (name 1 5 40 ∷ []) (tree.Call (name 0 5 44) []) ∷ [])) ∷ []) None

abbrev results : List Expr
results = tree.Var (name 1 2 21) ∷ []

abbrev equations : List Eqn
equations =
    eqn.Der (at 3 3) (name 3 3 7) (float 1 3 11) (Some (float 0 3 20)) (resets_at 3 30 (since 3 33 35 (float 1 3 38)) (float 0 3 46) ∷ [])
    ∷ eqn.Start (at 4 7) (name 1 4 12) (int 0 4 16)
    ∷ eqn.Reset (at 5 7) (counts ∷ []) (up_of 5 63 (since 5 66 68 (float 1 5 71)))
    ∷ []

abbrev main : Decl
main = record { kind = kind.Hybrid; name = name 2 2 12; params = []; results = results; eqs = equations }

tokens : TokensOf reset_block_text
unfolding tokens_of
tokens = the_some (tokens_of reset_block_text refl) refl

named : tokens.names ≡ names
unfolding tokens
named = refl

parsed : read tokens.tokens ≡ Ok (count ∷ main ∷ [])
unfolding tokens read
parsed = refl

-- ---- the rules

abbrev first_infos : List VarInfo
first_infos = variable 1 1 32 Top ∷ []

abbrev infos : List VarInfo
infos = variable 3 3 7 Top ∷ variable 1 4 12 Top ∷ []

abbrev first_types : List Ty
first_types = Int ∷ []

abbrev types : List Ty
types = Float ∷ Int ∷ []

-- the occurrences and variables of type int
abbrev ints : List Pos
ints = at 1 20 ∷ at 1 32 ∷ at 1 36 ∷ at 1 38 ∷ at 1 43 ∷ at 1 45 ∷ at 1 47 ∷ at 2 21 ∷ at 4 12 ∷ at 4 16 ∷ at 5 44 ∷ []

first_known : KnownDecl count
first_known = record {
  outlines = search known_outlines depth 40 fits 3000;
  places = search known_places depth 20 fits 2000;
  typed_results = λ e. search known_types depth 40 fits 3000;
  typed_eqs = λ e. search known_types depth 40 fits 3000;
  results = λ base names i. search known_walks depth 40 fits 3000;
  eqs = λ base names i. search known_walks depth 40 fits 3000;
}

known : KnownDecl main
known = record {
  outlines = search known_outlines depth 40 fits 3000;
  places = search known_places depth 20 fits 2000;
  typed_results = λ e. search known_types depth 40 fits 3000;
  typed_eqs = λ e. search known_types depth 40 fits 3000;
  results = λ base names i. search known_walks depth 40 fits 3000;
  eqs = λ base names i. search known_walks depth 40 fits 3000;
}

first_scope : variables count ≡ first_infos
unfolding first_known
first_scope = variables-by count first_known.outlines

scope : variables main ≡ infos
unfolding known
scope = variables-by main known.outlines

first_defined : variables_broken (built_in names) count ≡ []
unfolding first_known
first_defined = broken-by (built_in names) count first_known.outlines

defined : variables_broken (named_with (built_in names) count) main ≡ []
unfolding known
defined = broken-by (named_with (built_in names) count) main known.outlines

well_named : violations (two names count first_infos first_types first_known main infos types known) ≡ []
unfolding in_body uses_broken
well_named = simp (first_scope, scope, first_defined, defined, name_steps, place_steps)

placed : misplaced (two names count first_infos first_types first_known main infos types known) ≡ []
unfolding allows_present none_declared declared_with
placed = simp context_steps

typed : is_typed (equalities_by (before_all names) (two_typed names count first_infos first_types first_known main infos types known first_scope scope)) (ints_at ints) (first_infos ∷ infos ∷ []) (first_types ∷ types ∷ []) ≡ true
unfolding first_known known
typed = refl

-- ---- the form

abbrev whole : MainOf
whole = main_behind names count first_infos first_types first_known main infos types known

abbrev size : Size
size = record { places = 3; occs = 24; sites = 3; blocks = 3; calls = 1 }

size_is : main_size whole ≡ size
unfolding main_size decl_size plus none a_place an_occ an_up a_block in_call
size_is = simp (size_steps, struct_parts)

size_fits : Fits size
size_fits = record { places = omega arith; occs = omega arith; sites = omega arith; blocks = omega arith; calls = omega arith }

-- the places of the first declaration's variables, in a copy whose first place is this
abbrev first_own : ℕ → List ℕ
first_own n = n ∷ []

first_own_are : (n : ℕ) → (decl_numbering first_infos (found []) count n).own ≡ first_own n
unfolding decl_numbering plus none a_place an_occ an_up a_block
first_own_are n = simp (numbering_steps, size_steps, add-zero)

own : (decl_numbering infos (sizes_of whole) main 0).own ≡ 0 ∷ 1 ∷ []
unfolding decl_numbering decl_size plus none a_place an_occ an_up a_block in_call
own = simp (numbering_steps, size_steps, struct_parts)

outs : result_places (variables_at infos types (0 ∷ 1 ∷ [])) main.results ≡ 1 ∷ []
outs = simp on-result

form_is : form_by 24 names whole (first_called names count first_infos first_types first_known main infos types known 24 first_own) (0 ∷ 1 ∷ []) (1 ∷ []) known ≡ form
unfolding first_known known joined nothing some_places some_definers one_block one_place one_occ one_hidden one_site one_choice one_automaton after past_block past_occ past_hidden past_site past_choice past_automaton
form_is = refl

pub reset_block_expands : ResetBlockExpands
reset_block_expands =
    two_expand names count first_infos first_types first_known main infos types known reset_block_text form tokens named parsed first_scope scope well_named placed (ints_at ints) typed
    (two_flat names count first_infos first_types first_known main infos types known form refl refl size size_is size_fits first_own first_own_are (0 ∷ 1 ∷ []) (1 ∷ []) own outs form_is)
