-- Two tanks of which one is filled.
use Rattle.std.proofs.Common.{◌≡◌, ℕ, true, List, [], ◌∷◌, None, Ok, refl, arith}
use Rattle.zl_value.specs.declared.value.Ty.{Ty}
use Rattle.zl_value.specs.declared.value.Ty.TheVariants.{Float}
use Rattle.zl_lexer.proofs.ReadTexts.{TokensOf, tokens_of}
use Rattle.zl_ast.specs.declared.operator.Prefix.TheVariants as prefix_op
use Rattle.zl_ast.specs.declared.expr.Expr.{Expr}
use Rattle.zl_ast.specs.declared.expr.Expr.TheVariants as tree
use Rattle.zl_ast.specs.declared.eqn.Eqn.{Eqn}
use Rattle.zl_ast.specs.declared.eqn.Eqn.TheVariants as eqn
use Rattle.zl_ast.specs.declared.eqn.State.{State}
use Rattle.zl_ast.specs.declared.program.Decl.{Decl}
use Rattle.zl_ast.specs.declared.program.DeclKind.TheVariants as kind
use Rattle.zl_ast.specs.declared.scope.VarInfo.{VarInfo}
use Rattle.zl_ast.specs.declared.scope.VarClass.TheVariants.{Top}
use Rattle.zl_ast.specs.Equations.{body, state}
use Rattle.zl_ast.specs.Kinds.{allows_present, none_declared, misplaced}
use Rattle.zl_ast.specs.NamesUsed.{in_body}
use Rattle.zl_ast.specs.NamesRules.{built_in, variables_broken, uses_broken, violations}
use Rattle.zl_ast.specs.Scopes.{variables}
use Rattle.zl_ast.specs.TypeEqualities.{before_all}
use Rattle.zl_ast.proofs.PlaceLemmas.{place_steps}
use Rattle.zl_meaning.specs.Worked.{at}
use Rattle.zl_meaning.specs.Worked.TwoTanks.{names, form}
use Rattle.zl_flat.specs.declared.size.Size.{Size}
use Rattle.zl_flat.specs.Parts.{nothing, joined, some_places, some_definers, one_block, one_place, one_occ, one_hidden, one_site, one_choice, one_automaton, after, past_block, past_occ, past_hidden, past_site, past_choice, past_automaton}
use Rattle.zl_flat.specs.Variables.{variables as variables_at}
use Rattle.zl_flat.specs.Sizes.{none, plus, a_place, an_occ, an_up, a_block, decl_size}
use Rattle.zl_flat.specs.Numbering.{decl_numbering}
use Rattle.zl_flat.specs.Expansion.{MainOf, found, main_size, sizes_of, result_places}
use Rattle.zl_flat.specs.Limits.{Fits}
use Rattle.zl_flat.specs.Worked.{name, variable, float}
use Rattle.zl_flat.specs.WorkedTexts.{two_tanks_text, TwoTanksExpands}
use Rattle.zl_flat.proofs.CheckedTypes.{is_typed}
use Rattle.zl_flat.proofs.ContextSteps.{context_steps}
use Rattle.zl_flat.proofs.KnownDecls.{KnownDecl}
use Rattle.zl_flat.proofs.KnownForms.{form_by}
use Rattle.zl_flat.proofs.KnownOutlines.{known_outlines, variables-by, broken-by}
use Rattle.zl_flat.proofs.KnownTypes.{known_places, known_types}
use Rattle.zl_flat.proofs.KnownTypings.{equalities_by}
use Rattle.zl_flat.proofs.KnownWalks.{known_walks}
use Rattle.zl_flat.proofs.NameSteps.{name_steps}
use Rattle.zl_flat.proofs.NumberingSteps.{numbering_steps}
use Rattle.zl_flat.proofs.ParseTexts.{the_some, read}
use Rattle.zl_flat.proofs.SizeSteps.{size_steps}
use Rattle.zl_flat.proofs.StructParts.{struct_parts, on-result}
use Rattle.zl_flat.proofs.WorkedPrograms.{main_alone, alone, alone_typed, alone_flat, alone_expands}
use Rattle.zl_flat.proofs.WorkedTrees.{part, minus, until_up, ints_at}

-- ---- the tree

-- 0.75 -. 0.5
abbrev filled : ℕ → ℕ → ℕ → ℕ → Expr
filled line x dot y = minus (part 3 4 line x) line dot (part 1 2 line y)

-- -. 0.5
abbrev drained : ℕ → ℕ → ℕ → Expr
drained line dot x = tree.Prefix prefix_op.MinusDot (at line dot) (part 1 2 line x)

abbrev first_tank : State
first_tank =
    state (name 3 4 5)
    (body [] (eqn.Der (at 4 13) (name 1 4 17) (filled 4 22 27 30) None [] ∷ eqn.Der (at 4 38) (name 2 4 42) (drained 4 47 50) None [] ∷ []))
    (until_up true 4 54 60 (tree.Prefix prefix_op.MinusDot (at 4 63) (tree.Var (name 2 4 66))) (name 4 4 75) ∷ [])

abbrev second_tank : State
second_tank =
    state (name 4 5 5)
    (body [] (eqn.Der (at 5 13) (name 1 5 17) (drained 5 22 25) None [] ∷ eqn.Der (at 5 33) (name 2 5 37) (filled 5 42 47 50) None [] ∷ []))
    (until_up true 5 54 60 (tree.Prefix prefix_op.MinusDot (at 5 63) (tree.Var (name 1 5 66))) (name 3 5 75) ∷ [])

abbrev results : List Expr
results = tree.Var (name 1 1 22) ∷ tree.Var (name 2 1 26) ∷ []

abbrev equations : List Eqn
equations =
    eqn.Start (at 2 3) (name 1 2 8) (float 0 2 13)
    ∷ eqn.Start (at 2 21) (name 2 2 26) (float 1 2 31)
    ∷ eqn.Automaton (at 3 7) (first_tank ∷ second_tank ∷ [])
    ∷ []

abbrev main : Decl
main = record { kind = kind.Hybrid; name = name 0 1 12; params = []; results = results; eqs = equations }

tokens : TokensOf two_tanks_text
unfolding tokens_of
tokens = the_some (tokens_of two_tanks_text refl) refl

named : tokens.names ≡ names
unfolding tokens
named = refl

parsed : read tokens.tokens ≡ Ok (main ∷ [])
unfolding tokens read
parsed = refl

-- ---- the rules

abbrev infos : List VarInfo
infos = variable 1 2 8 Top ∷ variable 2 2 26 Top ∷ []

abbrev types : List Ty
types = Float ∷ Float ∷ []

known : KnownDecl main
known = record {
  outlines = search known_outlines depth 40 fits 3000;
  places = search known_places depth 20 fits 2000;
  typed_results = λ e. search known_types depth 40 fits 3000;
  typed_eqs = λ e. search known_types depth 40 fits 3000;
  results = λ base names i. search known_walks depth 40 fits 3000;
  eqs = λ base names i. search known_walks depth 40 fits 3000;
}

scope : variables main ≡ infos
unfolding known
scope = variables-by main known.outlines

defined : variables_broken (built_in names) main ≡ []
unfolding known
defined = broken-by (built_in names) main known.outlines

well_named : violations (alone names main infos types known) ≡ []
unfolding in_body uses_broken
well_named = simp (scope, defined, name_steps, place_steps)

placed : misplaced (alone names main infos types known) ≡ []
unfolding allows_present none_declared
placed = simp context_steps

typed : is_typed (equalities_by (before_all names) (alone_typed names main infos types known scope)) (ints_at ([])) (infos ∷ []) (types ∷ []) ≡ true
unfolding known
typed = refl

-- ---- the form

abbrev whole : MainOf
whole = main_alone names main infos types known

abbrev size : Size
size = record { places = 2; occs = 20; sites = 2; blocks = 5; calls = 0 }

size_is : main_size whole ≡ size
unfolding main_size decl_size plus none a_place an_occ an_up a_block
size_is = simp (size_steps, struct_parts)

size_fits : Fits size
size_fits = record { places = omega arith; occs = omega arith; sites = omega arith; blocks = omega arith; calls = omega arith }

own : (decl_numbering infos (sizes_of whole) main 0).own ≡ 0 ∷ 1 ∷ []
unfolding decl_numbering plus none a_place an_occ an_up a_block
own = simp (numbering_steps, size_steps, struct_parts)

outs : result_places (variables_at infos types (0 ∷ 1 ∷ [])) main.results ≡ 0 ∷ 1 ∷ []
outs = simp on-result

form_is : form_by 20 names whole (found []) (0 ∷ 1 ∷ []) (0 ∷ 1 ∷ []) known ≡ form
unfolding known joined nothing some_places some_definers one_block one_place one_occ one_hidden one_site one_choice one_automaton after past_block past_occ past_hidden past_site past_choice past_automaton
form_is = refl

pub two_tanks_expand : TwoTanksExpands
two_tanks_expand =
    alone_expands names main infos types known two_tanks_text form tokens named parsed scope well_named placed (ints_at ([])) typed
    (alone_flat names main infos types known form refl size size_is size_fits (0 ∷ 1 ∷ []) (0 ∷ 1 ∷ []) own outs form_is)
