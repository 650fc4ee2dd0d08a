-- An automaton inside a state of another, which waits while that state isn't active.
use Rattle.std.proofs.Common.{◌≡◌, ℕ, true, false, List, [], ◌∷◌, Some, None, Ok, refl, arith}
use Rattle.zl_value.specs.declared.value.Ty.{Ty}
use Rattle.zl_value.specs.declared.value.Ty.TheVariants.{Float}
use Rattle.zl_lexer.proofs.ReadTexts.{TokensOf, tokens_of}
use Rattle.zl_ast.specs.declared.expr.Expr.{Expr}
use Rattle.zl_ast.specs.declared.expr.Expr.TheVariants as tree
use Rattle.zl_ast.specs.declared.eqn.Eqn.{Eqn}
use Rattle.zl_ast.specs.declared.eqn.Eqn.TheVariants as eqn
use Rattle.zl_ast.specs.declared.eqn.State.{State}
use Rattle.zl_ast.specs.declared.program.Decl.{Decl}
use Rattle.zl_ast.specs.declared.program.DeclKind.TheVariants as kind
use Rattle.zl_ast.specs.declared.scope.VarInfo.{VarInfo}
use Rattle.zl_ast.specs.declared.scope.VarClass.TheVariants.{Top}
use Rattle.zl_ast.specs.Equations.{body, state}
use Rattle.zl_ast.specs.Kinds.{allows_present, none_declared, misplaced}
use Rattle.zl_ast.specs.NamesUsed.{in_body}
use Rattle.zl_ast.specs.NamesRules.{built_in, variables_broken, uses_broken, violations}
use Rattle.zl_ast.specs.Scopes.{variables}
use Rattle.zl_ast.specs.TypeEqualities.{before_all}
use Rattle.zl_ast.proofs.PlaceLemmas.{place_steps}
use Rattle.zl_meaning.specs.Worked.{at}
use Rattle.zl_meaning.specs.Worked.WaitingByHistory.{names, form}
use Rattle.zl_flat.specs.declared.size.Size.{Size}
use Rattle.zl_flat.specs.Parts.{nothing, joined, some_places, some_definers, one_block, one_place, one_occ, one_hidden, one_site, one_choice, one_automaton, after, past_block, past_occ, past_hidden, past_site, past_choice, past_automaton}
use Rattle.zl_flat.specs.Variables.{variables as variables_at}
use Rattle.zl_flat.specs.Sizes.{none, plus, a_place, an_occ, an_up, a_block, decl_size}
use Rattle.zl_flat.specs.Numbering.{decl_numbering}
use Rattle.zl_flat.specs.Expansion.{MainOf, found, main_size, sizes_of, result_places}
use Rattle.zl_flat.specs.Limits.{Fits}
use Rattle.zl_flat.specs.Worked.{name, variable, float}
use Rattle.zl_flat.specs.WorkedTexts.{waiting_text, WaitingExpands}
use Rattle.zl_flat.proofs.CheckedTypes.{is_typed}
use Rattle.zl_flat.proofs.ContextSteps.{context_steps}
use Rattle.zl_flat.proofs.KnownDecls.{KnownDecl}
use Rattle.zl_flat.proofs.KnownForms.{form_by}
use Rattle.zl_flat.proofs.KnownOutlines.{known_outlines, variables-by, broken-by}
use Rattle.zl_flat.proofs.KnownTypes.{known_places, known_types}
use Rattle.zl_flat.proofs.KnownTypings.{equalities_by}
use Rattle.zl_flat.proofs.KnownWalks.{known_walks}
use Rattle.zl_flat.proofs.NameSteps.{name_steps}
use Rattle.zl_flat.proofs.NumberingSteps.{numbering_steps}
use Rattle.zl_flat.proofs.ParseTexts.{the_some, read}
use Rattle.zl_flat.proofs.SizeSteps.{size_steps}
use Rattle.zl_flat.proofs.StructParts.{struct_parts, on-result}
use Rattle.zl_flat.proofs.WorkedPrograms.{main_alone, alone, alone_typed, alone_flat, alone_expands}
use Rattle.zl_flat.proofs.WorkedTrees.{minus, resets_at, until_up, ints_at}

-- ---- the tree

-- t -. 1.0
abbrev past_one : ℕ → ℕ → ℕ → ℕ → Expr
past_one line t dot one = minus (tree.Var (name 2 line t)) line dot (float 1 line one)

-- the inner automaton
abbrev slow : State
slow = state (name 4 2 25) (body [] (eqn.Der (at 2 33) (name 1 2 37) (float 1 2 41) None [] ∷ [])) (until_up true 2 45 51 (past_one 2 54 56 59) (name 5 2 69) ∷ [])

abbrev fast : State
fast = state (name 5 2 73) (body [] (eqn.Der (at 2 81) (name 1 2 85) (float 2 2 89) None [] ∷ [])) []

-- the outer automaton
abbrev moving : State
moving = state (name 3 2 5) (body [] (eqn.Automaton (at 2 13) (slow ∷ fast ∷ []) ∷ [])) (until_up true 2 102 108 (past_one 2 111 113 116) (name 6 2 126) ∷ [])

abbrev resting : State
resting = state (name 6 3 5) (body [] []) (until_up false 3 13 19 (past_one 3 22 24 27) (name 3 3 41) ∷ [])

abbrev results : List Expr
results = tree.Var (name 1 1 21) ∷ []

abbrev equations : List Eqn
equations =
    eqn.Der (at 1 33) (name 2 1 37) (float 1 1 41) (Some (float 0 1 50)) (resets_at 1 60 (past_one 1 63 65 68) (float 0 1 76) ∷ [])
    ∷ eqn.Start (at 1 84) (name 1 1 89) (float 0 1 93)
    ∷ eqn.Automaton (at 1 101) (moving ∷ resting ∷ [])
    ∷ []

abbrev main : Decl
main = record { kind = kind.Hybrid; name = name 0 1 12; params = []; results = results; eqs = equations }

tokens : TokensOf waiting_text
unfolding tokens_of
tokens = the_some (tokens_of waiting_text refl) refl

named : tokens.names ≡ names
unfolding tokens
named = refl

parsed : read tokens.tokens ≡ Ok (main ∷ [])
unfolding tokens read
parsed = refl

-- ---- the rules

abbrev infos : List VarInfo
infos = variable 2 1 37 Top ∷ variable 1 1 89 Top ∷ []

abbrev types : List Ty
types = Float ∷ Float ∷ []

known : KnownDecl main
known = record {
  outlines = search known_outlines depth 40 fits 3000;
  places = search known_places depth 20 fits 2000;
  typed_results = λ e. search known_types depth 40 fits 3000;
  typed_eqs = λ e. search known_types depth 40 fits 3000;
  results = λ base names i. search known_walks depth 40 fits 3000;
  eqs = λ base names i. search known_walks depth 40 fits 3000;
}

scope : variables main ≡ infos
unfolding known
scope = variables-by main known.outlines

defined : variables_broken (built_in names) main ≡ []
unfolding known
defined = broken-by (built_in names) main known.outlines

well_named : violations (alone names main infos types known) ≡ []
unfolding in_body uses_broken
well_named = simp (scope, defined, name_steps, place_steps)

placed : misplaced (alone names main infos types known) ≡ []
unfolding allows_present none_declared
placed = simp context_steps

typed : is_typed (equalities_by (before_all names) (alone_typed names main infos types known scope)) (ints_at ([])) (infos ∷ []) (types ∷ []) ≡ true
unfolding known
typed = refl

-- ---- the form

abbrev whole : MainOf
whole = main_alone names main infos types known

abbrev size : Size
size = record { places = 2; occs = 23; sites = 4; blocks = 9; calls = 0 }

size_is : main_size whole ≡ size
unfolding main_size decl_size plus none a_place an_occ an_up a_block
size_is = simp (size_steps, struct_parts)

size_fits : Fits size
size_fits = record { places = omega arith; occs = omega arith; sites = omega arith; blocks = omega arith; calls = omega arith }

own : (decl_numbering infos (sizes_of whole) main 0).own ≡ 0 ∷ 1 ∷ []
unfolding decl_numbering plus none a_place an_occ an_up a_block
own = simp (numbering_steps, size_steps, struct_parts)

outs : result_places (variables_at infos types (0 ∷ 1 ∷ [])) main.results ≡ 1 ∷ []
outs = simp on-result

form_is : form_by 23 names whole (found []) (0 ∷ 1 ∷ []) (1 ∷ []) known ≡ form
unfolding known joined nothing some_places some_definers one_block one_place one_occ one_hidden one_site one_choice one_automaton after past_block past_occ past_hidden past_site past_choice past_automaton
form_is = refl

pub waiting_expands : WaitingExpands
waiting_expands =
    alone_expands names main infos types known waiting_text form tokens named parsed scope well_named placed (ints_at ([])) typed
    (alone_flat names main infos types known form refl size size_is size_fits (0 ∷ 1 ∷ []) (1 ∷ []) own outs form_is)
