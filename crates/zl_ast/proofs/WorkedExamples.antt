-- The worked examples, by computation of the reading.
use Rattle.std.proofs.Common.{◌≡◌, ℕ, List, Result, Err, refl}
use Rattle.zl_lexer.specs.declared.token.Token.{Token}
use Rattle.zl_lexer.specs.declared.token.TokenKind.{TokenKind}
use Rattle.zl_ast.specs.declared.program.Decl.{Decl}
use Rattle.zl_ast.specs.Declarations.{IsDecls, nesting_limit}
use Rattle.zl_ast.specs.Reading.{Fault, parse, deep, ◌>>=◌, next_is, next_in, take, find, name, inside, others, list_of, maybe, pass, to_close, tuple}
use Rattle.zl_ast.specs.ReadingExpressions.{atom_at, atom, pref, links, level, cmp, expr_of, read_expr}
use Rattle.zl_ast.specs.ReadingEquations.{up, cond, reset_arm, alt, alts, move_from, moves, state_end, locals, do_ends, do_eqs, body, arm, state, eqn_at, eqn, read_eqs}
use Rattle.zl_ast.specs.ReadingDeclarations.{type_of, param, result, where_part, decl, decls, read_program}
use Rattle.zl_ast.specs.Examples.{numbered, Left, Levels, Parentheses, Negative, Flows, Choice, Lists, Derivative, Innermost, Bars, Several, Block, DeepEnough, TwoComparisons, NoList, OuterMove, NoBranch, TooDeep, Examples}
use Rattle.zl_ast.proofs.AgreeingDeclarations.{program_sound, program_complete}
use Rattle.zl_ast.proofs.TreeLaws.{no_tree_at_any_depth}

-- the reading with all that it computes by
unfoldable read : List TokenKind → Result (List Decl) Fault
unfolding ◌>>=◌ next_is next_in take find name inside others list_of maybe pass to_close tuple atom_at atom pref links level cmp expr_of read_expr up cond reset_arm alt alts move_from moves state_end locals do_ends do_eqs body arm state eqn_at eqn read_eqs type_of param result where_part decl decls read_program
read kinds = read_program nesting_limit (numbered 1 kinds)

none : (left : ℕ) (ts : List Token) → read_program nesting_limit ts ≡ Err (parse left) → (n : ℕ) (ds : List Decl) → IsDecls n ts ds → ⊥
none left ts e n ds h = no_tree_at_any_depth nesting_limit left ts e n ds h

too_deep : (left : ℕ) (ts : List Token) → read_program nesting_limit ts ≡ Err (deep left) → (ds : List Decl) → IsDecls nesting_limit ts ds → ⊥
too_deep left ts e ds h = let g = program_complete nesting_limit ts ds h in cc

is_left : Left
unfolding read
is_left = program_sound nesting_limit _ _ refl

is_levels : Levels
unfolding read
is_levels = program_sound nesting_limit _ _ refl

is_parentheses : Parentheses
unfolding read
is_parentheses = program_sound nesting_limit _ _ refl

is_negative : Negative
unfolding read
is_negative = program_sound nesting_limit _ _ refl

is_flows : Flows
unfolding read
is_flows = program_sound nesting_limit _ _ refl

is_choice : Choice
unfolding read
is_choice = program_sound nesting_limit _ _ refl

is_lists : Lists
unfolding read
is_lists = program_sound nesting_limit _ _ refl

is_derivative : Derivative
unfolding read
is_derivative = program_sound nesting_limit _ _ refl

is_innermost : Innermost
unfolding read
is_innermost = program_sound nesting_limit _ _ refl

is_bars : Bars
unfolding read
is_bars = program_sound nesting_limit _ _ refl

is_several : Several
unfolding read
is_several = program_sound nesting_limit _ _ refl

is_block : Block
unfolding read
is_block = program_sound nesting_limit _ _ refl

is_deep_enough : DeepEnough
unfolding read
is_deep_enough = program_sound nesting_limit _ _ refl

is_two_comparisons : TwoComparisons
unfolding read
is_two_comparisons = none 2 _ refl

is_no_list : NoList
unfolding read
is_no_list = none 2 _ refl

is_outer_move : OuterMove
unfolding read
is_outer_move = none 0 _ refl

is_no_branch : NoBranch
unfolding read
is_no_branch = none 0 _ refl

is_too_deep : TooDeep
unfolding read
is_too_deep = too_deep 67 _ refl

pub examples : Examples
examples = record {
  left = is_left;
  levels = is_levels;
  parentheses = is_parentheses;
  negative = is_negative;
  flows = is_flows;
  choice = is_choice;
  lists = is_lists;
  derivative = is_derivative;
  innermost = is_innermost;
  bars = is_bars;
  several = is_several;
  block = is_block;
  deep_enough = is_deep_enough;
  two_comparisons = is_two_comparisons;
  no_list = is_no_list;
  outer_move = is_outer_move;
  no_branch = is_no_branch;
  too_deep = is_too_deep;
}
