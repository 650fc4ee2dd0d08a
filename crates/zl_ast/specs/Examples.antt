-- Worked examples of the grammar: lists of tokens with their trees, and lists that have none. The tokens of an example
-- stand in one line, each at the column of its number from 1, and names are numbered in order of first appearance.
use Rattle.std.specs.Prelude.{ℕ, suc, pos, true, false, List, [], ◌∷◌, ◌++◌, replicate, Some, None}
use Rattle.zl_lexer.specs.declared.token.Token.{Token}
use Rattle.zl_lexer.specs.declared.token.TokenKind.{TokenKind}
use Rattle.zl_lexer.specs.declared.token.TokenKind.TheVariants.{Int, Float, Name, Word, Sign}
use Rattle.zl_lexer.specs.declared.token.Word.TheVariants as word
use Rattle.zl_lexer.specs.declared.token.Sign.TheVariants as sign
use Rattle.zl_value.specs.Fraction.{neg, whole}
use Rattle.zl_value.specs.declared.position.Pos.{Pos}
use Rattle.zl_value.specs.declared.value.Ty.TheVariants as ty
use Rattle.zl_value.specs.declared.value.Value.TheVariants as value
use Rattle.zl_ast.specs.declared.name.Name as names
use Rattle.zl_ast.specs.declared.operator.Prefix.TheVariants as prefix
use Rattle.zl_ast.specs.declared.operator.Infix.TheVariants as op
use Rattle.zl_ast.specs.declared.operator.FlowOp.TheVariants as flow
use Rattle.zl_ast.specs.declared.expr.Expr.{Expr}
use Rattle.zl_ast.specs.declared.expr.Expr.TheVariants as tree
use Rattle.zl_ast.specs.declared.eqn.Eqn.TheVariants as eqn
use Rattle.zl_ast.specs.declared.eqn.Cond.TheVariants as cond
use Rattle.zl_ast.specs.declared.program.Decl.{Decl}
use Rattle.zl_ast.specs.declared.program.DeclKind.TheVariants as decl
use Rattle.zl_ast.specs.Expressions.{link}
use Rattle.zl_ast.specs.Equations.{body, arm, state}
use Rattle.zl_ast.specs.Declarations.{IsDecls, nesting_limit}

abbrev pub at : ℕ → Pos
at k = record { line = 1; column = k }

-- tokens of these kinds, the first at this column
abbrev pub numbered : ℕ → List TokenKind → List Token
numbered k [] = []
numbered k (x ∷ xs) = record { kind = x; start = k; end = k; at = at k } ∷ numbered (suc k) xs

abbrev pub name : ℕ → ℕ → names.Name
name id k = record { id = id; at = at k }

abbrev pub int : ℕ → ℕ → Expr
int i k = tree.Lit (value.I (pos i)) (at k)

abbrev pub float : ℕ → ℕ → Expr
float i k = tree.Lit (value.F (whole (pos i))) (at k)

-- the first name as a constant
abbrev pub constants : Expr → List Decl
constants x = record { kind = decl.Constant; name = name 0 2; params = []; results = x ∷ []; eqs = [] } ∷ []

abbrev pub HasTree : List TokenKind → List Decl → Type 0
HasTree kinds ds = IsDecls nesting_limit (numbered 1 kinds) ds

-- whatever the nesting
abbrev pub HasNone : List TokenKind → Type 0
HasNone kinds = (n : ℕ) (ds : List Decl) → IsDecls n (numbered 1 kinds) ds → ⊥

-- let a = 1 - 2 - 3
-- the operators of one level are one list, to be applied from the left
abbrev pub Left : Type 0
Left =
    HasTree
    (Word word.Let ∷ Name 0 ∷ Sign sign.Equal ∷ Int (pos 1) ∷ Sign sign.Minus ∷ Int (pos 2) ∷ Sign sign.Minus ∷ Int (pos 3) ∷ [])
    (constants (tree.Chain (int 1 4) (link op.Minus (at 5) (int 2 6) ∷ link op.Minus (at 7) (int 3 8) ∷ [])))

-- let a = 1 + 2 * 3 <= 4
-- a tighter level stands inside a looser one
abbrev pub Levels : Type 0
Levels =
    HasTree
    (Word word.Let ∷ Name 0 ∷ Sign sign.Equal ∷ Int (pos 1) ∷ Sign sign.Plus ∷ Int (pos 2) ∷ Sign sign.Star ∷ Int (pos 3) ∷ Sign sign.AtMost ∷ Int (pos 4) ∷ [])
    (constants (tree.Chain (tree.Chain (int 1 4) (link op.Plus (at 5) (tree.Chain (int 2 6) (link op.Star (at 7) (int 3 8) ∷ [])) ∷ [])) (link op.AtMost (at 9) (int 4 10) ∷ [])))

-- let a = ( b or c ) && d
-- parentheses group, and are gone; `or` is `||`
abbrev pub Parentheses : Type 0
Parentheses =
    HasTree
    (Word word.Let ∷ Name 0 ∷ Sign sign.Equal ∷ Sign sign.Open ∷ Name 1 ∷ Word word.Or ∷ Name 2 ∷ Sign sign.Close ∷ Sign sign.Ampersands ∷ Name 3 ∷ [])
    (constants (tree.Chain (tree.Chain (tree.Var (name 1 5)) (link op.Or (at 6) (tree.Var (name 2 7)) ∷ [])) (link op.And (at 9) (tree.Var (name 3 10)) ∷ [])))

-- let a = - - 2.0
-- `-` before a FLOAT is the negated literal, and else an operator
abbrev pub Negative : Type 0
Negative =
    HasTree
    (Word word.Let ∷ Name 0 ∷ Sign sign.Equal ∷ Sign sign.Minus ∷ Sign sign.Minus ∷ Float (whole (pos 2)) ∷ [])
    (constants (tree.Prefix prefix.Minus (at 4) (tree.Lit (value.F (neg (whole (pos 2)))) (at 5))))

-- let a = 1 -> 2 fby 3
-- `->` and `fby` have all that follows on their right
abbrev pub Flows : Type 0
Flows =
    HasTree
    (Word word.Let ∷ Name 0 ∷ Sign sign.Equal ∷ Int (pos 1) ∷ Sign sign.Arrow ∷ Int (pos 2) ∷ Word word.Fby ∷ Int (pos 3) ∷ [])
    (constants (tree.Flow flow.Arrow (at 5) (int 1 4) (tree.Flow flow.Fby (at 7) (int 2 6) (int 3 8))))

-- let a = if b then f ( ) else last c
-- a call without arguments, and `last`
abbrev pub Choice : Type 0
Choice =
    HasTree
    (Word word.Let ∷ Name 0 ∷ Sign sign.Equal ∷ Word word.If ∷ Name 1 ∷ Word word.Then ∷ Name 2 ∷ Sign sign.Open ∷ Sign sign.Close ∷ Word word.Else ∷ Word word.Last ∷ Name 3 ∷ [])
    (constants (tree.If (at 4) (tree.Var (name 1 5)) (tree.Call (name 2 7) []) (tree.Last (name 3 12) (at 11))))

-- let node f ( p : int , q ) = ( p , q )
-- typed parameters, and the list form of a result
abbrev pub Lists : Type 0
Lists =
    HasTree
    (Word word.Let ∷ Word word.Node ∷ Name 0 ∷ Sign sign.Open ∷ Name 1 ∷ Sign sign.Colon ∷ Word word.Int ∷ Sign sign.Comma ∷ Name 2 ∷ Sign sign.Close ∷ Sign sign.Equal ∷ Sign sign.Open ∷ Name 1 ∷ Sign sign.Comma ∷ Name 2 ∷ Sign sign.Close ∷ [])
    (record { kind = decl.Node; name = (name 0 3); params = (record { name = (name 1 5); ty = Some ty.Int } ∷ record { name = (name 2 9); ty = None } ∷ []); results = (tree.Var (name 1 13) ∷ tree.Var (name 2 15) ∷ []); eqs = [] } ∷ [])

-- let hybrid f ( ) = p where rec der p = 1.0 init 2.0 reset up ( p ) -> 3.0 | up ( q ) -> 4.0
-- a derivative with its start and two resets
abbrev pub Derivative : Type 0
Derivative =
    HasTree
    (Word word.Let ∷ Word word.Hybrid ∷ Name 0 ∷ Sign sign.Open ∷ Sign sign.Close ∷ Sign sign.Equal ∷ Name 1 ∷ Word word.Where ∷ Word word.Rec ∷ Word word.Der ∷ Name 1 ∷ Sign sign.Equal ∷ Float (whole (pos 1)) ∷ Word word.Init ∷ Float (whole (pos 2)) ∷ Word word.Reset ∷ Word word.Up ∷ Sign sign.Open ∷ Name 1 ∷ Sign sign.Close ∷ Sign sign.Arrow ∷ Float (whole (pos 3)) ∷ Sign sign.Bar ∷ Word word.Up ∷ Sign sign.Open ∷ Name 2 ∷ Sign sign.Close ∷ Sign sign.Arrow ∷ Float (whole (pos 4)) ∷ [])
    (record { kind = decl.Hybrid; name = (name 0 3); params = []; results = (tree.Var (name 1 7) ∷ []); eqs = (eqn.Der (at 10) (name 1 11) (float 1 13) (Some (float 2 15)) (record { event = (record { at = (at 17); arg = (tree.Var (name 1 19)) } ∷ []); value = (float 3 22) } ∷ record { event = (record { at = (at 24); arg = (tree.Var (name 2 26)) } ∷ []); value = (float 4 29) } ∷ []) ∷ []) } ∷ [])

-- let f ( ) = p where automaton A -> do automaton B -> do until ( p ) then B unless ( q ) continue B else ( p ) then A end until ( q ) then A
-- moves belong to the inner automaton until its `end`; the alternative behind `else` has the kind of its move
abbrev pub Innermost : Type 0
Innermost =
    HasTree
    (Word word.Let ∷ Name 0 ∷ Sign sign.Open ∷ Sign sign.Close ∷ Sign sign.Equal ∷ Name 1 ∷ Word word.Where ∷ Word word.Automaton ∷ Name 2 ∷ Sign sign.Arrow ∷ Word word.Do ∷ Word word.Automaton ∷ Name 3 ∷ Sign sign.Arrow ∷ Word word.Do ∷ Word word.Until ∷ Sign sign.Open ∷ Name 1 ∷ Sign sign.Close ∷ Word word.Then ∷ Name 3 ∷ Word word.Unless ∷ Sign sign.Open ∷ Name 4 ∷ Sign sign.Close ∷ Word word.Continue ∷ Name 3 ∷ Word word.Else ∷ Sign sign.Open ∷ Name 1 ∷ Sign sign.Close ∷ Word word.Then ∷ Name 2 ∷ Word word.End ∷ Word word.Until ∷ Sign sign.Open ∷ Name 4 ∷ Sign sign.Close ∷ Word word.Then ∷ Name 2 ∷ [])
    (record { kind = decl.Function; name = (name 0 2); params = []; results = (tree.Var (name 1 6) ∷ []); eqs = (eqn.Automaton (at 8) (state (name 2 9) (body [] (eqn.Automaton (at 12) (state (name 3 13) (body [] []) (record { strong = false; reset = true; at = (at 16); cond = cond.Test (at 17) (tree.Var (name 1 18)); target = (name 3 21) } ∷ record { strong = true; reset = false; at = (at 22); cond = cond.Test (at 23) (tree.Var (name 4 24)); target = (name 3 27) } ∷ record { strong = true; reset = true; at = (at 28); cond = cond.Test (at 29) (tree.Var (name 1 30)); target = (name 2 33) } ∷ []) ∷ []) ∷ [])) (record { strong = false; reset = true; at = (at 35); cond = cond.Test (at 36) (tree.Var (name 4 37)); target = (name 2 40) } ∷ []) ∷ []) ∷ []) } ∷ [])

-- let f ( ) = p where present | up ( p ) | up ( q ) -> local r in do r = 1 done | ( b ) -> do done else do done end
-- a `|` behind an event goes on with the event, one behind a body with the arms
abbrev pub Bars : Type 0
Bars =
    HasTree
    (Word word.Let ∷ Name 0 ∷ Sign sign.Open ∷ Sign sign.Close ∷ Sign sign.Equal ∷ Name 1 ∷ Word word.Where ∷ Word word.Present ∷ Sign sign.Bar ∷ Word word.Up ∷ Sign sign.Open ∷ Name 1 ∷ Sign sign.Close ∷ Sign sign.Bar ∷ Word word.Up ∷ Sign sign.Open ∷ Name 2 ∷ Sign sign.Close ∷ Sign sign.Arrow ∷ Word word.Local ∷ Name 3 ∷ Word word.In ∷ Word word.Do ∷ Name 3 ∷ Sign sign.Equal ∷ Int (pos 1) ∷ Word word.Done ∷ Sign sign.Bar ∷ Sign sign.Open ∷ Name 4 ∷ Sign sign.Close ∷ Sign sign.Arrow ∷ Word word.Do ∷ Word word.Done ∷ Word word.Else ∷ Word word.Do ∷ Word word.Done ∷ Word word.End ∷ [])
    (record { kind = decl.Function; name = (name 0 2); params = []; results = (tree.Var (name 1 6) ∷ []); eqs = (eqn.Present (at 8) (arm (cond.Event (record { at = (at 10); arg = (tree.Var (name 1 12)) } ∷ record { at = (at 15); arg = (tree.Var (name 2 17)) } ∷ [])) (body ((name 3 21) ∷ []) (eqn.Plain ((name 3 24) ∷ []) (int 1 26) ∷ [])) ∷ arm (cond.Test (at 29) (tree.Var (name 4 30))) (body [] []) ∷ []) (Some (body [] [])) ∷ []) } ∷ [])

-- let f ( ) = p where ( p , q ) = g ( 1 , r ) and init p = 2
-- several names on the left, and two equations
abbrev pub Several : Type 0
Several =
    HasTree
    (Word word.Let ∷ Name 0 ∷ Sign sign.Open ∷ Sign sign.Close ∷ Sign sign.Equal ∷ Name 1 ∷ Word word.Where ∷ Sign sign.Open ∷ Name 1 ∷ Sign sign.Comma ∷ Name 2 ∷ Sign sign.Close ∷ Sign sign.Equal ∷ Name 3 ∷ Sign sign.Open ∷ Int (pos 1) ∷ Sign sign.Comma ∷ Name 4 ∷ Sign sign.Close ∷ Word word.And ∷ Word word.Init ∷ Name 1 ∷ Sign sign.Equal ∷ Int (pos 2) ∷ [])
    (record { kind = decl.Function; name = (name 0 2); params = []; results = (tree.Var (name 1 6) ∷ []); eqs = (eqn.Plain ((name 1 9) ∷ (name 2 11) ∷ []) (tree.Call (name 3 14) ((int 1 16) ∷ (tree.Var (name 4 18)) ∷ [])) ∷ eqn.Start (at 21) (name 1 22) (int 2 24) ∷ []) } ∷ [])

-- let f ( ) = p where reset p = 1 and q = 2 every ( b )
-- a block of equations that starts anew
abbrev pub Block : Type 0
Block =
    HasTree
    (Word word.Let ∷ Name 0 ∷ Sign sign.Open ∷ Sign sign.Close ∷ Sign sign.Equal ∷ Name 1 ∷ Word word.Where ∷ Word word.Reset ∷ Name 1 ∷ Sign sign.Equal ∷ Int (pos 1) ∷ Word word.And ∷ Name 2 ∷ Sign sign.Equal ∷ Int (pos 2) ∷ Word word.Every ∷ Sign sign.Open ∷ Name 3 ∷ Sign sign.Close ∷ [])
    (record { kind = decl.Function; name = (name 0 2); params = []; results = (tree.Var (name 1 6) ∷ []); eqs = (eqn.Reset (at 8) (eqn.Plain ((name 1 9) ∷ []) (int 1 11) ∷ eqn.Plain ((name 2 13) ∷ []) (int 2 15) ∷ []) (cond.Test (at 17) (tree.Var (name 3 18))) ∷ []) } ∷ [])

-- let a = 1 = 2 = 3
-- a comparison has two sides
abbrev pub TwoComparisons : Type 0
TwoComparisons =
    HasNone
    (Word word.Let ∷ Name 0 ∷ Sign sign.Equal ∷ Int (pos 1) ∷ Sign sign.Equal ∷ Int (pos 2) ∷ Sign sign.Equal ∷ Int (pos 3) ∷ [])

-- let f ( ) = ( p , 1 )
-- `( NAME ,` begins a list of names
abbrev pub NoList : Type 0
NoList =
    HasNone
    (Word word.Let ∷ Name 0 ∷ Sign sign.Open ∷ Sign sign.Close ∷ Sign sign.Equal ∷ Sign sign.Open ∷ Name 1 ∷ Sign sign.Comma ∷ Int (pos 1) ∷ Sign sign.Close ∷ [])

-- let f ( ) = p where automaton A -> do automaton B -> do until ( p ) then B until ( q ) then A
-- the second move is the inner state's too, so the outer state has no end, though another grouping would give it one
abbrev pub OuterMove : Type 0
OuterMove =
    HasNone
    (Word word.Let ∷ Name 0 ∷ Sign sign.Open ∷ Sign sign.Close ∷ Sign sign.Equal ∷ Name 1 ∷ Word word.Where ∷ Word word.Automaton ∷ Name 2 ∷ Sign sign.Arrow ∷ Word word.Do ∷ Word word.Automaton ∷ Name 3 ∷ Sign sign.Arrow ∷ Word word.Do ∷ Word word.Until ∷ Sign sign.Open ∷ Name 1 ∷ Sign sign.Close ∷ Word word.Then ∷ Name 3 ∷ Word word.Until ∷ Sign sign.Open ∷ Name 4 ∷ Sign sign.Close ∷ Word word.Then ∷ Name 2 ∷ [])

-- let a = if b then 1
-- an `if` has both branches
abbrev pub NoBranch : Type 0
NoBranch =
    HasNone
    (Word word.Let ∷ Name 0 ∷ Sign sign.Equal ∷ Word word.If ∷ Name 1 ∷ Word word.Then ∷ Int (pos 1) ∷ [])

-- a literal in so many parentheses
abbrev pub enclosed : ℕ → List TokenKind
enclosed k = Word word.Let ∷ Name 0 ∷ Sign sign.Equal ∷ (replicate k (Sign sign.Open) ++ Int (pos 1) ∷ replicate k (Sign sign.Close))

-- let a = ( ( .. 1 .. ) )
-- 64 constructs may be open at a token
abbrev pub DeepEnough : Type 0
DeepEnough = HasTree (enclosed 64) (constants (int 1 68))

-- 65 may not
abbrev pub TooDeep : Type 0
TooDeep = (ds : List Decl) → IsDecls nesting_limit (numbered 1 (enclosed 65)) ds → ⊥

pub record Examples : Type 0 where
  pub left : Left
  pub levels : Levels
  pub parentheses : Parentheses
  pub negative : Negative
  pub flows : Flows
  pub choice : Choice
  pub lists : Lists
  pub derivative : Derivative
  pub innermost : Innermost
  pub bars : Bars
  pub several : Several
  pub block : Block
  pub deep_enough : DeepEnough
  pub two_comparisons : TwoComparisons
  pub no_list : NoList
  pub outer_move : OuterMove
  pub no_branch : NoBranch
  pub too_deep : TooDeep
