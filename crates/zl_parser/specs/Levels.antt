-- The levels of operators, from the outermost to the innermost, and what is read at each.
use Rattle.std.specs.Prelude.{◌≡◌, ℕ, zero, suc, List, length, Option, Some, None, Ok, Err}
use Rattle.zl_lexer.specs.declared.token.Token.{Token}
use Rattle.zl_lexer.specs.declared.token.TokenKind.{TokenKind}
use Rattle.zl_value.specs.declared.position.Pos.{Pos}
use Rattle.zl_value.specs.Fraction.{Fraction, neg}
use Rattle.zl_ast.specs.declared.operator.Infix.{Infix}
use Rattle.zl_ast.specs.declared.expr.Expr.{Expr}
use Rattle.zl_ast.specs.declared.expr.Expr.TheVariants as tree
use Rattle.zl_value.specs.declared.value.Value.TheVariants as value
use Rattle.zl_ast.specs.Operators.{disjunction, conjunction, comparison, addition, multiplication}
use Rattle.zl_ast.specs.Reading.{Reader, parse, nothing, next_in, find}
use Rattle.zl_ast.specs.ReadingExpressions.{pref, level, cmp, sum, read_pref}
use Rattle.zl_ast.specs.ReadingEquations.{expr_below}
use Rattle.zl_parser.specs.declared.operator.Level.{Level}
use Rattle.zl_parser.specs.declared.operator.Level.TheVariants as levels

abbrev pub operator_of : Level → TokenKind → Option Infix
operator_of levels.Disjunction = disjunction
operator_of levels.Conjunction = conjunction
operator_of levels.Comparison = comparison
operator_of levels.Addition = addition
operator_of levels.Multiplication = multiplication

-- the operand of a prefix operator that opens a construct
abbrev pub pref_below : ℕ → Reader Expr
pref_below zero = nothing
pref_below (suc n) = read_pref n

-- what stands between the operators of a level
abbrev pub part_of : Level → ℕ → Reader Expr
part_of levels.Disjunction n = level conjunction (cmp (sum n (expr_below n) (pref_below n)))
part_of levels.Conjunction n = cmp (sum n (expr_below n) (pref_below n))
part_of levels.Comparison n = sum n (expr_below n) (pref_below n)
part_of levels.Addition n = level multiplication (pref n (expr_below n) (pref_below n))
part_of levels.Multiplication n = pref n (expr_below n) (pref_below n)

-- the thing of the table for which the next token stands, with its place and the tokens behind it
pub record IsNext {A : Type 0} (table : TokenKind → Option A) (ts : List Token) (a : A) (at : Pos) (rest : List Token) : Type 0 where
  pub is_next : next_in table ts ≡ Some a
  pub found : find table ts ≡ Ok ((a, at), rest)

-- the next token stands for nothing in the table
pub record IsMissing {A : Type 0} (table : TokenKind → Option A) (ts : List Token) : Type 0 where
  pub is_next : next_in table ts ≡ None
  pub found : find table ts ≡ Err (parse (length ts))

-- a number was found, and this is its negation as a literal at this place
abbrev pub IsNegative : Option Fraction → Pos → Expr → Type 0
IsNegative None at x = ⊥
IsNegative (Some f) at x = x ≡ tree.Lit (value.F (neg f)) at
