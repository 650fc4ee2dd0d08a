-- The grammar of expressions, a constructor for each form of a line. The number n of `IsExpr n` says how many
-- constructs may still be opened. A form that opens one has an index above 0, and what stands inside that
-- construct is given by the parameters Inside (an expression) and Operand (the operand of a prefix operator).
use Rattle.std.specs.Prelude.{◌≡◌, ℕ, ℤ, zero, suc, List, [], ◌∷◌, Option, true, false}
use Rattle.zl_lexer.specs.declared.token.Token.{Token}
use Rattle.zl_lexer.specs.declared.token.TokenKind.{TokenKind}
use Rattle.zl_lexer.specs.declared.token.TokenKind.TheVariants as kind
use Rattle.zl_lexer.specs.declared.token.Word.TheVariants as word
use Rattle.zl_lexer.specs.declared.token.Sign.TheVariants as sign
use Rattle.zl_value.specs.declared.position.Pos.{Pos}
use Rattle.zl_value.specs.declared.value.Value.TheVariants as value
use Rattle.zl_value.specs.Fraction.{Fraction, neg}
use Rattle.zl_ast.specs.declared.name.Name.{Name}
use Rattle.zl_ast.specs.declared.operator.Infix.{Infix}
use Rattle.zl_ast.specs.declared.operator.Prefix.{Prefix}
use Rattle.zl_ast.specs.declared.operator.Prefix.TheVariants as pre
use Rattle.zl_ast.specs.declared.operator.FlowOp.{FlowOp}
use Rattle.zl_ast.specs.declared.expr.Expr.{Expr}
use Rattle.zl_ast.specs.declared.expr.Expr.TheVariants as tree
use Rattle.zl_ast.specs.declared.expr.Link.{Link, roll-Link}
use Rattle.zl_ast.specs.Phrases.{Phrase, Nothing, Takes, NotNext, Finds, NoneNext, IsName, ToClose}
use Rattle.zl_ast.specs.Operators.{disjunction, conjunction, comparison, addition, multiplication, flow_operator, prefix}

abbrev pub link : Infix → Pos → Expr → Link
link op at arg = roll-Link (record { op = op; at = at; arg = arg })

-- a part with the operators and parts behind it: with none of these, the part itself
abbrev pub chained : Expr → List Link → Expr
chained x [] = x
chained x (l ∷ ls) = tree.Chain x (l ∷ ls)

-- { operator Part }: it goes on as long as an operator of the level follows
pub data Links (operator : TokenKind → Option Infix) (Part : Phrase Expr) : List Token → List Link → List Token → Type 0 where
  none : {ts : List Token} → NoneNext operator ts → Links operator Part ts [] ts
  some : {ts us vs rest : List Token} {op : Infix} {at : Pos} {x : Expr} {ls : List Link} →
      Finds operator ts op at us → Part us x vs → Links operator Part vs ls rest → Links operator Part ts (link op at x ∷ ls) rest

-- Part { operator Part }: one level of operators, grouped from the left
pub data Level (operator : TokenKind → Option Infix) (Part : Phrase Expr) : List Token → Expr → List Token → Type 0 where
  level : {ts us rest : List Token} {x : Expr} {ls : List Link} →
      Part ts x us → Links operator Part us ls rest → Level operator Part ts (chained x ls) rest

-- args = expr {"," expr}
-- atom = INT | FLOAT | "true" | "false" | NAME | NAME "(" [args] ")" | "last" NAME | "(" expr ")"
pub data IsAtom (Inside : Phrase Expr) : ℕ → List Token → Expr → List Token → Type 0 where
  int : {n : ℕ} {ts rest : List Token} {at : Pos} (i : ℤ) → Takes (kind.Int i) ts at rest → IsAtom Inside n ts (tree.Lit (value.I i) at) rest
  float : {n : ℕ} {ts rest : List Token} {at : Pos} (f : Fraction) → Takes (kind.Float f) ts at rest → IsAtom Inside n ts (tree.Lit (value.F f) at) rest
  is_true : {n : ℕ} {ts rest : List Token} {at : Pos} → Takes (kind.Word word.True) ts at rest → IsAtom Inside n ts (tree.Lit (value.B true) at) rest
  is_false : {n : ℕ} {ts rest : List Token} {at : Pos} → Takes (kind.Word word.False) ts at rest → IsAtom Inside n ts (tree.Lit (value.B false) at) rest
  var : {n : ℕ} {ts rest : List Token} {x : Name} → IsName ts x rest → NotNext (kind.Sign sign.Open) rest → IsAtom Inside n ts (tree.Var x) rest
  call : {n : ℕ} {ts us vs rest : List Token} {f : Name} {at : Pos} {xs : List Expr} →
      IsName ts f us → Takes (kind.Sign sign.Open) us at vs → ToClose Inside vs xs rest → IsAtom Inside (suc n) ts (tree.Call f xs) rest
  last_of : {n : ℕ} {ts us rest : List Token} {at : Pos} {x : Name} →
      Takes (kind.Word word.Last) ts at us → IsName us x rest → IsAtom Inside n ts (tree.Last x at) rest
  parens : {n : ℕ} {ts us vs rest : List Token} {at to : Pos} {x : Expr} →
      Takes (kind.Sign sign.Open) ts at us → Inside us x vs → Takes (kind.Sign sign.Close) vs to rest → IsAtom Inside (suc n) ts x rest

-- the next token is a FLOAT
abbrev pub FloatNext : List Token → Type 0
FloatNext [] = ⊥
FloatNext (t ∷ ts) = (f : Fraction) × (t.kind ≡ kind.Float f)

-- pref = "-" FLOAT | ("-" | "-." | "not" | "pre") pref | atom, the second not taken with "-" before a FLOAT
pub data PrefOf (Inside Operand : Phrase Expr) : ℕ → List Token → Expr → List Token → Type 0 where
  negative : {n : ℕ} {ts us rest : List Token} {at to : Pos} (f : Fraction) →
      Takes (kind.Sign sign.Minus) ts at us → Takes (kind.Float f) us to rest → PrefOf Inside Operand n ts (tree.Lit (value.F (neg f)) at) rest
  prefixed : {n : ℕ} {ts us rest : List Token} {at : Pos} {op : Prefix} {x : Expr} →
      Finds prefix ts op at us → (op ≡ pre.Minus → FloatNext us → ⊥) → Operand us x rest → PrefOf Inside Operand (suc n) ts (tree.Prefix op at x) rest
  atom : {n : ℕ} {ts rest : List Token} {x : Expr} → IsAtom Inside n ts x rest → PrefOf Inside Operand n ts x rest

-- term = pref { ("*" | "/" | "mod" | "*." | "/.") pref }
abbrev pub TermOf : Phrase Expr → Phrase Expr → ℕ → Phrase Expr
TermOf Inside Operand n = Level multiplication (PrefOf Inside Operand n)

-- sum = term { ("+" | "-" | "+." | "-.") term }
abbrev pub SumOf : Phrase Expr → Phrase Expr → ℕ → Phrase Expr
SumOf Inside Operand n = Level addition (TermOf Inside Operand n)

-- cmp = sum [("=" | "<>" | "<" | "<=" | ">" | ">=") sum]
pub data CmpOf (Inside Operand : Phrase Expr) (n : ℕ) : List Token → Expr → List Token → Type 0 where
  alone : {ts rest : List Token} {x : Expr} → SumOf Inside Operand n ts x rest → NoneNext comparison rest → CmpOf Inside Operand n ts x rest
  compared : {ts us vs rest : List Token} {x y : Expr} {op : Infix} {at : Pos} →
      SumOf Inside Operand n ts x us → Finds comparison us op at vs → SumOf Inside Operand n vs y rest → CmpOf Inside Operand n ts (tree.Chain x (link op at y ∷ [])) rest

-- conj = cmp { ("&&" | "&") cmp }
abbrev pub ConjOf : Phrase Expr → Phrase Expr → ℕ → Phrase Expr
ConjOf Inside Operand n = Level conjunction (CmpOf Inside Operand n)

-- disj = conj { ("||" | "or") conj }
abbrev pub DisjOf : Phrase Expr → Phrase Expr → ℕ → Phrase Expr
DisjOf Inside Operand n = Level disjunction (ConjOf Inside Operand n)

-- expr = "if" expr "then" expr "else" expr | disj [("->" | "fby") expr]
pub data ExprOf (Inside Operand : Phrase Expr) : ℕ → List Token → Expr → List Token → Type 0 where
  choice : {n : ℕ} {ts us vs ws xs ys rest : List Token} {at then_at else_at : Pos} {c x y : Expr} →
      Takes (kind.Word word.If) ts at us → Inside us c vs → Takes (kind.Word word.Then) vs then_at ws → Inside ws x xs →
      Takes (kind.Word word.Else) xs else_at ys → Inside ys y rest → ExprOf Inside Operand (suc n) ts (tree.If at c x y) rest
  plain : {n : ℕ} {ts rest : List Token} {x : Expr} → DisjOf Inside Operand n ts x rest → NoneNext flow_operator rest → ExprOf Inside Operand n ts x rest
  flow : {n : ℕ} {ts us vs rest : List Token} {op : FlowOp} {at : Pos} {x y : Expr} →
      DisjOf Inside Operand (suc n) ts x us → Finds flow_operator us op at vs → Inside vs y rest → ExprOf Inside Operand (suc n) ts (tree.Flow op at x y) rest

-- An expression, or a pref, with at most n constructs opened one inside the other.
unfoldable mutual
  pub IsExpr : ℕ → Phrase Expr
  IsExpr zero = ExprOf Nothing Nothing zero
  IsExpr (suc n) = ExprOf (IsExpr n) (IsPref n) (suc n)

  pub IsPref : ℕ → Phrase Expr
  IsPref zero = PrefOf Nothing Nothing zero
  IsPref (suc n) = PrefOf (IsExpr n) (IsPref n) (suc n)
