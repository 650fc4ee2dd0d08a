-- Reading of expressions, by one token of look-ahead and, behind a "-", a second.
use Rattle.std.specs.Prelude.{ℕ, zero, suc, Bool, true, false, List, [], ◌∷◌, length, drop, Option, Some, None, Result, Ok, Err}
use Rattle.zl_lexer.specs.declared.token.Token.{Token}
use Rattle.zl_lexer.specs.declared.token.TokenKind.{TokenKind}
use Rattle.zl_lexer.specs.declared.token.TokenKind.TheVariants as kind
use Rattle.zl_lexer.specs.declared.token.Word.TheVariants as word
use Rattle.zl_lexer.specs.declared.token.Sign.TheVariants as sign
use Rattle.zl_value.specs.declared.position.Pos.{Pos}
use Rattle.zl_value.specs.declared.value.Value.TheVariants as value
use Rattle.zl_value.specs.Fraction.{Fraction, neg}
use Rattle.zl_ast.specs.declared.name.Name.{Name}
use Rattle.zl_ast.specs.declared.operator.Infix.{Infix}
use Rattle.zl_ast.specs.declared.operator.Prefix.{Prefix}
use Rattle.zl_ast.specs.declared.operator.Prefix.TheVariants as pre
use Rattle.zl_ast.specs.declared.operator.FlowOp.{FlowOp}
use Rattle.zl_ast.specs.declared.expr.Expr.{Expr}
use Rattle.zl_ast.specs.declared.expr.Expr.TheVariants as tree
use Rattle.zl_ast.specs.declared.expr.Link.{Link}
use Rattle.zl_ast.specs.Operators.{disjunction, conjunction, comparison, addition, multiplication, flow_operator, prefix}
use Rattle.zl_ast.specs.Expressions.{link, chained}
use Rattle.zl_ast.specs.Reading.{Fault, parse, Reader, ◌>>=◌, nothing, next_is, next_in, take, find, name, inside, to_close}

abbrev pub name_or_call : Bool → ℕ → Reader Expr → Name → Reader Expr
name_or_call true n expr f ts = take (kind.Sign sign.Open) ts >>= λ o. inside n (to_close expr) o.1 >>= λ xs. Ok (tree.Call f xs.0, xs.1)
name_or_call false n expr f ts = Ok (tree.Var f, ts)

unfoldable pub atom_at : ℕ → Reader Expr → Pos → List Token → TokenKind → Result (Expr × List Token) Fault
atom_at n expr at ts (kind.Int i) = Ok (tree.Lit (value.I i) at, ts)
atom_at n expr at ts (kind.Float f) = Ok (tree.Lit (value.F f) at, ts)
atom_at n expr at ts (kind.Word word.True) = Ok (tree.Lit (value.B true) at, ts)
atom_at n expr at ts (kind.Word word.False) = Ok (tree.Lit (value.B false) at, ts)
atom_at n expr at ts (kind.Name id) = name_or_call (next_is (kind.Sign sign.Open) ts) n expr (record { id = id; at = at }) ts
atom_at n expr at ts (kind.Word word.Last) = name ts >>= λ x. Ok (tree.Last x.0 at, x.1)
atom_at n expr at ts (kind.Sign sign.Open) = inside n expr ts >>= λ x. take (kind.Sign sign.Close) x.1 >>= λ c. Ok (x.0, c.1)
atom_at n expr at ts _ = Err (parse (suc (length ts)))

unfoldable pub atom : ℕ → Reader Expr → Reader Expr
atom n expr [] = Err (parse 0)
atom n expr (t ∷ ts) = atom_at n expr t.at ts t.kind

-- the number of a FLOAT
abbrev pub float_of : TokenKind → Option Fraction
float_of (kind.Float f) = Some f
float_of _ = None

-- the number of a FLOAT behind "-"
abbrev pub negated : Prefix → List Token → Option Fraction
negated pre.Minus ts = next_in float_of ts
negated _ ts = None

abbrev pub operand_at : ℕ → Reader Expr → Prefix → Pos → List Token → Option Fraction → Result (Expr × List Token) Fault
operand_at n operand op at ts (Some f) = Ok (tree.Lit (value.F (neg f)) at, drop 1 ts)
operand_at n operand op at ts None = inside n operand ts >>= λ x. Ok (tree.Prefix op at x.0, x.1)

abbrev pub pref_at : ℕ → Reader Expr → Reader Expr → Token → List Token → Option Prefix → Result (Expr × List Token) Fault
pref_at n expr operand t ts (Some op) = operand_at n operand op t.at ts (negated op ts)
pref_at n expr operand t ts None = atom n expr (t ∷ ts)

unfoldable pub pref : ℕ → Reader Expr → Reader Expr → Reader Expr
pref n expr operand [] = Err (parse 0)
pref n expr operand (t ∷ ts) = pref_at n expr operand t ts (prefix t.kind)

abbrev pub links_at : Option Infix → Reader Expr → Reader (List Link) → Token → Reader (List Link)
links_at (Some op) part again t ts = part ts >>= λ x. again x.1 >>= λ ls. Ok (link op t.at x.0 ∷ ls.0, ls.1)
links_at None part again t ts = Ok ([], t ∷ ts)

-- { operator part }, at most as many as the number says
unfoldable pub links : (TokenKind → Option Infix) → Reader Expr → ℕ → Reader (List Link)
links operator part zero ts = Ok ([], ts)
links operator part (suc most) [] = Ok ([], [])
links operator part (suc most) (t ∷ ts) = links_at (operator t.kind) part (links operator part most) t ts

-- part { operator part }
unfoldable pub level : (TokenKind → Option Infix) → Reader Expr → Reader Expr
level operator part ts = part ts >>= λ x. links operator part (length x.1) x.1 >>= λ ls. Ok (chained x.0 ls.0, ls.1)

abbrev pub sum : ℕ → Reader Expr → Reader Expr → Reader Expr
sum n expr operand = level addition (level multiplication (pref n expr operand))

abbrev pub cmp_at : Reader Expr → Expr → List Token → Option Infix → Result (Expr × List Token) Fault
cmp_at part x ts (Some _) = find comparison ts >>= λ o. part o.1 >>= λ y. Ok (tree.Chain x (link o.0.0 o.0.1 y.0 ∷ []), y.1)
cmp_at part x ts None = Ok (x, ts)

-- sum [comparison sum]
unfoldable pub cmp : Reader Expr → Reader Expr
cmp part ts = part ts >>= λ x. cmp_at part x.0 x.1 (next_in comparison x.1)

abbrev pub disj : ℕ → Reader Expr → Reader Expr → Reader Expr
disj n expr operand = level disjunction (level conjunction (cmp (sum n expr operand)))

abbrev pub flow_at : ℕ → Reader Expr → Expr → List Token → Option FlowOp → Result (Expr × List Token) Fault
flow_at n expr x ts (Some _) = find flow_operator ts >>= λ o. inside n expr o.1 >>= λ y. Ok (tree.Flow o.0.0 o.0.1 x y.0, y.1)
flow_at n expr x ts None = Ok (x, ts)

abbrev pub expr_at : Bool → ℕ → Reader Expr → Reader Expr → Reader Expr
expr_at true n expr operand ts =
    take (kind.Word word.If) ts >>= λ i. inside n expr i.1 >>= λ c. take (kind.Word word.Then) c.1 >>= λ a. expr a.1 >>= λ x.
    take (kind.Word word.Else) x.1 >>= λ b. expr b.1 >>= λ y. Ok (tree.If i.0 c.0 x.0 y.0, y.1)
expr_at false n expr operand ts = disj n expr operand ts >>= λ x. flow_at n expr x.0 x.1 (next_in flow_operator x.1)

unfoldable pub expr_of : ℕ → Reader Expr → Reader Expr → Reader Expr
expr_of n expr operand ts = expr_at (next_is (kind.Word word.If) ts) n expr operand ts

-- An expression, or a pref, with at most n constructs opened one inside the other.
unfoldable mutual
  pub read_expr : ℕ → Reader Expr
  read_expr zero = expr_of zero nothing nothing
  read_expr (suc n) = expr_of (suc n) (read_expr n) (read_pref n)

  pub read_pref : ℕ → Reader Expr
  read_pref zero = pref zero nothing nothing
  read_pref (suc n) = pref (suc n) (read_expr n) (read_pref n)
