-- What is read inside a construct, and what is read where none may be opened.
use Rattle.std.proofs.Common.{◌≡◌, ℕ, zero, suc, ◌-◌, ◌+◌, ◌<◌, Bool, List, [], ◌∷◌, length, drop, Option, Some, None, Ok, Err, arith, refl, sym, ap, subst, ◌∙◌}
use Rattle.zl_lexer.specs.declared.token.Token.{Token}
use Rattle.zl_lexer.specs.declared.token.TokenKind.TheVariants as kind
use Rattle.zl_lexer.specs.declared.token.Word.TheVariants as word
use Rattle.zl_value.specs.declared.position.Pos.{Pos}
use Rattle.zl_ast.specs.declared.expr.Expr.{Expr}
use Rattle.zl_ast.specs.declared.expr.Expr.TheVariants as tree
use Rattle.zl_value.specs.Fraction.{Fraction}
use Rattle.zl_ast.specs.declared.operator.Prefix.{Prefix}
use Rattle.zl_ast.specs.Operators.{prefix}
use Rattle.zl_ast.specs.Reading.{deep, Reader, ◌>>=◌, inside, next_is, next_in}
use Rattle.zl_ast.specs.ReadingExpressions.{expr_of, expr_at, read_expr, read_pref, pref, pref_at, atom, operand_at, negated}
use Rattle.zl_ast.specs.ReadingEquations.{expr_below}
use Rattle.zl_parser.specs.declared.stop.Stop.{Stop}
use Rattle.zl_parser.specs.Giving.{Fails}
use Rattle.zl_parser.specs.Levels.{pref_below, IsNext, IsNegative}
use Rattle.zl_parser.proofs.Loops.{bound_fails}
use Rattle.zl_parser.proofs.Links.{found}

read_expr_is : (n : ℕ) (ts : List Token) → read_expr n ts ≡ expr_of n (expr_below n) (pref_below n) ts
unfolding read_expr read_pref
read_expr_is zero ts = refl
read_expr_is (suc n) ts = refl

pub expr_is : (n : ℕ) (ts : List Token) (b : Bool) → next_is (kind.Word word.If) ts ≡ b → read_expr n ts ≡ expr_at b n (expr_below n) (pref_below n) ts
unfolding expr_of
expr_is n ts b e = read_expr_is n ts ∙ ap (λ c. expr_at c n (expr_below n) (pref_below n) ts) e

pub pref_is : (n : ℕ) (ts : List Token) → read_pref n ts ≡ pref n (expr_below n) (pref_below n) ts
unfolding read_expr read_pref
pref_is zero ts = refl
pref_is (suc n) ts = refl

pub none_inside : {A : Type 0} (n : ℕ) (p : Reader A) (ts : List Token) → n ≡ 0 → inside n p ts ≡ Err (deep (length ts + 1))
unfolding inside
none_inside n p ts e = let one : suc (length ts) ≡ length ts + 1 = omega arith in ap (λ k. inside k p ts) e ∙ ap (λ k. Err (deep k)) one

pub read_inside : {A : Type 0} (n : ℕ) (p : Reader A) (ts : List Token) → 0 < n → inside n p ts ≡ p ts
unfolding inside
read_inside zero p ts h = absurd (omega arith)
read_inside (suc n) p ts h = refl

pub expr_below_is : (n : ℕ) (ts : List Token) → 0 < n → expr_below n ts ≡ read_expr (n - 1) ts
expr_below_is zero ts h = absurd (omega arith)
expr_below_is (suc n) ts h = let e : n ≡ suc n - 1 = omega arith in ap (λ k. read_expr k ts) e

pub pref_below_is : (n : ℕ) (ts : List Token) → 0 < n → pref_below n ts ≡ read_pref (n - 1) ts
pref_below_is zero ts h = absurd (omega arith)
pref_below_is (suc n) ts h = let e : n ≡ suc n - 1 = omega arith in ap (λ k. read_pref k ts) e

pub no_prefix : (n : ℕ) (expr operand : Reader Expr) (ts : List Token) → next_in prefix ts ≡ None → pref n expr operand ts ≡ atom n expr ts
unfolding pref next_in atom
no_prefix n expr operand [] e = refl
no_prefix n expr operand (t ∷ ts) e = ap (pref_at n expr operand t ts) e

at_prefix : (n : ℕ) (expr operand : Reader Expr) (t : Token) (rest : List Token) (op : Prefix) → prefix t.kind ≡ Some op → pref n expr operand (t ∷ rest) ≡ operand_at n operand op t.at rest (negated op rest)
unfolding pref
at_prefix n expr operand t rest op e = ap (pref_at n expr operand t rest) e

with_prefix : (n : ℕ) (expr operand : Reader Expr) (ts : List Token) (op : Prefix) (at : Pos) (rest : List Token) → IsNext prefix ts op at rest →
    pref n expr operand ts ≡ operand_at n operand op at rest (negated op rest)
with_prefix n expr operand ts op at rest h =
    let f = found prefix ts op at rest h.found in
    ap (pref n expr operand) f.tokens ∙ at_prefix n expr operand f.first rest op f.stands ∙ ap (λ q. operand_at n operand op q rest (negated op rest)) f.place

pub negative : (n : ℕ) (expr operand : Reader Expr) (ts : List Token) (op : Prefix) (at : Pos) (rest : List Token) (x : Expr) → IsNext prefix ts op at rest →
    IsNegative (negated op rest) at x → pref n expr operand ts ≡ Ok (x, drop 1 rest)
negative n expr operand ts op at rest x h e = with_prefix n expr operand ts op at rest h ∙ by_number (negated op rest) e
  where
    by_number : (o : Option Fraction) → IsNegative o at x → operand_at n operand op at rest o ≡ Ok (x, drop 1 rest)
    by_number None e = absurd e
    by_number (Some f) e = ap (λ y. Ok (y, drop 1 rest)) (sym e)

operated : (n : ℕ) (expr operand : Reader Expr) (ts : List Token) (op : Prefix) (at : Pos) (rest : List Token) → IsNext prefix ts op at rest → negated op rest ≡ None →
    pref n expr operand ts ≡ (inside n operand rest >>= λ x. Ok (tree.Prefix op at x.0, x.1))
operated n expr operand ts op at rest h e = with_prefix n expr operand ts op at rest h ∙ ap (operand_at n operand op at rest) e

pub operand_fails : (e : Stop) (n : ℕ) (expr operand : Reader Expr) (ts : List Token) (op : Prefix) (at : Pos) (rest : List Token) → IsNext prefix ts op at rest → negated op rest ≡ None →
    Fails e (inside n operand rest) → Fails e (pref n expr operand ts)
operand_fails e n expr operand ts op at rest h none f = subst (Fails e) (sym (operated n expr operand ts op at rest h none)) (bound_fails e (inside n operand rest) _ f)

pub prefixed : (n : ℕ) (expr operand : Reader Expr) (ts : List Token) (op : Prefix) (at : Pos) (rest : List Token) (x : Expr) (left : List Token) → IsNext prefix ts op at rest → negated op rest ≡ None →
    inside n operand rest ≡ Ok (x, left) → pref n expr operand ts ≡ Ok (tree.Prefix op at x, left)
unfolding ◌>>=◌
prefixed n expr operand ts op at rest x left h none e = operated n expr operand ts op at rest h none ∙ ap (λ r. r >>= λ y. Ok (tree.Prefix op at y.0, y.1)) e
