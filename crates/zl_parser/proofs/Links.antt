-- The loop over the operators of a level.
use Rattle.std.proofs.Common.{◌≡◌, ℕ, zero, suc, ◌-◌, ◌+◌, ◌<◌, List, [], ◌∷◌, ◌++◌, length, Option, Some, None, Result, Ok, refl, sym, ap, subst, ◌∙◌}
use Rattle.zl_lexer.specs.declared.token.Token.{Token}
use Rattle.zl_lexer.specs.declared.token.TokenKind.{TokenKind}
use Rattle.zl_value.specs.declared.position.Pos.{Pos}
use Rattle.zl_ast.specs.declared.operator.Infix.{Infix}
use Rattle.zl_ast.specs.declared.expr.Expr.{Expr}
use Rattle.zl_ast.specs.declared.expr.Link.{Link}
use Rattle.zl_ast.specs.Expressions.{link, chained}
use Rattle.zl_ast.specs.Reading.{Reader, ◌>>=◌, next_in, find_at, find}
use Rattle.zl_ast.specs.ReadingExpressions.{links_at, links, level}
use Rattle.zl_parser.specs.declared.stop.Stop.{Stop}
use Rattle.zl_parser.specs.Giving.{Fails, with_front}
use Rattle.zl_parser.specs.Levels.{IsNext}
use Rattle.zl_parser.proofs.Loops.{ended, failed, went_on, one_turn, bound_fails}

-- the token that a table has
pub record Found {A : Type 0} (table : TokenKind → Option A) (ts : List Token) (a : A) (at : Pos) (rest : List Token) : Type 0 where
  pub first : Token
  pub tokens : ts ≡ first ∷ rest
  pub stands : table first.kind ≡ Some a
  pub place : first.at ≡ at

of_ok : {A B : Type 0} (x y : A) (r : Result A B) → r ≡ Ok x → r ≡ Ok y → x ≡ y
of_ok x y r p q = cc

found_at : {A : Type 0} (table : TokenKind → Option A) (o : Option A) (t : Token) (ts : List Token) (a : A) (at : Pos) (rest : List Token) →
    table t.kind ≡ o → find_at o t ts ≡ Ok ((a, at), rest) → Found table (t ∷ ts) a at rest
found_at table None t ts a at rest e h = cc
found_at table (Some b) t ts a at rest e h =
    let all = of_ok ((b, t.at), ts) ((a, at), rest) (find_at (Some b) t ts) refl h in
    record {
      first = t;
      tokens = ap (λ p. t ∷ p.1) all;
      stands = e ∙ ap (λ p. Some p.0.0) all;
      place = ap (λ p. p.0.1) all;
    }

pub found : {A : Type 0} (table : TokenKind → Option A) (ts : List Token) (a : A) (at : Pos) (rest : List Token) → find table ts ≡ Ok ((a, at), rest) → Found table ts a at rest
unfolding find
found table [] a at rest h = cc
found table (t ∷ ts) a at rest h = found_at table (table t.kind) t ts a at rest refl h

module _ (operator : TokenKind → Option Infix) (part : Reader Expr) where
  links_end : (most : ℕ) (rest : List Token) → next_in operator rest ≡ None → links operator part most rest ≡ Ok ([], rest)
  unfolding links next_in
  links_end zero rest e = refl
  links_end (suc most) [] e = refl
  links_end (suc most) (t ∷ ts) e = ap (λ o. links_at o part (links operator part most) t ts) e

  step_at : (most : ℕ) (t : Token) (ts : List Token) (op : Infix) → operator t.kind ≡ Some op →
      links operator part (suc most) (t ∷ ts) ≡ (part ts >>= λ x. links operator part most x.1 >>= λ ls. Ok (link op t.at x.0 ∷ ls.0, ls.1))
  unfolding links
  step_at most t ts op e = ap (λ o. links_at o part (links operator part most) t ts) e

  links_step : (turn end : ℕ) (rest behind : List Token) (op : Infix) (at : Pos) → turn < end → IsNext operator rest op at behind →
      links operator part (end - turn) rest ≡ (part behind >>= λ x. links operator part (end - (turn + 1)) x.1 >>= λ ls. Ok (link op at x.0 ∷ ls.0, ls.1))
  links_step turn end rest behind op at lt h =
      let f = found operator rest op at behind h.found in
      ap (λ k. links operator part k rest) (one_turn turn end lt) ∙ ap (links operator part (suc (end - (turn + 1)))) f.tokens
      ∙ step_at (end - (turn + 1)) f.first behind op f.stands
      ∙ ap (λ q. part behind >>= λ x. links operator part (end - (turn + 1)) x.1 >>= λ ls. Ok (link op q x.0 ∷ ls.0, ls.1)) f.place

  chain_is : (ts : List Token) (first : Expr) (after rest : List Token) (ls : List Link) → part ts ≡ Ok (first, after) → links operator part (length after) after ≡ Ok (ls, rest) →
      level operator part ts ≡ Ok (chained first ls, rest)
  unfolding level ◌>>=◌
  chain_is ts first after rest ls e h =
      ap (λ r. r >>= λ x. links operator part (length x.1) x.1 >>= λ xs. Ok (chained x.0 xs.0, xs.1)) e ∙ ap (λ r. r >>= λ xs. Ok (chained first xs.0, xs.1)) h

  chain_stops : (e : Stop) (ts : List Token) (first : Expr) (after : List Token) → part ts ≡ Ok (first, after) → Fails e (links operator part (length after) after) →
      Fails e (level operator part ts)
  unfolding level ◌>>=◌
  chain_stops e ts first after h f =
      subst (Fails e) (sym (ap (λ r. r >>= λ x. links operator part (length x.1) x.1 >>= λ xs. Ok (chained x.0 xs.0, xs.1)) h)) (bound_fails e _ _ f)

  links_done : (turn end : ℕ) (rest : List Token) → end - turn ≡ 0 → links operator part (end - turn) rest ≡ Ok ([], rest)
  unfolding links
  links_done turn end rest z = ap (λ k. links operator part k rest) z

  pub chain_done : (front : List Link) (turn end : ℕ) (ts : List Token) (first : Expr) (after rest : List Token) → part ts ≡ Ok (first, after) → end - turn ≡ 0 →
      with_front front (links operator part (end - turn) rest) ≡ links operator part (length after) after → level operator part ts ≡ Ok (chained first front, rest)
  chain_done front turn end ts first after rest e z h = chain_is ts first after rest front e (ended front rest _ _ (links_done turn end rest z) h)

  pub chain_ends : (front : List Link) (most : ℕ) (ts : List Token) (first : Expr) (after rest : List Token) → part ts ≡ Ok (first, after) → next_in operator rest ≡ None →
      with_front front (links operator part most rest) ≡ links operator part (length after) after → level operator part ts ≡ Ok (chained first front, rest)
  chain_ends front most ts first after rest e n h = chain_is ts first after rest front e (ended front rest _ _ (links_end most rest n) h)

  pub chain_fails : (e : Stop) (front : List Link) (turn end : ℕ) (ts : List Token) (first : Expr) (after rest behind : List Token) (op : Infix) (at : Pos) → part ts ≡ Ok (first, after) →
      turn < end → IsNext operator rest op at behind → Fails e (part behind) →
      with_front front (links operator part (end - turn) rest) ≡ links operator part (length after) after → Fails e (level operator part ts)
  chain_fails e front turn end ts first after rest behind op at p lt n f h =
      chain_stops e ts first after p (failed e front _ _ (subst (Fails e) (sym (links_step turn end rest behind op at lt n)) (bound_fails e (part behind) _ f)) h)

  pub chain_goes_on : (front : List Link) (turn end : ℕ) (after rest behind : List Token) (op : Infix) (at : Pos) (x : Expr) (next : List Token) → turn < end →
      IsNext operator rest op at behind → part behind ≡ Ok (x, next) →
      with_front front (links operator part (end - turn) rest) ≡ links operator part (length after) after →
      with_front (front ++ link op at x ∷ []) (links operator part (end - (turn + 1)) next) ≡ links operator part (length after) after
  unfolding ◌>>=◌
  chain_goes_on front turn end after rest behind op at x next lt n e h =
      went_on front (link op at x) (links operator part (end - turn) rest) (links operator part (end - (turn + 1)) next) _
      (links_step turn end rest behind op at lt n ∙ ap (λ r. r >>= λ y. links operator part (end - (turn + 1)) y.1 >>= λ ls. Ok (link op at y.0 ∷ ls.0, ls.1)) e) h
