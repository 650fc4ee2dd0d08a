-- Reading of equations, by one token of look-ahead.
use Rattle.std.specs.Prelude.{ℕ, zero, suc, Bool, true, false, List, [], ◌∷◌, ◌++◌, length, Option, Some, None, Result, Ok, Err}
use Rattle.zl_lexer.specs.declared.token.Token.{Token}
use Rattle.zl_lexer.specs.declared.token.TokenKind.{TokenKind}
use Rattle.zl_lexer.specs.declared.token.TokenKind.TheVariants as kind
use Rattle.zl_lexer.specs.declared.token.Word.TheVariants as word
use Rattle.zl_lexer.specs.declared.token.Sign.TheVariants as sign
use Rattle.zl_value.specs.declared.position.Pos.{Pos}
use Rattle.zl_ast.specs.declared.name.Name.{Name}
use Rattle.zl_ast.specs.declared.expr.Expr.{Expr}
use Rattle.zl_ast.specs.declared.expr.Expr.TheVariants as tree
use Rattle.zl_ast.specs.declared.eqn.Eqn.{Eqn}
use Rattle.zl_ast.specs.declared.eqn.Eqn.TheVariants as eqn_tree
use Rattle.zl_ast.specs.declared.eqn.Cond.{Cond}
use Rattle.zl_ast.specs.declared.eqn.Cond.TheVariants as cond_tree
use Rattle.zl_ast.specs.declared.eqn.Up.{Up}
use Rattle.zl_ast.specs.declared.eqn.ResetArm.{ResetArm}
use Rattle.zl_ast.specs.declared.eqn.Move.{Move}
use Rattle.zl_ast.specs.declared.eqn.Arm.{Arm}
use Rattle.zl_ast.specs.declared.eqn.Body.{Body}
use Rattle.zl_ast.specs.declared.eqn.State.{State}
use Rattle.zl_ast.specs.Phrases.{listed}
use Rattle.zl_ast.specs.Operators.{move_word, entry_word}
use Rattle.zl_ast.specs.Equations.{ends_do}
use Rattle.zl_ast.specs.Equations as trees
use Rattle.zl_ast.specs.Reading.{Fault, parse, Reader, ◌>>=◌, nothing, same_mark, next_is, take, find, name, inside, list_of, maybe, pass, to_close, tuple}
use Rattle.zl_ast.specs.ReadingExpressions.{read_expr}

-- the number less one
abbrev pub less : ℕ → ℕ
less zero = zero
less (suc n) = n

-- an expression inside a construct that opens here
abbrev pub expr_below : ℕ → Reader Expr
expr_below zero = nothing
expr_below (suc n) = read_expr n

-- "up" "(" expr ")"
unfoldable pub up : ℕ → Reader Up
up n ts =
    take (kind.Word word.Up) ts >>= λ u. take (kind.Sign sign.Open) u.1 >>= λ o. inside n (expr_below n) o.1 >>= λ x.
    take (kind.Sign sign.Close) x.1 >>= λ c. Ok (record { at = u.0; arg = x.0 }, c.1)

abbrev pub event : ℕ → Reader (List Up)
event n = list_of (kind.Sign sign.Bar) (up n)

abbrev pub cond_at : Bool → ℕ → Reader Cond
cond_at true n ts =
    take (kind.Sign sign.Open) ts >>= λ o. inside n (expr_below n) o.1 >>= λ x. take (kind.Sign sign.Close) x.1 >>= λ c. Ok (cond_tree.Test o.0 x.0, c.1)
cond_at false n ts = event n ts >>= λ ups. Ok (cond_tree.Event ups.0, ups.1)

-- event | "(" expr ")"
unfoldable pub cond : ℕ → Reader Cond
cond n ts = cond_at (next_is (kind.Sign sign.Open) ts) n ts

-- event "->" expr
unfoldable pub reset_arm : ℕ → Reader ResetArm
reset_arm n ts =
    event n ts >>= λ ups. take (kind.Sign sign.Arrow) ups.1 >>= λ a. read_expr n a.1 >>= λ x. Ok (record { event = ups.0; value = x.0 }, x.1)

-- cond ("then" | "continue") NAME
unfoldable pub alt : ℕ → Bool → Pos → Reader Move
alt n strong at ts =
    cond n ts >>= λ c. find entry_word c.1 >>= λ w. name w.1 >>= λ x.
    Ok (record { strong = strong; reset = w.0.0; at = at; cond = c.0; target = x.0 }, x.1)

abbrev pub alts_at : Bool → ℕ → Bool → Reader (List Move) → Token → Reader (List Move)
alts_at true n strong again t ts = alt n strong t.at ts >>= λ m. again m.1 >>= λ ms. Ok (m.0 ∷ ms.0, ms.1)
alts_at false n strong again t ts = Ok ([], t ∷ ts)

-- {"else" alt}, at most as many as the second number says
unfoldable pub alts : ℕ → Bool → ℕ → Reader (List Move)
alts n strong zero ts = Ok ([], ts)
alts n strong (suc most) [] = Ok ([], [])
alts n strong (suc most) (t ∷ ts) = alts_at (same_mark (kind.Word word.Else) t.kind) n strong (alts n strong most) t ts

-- alt {"else" alt}, behind the first word of a move
unfoldable pub move_from : ℕ → Bool → Pos → Reader (List Move)
move_from n strong at ts = alt n strong at ts >>= λ m. alts n strong (length m.1) m.1 >>= λ ms. Ok (m.0 ∷ ms.0, ms.1)

abbrev pub moves_at : Option Bool → ℕ → Reader (List Move) → Token → Reader (List Move)
moves_at (Some strong) n again t ts = move_from n strong t.at ts >>= λ ms. again ms.1 >>= λ os. Ok (ms.0 ++ os.0, os.1)
moves_at None n again t ts = Ok ([], t ∷ ts)

-- {move}, at most as many as the second number says
unfoldable pub moves : ℕ → ℕ → Reader (List Move)
moves n zero ts = Ok ([], ts)
moves n (suc most) [] = Ok ([], [])
moves n (suc most) (t ∷ ts) = moves_at (move_word t.kind) n (moves n most) t ts

abbrev pub state_end_at : Bool → ℕ → Reader (List Move)
state_end_at true n ts = take (kind.Word word.Done) ts >>= λ d. Ok ([], d.1)
state_end_at false n ts =
    find move_word ts >>= λ w. move_from n w.0.0 w.0.1 w.1 >>= λ ms. moves n (length ms.1) ms.1 >>= λ os. Ok (ms.0 ++ os.0, os.1)

-- "done" | move {move}
unfoldable pub state_end : ℕ → Reader (List Move)
state_end n ts = state_end_at (next_is (kind.Word word.Done) ts) n ts

-- NAME {"," NAME} "in"
unfoldable pub locals : Reader (List Name)
locals ts = list_of (kind.Sign sign.Comma) name ts >>= λ xs. take (kind.Word word.In) xs.1 >>= λ i. Ok (xs.0, i.1)

-- "done", "until" or "unless" is next
unfoldable pub do_ends : List Token → Bool
do_ends [] = false
do_ends (t ∷ ts) = ends_do t.kind

abbrev pub do_eqs_at : Bool → Reader (List Eqn) → Reader (List Eqn)
do_eqs_at true eqs ts = Ok ([], ts)
do_eqs_at false eqs ts = eqs ts

-- [eqs], behind "do"
unfoldable pub do_eqs : Reader (List Eqn) → Reader (List Eqn)
do_eqs eqs ts = do_eqs_at (do_ends ts) eqs ts

-- ["local" NAME {"," NAME} "in"] "do" [eqs] "done"
unfoldable pub body : ℕ → Reader (List Eqn) → Reader Body
body n eqs ts =
    maybe (kind.Word word.Local) locals ts >>= λ l. take (kind.Word word.Do) l.1 >>= λ d. inside n (do_eqs eqs) d.1 >>= λ es.
    take (kind.Word word.Done) es.1 >>= λ e. Ok (trees.body (listed l.0) es.0, e.1)

-- cond "->" body
unfoldable pub arm : ℕ → Reader (List Eqn) → Reader Arm
arm n eqs ts = cond n ts >>= λ c. take (kind.Sign sign.Arrow) c.1 >>= λ a. body n eqs a.1 >>= λ b. Ok (trees.arm c.0 b.0, b.1)

-- NAME "->" ["local" NAME {"," NAME} "in"] "do" [eqs] ("done" | move {move})
unfoldable pub state : ℕ → Reader (List Eqn) → Reader State
state n eqs ts =
    name ts >>= λ x. take (kind.Sign sign.Arrow) x.1 >>= λ a. maybe (kind.Word word.Local) locals a.1 >>= λ l.
    take (kind.Word word.Do) l.1 >>= λ d. inside n (do_eqs eqs) d.1 >>= λ es. state_end (less n) es.1 >>= λ ms.
    Ok (trees.state x.0 (trees.body (listed l.0) es.0) ms.0, ms.1)

-- an equation of all these tokens, of which the first stands at this place, is of this kind, and has the others behind it
unfoldable pub eqn_at : ℕ → Reader (List Eqn) → List Token → Pos → List Token → TokenKind → Result (Eqn × List Token) Fault
eqn_at n eqs all at ts (kind.Name id) =
    take (kind.Sign sign.Equal) ts >>= λ q. read_expr n q.1 >>= λ x. Ok (eqn_tree.Plain (record { id = id; at = at } ∷ []) x.0, x.1)
eqn_at n eqs all at ts (kind.Sign sign.Open) =
    tuple n all >>= λ xs. take (kind.Sign sign.Equal) xs.1 >>= λ q. name q.1 >>= λ f. take (kind.Sign sign.Open) f.1 >>= λ o.
    inside n (to_close (expr_below n)) o.1 >>= λ args. Ok (eqn_tree.Plain xs.0 (tree.Call f.0 args.0), args.1)
eqn_at n eqs all at ts (kind.Word word.Der) =
    name ts >>= λ x. take (kind.Sign sign.Equal) x.1 >>= λ q. read_expr n q.1 >>= λ s. maybe (kind.Word word.Init) (read_expr n) s.1 >>= λ i.
    maybe (kind.Word word.Reset) (list_of (kind.Sign sign.Bar) (reset_arm n)) i.1 >>= λ r. Ok (eqn_tree.Der at x.0 s.0 i.0 (listed r.0), r.1)
eqn_at n eqs all at ts (kind.Word word.Init) =
    name ts >>= λ x. take (kind.Sign sign.Equal) x.1 >>= λ q. read_expr n q.1 >>= λ v. Ok (eqn_tree.Start at x.0 v.0, v.1)
eqn_at n eqs all at ts (kind.Word word.Present) =
    list_of (kind.Sign sign.Bar) (arm n eqs) (pass (kind.Sign sign.Bar) ts) >>= λ a. maybe (kind.Word word.Else) (body n eqs) a.1 >>= λ b.
    Ok (eqn_tree.Present at a.0 b.0, pass (kind.Word word.End) b.1)
eqn_at n eqs all at ts (kind.Word word.Automaton) =
    list_of (kind.Sign sign.Bar) (state n eqs) (pass (kind.Sign sign.Bar) ts) >>= λ s. Ok (eqn_tree.Automaton at s.0, pass (kind.Word word.End) s.1)
eqn_at n eqs all at ts (kind.Word word.Reset) =
    inside n eqs ts >>= λ es. take (kind.Word word.Every) es.1 >>= λ e. cond (less n) e.1 >>= λ c. Ok (eqn_tree.Reset at es.0 c.0, c.1)
eqn_at n eqs all at ts _ = Err (parse (suc (length ts)))

unfoldable pub eqn : ℕ → Reader (List Eqn) → Reader Eqn
eqn n eqs [] = Err (parse 0)
eqn n eqs (t ∷ ts) = eqn_at n eqs (t ∷ ts) t.at ts t.kind

-- eq { "and" eq }, with at most n constructs opened one inside the other
unfoldable pub read_eqs : ℕ → Reader (List Eqn)
read_eqs zero = list_of (kind.Word word.And) (eqn zero nothing)
read_eqs (suc n) = list_of (kind.Word word.And) (eqn (suc n) (read_eqs n))
