-- A fault is at one of the tokens that were read, or behind them, and a construct too many is opened by one of them.
use Rattle.std.proofs.Common.{◌≡◌, ℕ, zero, suc, ◌≤◌, Bool, true, false, List, [], ◌∷◌, length, drop, Option, Some, None, Result, Ok, Err, arith}
use Rattle.zl_lexer.specs.declared.token.Token.{Token}
use Rattle.zl_lexer.specs.declared.token.TokenKind.{TokenKind}
use Rattle.zl_lexer.specs.declared.token.TokenKind.TheVariants as kind
use Rattle.zl_lexer.specs.declared.token.Word.TheVariants as word
use Rattle.zl_lexer.specs.declared.token.Sign.TheVariants as sign
use Rattle.zl_value.specs.declared.position.Pos.{Pos}
use Rattle.zl_value.specs.Fraction.{Fraction}
use Rattle.zl_ast.specs.declared.name.Name.{Name}
use Rattle.zl_ast.specs.declared.operator.Infix.{Infix}
use Rattle.zl_ast.specs.declared.operator.Prefix.{Prefix}
use Rattle.zl_ast.specs.declared.operator.FlowOp.{FlowOp}
use Rattle.zl_ast.specs.declared.expr.Expr.{Expr}
use Rattle.zl_ast.specs.declared.expr.Link.{Link}
use Rattle.zl_ast.specs.declared.eqn.Eqn.{Eqn}
use Rattle.zl_ast.specs.declared.eqn.Move.{Move}
use Rattle.zl_ast.specs.declared.program.DeclKind.{DeclKind}
use Rattle.zl_ast.specs.declared.program.DeclKind.TheVariants as declared
use Rattle.zl_ast.specs.Operators.{comparison, flow_operator, prefix, move_word, entry_word, decl_word}
use Rattle.zl_ast.specs.Declarations.{tuple_next}
use Rattle.zl_ast.specs.Reading.{Fault, parse, deep, Reader, ◌>>=◌, nothing, same_mark, next_is, next_in, take_at, take, find_at, find, name_at, name, inside, others_at, others, list_of, maybe_at, maybe, pass_at, pass, to_close_at, to_close, tuple}
use Rattle.zl_ast.specs.ReadingExpressions.{name_or_call, atom_at, atom, negated, operand_at, pref_at, pref, links_at, links, level, cmp_at, cmp, disj, flow_at, expr_at, expr_of, read_expr, read_pref}
use Rattle.zl_ast.specs.ReadingEquations.{less, expr_below, up, event, cond_at, cond, reset_arm, alt, alts_at, alts, move_from, moves_at, moves, state_end_at, state_end, locals, do_ends, do_eqs_at, do_eqs, body, arm, state, eqn_at, eqn, read_eqs}
use Rattle.zl_ast.specs.ReadingDeclarations.{type_of, param, result_at, result, where_part, function, unmarked_at, decl_at, decl, decls, read_program}

-- so many are left of n tokens, and less where one was surely taken
abbrev pub Room : Bool → ℕ → ℕ → Type 0
Room true left n = suc left ≤ n
Room false left n = left ≤ n

-- What is left was among n tokens, or the fault is at one of them or behind them.
pub data Sized {A : Type 0} (c : Bool) (n : ℕ) : Result (A × List Token) Fault → Type 0 where
  ok : (y : A × List Token) → Room c (length y.1) n → Sized c n (Ok y)
  at_parse : (left : ℕ) → left ≤ n → Sized c n (Err (parse left))
  at_deep : (left : ℕ) → 1 ≤ left → left ≤ n → Sized c n (Err (deep left))

infixl 10 ◌next◌
pub ◌next◌ : {A B : Type 0} {c d : Bool} {n : ℕ} {r : Result (A × List Token) Fault} {f : A × List Token → Result (B × List Token) Fault} →
    Sized c n r → ((x : A × List Token) → Room c (length x.1) n → Sized d n (f x)) → Sized d n (r >>= f)
unfolding ◌>>=◌
(ok y le) next k = k y le
(at_parse left le) next k = at_parse left le
(at_deep left one le) next k = at_deep left one le

-- the reader keeps within the tokens that it is given
abbrev pub Bounded : {A : Type 0} → Reader A → Type 0
Bounded p = (n : ℕ) (ts : List Token) → length ts ≤ n → Sized false n (p ts)

-- the same where a token was taken just before
abbrev pub After : {A : Type 0} → Reader A → Type 0
After p = (n : ℕ) (ts : List Token) → suc (length ts) ≤ n → Sized false n (p ts)

pub bounded_after : {A : Type 0} (p : Reader A) → Bounded p → After p
bounded_after p b n ts le = b n ts (omega arith)

nothing_after : {A : Type 0} → After {A = A} nothing
nothing_after n ts le = at_deep (suc (length ts)) (omega arith) le

take_at_sized : (b : Bool) (n : ℕ) (t : Token) (ts : List Token) → suc (length ts) ≤ n → Sized true n (take_at b t ts)
take_at_sized true n t ts le = ok (t.at, ts) (omega arith)
take_at_sized false n t ts le = at_parse (suc (length ts)) le

pub take_sized : (k : TokenKind) (n : ℕ) (ts : List Token) → length ts ≤ n → Sized true n (take k ts)
unfolding take
take_sized k n [] le = at_parse 0 (omega arith)
take_sized k n (t ∷ ts) le = take_at_sized (same_mark k t.kind) n t ts (omega arith)

find_at_sized : {A : Type 0} (o : Option A) (n : ℕ) (t : Token) (ts : List Token) → suc (length ts) ≤ n → Sized true n (find_at o t ts)
find_at_sized (Some a) n t ts le = ok ((a, t.at), ts) (omega arith)
find_at_sized None n t ts le = at_parse (suc (length ts)) le

pub find_sized : {A : Type 0} (table : TokenKind → Option A) (n : ℕ) (ts : List Token) → length ts ≤ n → Sized true n (find table ts)
unfolding find
find_sized table n [] le = at_parse 0 (omega arith)
find_sized table n (t ∷ ts) le = find_at_sized (table t.kind) n t ts (omega arith)

name_at_sized : (k : TokenKind) (n : ℕ) (t : Token) (ts : List Token) → suc (length ts) ≤ n → Sized false n (name_at k t ts)
name_at_sized (kind.Name id) n t ts le = ok (record { id = id; at = t.at }, ts) (omega arith)
name_at_sized _ n t ts le = at_parse (suc (length ts)) le

pub name_bounded : Bounded name
unfolding name
name_bounded n [] le = at_parse 0 (omega arith)
name_bounded n (t ∷ ts) le = name_at_sized t.kind n t ts (omega arith)

inside_after : {A : Type 0} (m : ℕ) (p : Reader A) → After p → After (inside m p)
unfolding inside
inside_after zero p a n ts le = at_deep (suc (length ts)) (omega arith) le
inside_after (suc m) p a n ts le = a n ts le

others_at_sized : {A : Type 0} (b : Bool) (p : Reader A) (again : Reader (List A)) (t : Token) → After p → Bounded again → (n : ℕ) (ts : List Token) → suc (length ts) ≤ n → Sized false n (others_at b p again t ts)
others_at_sized true p again t a b n ts le = a n ts le next λ x lx. b n x.1 (omega arith) next λ xs lxs. ok (x.0 ∷ xs.0, xs.1) lxs
others_at_sized false p again t a b n ts le = ok ([], t ∷ ts) (omega arith)

others_bounded : {A : Type 0} (k : TokenKind) (p : Reader A) → After p → (most : ℕ) → Bounded (others k p most)
unfolding others
others_bounded k p a zero n ts le = ok ([], ts) (omega arith)
others_bounded k p a (suc most) n [] le = ok ([], []) (omega arith)
others_bounded k p a (suc most) n (t ∷ ts) le = others_at_sized (same_mark k t.kind) p (others k p most) t a (others_bounded k p a most) n ts (omega arith)

list_after : {A : Type 0} (k : TokenKind) (p : Reader A) → After p → After (list_of k p)
unfolding list_of
list_after k p a n ts le = a n ts le next λ x lx. others_bounded k p a (length x.1) n x.1 (omega arith) next λ xs lxs. ok (x.0 ∷ xs.0, xs.1) lxs

pub list_bounded : {A : Type 0} (k : TokenKind) (p : Reader A) → Bounded p → Bounded (list_of k p)
unfolding list_of
list_bounded k p b n ts le = b n ts le next λ x lx. others_bounded k p (bounded_after p b) (length x.1) n x.1 (omega arith) next λ xs lxs. ok (x.0 ∷ xs.0, xs.1) lxs

maybe_at_sized : {A : Type 0} (b : Bool) (k : TokenKind) (p : Reader A) → After p → Bounded (maybe_at b k p)
maybe_at_sized true k p a n ts le = take_sized k n ts le next λ o lo. a n o.1 (omega arith) next λ x lx. ok (Some x.0, x.1) lx
maybe_at_sized false k p a n ts le = ok (None, ts) (omega arith)

pub maybe_bounded : {A : Type 0} (k : TokenKind) (p : Reader A) → After p → Bounded (maybe k p)
unfolding maybe
maybe_bounded k p a n ts le = maybe_at_sized (next_is k ts) k p a n ts le

pass_at_less : (b : Bool) (ts : List Token) → length (pass_at b ts) ≤ length ts
pass_at_less true [] = omega arith
pass_at_less true (t ∷ ts) = omega arith
pass_at_less false ts = omega arith

pass_less : (k : TokenKind) (ts : List Token) → length (pass k ts) ≤ length ts
unfolding pass
pass_less k ts = pass_at_less (next_is k ts) ts

to_close_at_after : {A : Type 0} (b : Bool) (p : Reader A) → After p → After (to_close_at b p)
to_close_at_after true p a n ts le = take_sized (kind.Sign sign.Close) n ts (omega arith) next λ c lc. ok ([], c.1) (omega arith)
to_close_at_after false p a n ts le =
    list_after (kind.Sign sign.Comma) p a n ts le next λ xs lxs. take_sized (kind.Sign sign.Close) n xs.1 (omega arith) next λ c lc. ok (xs.0, c.1) (omega arith)

to_close_after : {A : Type 0} (p : Reader A) → After p → After (to_close p)
unfolding to_close
to_close_after p a n ts le = to_close_at_after (next_is (kind.Sign sign.Close) ts) p a n ts le

to_close_at_bounded : {A : Type 0} (b : Bool) (p : Reader A) → Bounded p → Bounded (to_close_at b p)
to_close_at_bounded true p a n ts le = take_sized (kind.Sign sign.Close) n ts le next λ c lc. ok ([], c.1) (omega arith)
to_close_at_bounded false p a n ts le =
    list_bounded (kind.Sign sign.Comma) p a n ts le next λ xs lxs. take_sized (kind.Sign sign.Close) n xs.1 (omega arith) next λ c lc. ok (xs.0, c.1) (omega arith)

pub to_close_bounded : {A : Type 0} (p : Reader A) → Bounded p → Bounded (to_close p)
unfolding to_close
to_close_bounded p a n ts le = to_close_at_bounded (next_is (kind.Sign sign.Close) ts) p a n ts le

tuple_bounded : (m : ℕ) → Bounded (tuple m)
unfolding tuple
tuple_bounded m n ts le =
    take_sized (kind.Sign sign.Open) n ts le next λ o lo. inside_after m name (bounded_after name name_bounded) n o.1 lo next λ x lx.
    take_sized (kind.Sign sign.Comma) n x.1 (omega arith) next λ c lc. list_bounded (kind.Sign sign.Comma) name name_bounded n c.1 (omega arith) next λ xs lxs.
    take_sized (kind.Sign sign.Close) n xs.1 (omega arith) next λ d ld. ok (x.0 ∷ xs.0, d.1) (omega arith)

-- ---- expressions

pub drop_less : (ts : List Token) → length (drop 1 ts) ≤ length ts
drop_less [] = omega arith
drop_less (t ∷ ts) = omega arith

module _ (p : Reader Expr) (a : After p) where
  name_or_call_bounded : (b : Bool) (m : ℕ) (f : Name) → Bounded (name_or_call b m p f)
  name_or_call_bounded true m f n ts le =
      take_sized (kind.Sign sign.Open) n ts le next λ o lo. inside_after m (to_close p) (to_close_after p a) n o.1 lo next λ xs lxs. ok (_, xs.1) lxs
  name_or_call_bounded false m f n ts le = ok (_, ts) (omega arith)

  atom_at_sized : (m n : ℕ) (at : Pos) (ts : List Token) (k : TokenKind) → suc (length ts) ≤ n → Sized false n (atom_at m p at ts k)
  unfolding atom_at
  atom_at_sized m n at ts (kind.Int i) le = ok (_, ts) (omega arith)
  atom_at_sized m n at ts (kind.Float f) le = ok (_, ts) (omega arith)
  atom_at_sized m n at ts (kind.Word word.True) le = ok (_, ts) (omega arith)
  atom_at_sized m n at ts (kind.Word word.False) le = ok (_, ts) (omega arith)
  atom_at_sized m n at ts (kind.Name id) le = name_or_call_bounded (next_is (kind.Sign sign.Open) ts) m (record { id = id; at = at }) n ts (omega arith)
  atom_at_sized m n at ts (kind.Word word.Last) le = name_bounded n ts (omega arith) next λ x lx. ok (_, x.1) lx
  atom_at_sized m n at ts (kind.Sign sign.Open) le = inside_after m p a n ts le next λ x lx. take_sized (kind.Sign sign.Close) n x.1 (omega arith) next λ c lc. ok (x.0, c.1) (omega arith)
  atom_at_sized m n at ts _ le = at_parse (suc (length ts)) le

  atom_bounded : (m : ℕ) → Bounded (atom m p)
  unfolding atom
  atom_bounded m n [] le = at_parse 0 (omega arith)
  atom_bounded m n (t ∷ ts) le = atom_at_sized m n t.at ts t.kind (omega arith)

  module _ (q : Reader Expr) (b : After q) where
    operand_at_sized : (m n : ℕ) (op : Prefix) (at : Pos) (ts : List Token) (o : Option Fraction) → suc (length ts) ≤ n → Sized false n (operand_at m q op at ts o)
    operand_at_sized m n op at ts (Some f) le = let h = drop_less ts in ok (_, drop 1 ts) (omega arith)
    operand_at_sized m n op at ts None le = inside_after m q b n ts le next λ x lx. ok (_, x.1) lx

    pref_at_sized : (m n : ℕ) (t : Token) (ts : List Token) (o : Option Prefix) → suc (length ts) ≤ n → Sized false n (pref_at m p q t ts o)
    pref_at_sized m n t ts (Some op) le = operand_at_sized m n op t.at ts (negated op ts) le
    pref_at_sized m n t ts None le = atom_bounded m n (t ∷ ts) (omega arith)

    pref_bounded : (m : ℕ) → Bounded (pref m p q)
    unfolding pref
    pref_bounded m n [] le = at_parse 0 (omega arith)
    pref_bounded m n (t ∷ ts) le = pref_at_sized m n t ts (prefix t.kind) (omega arith)

links_at_sized : (o : Option Infix) (p : Reader Expr) (again : Reader (List Link)) (t : Token) → Bounded p → Bounded again → (n : ℕ) (ts : List Token) → suc (length ts) ≤ n → Sized false n (links_at o p again t ts)
links_at_sized (Some op) p again t a b n ts le = a n ts (omega arith) next λ x lx. b n x.1 lx next λ ls lls. ok (_, ls.1) lls
links_at_sized None p again t a b n ts le = ok ([], t ∷ ts) (omega arith)

links_bounded : (op : TokenKind → Option Infix) (p : Reader Expr) → Bounded p → (most : ℕ) → Bounded (links op p most)
unfolding links
links_bounded op p b zero n ts le = ok ([], ts) (omega arith)
links_bounded op p b (suc most) n [] le = ok ([], []) (omega arith)
links_bounded op p b (suc most) n (t ∷ ts) le = links_at_sized (op t.kind) p (links op p most) t b (links_bounded op p b most) n ts (omega arith)

level_bounded : (op : TokenKind → Option Infix) (p : Reader Expr) → Bounded p → Bounded (level op p)
unfolding level
level_bounded op p b n ts le = b n ts le next λ x lx. links_bounded op p b (length x.1) n x.1 lx next λ ls lls. ok (_, ls.1) lls

cmp_at_sized : (p : Reader Expr) → Bounded p → (n : ℕ) (x : Expr) (ts : List Token) (o : Option Infix) → length ts ≤ n → Sized false n (cmp_at p x ts o)
cmp_at_sized p b n x ts (Some op) le = find_sized comparison n ts le next λ o lo. b n o.1 (omega arith) next λ y ly. ok (_, y.1) ly
cmp_at_sized p b n x ts None le = ok (x, ts) (omega arith)

cmp_bounded : (p : Reader Expr) → Bounded p → Bounded (cmp p)
unfolding cmp
cmp_bounded p b n ts le = b n ts le next λ x lx. cmp_at_sized p b n x.0 x.1 (next_in comparison x.1) lx

module _ (p : Reader Expr) (a : After p) (q : Reader Expr) (b : After q) where
  disj_bounded : (m : ℕ) → Bounded (disj m p q)
  disj_bounded m = level_bounded _ _ (level_bounded _ _ (cmp_bounded _ (level_bounded _ _ (level_bounded _ _ (pref_bounded p a q b m)))))

  flow_at_sized : (m n : ℕ) (x : Expr) (ts : List Token) (o : Option FlowOp) → length ts ≤ n → Sized false n (flow_at m p x ts o)
  flow_at_sized m n x ts (Some op) le = find_sized flow_operator n ts le next λ o lo. inside_after m p a n o.1 lo next λ y ly. ok (_, y.1) ly
  flow_at_sized m n x ts None le = ok (x, ts) (omega arith)

  expr_at_bounded : (c : Bool) (m : ℕ) → Bounded (expr_at c m p q)
  expr_at_bounded true m n ts le =
      take_sized (kind.Word word.If) n ts le next λ i li. inside_after m p a n i.1 li next λ c lc. take_sized (kind.Word word.Then) n c.1 lc next λ d ld. a n d.1 ld next λ x lx.
      take_sized (kind.Word word.Else) n x.1 lx next λ e le'. a n e.1 le' next λ y ly. ok (_, y.1) ly
  expr_at_bounded false m n ts le = disj_bounded m n ts le next λ x lx. flow_at_sized m n x.0 x.1 (next_in flow_operator x.1) lx

  expr_of_bounded : (m : ℕ) → Bounded (expr_of m p q)
  unfolding expr_of
  expr_of_bounded m n ts le = expr_at_bounded (next_is (kind.Word word.If) ts) m n ts le

mutual
  unfolding read_expr

  pub expr_bounded : (m : ℕ) → Bounded (read_expr m)
  expr_bounded zero = expr_of_bounded nothing nothing_after nothing nothing_after zero
  expr_bounded (suc m) = expr_of_bounded (read_expr m) (bounded_after _ (expr_bounded m)) (read_pref m) (bounded_after _ (pref_of_bounded m)) (suc m)

  pub pref_of_bounded : (m : ℕ) → Bounded (read_pref m)
  pref_of_bounded zero = pref_bounded nothing nothing_after nothing nothing_after zero
  pref_of_bounded (suc m) = pref_bounded (read_expr m) (bounded_after _ (expr_bounded m)) (read_pref m) (bounded_after _ (pref_of_bounded m)) (suc m)

below_after : (m : ℕ) → After (expr_below m)
below_after zero = nothing_after
below_after (suc m) = bounded_after _ (expr_bounded m)

-- ---- equations

up_bounded : (m : ℕ) → Bounded (up m)
unfolding up
up_bounded m n ts le =
    take_sized (kind.Word word.Up) n ts le next λ u lu. take_sized (kind.Sign sign.Open) n u.1 (omega arith) next λ o lo.
    inside_after m (expr_below m) (below_after m) n o.1 lo next λ x lx. take_sized (kind.Sign sign.Close) n x.1 lx next λ c lc. ok (_, c.1) (omega arith)

event_bounded : (m : ℕ) → Bounded (event m)
event_bounded m = list_bounded (kind.Sign sign.Bar) (up m) (up_bounded m)

cond_at_bounded : (b : Bool) (m : ℕ) → Bounded (cond_at b m)
cond_at_bounded true m n ts le =
    take_sized (kind.Sign sign.Open) n ts le next λ o lo. inside_after m (expr_below m) (below_after m) n o.1 lo next λ x lx.
    take_sized (kind.Sign sign.Close) n x.1 lx next λ c lc. ok (_, c.1) (omega arith)
cond_at_bounded false m n ts le = event_bounded m n ts le next λ ups l. ok (_, ups.1) l

pub cond_bounded : (m : ℕ) → Bounded (cond m)
unfolding cond
cond_bounded m n ts le = cond_at_bounded (next_is (kind.Sign sign.Open) ts) m n ts le

reset_arm_bounded : (m : ℕ) → Bounded (reset_arm m)
unfolding reset_arm
reset_arm_bounded m n ts le =
    event_bounded m n ts le next λ ups l. take_sized (kind.Sign sign.Arrow) n ups.1 l next λ a la. expr_bounded m n a.1 (omega arith) next λ x lx. ok (_, x.1) lx

alt_bounded : (m : ℕ) (strong : Bool) (at : Pos) → Bounded (alt m strong at)
unfolding alt
alt_bounded m strong at n ts le =
    cond_bounded m n ts le next λ c lc. find_sized entry_word n c.1 lc next λ w lw. name_bounded n w.1 (omega arith) next λ x lx. ok (_, x.1) lx

alts_at_sized : (m : ℕ) (strong : Bool) (b : Bool) (again : Reader (List Move)) (t : Token) → Bounded again → (n : ℕ) (ts : List Token) → suc (length ts) ≤ n → Sized false n (alts_at b m strong again t ts)
alts_at_sized m strong true again t u n ts le = alt_bounded m strong t.at n ts (omega arith) next λ x lx. u n x.1 lx next λ ms lms. ok (_, ms.1) lms
alts_at_sized m strong false again t u n ts le = ok ([], t ∷ ts) (omega arith)

alts_bounded : (m : ℕ) (strong : Bool) (most : ℕ) → Bounded (alts m strong most)
unfolding alts
alts_bounded m strong zero n ts le = ok ([], ts) (omega arith)
alts_bounded m strong (suc most) n [] le = ok ([], []) (omega arith)
alts_bounded m strong (suc most) n (t ∷ ts) le = alts_at_sized m strong (same_mark (kind.Word word.Else) t.kind) (alts m strong most) t (alts_bounded m strong most) n ts (omega arith)

move_from_bounded : (m : ℕ) (strong : Bool) (at : Pos) → Bounded (move_from m strong at)
unfolding move_from
move_from_bounded m strong at n ts le = alt_bounded m strong at n ts le next λ x lx. alts_bounded m strong (length x.1) n x.1 lx next λ ms lms. ok (_, ms.1) lms

moves_at_sized : (m : ℕ) (o : Option Bool) (again : Reader (List Move)) (t : Token) → Bounded again → (n : ℕ) (ts : List Token) → suc (length ts) ≤ n → Sized false n (moves_at o m again t ts)
moves_at_sized m (Some strong) again t u n ts le = move_from_bounded m strong t.at n ts (omega arith) next λ ms lms. u n ms.1 lms next λ os los. ok (_, os.1) los
moves_at_sized m None again t u n ts le = ok ([], t ∷ ts) (omega arith)

moves_bounded : (m most : ℕ) → Bounded (moves m most)
unfolding moves
moves_bounded m zero n ts le = ok ([], ts) (omega arith)
moves_bounded m (suc most) n [] le = ok ([], []) (omega arith)
moves_bounded m (suc most) n (t ∷ ts) le = moves_at_sized m (move_word t.kind) (moves m most) t (moves_bounded m most) n ts (omega arith)

state_end_at_bounded : (b : Bool) (m : ℕ) → Bounded (state_end_at b m)
state_end_at_bounded true m n ts le = take_sized (kind.Word word.Done) n ts le next λ d ld. ok ([], d.1) (omega arith)
state_end_at_bounded false m n ts le =
    find_sized move_word n ts le next λ w lw. move_from_bounded m w.0.0 w.0.1 n w.1 (omega arith) next λ ms lms. moves_bounded m (length ms.1) n ms.1 lms next λ os los. ok (_, os.1) los

pub state_end_bounded : (m : ℕ) → Bounded (state_end m)
unfolding state_end
state_end_bounded m n ts le = state_end_at_bounded (next_is (kind.Word word.Done) ts) m n ts le

pub locals_bounded : Bounded locals
unfolding locals
locals_bounded n ts le = list_bounded (kind.Sign sign.Comma) name name_bounded n ts le next λ xs lxs. take_sized (kind.Word word.In) n xs.1 lxs next λ i li. ok (xs.0, i.1) (omega arith)

pub maybe_locals_bounded : Bounded (maybe (kind.Word word.Local) locals)
maybe_locals_bounded = maybe_bounded (kind.Word word.Local) locals (bounded_after locals locals_bounded)

do_at_bounded : (p : Reader (List Eqn)) → Bounded p → (b : Bool) → Bounded (do_eqs_at b p)
do_at_bounded p a true n ts le = ok ([], ts) (omega arith)
do_at_bounded p a false n ts le = a n ts le

pub do_bounded : (p : Reader (List Eqn)) → Bounded p → Bounded (do_eqs p)
unfolding do_eqs
do_bounded p a n ts le = do_at_bounded p a (do_ends ts) n ts le

module _ (p : Reader (List Eqn)) (a : After p) where
  do_at_after : (b : Bool) → After (do_eqs_at b p)
  do_at_after true n ts le = ok ([], ts) (omega arith)
  do_at_after false n ts le = a n ts le

  do_after : After (do_eqs p)
  unfolding do_eqs
  do_after n ts le = do_at_after (do_ends ts) n ts le

  body_bounded : (m : ℕ) → Bounded (body m p)
  unfolding body
  body_bounded m n ts le =
      maybe_locals_bounded n ts le next λ l ll. take_sized (kind.Word word.Do) n l.1 ll next λ d ld. inside_after m (do_eqs p) do_after n d.1 ld next λ es les.
      take_sized (kind.Word word.Done) n es.1 les next λ e le'. ok (_, e.1) (omega arith)

  arm_bounded : (m : ℕ) → Bounded (arm m p)
  unfolding arm
  arm_bounded m n ts le = cond_bounded m n ts le next λ c lc. take_sized (kind.Sign sign.Arrow) n c.1 lc next λ b lb. body_bounded m n b.1 (omega arith) next λ x lx. ok (_, x.1) lx

  state_bounded : (m : ℕ) → Bounded (state m p)
  unfolding state
  state_bounded m n ts le =
      name_bounded n ts le next λ x lx. take_sized (kind.Sign sign.Arrow) n x.1 lx next λ b lb. maybe_locals_bounded n b.1 (omega arith) next λ l ll.
      take_sized (kind.Word word.Do) n l.1 ll next λ d ld. inside_after m (do_eqs p) do_after n d.1 ld next λ es les. state_end_bounded (less m) n es.1 les next λ ms lms. ok (_, ms.1) lms

  eqn_at_sized : (m n : ℕ) (all : List Token) (at : Pos) (ts : List Token) (k : TokenKind) → length all ≤ n → suc (length ts) ≤ n → Sized false n (eqn_at m p all at ts k)
  unfolding eqn_at
  eqn_at_sized m n all at ts (kind.Name id) la le = take_sized (kind.Sign sign.Equal) n ts (omega arith) next λ e le'. expr_bounded m n e.1 (omega arith) next λ x lx. ok (_, x.1) lx
  eqn_at_sized m n all at ts (kind.Sign sign.Open) la le =
      tuple_bounded m n all la next λ xs lxs. take_sized (kind.Sign sign.Equal) n xs.1 lxs next λ e le'. name_bounded n e.1 (omega arith) next λ f lf.
      take_sized (kind.Sign sign.Open) n f.1 lf next λ o lo. inside_after m (to_close (expr_below m)) (to_close_after _ (below_after m)) n o.1 lo next λ vs lvs. ok (_, vs.1) lvs
  eqn_at_sized m n all at ts (kind.Word word.Der) la le =
      name_bounded n ts (omega arith) next λ x lx. take_sized (kind.Sign sign.Equal) n x.1 lx next λ e le'. expr_bounded m n e.1 (omega arith) next λ s ls.
      maybe_bounded (kind.Word word.Init) (read_expr m) (bounded_after _ (expr_bounded m)) n s.1 ls next λ i li.
      maybe_bounded (kind.Word word.Reset) (list_of (kind.Sign sign.Bar) (reset_arm m)) (bounded_after _ (list_bounded _ _ (reset_arm_bounded m))) n i.1 li next λ r lr. ok (_, r.1) lr
  eqn_at_sized m n all at ts (kind.Word word.Init) la le =
      name_bounded n ts (omega arith) next λ x lx. take_sized (kind.Sign sign.Equal) n x.1 lx next λ e le'. expr_bounded m n e.1 (omega arith) next λ v lv. ok (_, v.1) lv
  eqn_at_sized m n all at ts (kind.Word word.Present) la le =
      let h = pass_less (kind.Sign sign.Bar) ts in
      list_bounded (kind.Sign sign.Bar) (arm m p) (arm_bounded m) n (pass (kind.Sign sign.Bar) ts) (omega arith) next λ b lb.
      maybe_bounded (kind.Word word.Else) (body m p) (bounded_after _ (body_bounded m)) n b.1 lb next λ c lc.
      ok (_, pass (kind.Word word.End) c.1) (let g = pass_less (kind.Word word.End) c.1 in omega arith)
  eqn_at_sized m n all at ts (kind.Word word.Automaton) la le =
      let h = pass_less (kind.Sign sign.Bar) ts in
      list_bounded (kind.Sign sign.Bar) (state m p) (state_bounded m) n (pass (kind.Sign sign.Bar) ts) (omega arith) next λ s ls.
      ok (_, pass (kind.Word word.End) s.1) (let g = pass_less (kind.Word word.End) s.1 in omega arith)
  eqn_at_sized m n all at ts (kind.Word word.Reset) la le =
      inside_after m p a n ts le next λ es les. take_sized (kind.Word word.Every) n es.1 les next λ e le'. cond_bounded (less m) n e.1 (omega arith) next λ c lc. ok (_, c.1) lc
  eqn_at_sized m n all at ts _ la le = at_parse (suc (length ts)) le

  eqn_bounded : (m : ℕ) → Bounded (eqn m p)
  unfolding eqn
  eqn_bounded m n [] le = at_parse 0 (omega arith)
  eqn_bounded m n (t ∷ ts) le = eqn_at_sized m n (t ∷ ts) t.at ts t.kind le (omega arith)

pub eqs_bounded : (m : ℕ) → Bounded (read_eqs m)
unfolding read_eqs
eqs_bounded zero = list_bounded (kind.Word word.And) (eqn zero nothing) (eqn_bounded nothing nothing_after zero)
eqs_bounded (suc m) = list_bounded (kind.Word word.And) (eqn (suc m) (read_eqs m)) (eqn_bounded (read_eqs m) (bounded_after _ (eqs_bounded m)) (suc m))

-- ---- declarations

pub type_bounded : Bounded type_of
unfolding type_of
type_bounded n ts le = find_sized _ n ts le next λ w lw. ok (_, w.1) (omega arith)

pub param_bounded : Bounded param
unfolding param
param_bounded n ts le = name_bounded n ts le next λ x lx. maybe_bounded (kind.Sign sign.Colon) type_of (bounded_after type_of type_bounded) n x.1 lx next λ ty lty. ok (_, ty.1) lty

result_at_bounded : (b : Bool) (m : ℕ) → Bounded (result_at b m)
result_at_bounded true m n ts le = tuple_bounded m n ts le next λ xs lxs. ok (_, xs.1) lxs
result_at_bounded false m n ts le = expr_bounded m n ts le next λ x lx. ok (_, x.1) lx

result_bounded : (m : ℕ) → Bounded (result m)
unfolding result
result_bounded m n ts le = result_at_bounded (tuple_next ts) m n ts le

where_bounded : (m : ℕ) → Bounded (where_part m)
unfolding where_part
where_bounded m n ts le = eqs_bounded m n (pass (kind.Word word.Rec) ts) (let h = pass_less (kind.Word word.Rec) ts in omega arith)

function_bounded : (m : ℕ) (k : DeclKind) (x : Name) → Bounded (function m k x)
function_bounded m k x n ts le =
    take_sized (kind.Sign sign.Open) n ts le next λ o lo. inside_after m (to_close param) (to_close_after param (bounded_after param param_bounded)) n o.1 lo next λ ps lps.
    take_sized (kind.Sign sign.Equal) n ps.1 lps next λ e le'. result_bounded m n e.1 (omega arith) next λ r lr.
    maybe_bounded (kind.Word word.Where) (where_part m) (bounded_after _ (where_bounded m)) n r.1 lr next λ es les. ok (_, es.1) les

unmarked_bounded : (b : Bool) (m : ℕ) (x : Name) → Bounded (unmarked_at b m x)
unmarked_bounded true m x n ts le = take_sized (kind.Sign sign.Equal) n ts le next λ e le'. expr_bounded m n e.1 (omega arith) next λ v lv. ok (_, v.1) lv
unmarked_bounded false m x n ts le = function_bounded m declared.Function x n ts le

decl_at_bounded : (o : Option DeclKind) (m : ℕ) → Bounded (decl_at o m)
decl_at_bounded (Some k) m n ts le = name_bounded n (drop 1 ts) (let h = drop_less ts in omega arith) next λ x lx. function_bounded m k x.0 n x.1 lx
decl_at_bounded None m n ts le = name_bounded n ts le next λ x lx. unmarked_bounded (next_is (kind.Sign sign.Equal) x.1) m x.0 n x.1 lx

decl_bounded : (m : ℕ) → Bounded (decl m)
unfolding decl
decl_bounded m n ts le = take_sized (kind.Word word.Let) n ts le next λ l ll. decl_at_bounded (next_in decl_word l.1) m n l.1 (omega arith)

-- the fault is at one of n tokens or behind them
pub data Inside {A : Type 0} (n : ℕ) : Result A Fault → Type 0 where
  none : (x : A) → Inside n (Ok x)
  bad : (left : ℕ) → left ≤ n → Inside n (Err (parse left))
  too_many : (left : ℕ) → 1 ≤ left → left ≤ n → Inside n (Err (deep left))

infixl 10 ◌after◌
pub ◌after◌ : {A B : Type 0} {n : ℕ} {r : Result (A × List Token) Fault} {f : A × List Token → Result B Fault} →
    Sized false n r → ((x : A × List Token) → length x.1 ≤ n → Inside n (f x)) → Inside n (r >>= f)
unfolding ◌>>=◌
(ok y le) after k = k y (omega arith)
(at_parse left le) after k = bad left le
(at_deep left one le) after k = too_many left one le

gathered : {A B : Type 0} {n : ℕ} {r : Result A Fault} (f : A → B) → Inside n r → Inside n (r >>= λ x. Ok (f x))
unfolding ◌>>=◌
gathered f (none x) = none (f x)
gathered f (bad left le) = bad left le
gathered f (too_many left one le) = too_many left one le

decls_inside : (m most n : ℕ) (ts : List Token) → length ts ≤ n → Inside n (decls m most ts)
unfolding decls
decls_inside m most n [] le = none []
decls_inside m zero n (t ∷ ts) le = bad (suc (length ts)) (omega arith)
decls_inside m (suc most) n (t ∷ ts) le = decl_bounded m n (t ∷ ts) le after λ d ld. gathered (λ ds. d.0 ∷ ds) (decls_inside m most n d.1 ld)

program_inside : (m : ℕ) (ts : List Token) → Inside (length ts) (read_program m ts)
unfolding read_program
program_inside m ts = decls_inside m (length ts) (length ts) ts (omega arith)

parse_inside : {A : Type 0} {n left : ℕ} {r : Result A Fault} → Inside n r → r ≡ Err (parse left) → left ≤ n
parse_inside (none x) e = cc
parse_inside {left = left} (bad k le) e = let q : k ≡ left = cc in omega arith
parse_inside (too_many k one le) e = cc

deep_inside : {A : Type 0} {n left : ℕ} {r : Result A Fault} → Inside n r → r ≡ Err (deep left) → (1 ≤ left) × (left ≤ n)
deep_inside (none x) e = cc
deep_inside (bad k le) e = cc
deep_inside {left = left} (too_many k one le) e = let q : k ≡ left = cc in (omega arith, omega arith)

pub parse_fault : (n left : ℕ) (ts : List Token) → read_program n ts ≡ Err (parse left) → left ≤ length ts
parse_fault n left ts e = parse_inside (program_inside n ts) e

pub deep_fault : (n left : ℕ) (ts : List Token) → read_program n ts ≡ Err (deep left) → (1 ≤ left) × (left ≤ length ts)
deep_fault n left ts e = deep_inside (program_inside n ts) e
