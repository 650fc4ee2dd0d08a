-- With one more construct that may be opened, reading gives the same, but where it stopped for want of that: then the token
-- at which it stopped opens a construct, and reading takes it.
use Rattle.std.proofs.Common.{◌≡◌, ℕ, zero, suc, ◌≤◌, Bool, true, false, List, [], ◌∷◌, length, drop, Option, Some, None, Result, Ok, Err, arith, refl, ap}
use Rattle.zl_lexer.specs.declared.token.Token.{Token}
use Rattle.zl_lexer.specs.declared.token.TokenKind.{TokenKind}
use Rattle.zl_lexer.specs.declared.token.TokenKind.TheVariants as kind
use Rattle.zl_lexer.specs.declared.token.Word.TheVariants as word
use Rattle.zl_lexer.specs.declared.token.Sign.TheVariants as sign
use Rattle.zl_value.specs.declared.position.Pos.{Pos}
use Rattle.zl_value.specs.Fraction.{Fraction}
use Rattle.zl_ast.specs.declared.name.Name.{Name}
use Rattle.zl_ast.specs.declared.operator.Infix.{Infix}
use Rattle.zl_ast.specs.declared.operator.Prefix.{Prefix}
use Rattle.zl_ast.specs.declared.operator.FlowOp.{FlowOp}
use Rattle.zl_ast.specs.declared.expr.Expr.{Expr}
use Rattle.zl_ast.specs.declared.expr.Link.{Link}
use Rattle.zl_ast.specs.Operators.{disjunction, conjunction, comparison, addition, multiplication, flow_operator, prefix}
use Rattle.zl_ast.specs.DeepTokens.{opens}
use Rattle.zl_ast.specs.Reading.{Fault, parse, deep, Reader, ◌>>=◌, nothing, same_mark, next_is, next_in, take_at, take, find_at, find, name_at, name, inside, others_at, others, list_of, maybe_at, maybe, pass_at, pass, to_close_at, to_close}
use Rattle.zl_ast.specs.ReadingExpressions.{name_or_call, atom_at, atom, negated, operand_at, pref_at, pref, links_at, links, level, cmp_at, cmp, disj, flow_at, expr_at, expr_of, read_expr, read_pref}
use Rattle.zl_ast.specs.ReadingEquations.{expr_below}
use Rattle.zl_ast.proofs.Readers.{IsMark, mark_is}
use Rattle.zl_ast.proofs.Faults.{Sized, ok, at_parse, at_deep, ◌next◌, Bounded, take_sized, expr_bounded, pref_of_bounded, to_close_bounded}

-- the first list is what is left of the second behind some of its tokens
pub data Tail (us : List Token) : List Token → Type 0 where
  here : Tail us us
  later : {t : Token} {ts : List Token} → Tail us ts → Tail us (t ∷ ts)

pub tail_less : {us ts : List Token} → Tail us ts → length us ≤ length ts
tail_less here = omega arith
tail_less (later h) = let k = tail_less h in omega arith

pub further : {t : Token} {us ts : List Token} → Tail (t ∷ us) ts → Tail us ts
further here = later here
further (later h) = later (further h)

pub drop_tail : {us ts : List Token} → Tail us ts → Tail (drop 1 us) ts
drop_tail {us = []} h = h
drop_tail {us = t ∷ us} h = further h

-- How the readings of tokens answer, the second with one more construct that may be opened: alike, or the first is that a
-- token opens a construct too many, and the second takes this token.
pub data Deeper {A : Type 0} (all : List Token) : Result (A × List Token) Fault → Result (A × List Token) Fault → Type 0 where
  alike : (y : A × List Token) → Tail y.1 all → Deeper all (Ok y) (Ok y)
  bad : (left : ℕ) → left ≤ length all → Deeper all (Err (parse left)) (Err (parse left))
  past : {s : Result (A × List Token) Fault} (t : Token) (us : List Token) → opens t.kind ≡ true → Tail (t ∷ us) all → Sized false (length us) s → Deeper all (Err (deep (suc (length us)))) s

abbrev pub Under : {A : Type 0} → Reader A → Reader A → Type 0
Under p q = (all ts : List Token) → Tail ts all → Deeper all (p ts) (q ts)

pub wider : {A : Type 0} {n m : ℕ} {r : Result (A × List Token) Fault} → n ≤ m → Sized false n r → Sized false m r
wider le (ok y h) = ok y (omega arith)
wider le (at_parse left h) = at_parse left (omega arith)
wider le (at_deep left one h) = at_deep left one (omega arith)

pub second_sized : {A : Type 0} {all : List Token} {r s : Result (A × List Token) Fault} → Deeper all r s → Sized false (length all) s
second_sized (alike y h) = ok y (tail_less h)
second_sized (bad left h) = at_parse left h
second_sized (past t us o h z) = let k = tail_less h in wider (omega arith) z

infixl 10 ◌on◌
pub ◌on◌ : {A B : Type 0} {all : List Token} {r s : Result (A × List Token) Fault} {f g : A × List Token → Result (B × List Token) Fault} →
    Deeper all r s → ((ws : List Token) (x : A × List Token) → Tail x.1 ws → Deeper ws (f x) (g x)) → Deeper all (r >>= f) (s >>= g)
unfolding ◌>>=◌
◌on◌ {all = all} (alike y h) k = k all y h
(bad left h) on k = bad left h
(past t us o h z) on k = past t us o h (z next λ x lx. wider lx (second_sized (k x.1 x here)))

-- a token as P says was taken, or it is at fault
pub data Taken {A : Type 0} (P : TokenKind → Type 0) (all : List Token) : Result (A × List Token) Fault → Type 0 where
  one : (y : A × List Token) (t : Token) → P t.kind → Tail (t ∷ y.1) all → Taken P all (Ok y)
  wrong : (left : ℕ) → left ≤ length all → Taken P all (Err (parse left))

infixl 10 ◌took◌
pub ◌took◌ : {A B : Type 0} {P : TokenKind → Type 0} {all : List Token} {r : Result (A × List Token) Fault} {f g : A × List Token → Result (B × List Token) Fault} →
    Taken P all r → ((x : A × List Token) (t : Token) → P t.kind → Tail (t ∷ x.1) all → Deeper all (f x) (g x)) → Deeper all (r >>= f) (r >>= g)
unfolding ◌>>=◌
(one y t is h) took k = k y t is h
(wrong left h) took k = bad left h

abbrev pub Is : TokenKind → TokenKind → Type 0
Is mark k = k ≡ mark

take_at_taken : (mark : TokenKind) (m : IsMark mark) (b : Bool) (all : List Token) (t : Token) (ts : List Token) → same_mark mark t.kind ≡ b → Tail (t ∷ ts) all → Taken (Is mark) all (take_at b t ts)
take_at_taken mark m true all t ts is h = one (t.at, ts) t (mark_is mark t.kind m is) h
take_at_taken mark m false all t ts is h = wrong (suc (length ts)) (tail_less h)

pub takes : (mark : TokenKind) → IsMark mark → (all ts : List Token) → Tail ts all → Taken (Is mark) all (take mark ts)
unfolding take
takes mark m all [] h = wrong 0 (omega arith)
takes mark m all (t ∷ ts) h = take_at_taken mark m (same_mark mark t.kind) all t ts refl h

-- the table has something for the token
abbrev pub Has : {A : Type 0} → (TokenKind → Option A) → TokenKind → Type 0
Has {A = A} table k = (a : A) × (table k ≡ Some a)

find_at_taken : {A : Type 0} (table : TokenKind → Option A) (o : Option A) (all : List Token) (t : Token) (ts : List Token) → table t.kind ≡ o → Tail (t ∷ ts) all → Taken (Has table) all (find_at o t ts)
find_at_taken table (Some a) all t ts is h = one ((a, t.at), ts) t (a, is) h
find_at_taken table None all t ts is h = wrong (suc (length ts)) (tail_less h)

pub finds : {A : Type 0} (table : TokenKind → Option A) (all ts : List Token) → Tail ts all → Taken (Has table) all (find table ts)
unfolding find
finds table all [] h = wrong 0 (omega arith)
finds table all (t ∷ ts) h = find_at_taken table (table t.kind) all t ts refl h

name_at_under : (k : TokenKind) (all : List Token) (t : Token) (ts : List Token) → Tail (t ∷ ts) all → Deeper all (name_at k t ts) (name_at k t ts)
name_at_under (kind.Name id) all t ts h = alike (record { id = id; at = t.at }, ts) (further h)
name_at_under _ all t ts h = bad (suc (length ts)) (tail_less h)

pub name_under : Under name name
unfolding name
name_under all [] h = bad 0 (omega arith)
name_under all (t ∷ ts) h = name_at_under t.kind all t ts h

-- What is read inside a construct, the second with one more that may be opened. Where none may be the first isn't asked.
abbrev pub Ready : {A : Type 0} → ℕ → Reader A → Reader A → Type 0
Ready zero p q = Bounded q
Ready (suc n) p q = Under p q

pub inside_under : {A : Type 0} (n : ℕ) (p q : Reader A) → Ready n p q → (all : List Token) (t : Token) (ts : List Token) → opens t.kind ≡ true → Tail (t ∷ ts) all → Deeper all (inside n p ts) (inside (suc n) q ts)
unfolding inside
inside_under zero p q r all t ts o h = past t ts o h (r (length ts) ts (omega arith))
inside_under (suc n) p q r all t ts o h = r all ts (further h)

others_at_under : {A : Type 0} (b : Bool) (p q : Reader A) (again more : Reader (List A)) → Under p q → Under again more → (all : List Token) (t : Token) (ts : List Token) → Tail (t ∷ ts) all → Deeper all (others_at b p again t ts) (others_at b q more t ts)
others_at_under true p q again more u v all t ts h = u all ts (further h) on λ ws x hx. v ws x.1 hx on λ bs xs hxs. alike (x.0 ∷ xs.0, xs.1) hxs
others_at_under false p q again more u v all t ts h = alike ([], t ∷ ts) h

others_under : {A : Type 0} (k : TokenKind) (p q : Reader A) → Under p q → (most : ℕ) → Under (others k p most) (others k q most)
unfolding others
others_under k p q u zero all ts h = alike ([], ts) h
others_under k p q u (suc most) all [] h = alike ([], []) h
others_under k p q u (suc most) all (t ∷ ts) h = others_at_under (same_mark k t.kind) p q (others k p most) (others k q most) u (others_under k p q u most) all t ts h

pub list_under : {A : Type 0} (k : TokenKind) (p q : Reader A) → Under p q → Under (list_of k p) (list_of k q)
unfolding list_of
list_under k p q u all ts h = u all ts h on λ ws x hx. others_under k p q u (length x.1) ws x.1 hx on λ bs xs hxs. alike (x.0 ∷ xs.0, xs.1) hxs

maybe_at_under : {A : Type 0} (b : Bool) (k : TokenKind) (m : IsMark k) (p q : Reader A) → Under p q → Under (maybe_at b k p) (maybe_at b k q)
maybe_at_under true k m p q u all ts h = takes k m all ts h took λ o t is ho. u all o.1 (further ho) on λ ws x hx. alike (Some x.0, x.1) hx
maybe_at_under false k m p q u all ts h = alike (None, ts) h

pub maybe_under : {A : Type 0} (k : TokenKind) (m : IsMark k) (p q : Reader A) → Under p q → Under (maybe k p) (maybe k q)
unfolding maybe
maybe_under k m p q u all ts h = maybe_at_under (next_is k ts) k m p q u all ts h

pass_at_tail : (b : Bool) {all : List Token} (ts : List Token) → Tail ts all → Tail (pass_at b ts) all
pass_at_tail true [] h = h
pass_at_tail true (t ∷ ts) h = further h
pass_at_tail false ts h = h

pub pass_tail : (k : TokenKind) {all : List Token} (ts : List Token) → Tail ts all → Tail (pass k ts) all
unfolding pass
pass_tail k ts h = pass_at_tail (next_is k ts) ts h

to_close_at_under : {A : Type 0} (b : Bool) (p q : Reader A) → Under p q → Under (to_close_at b p) (to_close_at b q)
to_close_at_under true p q u all ts h = takes (kind.Sign sign.Close) tt all ts h took λ c t is hc. alike ([], c.1) (further hc)
to_close_at_under false p q u all ts h =
    list_under (kind.Sign sign.Comma) p q u all ts h on λ ws xs hxs. takes (kind.Sign sign.Close) tt ws xs.1 hxs took λ c t is hc. alike (xs.0, c.1) (further hc)

to_close_under : {A : Type 0} (p q : Reader A) → Under p q → Under (to_close p) (to_close q)
unfolding to_close
to_close_under p q u all ts h = to_close_at_under (next_is (kind.Sign sign.Close) ts) p q u all ts h

pub to_close_ready : {A : Type 0} (n : ℕ) (p q : Reader A) → Ready n p q → Ready n (to_close p) (to_close q)
to_close_ready zero p q r = to_close_bounded q r
to_close_ready (suc n) p q r = to_close_under p q r

-- what opens no construct is read alike
pub alike_ready : {A : Type 0} (n : ℕ) (p : Reader A) → Bounded p → Under p p → Ready n p p
alike_ready zero p b u = b
alike_ready (suc n) p b u = u

-- ---- expressions

flow_opens : (k : TokenKind) → Has flow_operator k → opens k ≡ true
flow_opens (kind.Sign sign.Arrow) h = refl
flow_opens (kind.Word word.Fby) h = refl
flow_opens _ h = let e = h.1 in cc

prefix_opens : (k : TokenKind) (op : Prefix) → prefix k ≡ Some op → opens k ≡ true
prefix_opens (kind.Sign sign.Minus) op e = refl
prefix_opens (kind.Sign sign.MinusDot) op e = refl
prefix_opens (kind.Word word.Not) op e = refl
prefix_opens (kind.Word word.Pre) op e = refl
prefix_opens _ op e = cc

module _ (n : ℕ) (p q : Reader Expr) (r : Ready n p q) where
  name_or_call_under : (b : Bool) (f : Name) → Under (name_or_call b n p f) (name_or_call b (suc n) q f)
  name_or_call_under true f all ts h =
      takes (kind.Sign sign.Open) tt all ts h took λ o t is ho. inside_under n (to_close p) (to_close q) (to_close_ready n p q r) all t o.1 (ap opens is) ho on λ ws xs hxs. alike (_, xs.1) hxs
  name_or_call_under false f all ts h = alike (_, ts) h

  atom_at_under : (at : Pos) (all : List Token) (t : Token) (ts : List Token) (k : TokenKind) → t.kind ≡ k → Tail (t ∷ ts) all → Deeper all (atom_at n p at ts k) (atom_at (suc n) q at ts k)
  unfolding atom_at
  atom_at_under at all t ts (kind.Int i) is h = alike (_, ts) (further h)
  atom_at_under at all t ts (kind.Float f) is h = alike (_, ts) (further h)
  atom_at_under at all t ts (kind.Word word.True) is h = alike (_, ts) (further h)
  atom_at_under at all t ts (kind.Word word.False) is h = alike (_, ts) (further h)
  atom_at_under at all t ts (kind.Name id) is h = name_or_call_under (next_is (kind.Sign sign.Open) ts) (record { id = id; at = at }) all ts (further h)
  atom_at_under at all t ts (kind.Word word.Last) is h = name_under all ts (further h) on λ ws x hx. alike (_, x.1) hx
  atom_at_under at all t ts (kind.Sign sign.Open) is h =
      inside_under n p q r all t ts (ap opens is) h on λ ws x hx. takes (kind.Sign sign.Close) tt ws x.1 hx took λ c d isc hc. alike (x.0, c.1) (further hc)
  atom_at_under at all t ts _ is h = bad (suc (length ts)) (tail_less h)

  atom_under : Under (atom n p) (atom (suc n) q)
  unfolding atom
  atom_under all [] h = bad 0 (omega arith)
  atom_under all (t ∷ ts) h = atom_at_under t.at all t ts t.kind refl h

  module _ (a b : Reader Expr) (v : Ready n a b) where
    operand_at_under : (op : Prefix) (at : Pos) (all : List Token) (t : Token) (ts : List Token) (o : Option Fraction) → opens t.kind ≡ true → Tail (t ∷ ts) all → Deeper all (operand_at n a op at ts o) (operand_at (suc n) b op at ts o)
    operand_at_under op at all t ts (Some f) is h = alike (_, drop 1 ts) (drop_tail (further h))
    operand_at_under op at all t ts None is h = inside_under n a b v all t ts is h on λ ws x hx. alike (_, x.1) hx

    pref_at_under : (all : List Token) (t : Token) (ts : List Token) (o : Option Prefix) → prefix t.kind ≡ o → Tail (t ∷ ts) all → Deeper all (pref_at n p a t ts o) (pref_at (suc n) q b t ts o)
    pref_at_under all t ts (Some op) is h = operand_at_under op t.at all t ts (negated op ts) (prefix_opens t.kind op is) h
    pref_at_under all t ts None is h = atom_under all (t ∷ ts) h

    pref_under : Under (pref n p a) (pref (suc n) q b)
    unfolding pref
    pref_under all [] h = bad 0 (omega arith)
    pref_under all (t ∷ ts) h = pref_at_under all t ts (prefix t.kind) refl h

links_at_under : (o : Option Infix) (p q : Reader Expr) (again more : Reader (List Link)) → Under p q → Under again more → (all : List Token) (t : Token) (ts : List Token) → Tail (t ∷ ts) all → Deeper all (links_at o p again t ts) (links_at o q more t ts)
links_at_under (Some op) p q again more u v all t ts h = u all ts (further h) on λ ws x hx. v ws x.1 hx on λ bs ls hls. alike (_, ls.1) hls
links_at_under None p q again more u v all t ts h = alike ([], t ∷ ts) h

links_under : (op : TokenKind → Option Infix) (p q : Reader Expr) → Under p q → (most : ℕ) → Under (links op p most) (links op q most)
unfolding links
links_under op p q u zero all ts h = alike ([], ts) h
links_under op p q u (suc most) all [] h = alike ([], []) h
links_under op p q u (suc most) all (t ∷ ts) h = links_at_under (op t.kind) p q (links op p most) (links op q most) u (links_under op p q u most) all t ts h

level_under : (op : TokenKind → Option Infix) (p q : Reader Expr) → Under p q → Under (level op p) (level op q)
unfolding level
level_under op p q u all ts h = u all ts h on λ ws x hx. links_under op p q u (length x.1) ws x.1 hx on λ bs ls hls. alike (_, ls.1) hls

cmp_at_under : (p q : Reader Expr) → Under p q → (x : Expr) (all ts : List Token) (o : Option Infix) → Tail ts all → Deeper all (cmp_at p x ts o) (cmp_at q x ts o)
cmp_at_under p q u x all ts (Some op) h = finds comparison all ts h took λ o t is ho. u all o.1 (further ho) on λ ws y hy. alike (_, y.1) hy
cmp_at_under p q u x all ts None h = alike (x, ts) h

cmp_under : (p q : Reader Expr) → Under p q → Under (cmp p) (cmp q)
unfolding cmp
cmp_under p q u all ts h = u all ts h on λ ws x hx. cmp_at_under p q u x.0 ws x.1 (next_in comparison x.1) hx

module _ (n : ℕ) (p q : Reader Expr) (r : Ready n p q) (a b : Reader Expr) (v : Ready n a b) where
  disj_under : Under (disj n p a) (disj (suc n) q b)
  disj_under = level_under disjunction _ _ (level_under conjunction _ _ (cmp_under _ _ (level_under addition _ _ (level_under multiplication _ _ (pref_under n p q r a b v)))))

  flow_at_under : (x : Expr) (all ts : List Token) (o : Option FlowOp) → Tail ts all → Deeper all (flow_at n p x ts o) (flow_at (suc n) q x ts o)
  flow_at_under x all ts (Some op) h = finds flow_operator all ts h took λ o t is ho. inside_under n p q r all t o.1 (flow_opens t.kind is) ho on λ ws y hy. alike (_, y.1) hy
  flow_at_under x all ts None h = alike (x, ts) h

  plain_under : Under (expr_at false n p a) (expr_at false (suc n) q b)
  plain_under all ts h = disj_under all ts h on λ ws x hx. flow_at_under x.0 ws x.1 (next_in flow_operator x.1) hx

-- what stands behind a construct that may not be opened isn't read
choice_under : (n : ℕ) (p q : Reader Expr) → Ready n p q → (a b : Reader Expr) → Under (expr_at true n p a) (expr_at true (suc n) q b)
unfolding inside ◌>>=◌
choice_under zero p q r a b all ts h =
    takes (kind.Word word.If) tt all ts h took λ i t is hi. past t i.1 (ap opens is) hi
    (r (length i.1) i.1 (omega arith) next λ c lc. take_sized (kind.Word word.Then) (length i.1) c.1 lc next λ d ld. r (length i.1) d.1 (omega arith) next λ x lx.
    take_sized (kind.Word word.Else) (length i.1) x.1 lx next λ e le. r (length i.1) e.1 (omega arith) next λ y ly. ok (_, y.1) ly)
choice_under (suc n) p q u a b all ts h =
    takes (kind.Word word.If) tt all ts h took λ i t is hi. inside_under (suc n) p q u all t i.1 (ap opens is) hi on λ ws c hc.
    takes (kind.Word word.Then) tt ws c.1 hc took λ d td isd hd. u ws d.1 (further hd) on λ bs x hx.
    takes (kind.Word word.Else) tt bs x.1 hx took λ e te ise he. u bs e.1 (further he) on λ cs y hy. alike (_, y.1) hy

expr_at_under : (c : Bool) (n : ℕ) (p q : Reader Expr) → Ready n p q → (a b : Reader Expr) → Ready n a b → Under (expr_at c n p a) (expr_at c (suc n) q b)
expr_at_under true n p q r a b v = choice_under n p q r a b
expr_at_under false n p q r a b v = plain_under n p q r a b v

expr_of_under : (n : ℕ) (p q : Reader Expr) → Ready n p q → (a b : Reader Expr) → Ready n a b → Under (expr_of n p a) (expr_of (suc n) q b)
unfolding expr_of
expr_of_under n p q r a b v all ts h = expr_at_under (next_is (kind.Word word.If) ts) n p q r a b v all ts h

mutual
  unfolding read_expr

  pub expr_under : (n : ℕ) → Under (read_expr n) (read_expr (suc n))
  expr_under zero = expr_of_under zero nothing (read_expr zero) (expr_bounded zero) nothing (read_pref zero) (pref_of_bounded zero)
  expr_under (suc n) = expr_of_under (suc n) (read_expr n) (read_expr (suc n)) (expr_under n) (read_pref n) (read_pref (suc n)) (pref_of_under n)

  pref_of_under : (n : ℕ) → Under (read_pref n) (read_pref (suc n))
  pref_of_under zero = pref_under zero nothing (read_expr zero) (expr_bounded zero) nothing (read_pref zero) (pref_of_bounded zero)
  pref_of_under (suc n) = pref_under (suc n) (read_expr n) (read_expr (suc n)) (expr_under n) (read_pref n) (read_pref (suc n)) (pref_of_under n)

pub below_ready : (n : ℕ) → Ready n (expr_below n) (expr_below (suc n))
below_ready zero = expr_bounded zero
below_ready (suc n) = expr_under n
