-- Reading looks no further than it must. Two lists of tokens that begin alike are read alike, as far as reading keeps within
-- what they have in common.
use Rattle.std.proofs.Common.{◌≡◌, ℕ, zero, suc, ◌+◌, ◌≤◌, Bool, true, false, List, [], ◌∷◌, ◌++◌, length, Option, Some, None, Result, Ok, Err, arith, refl, ap, subst, length-append}
use Rattle.zl_lexer.specs.declared.token.Token.{Token}
use Rattle.zl_lexer.specs.declared.token.TokenKind.{TokenKind}
use Rattle.zl_lexer.specs.declared.token.TokenKind.TheVariants as kind
use Rattle.zl_lexer.specs.declared.token.Word.TheVariants as word
use Rattle.zl_lexer.specs.declared.token.Sign.TheVariants as sign
use Rattle.zl_value.specs.declared.position.Pos.{Pos}
use Rattle.zl_value.specs.Fraction.{Fraction}
use Rattle.zl_ast.specs.declared.name.Name.{Name}
use Rattle.zl_ast.specs.declared.operator.Infix.{Infix}
use Rattle.zl_ast.specs.declared.operator.Prefix.{Prefix}
use Rattle.zl_ast.specs.declared.operator.Prefix.TheVariants as pre
use Rattle.zl_ast.specs.declared.operator.FlowOp.{FlowOp}
use Rattle.zl_ast.specs.declared.expr.Expr.{Expr}
use Rattle.zl_ast.specs.declared.expr.Link.{Link}
use Rattle.zl_ast.specs.Expressions.{link}
use Rattle.zl_ast.specs.Operators.{disjunction, conjunction, comparison, addition, multiplication, flow_operator, prefix}
use Rattle.zl_ast.specs.Reading.{Fault, parse, deep, Reader, ◌>>=◌, nothing, same_mark, next_is, next_in, take_at, take, find_at, find, name_at, name, inside, others_at, others, list_of, maybe_at, maybe, pass_at, pass, to_close_at, to_close, tuple}
use Rattle.zl_ast.specs.ReadingExpressions.{name_or_call, atom_at, atom, negated, operand_at, pref_at, pref, links_at, links, level, cmp_at, cmp, disj, flow_at, expr_at, expr_of, read_expr, read_pref}
use Rattle.zl_ast.specs.ReadingEquations.{expr_below}
use Rattle.zl_ast.proofs.OneDeeper.{Tail, here, later, tail_less, further}

pub nil_tail : (all : List Token) → Tail [] all
nil_tail [] = here
nil_tail (t ∷ ts) = later (nil_tail ts)

-- some tokens were taken before these
abbrev pub Behind : List Token → List Token → Type 0
Behind [] all = Unit {0}
Behind (u ∷ f) all = (t : Token) × Tail (t ∷ u ∷ f) all

abbrev pub Left : Bool → List Token → List Token → Type 0
Left true f all = Behind f all
Left false f all = Tail f all

pub behind_tail : (f all : List Token) → Behind f all → Tail f all
behind_tail [] all h = nil_tail all
behind_tail (u ∷ f) all h = further h.1

pub one_behind : (t : Token) (f all : List Token) → Tail (t ∷ f) all → Behind f all
one_behind t [] all h = tt
one_behind t (u ∷ f) all h = (t, h)

pub tail_length : (f all us : List Token) → Tail f all → length (f ++ us) ≤ length (all ++ us)
tail_length f all us h =
    let k = tail_less h in
    let a = length-append f us in
    let b = length-append all us in
    omega arith

-- Reading came to the last n tokens, or stopped for depth just before them, where it depends on the next.
pub data Reached {A : Type 0} (n : ℕ) : Result (A × List Token) Fault → Type 0 where
  reached_ok : (y : A × List Token) → length y.1 ≤ n → Reached n (Ok y)
  reached_parse : (left : ℕ) → left ≤ n → Reached n (Err (parse left))
  reached_deep : (left : ℕ) → left ≤ suc n → Reached n (Err (deep left))

pub data Local {A : Type 0} (c : Bool) (all us vs : List Token) : Result (A × List Token) Fault → Result (A × List Token) Fault → Type 0 where
  alike : (x : A) (f : List Token) → Left c f all → Local c all us vs (Ok (x, f ++ us)) (Ok (x, f ++ vs))
  bad_alike : (t : Token) (f : List Token) → Tail (t ∷ f) all → Local c all us vs (Err (parse (suc (length (f ++ us))))) (Err (parse (suc (length (f ++ vs)))))
  deep_alike : (t u : Token) (f : List Token) → Tail (t ∷ u ∷ f) all → Local c all us vs (Err (deep (suc (suc (length (f ++ us)))))) (Err (deep (suc (suc (length (f ++ vs))))))
  reached : {r s : Result (A × List Token) Fault} → Reached (length us) r → Local c all us vs r s

pub wider : {A : Type 0} {n m : ℕ} {r : Result (A × List Token) Fault} → n ≤ m → Reached n r → Reached m r
wider le (reached_ok y h) = reached_ok y (omega arith)
wider le (reached_parse left h) = reached_parse left (omega arith)
wider le (reached_deep left h) = reached_deep left (omega arith)

pub left_tail : (c : Bool) (f all : List Token) → Left c f all → Tail f all
left_tail true f all h = behind_tail f all h
left_tail false f all h = h

pub reached_all : {A : Type 0} {c : Bool} {all us vs : List Token} {r s : Result (A × List Token) Fault} → Local c all us vs r s → Reached (length (all ++ us)) r
reached_all {c = c} {all = all} {us = us} (alike x f h) = reached_ok (x, f ++ us) (tail_length f all us (left_tail c f all h))
reached_all {all = all} {us = us} (bad_alike t f h) = reached_parse (suc (length (f ++ us))) (tail_length (t ∷ f) all us h)
reached_all {all = all} {us = us} (deep_alike t u f h) = let k = tail_length (t ∷ u ∷ f) all us h in reached_deep (suc (suc (length (f ++ us)))) (omega arith)
reached_all {all = all} {us = us} (reached h) = let k = length-append all us in wider (omega arith) h

left_nil : (c : Bool) → Left c [] []
left_nil true = tt
left_nil false = here

pub then_reached : {A B : Type 0} {n : ℕ} {r : Result (A × List Token) Fault} {f : A × List Token → Result (B × List Token) Fault} →
    Reached n r → ((y : A × List Token) → Reached (length y.1) (f y)) → Reached n (r >>= f)
unfolding ◌>>=◌
then_reached (reached_ok y h) k = wider h (k y)
then_reached (reached_parse left h) k = reached_parse left h
then_reached (reached_deep left h) k = reached_deep left h

pub goes_on : {A B : Type 0} {c d : Bool} {all us vs : List Token} {r s : Result (A × List Token) Fault} (f g : A × List Token → Result (B × List Token) Fault) →
    Local c all us vs r s → ((ws us vs : List Token) (x : A) (e : List Token) → Left c e ws → Local d ws us vs (f (x, e ++ us)) (g (x, e ++ vs))) → Local d all us vs (r >>= f) (s >>= g)
unfolding ◌>>=◌
goes_on {all = all} {us = us} {vs = vs} f g (alike x e h) k = k all us vs x e h
goes_on f g (bad_alike t e h) k = bad_alike t e h
goes_on f g (deep_alike t u e h) k = deep_alike t u e h
goes_on {c = c} f g (reached h) k = reached (then_reached h (λ y. reached_all (k [] y.1 y.1 y.0 [] (left_nil c))))

-- the reader is local, where some tokens are left of those in common
abbrev pub Nearby : {A : Type 0} → Reader A → Type 0
Nearby p = (all us vs f : List Token) → Tail f all → Local false all us vs (p (f ++ us)) (p (f ++ vs))

-- the same where a token was taken just before
abbrev pub NearbyAfter : {A : Type 0} → Reader A → Type 0
NearbyAfter p = (all us vs f : List Token) → Behind f all → Local false all us vs (p (f ++ us)) (p (f ++ vs))

-- a reader of a token
abbrev pub NearbyToken : {A : Type 0} → Reader A → Type 0
NearbyToken p = (all us vs f : List Token) → Tail f all → Local true all us vs (p (f ++ us)) (p (f ++ vs))

-- what is read behind a token that was looked at
abbrev pub NearbyAt : {A : Type 0} → (Token → Reader A) → Type 0
NearbyAt q = (all us vs : List Token) (t : Token) (f : List Token) → Tail (t ∷ f) all → Local false all us vs (q t (f ++ us)) (q t (f ++ vs))

pub after : {A : Type 0} (p : Reader A) → Nearby p → NearbyAfter p
after p l all us vs f h = l all us vs f (behind_tail f all h)

-- a reader comes to its end on all that it is given
pub reaches : {A : Type 0} (p : Reader A) → NearbyAfter p → (us : List Token) → Reached (length us) (p us)
reaches p l us = reached_all (l [] us us [] tt)

pub reaches_at : {A : Type 0} (q : Token → Reader A) → NearbyAt q → (u : Token) (us : List Token) → Reached (suc (length us)) (q u us)
reaches_at q l u us = reached_all (l (u ∷ []) us us u [] here)

-- ---- tokens

take_at_local : (b : Bool) (all us vs : List Token) (t : Token) (f : List Token) → Tail (t ∷ f) all → Local true all us vs (take_at b t (f ++ us)) (take_at b t (f ++ vs))
take_at_local true all us vs t f h = alike t.at f (one_behind t f all h)
take_at_local false all us vs t f h = bad_alike t f h

pub take_local : (k : TokenKind) → NearbyToken (take k)
unfolding take
take_local k all us vs (t ∷ f) h = take_at_local (same_mark k t.kind) all us vs t f h
take_local k all [] vs [] h = reached (reached_parse 0 (omega arith))
take_local k all (u ∷ us) vs [] h = reached (reached_all (take_at_local (same_mark k u.kind) (u ∷ []) us us u [] here))

find_at_local : {A : Type 0} (o : Option A) (all us vs : List Token) (t : Token) (f : List Token) → Tail (t ∷ f) all → Local true all us vs (find_at o t (f ++ us)) (find_at o t (f ++ vs))
find_at_local (Some a) all us vs t f h = alike (a, t.at) f (one_behind t f all h)
find_at_local None all us vs t f h = bad_alike t f h

pub find_local : {A : Type 0} (table : TokenKind → Option A) → NearbyToken (find table)
unfolding find
find_local table all us vs (t ∷ f) h = find_at_local (table t.kind) all us vs t f h
find_local table all [] vs [] h = reached (reached_parse 0 (omega arith))
find_local table all (u ∷ us) vs [] h = reached (reached_all (find_at_local (table u.kind) (u ∷ []) us us u [] here))

name_at_local : (k : TokenKind) → NearbyAt (name_at k)
name_at_local (kind.Name id) all us vs t f h = alike (record { id = id; at = t.at }) f (further h)
name_at_local _ all us vs t f h = bad_alike t f h

pub name_local : Nearby name
unfolding name
name_local all us vs (t ∷ f) h = name_at_local t.kind all us vs t f h
name_local all [] vs [] h = reached (reached_parse 0 (omega arith))
name_local all (u ∷ us) vs [] h = reached (reaches_at (name_at u.kind) (name_at_local u.kind) u us)

pub nothing_local : {A : Type 0} → NearbyAfter {A = A} nothing
nothing_local all us vs [] h = reached (reached_deep (suc (length us)) (omega arith))
nothing_local all us vs (u ∷ f) h = deep_alike h.0 u f h.1

pub inside_local : {A : Type 0} (n : ℕ) (p : Reader A) → NearbyAfter p → NearbyAfter (inside n p)
unfolding inside
inside_local zero p l all us vs [] h = reached (reached_deep (suc (length us)) (omega arith))
inside_local zero p l all us vs (u ∷ f) h = deep_alike h.0 u f h.1
inside_local (suc n) p l all us vs f h = l all us vs f h

-- ---- lists

-- what goes on alike within n tokens gives the same
pub same_behind : {A B : Type 0} {n : ℕ} {r : Result (A × List Token) Fault} (f g : A × List Token → Result B Fault) → Reached n r → ((x : A × List Token) → length x.1 ≤ n → f x ≡ g x) → (r >>= f) ≡ (r >>= g)
unfolding ◌>>=◌
same_behind f g (reached_ok y h) k = k y h
same_behind f g (reached_parse left h) k = refl
same_behind f g (reached_deep left h) k = refl

-- a reader with enough fuel
pub record Fuelled {A : Type 0} (p : ℕ → Reader A) : Type 0 where
  pub enough : (m n : ℕ) (ts : List Token) → length ts ≤ m → length ts ≤ n → p m ts ≡ p n ts
  pub near : (m : ℕ) → Nearby (p m)

pub fuelled_local : {A : Type 0} (p : ℕ → Reader A) → Fuelled p → Nearby (λ ts. p (length ts) ts)
fuelled_local p h all us vs f t =
    let m = length (f ++ us) + length (f ++ vs) in
    let a = h.enough m (length (f ++ us)) (f ++ us) (omega arith) (omega arith) in
    let b = h.enough m (length (f ++ vs)) (f ++ vs) (omega arith) (omega arith) in
    subst (λ s. Local false all us vs (p (length (f ++ us)) (f ++ us)) s) b (subst (λ r. Local false all us vs r (p m (f ++ vs))) a (h.near m all us vs f t))

others_at_local : {A : Type 0} (b : Bool) (p : Reader A) (again : Reader (List A)) → NearbyAfter p → Nearby again → NearbyAt (others_at b p again)
others_at_local true p again l m all us vs t f h =
    goes_on _ _ (l all us vs f (one_behind t f all h)) (λ ws us vs x e he. goes_on _ _ (m ws us vs e he) (λ ws us vs xs e he. alike (x ∷ xs) e he))
others_at_local false p again l m all us vs t f h = alike [] (t ∷ f) h

others_near : {A : Type 0} (k : TokenKind) (p : Reader A) → NearbyAfter p → (most : ℕ) → Nearby (others k p most)
unfolding others
others_near k p l zero all us vs f h = alike [] f h
others_near k p l (suc most) all us vs (t ∷ f) h = others_at_local (same_mark k t.kind) p (others k p most) l (others_near k p l most) all us vs t f h
others_near k p l (suc most) all [] vs [] h = reached (reached_ok ([], []) (omega arith))
others_near k p l (suc most) all (u ∷ us) vs [] h = reached (reaches_at (others_at (same_mark k u.kind) p (others k p most)) (others_at_local (same_mark k u.kind) p (others k p most) l (others_near k p l most)) u us)

others_at_enough : {A : Type 0} (b : Bool) (p : Reader A) (again more : Reader (List A)) (t : Token) (ts : List Token) → NearbyAfter p → ((us : List Token) → length us ≤ length ts → again us ≡ more us) →
    others_at b p again t ts ≡ others_at b p more t ts
others_at_enough true p again more t ts l e = same_behind _ _ (reaches p l ts) (λ x lx. ap (λ r. r >>= λ xs. Ok (x.0 ∷ xs.0, xs.1)) (e x.1 lx))
others_at_enough false p again more t ts l e = refl

others_enough : {A : Type 0} (k : TokenKind) (p : Reader A) → NearbyAfter p → (m n : ℕ) (ts : List Token) → length ts ≤ m → length ts ≤ n → others k p m ts ≡ others k p n ts
unfolding others
others_enough k p l zero zero ts le le' = refl
others_enough k p l zero (suc n) [] le le' = refl
others_enough k p l (suc m) zero [] le le' = refl
others_enough k p l (suc m) (suc n) [] le le' = refl
others_enough k p l zero (suc n) (t ∷ ts) le le' = absurd (omega arith)
others_enough k p l (suc m) zero (t ∷ ts) le le' = absurd (omega arith)
others_enough k p l (suc m) (suc n) (t ∷ ts) le le' =
    others_at_enough (same_mark k t.kind) p (others k p m) (others k p n) t ts l (λ us lu. others_enough k p l m n us (omega arith) (omega arith))

pub list_after : {A : Type 0} (k : TokenKind) (p : Reader A) → NearbyAfter p → NearbyAfter (list_of k p)
unfolding list_of
list_after k p l all us vs f h =
    goes_on _ _ (l all us vs f h) (λ ws us vs x e he.
    goes_on _ _ (fuelled_local (others k p) (record { enough = others_enough k p l; near = others_near k p l }) ws us vs e he) (λ ws us vs xs e he. alike (x ∷ xs) e he))

pub list_local : {A : Type 0} (k : TokenKind) (p : Reader A) → Nearby p → Nearby (list_of k p)
unfolding list_of
list_local k p l all us vs f h =
    goes_on _ _ (l all us vs f h) (λ ws us vs x e he.
    goes_on _ _ (fuelled_local (others k p) (record { enough = others_enough k p (after p l); near = others_near k p (after p l) }) ws us vs e he) (λ ws us vs xs e he. alike (x ∷ xs) e he))

maybe_at_local : {A : Type 0} (b : Bool) (k : TokenKind) (p : Reader A) → NearbyAfter p → Nearby (maybe_at b k p)
maybe_at_local true k p l all us vs f h = goes_on _ _ (take_local k all us vs f h) (λ ws us vs o e he. goes_on _ _ (l ws us vs e he) (λ ws us vs x e he. alike (Some x) e he))
maybe_at_local false k p l all us vs f h = alike None f h

pub maybe_local : {A : Type 0} (k : TokenKind) (p : Reader A) → NearbyAfter p → Nearby (maybe k p)
unfolding maybe next_is
maybe_local k p l all us vs (t ∷ f) h = maybe_at_local (next_is k (t ∷ f)) k p l all us vs (t ∷ f) h
maybe_local k p l all us vs [] h = reached (reaches (maybe_at (next_is k us) k p) (after (maybe_at (next_is k us) k p) (maybe_at_local (next_is k us) k p l)) us)

to_close_at_local : {A : Type 0} (b : Bool) (p : Reader A) → NearbyAfter p → NearbyAfter (to_close_at b p)
to_close_at_local true p l all us vs f h = goes_on _ _ (take_local (kind.Sign sign.Close) all us vs f (behind_tail f all h)) (λ ws us vs c e he. alike [] e (behind_tail e ws he))
to_close_at_local false p l all us vs f h =
    goes_on _ _ (list_after (kind.Sign sign.Comma) p l all us vs f h) (λ ws us vs xs e he.
    goes_on _ _ (take_local (kind.Sign sign.Close) ws us vs e he) (λ ws us vs c e he. alike xs e (behind_tail e ws he)))

pub to_close_local : {A : Type 0} (p : Reader A) → NearbyAfter p → NearbyAfter (to_close p)
unfolding to_close next_is
to_close_local p l all us vs (t ∷ f) h = to_close_at_local (next_is (kind.Sign sign.Close) (t ∷ f)) p l all us vs (t ∷ f) h
to_close_local p l all us vs [] h = reached (reaches (to_close_at (next_is (kind.Sign sign.Close) us) p) (to_close_at_local (next_is (kind.Sign sign.Close) us) p l) us)

pass_at_reader : {A : Type 0} (b : Bool) (p : Reader A) → Nearby p → Nearby (λ ts. p (pass_at b ts))
pass_at_reader true p l all us vs (t ∷ f) h = l all us vs f (further h)
pass_at_reader true p l all [] vs [] h = reached (reaches p (after p l) [])
pass_at_reader true p l all (u ∷ us) vs [] h = reached (wider (omega arith) (reaches p (after p l) us))
pass_at_reader false p l all us vs f h = l all us vs f h

-- what is read behind a mark that may stand there
pub pass_local : {A : Type 0} (k : TokenKind) (p : Reader A) → Nearby p → Nearby (λ ts. p (pass k ts))
unfolding pass next_is
pass_local k p l all us vs (t ∷ f) h = pass_at_reader (next_is k (t ∷ f)) p l all us vs (t ∷ f) h
pass_local k p l all us vs [] h = reached (reaches (λ ts. p (pass_at (next_is k us) ts)) (after (λ ts. p (pass_at (next_is k us) ts)) (pass_at_reader (next_is k us) p l)) us)

pub tuple_local : (n : ℕ) → Nearby (tuple n)
unfolding tuple
tuple_local n all us vs f h =
    goes_on _ _ (take_local (kind.Sign sign.Open) all us vs f h) (λ ws us vs o e he.
    goes_on _ _ (inside_local n name (after name name_local) ws us vs e he) (λ ws us vs x e he.
    goes_on _ _ (take_local (kind.Sign sign.Comma) ws us vs e he) (λ ws us vs c e he.
    goes_on _ _ (list_local (kind.Sign sign.Comma) name name_local ws us vs e (behind_tail e ws he)) (λ ws us vs xs e he.
    goes_on _ _ (take_local (kind.Sign sign.Close) ws us vs e he) (λ ws us vs d e he. alike (x ∷ xs) e (behind_tail e ws he))))))

-- ---- expressions

module _ (n : ℕ) (p : Reader Expr) (l : NearbyAfter p) where
  name_or_call_local : (b : Bool) (x : Name) → Nearby (name_or_call b n p x)
  name_or_call_local true x all us vs f h =
      goes_on _ _ (take_local (kind.Sign sign.Open) all us vs f h) (λ ws us vs o e he.
      goes_on _ _ (inside_local n (to_close p) (to_close_local p l) ws us vs e he) (λ ws us vs xs e he. alike _ e he))
  name_or_call_local false x all us vs f h = alike _ f h

  pub called_local : (x : Name) → Nearby (λ ts. name_or_call (next_is (kind.Sign sign.Open) ts) n p x ts)
  unfolding next_is
  called_local x all us vs (t ∷ f) h = name_or_call_local (next_is (kind.Sign sign.Open) (t ∷ f)) x all us vs (t ∷ f) h
  called_local x all us vs [] h = reached (reaches (name_or_call (next_is (kind.Sign sign.Open) us) n p x) (after (name_or_call (next_is (kind.Sign sign.Open) us) n p x) (name_or_call_local (next_is (kind.Sign sign.Open) us) x)) us)

  atom_at_local : (k : TokenKind) → NearbyAt (λ t ts. atom_at n p t.at ts k)
  unfolding atom_at
  atom_at_local (kind.Int i) all us vs t f h = alike _ f (further h)
  atom_at_local (kind.Float i) all us vs t f h = alike _ f (further h)
  atom_at_local (kind.Word word.True) all us vs t f h = alike _ f (further h)
  atom_at_local (kind.Word word.False) all us vs t f h = alike _ f (further h)
  atom_at_local (kind.Name id) all us vs t f h = called_local (record { id = id; at = t.at }) all us vs f (further h)
  atom_at_local (kind.Word word.Last) all us vs t f h = goes_on _ _ (name_local all us vs f (further h)) (λ ws us vs x e he. alike _ e he)
  atom_at_local (kind.Sign sign.Open) all us vs t f h =
      goes_on _ _ (inside_local n p l all us vs f (one_behind t f all h)) (λ ws us vs x e he.
      goes_on _ _ (take_local (kind.Sign sign.Close) ws us vs e he) (λ ws us vs c e he. alike x e (behind_tail e ws he)))
  atom_at_local _ all us vs t f h = bad_alike t f h

  atom_local : Nearby (atom n p)
  unfolding atom
  atom_local all us vs (t ∷ f) h = atom_at_local t.kind all us vs t f h
  atom_local all [] vs [] h = reached (reached_parse 0 (omega arith))
  atom_local all (u ∷ us) vs [] h = reached (reaches_at (λ t ts. atom_at n p t.at ts u.kind) (atom_at_local u.kind) u us)

  module _ (q : Reader Expr) (m : NearbyAfter q) where
    operand_at_local : (op : Prefix) (at : Pos) (o : Option Fraction) → NearbyAfter (λ ts. operand_at n q op at ts o)
    operand_at_local op at (Some i) all us vs (t ∷ f) h = alike _ f (further (further h.1))
    operand_at_local op at (Some i) all [] vs [] h = reached (reached_ok _ (omega arith))
    operand_at_local op at (Some i) all (u ∷ us) vs [] h = reached (reached_ok _ (omega arith))
    operand_at_local op at None all us vs f h = goes_on _ _ (inside_local n q m all us vs f h) (λ ws us vs x e he. alike _ e he)

    negated_local : (op : Prefix) (at : Pos) → NearbyAfter (λ ts. operand_at n q op at ts (negated op ts))
    unfolding next_in
    negated_local op at all us vs [] h = reached (reaches (λ ts. operand_at n q op at ts (negated op us)) (operand_at_local op at (negated op us)) us)
    negated_local pre.Minus at all us vs (t ∷ f) h = operand_at_local pre.Minus at (negated pre.Minus (t ∷ f)) all us vs (t ∷ f) h
    negated_local pre.MinusDot at all us vs (t ∷ f) h = operand_at_local pre.MinusDot at None all us vs (t ∷ f) h
    negated_local pre.Not at all us vs (t ∷ f) h = operand_at_local pre.Not at None all us vs (t ∷ f) h
    negated_local pre.Pre at all us vs (t ∷ f) h = operand_at_local pre.Pre at None all us vs (t ∷ f) h

    pref_at_local : (o : Option Prefix) → NearbyAt (λ t ts. pref_at n p q t ts o)
    pref_at_local (Some op) all us vs t f h = negated_local op t.at all us vs f (one_behind t f all h)
    pref_at_local None all us vs t f h = atom_local all us vs (t ∷ f) h

    pub pref_local : Nearby (pref n p q)
    unfolding pref
    pref_local all us vs (t ∷ f) h = pref_at_local (prefix t.kind) all us vs t f h
    pref_local all [] vs [] h = reached (reached_parse 0 (omega arith))
    pref_local all (u ∷ us) vs [] h = reached (reaches_at (λ t ts. pref_at n p q t ts (prefix u.kind)) (pref_at_local (prefix u.kind)) u us)

links_at_local : (o : Option Infix) (p : Reader Expr) (again : Reader (List Link)) → Nearby p → Nearby again → NearbyAt (links_at o p again)
links_at_local (Some op) p again l m all us vs t f h = goes_on _ _ (l all us vs f (further h)) (λ ws us vs x e he. goes_on _ _ (m ws us vs e he) (λ ws us vs ls e he. alike _ e he))
links_at_local None p again l m all us vs t f h = alike [] (t ∷ f) h

links_near : (op : TokenKind → Option Infix) (p : Reader Expr) → Nearby p → (most : ℕ) → Nearby (links op p most)
unfolding links
links_near op p l zero all us vs f h = alike [] f h
links_near op p l (suc most) all us vs (t ∷ f) h = links_at_local (op t.kind) p (links op p most) l (links_near op p l most) all us vs t f h
links_near op p l (suc most) all [] vs [] h = reached (reached_ok ([], []) (omega arith))
links_near op p l (suc most) all (u ∷ us) vs [] h = reached (reaches_at (links_at (op u.kind) p (links op p most)) (links_at_local (op u.kind) p (links op p most) l (links_near op p l most)) u us)

links_at_enough : (o : Option Infix) (p : Reader Expr) (again more : Reader (List Link)) (t : Token) (ts : List Token) → Nearby p → ((us : List Token) → length us ≤ length ts → again us ≡ more us) →
    links_at o p again t ts ≡ links_at o p more t ts
links_at_enough (Some op) p again more t ts l e = same_behind _ _ (reaches p (after p l) ts) (λ x lx. ap (λ r. r >>= λ ls. Ok (link op t.at x.0 ∷ ls.0, ls.1)) (e x.1 lx))
links_at_enough None p again more t ts l e = refl

links_enough : (op : TokenKind → Option Infix) (p : Reader Expr) → Nearby p → (m n : ℕ) (ts : List Token) → length ts ≤ m → length ts ≤ n → links op p m ts ≡ links op p n ts
unfolding links
links_enough op p l zero zero ts le le' = refl
links_enough op p l zero (suc n) [] le le' = refl
links_enough op p l (suc m) zero [] le le' = refl
links_enough op p l (suc m) (suc n) [] le le' = refl
links_enough op p l zero (suc n) (t ∷ ts) le le' = absurd (omega arith)
links_enough op p l (suc m) zero (t ∷ ts) le le' = absurd (omega arith)
links_enough op p l (suc m) (suc n) (t ∷ ts) le le' =
    links_at_enough (op t.kind) p (links op p m) (links op p n) t ts l (λ us lu. links_enough op p l m n us (omega arith) (omega arith))

pub links_whole : (op : TokenKind → Option Infix) (p : Reader Expr) → Nearby p → Nearby (λ ts. links op p (length ts) ts)
links_whole op p l = fuelled_local (links op p) (record { enough = links_enough op p l; near = links_near op p l })

pub level_local : (op : TokenKind → Option Infix) (p : Reader Expr) → Nearby p → Nearby (level op p)
unfolding level
level_local op p l all us vs f h = goes_on _ _ (l all us vs f h) (λ ws us vs x e he. goes_on _ _ (links_whole op p l ws us vs e he) (λ ws us vs ls e he. alike _ e he))

cmp_at_local : (p : Reader Expr) → Nearby p → (x : Expr) (o : Option Infix) → Nearby (λ ts. cmp_at p x ts o)
cmp_at_local p l x (Some op) all us vs f h =
    goes_on _ _ (find_local comparison all us vs f h) (λ ws us vs o e he. goes_on _ _ (l ws us vs e (behind_tail e ws he)) (λ ws us vs y e he. alike _ e he))
cmp_at_local p l x None all us vs f h = alike x f h

pub compared_local : (p : Reader Expr) → Nearby p → (x : Expr) → Nearby (λ ts. cmp_at p x ts (next_in comparison ts))
unfolding next_in
compared_local p l x all us vs (t ∷ f) h = cmp_at_local p l x (next_in comparison (t ∷ f)) all us vs (t ∷ f) h
compared_local p l x all us vs [] h = reached (reaches (λ ts. cmp_at p x ts (next_in comparison us)) (after (λ ts. cmp_at p x ts (next_in comparison us)) (cmp_at_local p l x (next_in comparison us))) us)

pub cmp_local : (p : Reader Expr) → Nearby p → Nearby (cmp p)
unfolding cmp
cmp_local p l all us vs f h = goes_on _ _ (l all us vs f h) (λ ws us vs x e he. compared_local p l x ws us vs e he)

module _ (n : ℕ) (p : Reader Expr) (l : NearbyAfter p) (q : Reader Expr) (m : NearbyAfter q) where
  pub disj_local : Nearby (disj n p q)
  disj_local = level_local disjunction _ (level_local conjunction _ (cmp_local _ (level_local addition _ (level_local multiplication _ (pref_local n p l q m)))))

  flow_at_local : (x : Expr) (o : Option FlowOp) → Nearby (λ ts. flow_at n p x ts o)
  flow_at_local x (Some op) all us vs f h =
      goes_on _ _ (find_local flow_operator all us vs f h) (λ ws us vs o e he. goes_on _ _ (inside_local n p l ws us vs e he) (λ ws us vs y e he. alike _ e he))
  flow_at_local x None all us vs f h = alike x f h

  pub flowing_local : (x : Expr) → Nearby (λ ts. flow_at n p x ts (next_in flow_operator ts))
  unfolding next_in
  flowing_local x all us vs (t ∷ f) h = flow_at_local x (next_in flow_operator (t ∷ f)) all us vs (t ∷ f) h
  flowing_local x all us vs [] h = reached (reaches (λ ts. flow_at n p x ts (next_in flow_operator us)) (after (λ ts. flow_at n p x ts (next_in flow_operator us)) (flow_at_local x (next_in flow_operator us))) us)

  expr_at_local : (c : Bool) → Nearby (expr_at c n p q)
  expr_at_local true all us vs f h =
      goes_on _ _ (take_local (kind.Word word.If) all us vs f h) (λ ws us vs i e he. goes_on _ _ (inside_local n p l ws us vs e he) (λ ws us vs c e he.
      goes_on _ _ (take_local (kind.Word word.Then) ws us vs e he) (λ ws us vs a e he. goes_on _ _ (l ws us vs e he) (λ ws us vs x e he.
      goes_on _ _ (take_local (kind.Word word.Else) ws us vs e he) (λ ws us vs b e he. goes_on _ _ (l ws us vs e he) (λ ws us vs y e he. alike _ e he))))))
  expr_at_local false all us vs f h = goes_on _ _ (disj_local all us vs f h) (λ ws us vs x e he. flowing_local x ws us vs e he)

  expr_of_local : Nearby (expr_of n p q)
  unfolding expr_of next_is
  expr_of_local all us vs (t ∷ f) h = expr_at_local (next_is (kind.Word word.If) (t ∷ f)) all us vs (t ∷ f) h
  expr_of_local all us vs [] h = reached (reaches (expr_at (next_is (kind.Word word.If) us) n p q) (after (expr_at (next_is (kind.Word word.If) us) n p q) (expr_at_local (next_is (kind.Word word.If) us))) us)

mutual
  unfolding read_expr

  pub expr_local : (n : ℕ) → Nearby (read_expr n)
  expr_local zero = expr_of_local zero nothing nothing_local nothing nothing_local
  expr_local (suc n) = expr_of_local (suc n) (read_expr n) (after (read_expr n) (expr_local n)) (read_pref n) (after (read_pref n) (pref_of_local n))

  pub pref_of_local : (n : ℕ) → Nearby (read_pref n)
  pref_of_local zero = pref_local zero nothing nothing_local nothing nothing_local
  pref_of_local (suc n) = pref_local (suc n) (read_expr n) (after (read_expr n) (expr_local n)) (read_pref n) (after (read_pref n) (pref_of_local n))

pub below_local : (n : ℕ) → NearbyAfter (expr_below n)
below_local zero = nothing_local
below_local (suc n) = after (read_expr n) (expr_local n)
