-- The same for declarations and programs: where reading stops at a token, it stops there whatever follows.
use Rattle.std.specs.Prelude.{◌&&◌}
use Rattle.std.proofs.Common.{◌≡◌, ℕ, zero, suc, ◌+◌, ◌≤◌, Bool, true, false, List, [], ◌∷◌, ◌++◌, length, drop, Option, Some, None, Result, Ok, Err, arith, refl, ap, sym, ◌∙◌, subst, length-append}
use Rattle.zl_lexer.specs.declared.token.Token.{Token}
use Rattle.zl_lexer.specs.declared.token.TokenKind.{TokenKind}
use Rattle.zl_lexer.specs.declared.token.TokenKind.TheVariants as kind
use Rattle.zl_lexer.specs.declared.token.Word.TheVariants as word
use Rattle.zl_lexer.specs.declared.token.Sign.TheVariants as sign
use Rattle.zl_value.specs.declared.position.Pos.{Pos}
use Rattle.zl_ast.specs.declared.name.Name.{Name}
use Rattle.zl_ast.specs.declared.operator.Infix.{Infix}
use Rattle.zl_ast.specs.declared.expr.Expr.{Expr}
use Rattle.zl_ast.specs.declared.program.Decl.{Decl}
use Rattle.zl_ast.specs.declared.program.DeclKind.{DeclKind}
use Rattle.zl_ast.specs.declared.program.DeclKind.TheVariants as declared
use Rattle.zl_ast.specs.Operators.{disjunction, conjunction, comparison, addition, multiplication, flow_operator, prefix, decl_word, type_name}
use Rattle.zl_ast.specs.Declarations.{is_open, is_name, is_comma, tuple_next}
use Rattle.zl_ast.specs.Reading.{Fault, parse, deep, Reader, ◌>>=◌, nothing, same_mark, next_is, next_in, take_at, take, name_at, name, inside, list_of, to_close, tuple}
use Rattle.zl_ast.specs.ReadingExpressions.{name_or_call, atom_at, atom, pref_at, pref, links, level, cmp_at, cmp, disj, flow_at, expr_at, expr_of, read_expr, read_pref}
use Rattle.zl_ast.specs.ReadingEquations.{read_eqs}
use Rattle.zl_ast.specs.ReadingDeclarations.{type_of, param, result_at, result, where_part, function, unmarked_at, decl_at, decl, decls, read_program}
use Rattle.zl_ast.proofs.Readers.{is_same, gives}
use Rattle.zl_ast.proofs.OneDeeper.{Tail, here, further}
use Rattle.zl_ast.proofs.Local.{behind_tail, tail_length, Reached, reached_ok, reached_parse, reached_deep, Local, alike, bad_alike, deep_alike, reached, wider, reached_all, then_reached, goes_on, Nearby, NearbyAfter, after, reaches, take_local, find_local, name_local, nothing_local, inside_local, list_local, maybe_local, to_close_local, pass_local, tuple_local, called_local, pref_local, links_whole, level_local, cmp_local, compared_local, flowing_local, expr_local, pref_of_local}
use Rattle.zl_ast.proofs.LocalEquations.{eqs_local}

-- ---- a result, whose form two tokens more decide

module _ (n : ℕ) where
  result_at_local : (b : Bool) → Nearby (result_at b n)
  result_at_local true all us vs f h = goes_on _ _ (tuple_local n all us vs f h) (λ ws us vs xs e he. alike _ e he)
  result_at_local false all us vs f h = goes_on _ _ (expr_local n all us vs f h) (λ ws us vs x e he. alike _ e he)

-- a token, whatever follows
token_reached : (k : TokenKind) (us : List Token) → Reached (length us) (take k us)
token_reached k us = reached_all (take_local k [] us us [] here)

-- where the first answers, what goes on with its answer
from_ok : {A B : Type 0} {n : ℕ} {r : Result A Fault} (y : A) (f : A → Result (B × List Token) Fault) → r ≡ Ok y → Reached n (f y) → Reached n (r >>= f)
unfolding ◌>>=◌
from_ok {n = n} y f e h = subst (λ r. Reached n (r >>= f)) (sym e) h

-- what fails first fails whatever goes on
still_fails : {A B : Type 0} {r : Result A Fault} {e : Fault} (f : A → Result B Fault) → r ≡ Err e → (r >>= f) ≡ Err e
unfolding ◌>>=◌
still_fails f h = ap (λ r. r >>= f) h

open_is : (k : TokenKind) → is_open k ≡ true → k ≡ kind.Sign sign.Open
open_is (kind.Sign sign.Open) e = refl
open_is _ e = cc

take_open : (t : Token) (ts : List Token) → t.kind ≡ kind.Sign sign.Open → take (kind.Sign sign.Open) (t ∷ ts) ≡ Ok (t.at, ts)
unfolding take
take_open t ts is = ap (λ b. take_at b t ts) (is_same (kind.Sign sign.Open) t.kind tt is)

-- ---- an expression that begins with a token that is no prefix and no "if"

module _ (N n : ℕ) (p : Reader Expr) (l : NearbyAfter p) (q : Reader Expr) (m : NearbyAfter q) (t : Token) (ts : List Token) (plain : prefix t.kind ≡ None) (other : next_is (kind.Word word.If) (t ∷ ts) ≡ false) where
  level_reached : (op : TokenKind → Option Infix) (r : Reader Expr) → Nearby r → Reached N (r (t ∷ ts)) → Reached N (level op r (t ∷ ts))
  unfolding level
  level_reached op r lr h = then_reached h (λ x. then_reached (reaches (λ us. links op r (length us) us) (after (λ us. links op r (length us) us) (links_whole op r lr)) x.1) (λ ls. reached_ok _ (omega arith)))

  cmp_reached : (r : Reader Expr) → Nearby r → Reached N (r (t ∷ ts)) → Reached N (cmp r (t ∷ ts))
  unfolding cmp
  cmp_reached r lr h = then_reached h (λ x. reaches (λ us. cmp_at r x.0 us (next_in comparison us)) (after (λ us. cmp_at r x.0 us (next_in comparison us)) (compared_local r lr x.0)) x.1)

  pref_reached : Reached N (atom n p (t ∷ ts)) → Reached N (pref n p q (t ∷ ts))
  unfolding pref
  pref_reached h = subst (λ o. Reached N (pref_at n p q t ts o)) (sym plain) h

  disj_reached : Reached N (atom n p (t ∷ ts)) → Reached N (disj n p q (t ∷ ts))
  disj_reached h =
      let a = pref_local n p l q m in
      let b = level_local multiplication _ a in
      let c = level_local addition _ b in
      let d = cmp_local _ c in
      level_reached disjunction _ (level_local conjunction _ d) (level_reached conjunction _ d (cmp_reached _ c (level_reached addition _ b (level_reached multiplication _ a (pref_reached h)))))

  expr_of_reached : Reached N (atom n p (t ∷ ts)) → Reached N (expr_of n p q (t ∷ ts))
  unfolding expr_of
  expr_of_reached h =
      subst (λ b. Reached N (expr_at b n p q (t ∷ ts))) (sym other)
      (then_reached (disj_reached h) (λ x. reaches (λ us. flow_at n p x.0 us (next_in flow_operator us)) (after (λ us. flow_at n p x.0 us (next_in flow_operator us)) (flowing_local n p l q m x.0)) x.1))

  module _ (e : Fault) where
    pref_fails : atom n p (t ∷ ts) ≡ Err e → pref n p q (t ∷ ts) ≡ Err e
    unfolding pref
    pref_fails h = ap (pref_at n p q t ts) plain ∙ h

    level_fails : (op : TokenKind → Option Infix) (r : Reader Expr) → r (t ∷ ts) ≡ Err e → level op r (t ∷ ts) ≡ Err e
    unfolding level
    level_fails op r h = still_fails _ h

    cmp_fails : (r : Reader Expr) → r (t ∷ ts) ≡ Err e → cmp r (t ∷ ts) ≡ Err e
    unfolding cmp
    cmp_fails r h = still_fails _ h

    expr_of_fails : atom n p (t ∷ ts) ≡ Err e → expr_of n p q (t ∷ ts) ≡ Err e
    unfolding expr_of
    expr_of_fails h =
        ap (λ b. expr_at b n p q (t ∷ ts)) other
        ∙ still_fails _ (level_fails disjunction _ (level_fails conjunction _ (cmp_fails _ (level_fails addition _ (level_fails multiplication _ (pref_fails h))))))

atom_open_reached : (N n : ℕ) (p : Reader Expr) (t : Token) (ts : List Token) → t.kind ≡ kind.Sign sign.Open → Reached N (inside n p ts) → Reached N (atom n p (t ∷ ts))
unfolding atom atom_at
atom_open_reached N n p t ts is h =
    subst (λ k. Reached N (atom_at n p t.at ts k)) (sym is) (then_reached h (λ x. then_reached (token_reached (kind.Sign sign.Close) x.1) (λ c. reached_ok _ (omega arith))))

open_plain : (k : TokenKind) → k ≡ kind.Sign sign.Open → prefix k ≡ None
open_plain k e = ap prefix e

open_no_if : (t : Token) (ts : List Token) → t.kind ≡ kind.Sign sign.Open → next_is (kind.Word word.If) (t ∷ ts) ≡ false
unfolding next_is
open_no_if t ts e = ap (same_mark (kind.Word word.If)) e

name_plain : (k : TokenKind) → is_name k ≡ true → prefix k ≡ None
name_plain (kind.Name id) e = refl
name_plain _ e = cc

name_no_if_at : (k : TokenKind) → is_name k ≡ true → same_mark (kind.Word word.If) k ≡ false
name_no_if_at (kind.Name id) e = refl
name_no_if_at _ e = cc

name_no_if : (t : Token) (ts : List Token) → is_name t.kind ≡ true → next_is (kind.Word word.If) (t ∷ ts) ≡ false
unfolding next_is
name_no_if t ts e = name_no_if_at t.kind e

module _ (n : ℕ) (p : Reader Expr) (l : NearbyAfter p) where
  atom_at_name : (at : Pos) (us : List Token) (k : TokenKind) → is_name k ≡ true → Reached (length us) (atom_at n p at us k)
  unfolding atom_at
  atom_at_name at us (kind.Name id) e =
      let called : Reader Expr = λ ts. name_or_call (next_is (kind.Sign sign.Open) ts) n p (record { id = id; at = at }) ts in
      reaches called (after called (called_local n p l (record { id = id; at = at }))) us
  atom_at_name at us _ e = cc

  atom_name : (t : Token) (us : List Token) → is_name t.kind ≡ true → Reached (length us) (atom n p (t ∷ us))
  unfolding atom
  atom_name t us e = atom_at_name t.at us t.kind e

expr_name : (n : ℕ) (t : Token) (us : List Token) → is_name t.kind ≡ true → Reached (length us) (read_expr n (t ∷ us))
unfolding read_expr
expr_name zero t us e =
    expr_of_reached (length us) zero nothing nothing_local nothing nothing_local t us (name_plain t.kind e) (name_no_if t us e) (atom_name zero nothing nothing_local t us e)
expr_name (suc n) t us e =
    let l = after (read_expr n) (expr_local n) in
    expr_of_reached (length us) (suc n) (read_expr n) l (read_pref n) (after (read_pref n) (pref_of_local n)) t us (name_plain t.kind e) (name_no_if t us e) (atom_name (suc n) (read_expr n) l t us e)

-- "(" at which nothing may be opened, or with what is read behind it
open_zero : (N : ℕ) (t : Token) (us : List Token) → t.kind ≡ kind.Sign sign.Open → length us ≤ N → Reached N (read_expr zero (t ∷ us))
unfolding read_expr inside
open_zero N t us is le =
    expr_of_reached N zero nothing nothing_local nothing nothing_local t us (open_plain t.kind is) (open_no_if t us is)
    (atom_open_reached N zero nothing t us is (reached_deep (suc (length us)) (omega arith)))

open_suc : (N n : ℕ) (t : Token) (us : List Token) → t.kind ≡ kind.Sign sign.Open → Reached N (read_expr n us) → Reached N (read_expr (suc n) (t ∷ us))
unfolding read_expr inside
open_suc N n t us is h =
    let l = after (read_expr n) (expr_local n) in
    expr_of_reached N (suc n) (read_expr n) l (read_pref n) (after (read_pref n) (pref_of_local n)) t us (open_plain t.kind is) (open_no_if t us is) (atom_open_reached N (suc n) (read_expr n) t us is h)

open_expr : (n : ℕ) (t : Token) (us : List Token) → t.kind ≡ kind.Sign sign.Open → Reached (length us) (read_expr n (t ∷ us))
open_expr zero t us is = open_zero (length us) t us is (omega arith)
open_expr (suc n) t us is = open_suc (length us) n t us is (reaches (read_expr n) (after (read_expr n) (expr_local n)) us)

expr_fails : (t : Token) (us : List Token) → t.kind ≡ kind.Sign sign.Open → read_expr zero (t ∷ us) ≡ Err (deep (suc (length us)))
unfolding read_expr atom atom_at inside ◌>>=◌
expr_fails t us is =
    expr_of_fails (length us) zero nothing nothing_local nothing nothing_local t us (open_plain t.kind is) (open_no_if t us is) (deep (suc (length us)))
    (ap (atom_at zero nothing t.at us) is)

-- ---- the list form of a result

-- what stands behind the first name
tuple_tail : (x : Name × List Token) → Reached (length x.1) (take (kind.Sign sign.Comma) x.1 >>= λ c. list_of (kind.Sign sign.Comma) name c.1 >>= λ xs. take (kind.Sign sign.Close) xs.1 >>= λ d. Ok (x.0 ∷ xs.0, d.1))
tuple_tail x =
    then_reached (token_reached (kind.Sign sign.Comma) x.1) (λ c. then_reached (reaches (list_of (kind.Sign sign.Comma) name) (after (list_of (kind.Sign sign.Comma) name) (list_local (kind.Sign sign.Comma) name name_local)) c.1)
    (λ xs. then_reached (token_reached (kind.Sign sign.Close) xs.1) (λ d. reached_ok _ (omega arith))))

open_tuple : (n : ℕ) (t : Token) (us : List Token) → t.kind ≡ kind.Sign sign.Open → Reached (length us) (tuple n (t ∷ us))
unfolding tuple
open_tuple n t us is = from_ok _ _ (take_open t us is) (then_reached (reaches (inside n name) (inside_local n name (after name name_local)) us) tuple_tail)

name_at_reached : (k : TokenKind) (t : Token) (us : List Token) → is_name k ≡ true → Reached (length us) (name_at k t us)
name_at_reached (kind.Name id) t us e = reached_ok _ (omega arith)
name_at_reached _ t us e = cc

named_tuple : (n : ℕ) (t u : Token) (us : List Token) → t.kind ≡ kind.Sign sign.Open → is_name u.kind ≡ true → Reached (length us) (tuple (suc n) (t ∷ u ∷ us))
unfolding tuple inside name
named_tuple n t u us is e = from_ok _ _ (take_open t (u ∷ us) is) (then_reached (name_at_reached u.kind u us e) tuple_tail)

tuple_fails : (t : Token) (us : List Token) → t.kind ≡ kind.Sign sign.Open → tuple zero (t ∷ us) ≡ Err (deep (suc (length us)))
unfolding tuple inside ◌>>=◌
tuple_fails t us is = gives _ (take_open t us is) refl

-- ---- a result

value_reached : {n : ℕ} {r : Result (Expr × List Token) Fault} → Reached n r → Reached n (r >>= λ x. Ok (x.0 ∷ [], x.1))
value_reached h = then_reached h (λ x. reached_ok _ (omega arith))

open_result : (b : Bool) (n : ℕ) (t : Token) (us : List Token) → t.kind ≡ kind.Sign sign.Open → Reached (length us) (result_at b n (t ∷ us))
open_result true n t us is = then_reached (open_tuple n t us is) (λ x. reached_ok _ (omega arith))
open_result false n t us is = value_reached (open_expr n t us is)

named_result : (b : Bool) (n : ℕ) (t u : Token) (us : List Token) → t.kind ≡ kind.Sign sign.Open → is_name u.kind ≡ true → Reached (length us) (result_at b (suc n) (t ∷ u ∷ us))
named_result true n t u us is e = then_reached (named_tuple n t u us is e) (λ x. reached_ok _ (omega arith))
named_result false n t u us is e = value_reached (open_suc (length us) n t (u ∷ us) is (expr_name n u us e))

result_fails : (b : Bool) (t : Token) (us : List Token) → t.kind ≡ kind.Sign sign.Open → result_at b zero (t ∷ us) ≡ Err (deep (suc (length us)))
result_fails true t us is = still_fails _ (tuple_fails t us is)
result_fails false t us is = still_fails _ (expr_fails t us is)

not_tuple : (t : Token) (us : List Token) → is_open t.kind ≡ false → tuple_next (t ∷ us) ≡ false
not_tuple t [] e = refl
not_tuple t (u ∷ []) e = refl
not_tuple t (u ∷ v ∷ us) e = ap (λ b. b && (is_name u.kind && is_comma v.kind)) e

and_false : (b : Bool) → (b && false) ≡ false
and_false true = refl
and_false false = refl

not_named : (t u : Token) (us : List Token) → is_name u.kind ≡ false → tuple_next (t ∷ u ∷ us) ≡ false
not_named t u [] e = refl
not_named t u (v ∷ us) e = ap (λ b. is_open t.kind && (b && is_comma v.kind)) e ∙ and_false (is_open t.kind)

module _ (n : ℕ) (all us vs : List Token) where
  -- where neither begins the list form
  value_local : (f : List Token) → tuple_next (f ++ us) ≡ false → tuple_next (f ++ vs) ≡ false → Tail f all → Local false all us vs (result_at (tuple_next (f ++ us)) n (f ++ us)) (result_at (tuple_next (f ++ vs)) n (f ++ vs))
  value_local f e d h =
      subst (λ b. Local false all us vs (result_at b n (f ++ us)) (result_at (tuple_next (f ++ vs)) n (f ++ vs))) (sym e)
      (subst (λ b. Local false all us vs (result_at false n (f ++ us)) (result_at b n (f ++ vs))) (sym d) (result_at_local n false all us vs f h))

  one_token : (t : Token) (b : Bool) → is_open t.kind ≡ b → Tail (t ∷ []) all → Local false all us vs (result_at (tuple_next (t ∷ us)) n (t ∷ us)) (result_at (tuple_next (t ∷ vs)) n (t ∷ vs))
  one_token t true e h = reached (open_result (tuple_next (t ∷ us)) n t us (open_is t.kind e))
  one_token t false e h = value_local (t ∷ []) (not_tuple t us e) (not_tuple t vs e) h

open_named : (n : ℕ) (all us vs : List Token) (t u : Token) → t.kind ≡ kind.Sign sign.Open → is_name u.kind ≡ true → Tail (t ∷ u ∷ []) all →
    Local false all us vs (result_at (tuple_next (t ∷ u ∷ us)) n (t ∷ u ∷ us)) (result_at (tuple_next (t ∷ u ∷ vs)) n (t ∷ u ∷ vs))
open_named zero all us vs t u is e h =
    subst (λ r. Local false all us vs r (result_at (tuple_next (t ∷ u ∷ vs)) zero (t ∷ u ∷ vs))) (sym (result_fails (tuple_next (t ∷ u ∷ us)) t (u ∷ us) is))
    (subst (λ s. Local false all us vs (Err (deep (suc (suc (length us))))) s) (sym (result_fails (tuple_next (t ∷ u ∷ vs)) t (u ∷ vs) is)) (deep_alike t u [] h))
open_named (suc n) all us vs t u is e h = reached (named_result (tuple_next (t ∷ u ∷ us)) n t u us is e)

two_tokens : (n : ℕ) (all us vs : List Token) (t u : Token) (b c : Bool) → is_open t.kind ≡ b → is_name u.kind ≡ c → Tail (t ∷ u ∷ []) all →
    Local false all us vs (result_at (tuple_next (t ∷ u ∷ us)) n (t ∷ u ∷ us)) (result_at (tuple_next (t ∷ u ∷ vs)) n (t ∷ u ∷ vs))
two_tokens n all us vs t u false c e d h = value_local n all us vs (t ∷ u ∷ []) (not_tuple t (u ∷ us) e) (not_tuple t (u ∷ vs) e) h
two_tokens n all us vs t u true false e d h = value_local n all us vs (t ∷ u ∷ []) (not_named t u us d) (not_named t u vs d) h
two_tokens n all us vs t u true true e d h = open_named n all us vs t u (open_is t.kind e) d h

result_local : (n : ℕ) → Nearby (result n)
unfolding result
result_local n all us vs [] h = reached (reaches (result_at (tuple_next us) n) (after (result_at (tuple_next us) n) (result_at_local n (tuple_next us))) us)
result_local n all us vs (t ∷ []) h = one_token n all us vs t (is_open t.kind) refl h
result_local n all us vs (t ∷ u ∷ []) h = two_tokens n all us vs t u (is_open t.kind) (is_name u.kind) refl refl h
result_local n all us vs (t ∷ u ∷ v ∷ f) h = result_at_local n (is_open t.kind && (is_name u.kind && is_comma v.kind)) all us vs (t ∷ u ∷ v ∷ f) h

-- ---- declarations

type_local : Nearby type_of
unfolding type_of
type_local all us vs f h = goes_on _ _ (find_local type_name all us vs f h) (λ ws us vs w e he. alike _ e (behind_tail e ws he))

param_local : Nearby param
unfolding param
param_local all us vs f h =
    goes_on _ _ (name_local all us vs f h) (λ ws us vs x e he.
    goes_on _ _ (maybe_local (kind.Sign sign.Colon) type_of (after type_of type_local) ws us vs e he) (λ ws us vs ty e he. alike _ e he))

where_local : (n : ℕ) → Nearby (where_part n)
unfolding where_part
where_local n = pass_local (kind.Word word.Rec) (read_eqs n) (eqs_local n)

function_local : (n : ℕ) (k : DeclKind) (x : Name) → Nearby (function n k x)
function_local n k x all us vs f h =
    goes_on _ _ (take_local (kind.Sign sign.Open) all us vs f h) (λ ws us vs o e he.
    goes_on _ _ (inside_local n (to_close param) (to_close_local param (after param param_local)) ws us vs e he) (λ ws us vs ps e he.
    goes_on _ _ (take_local (kind.Sign sign.Equal) ws us vs e he) (λ ws us vs q e he. goes_on _ _ (result_local n ws us vs e (behind_tail e ws he)) (λ ws us vs r e he.
    goes_on _ _ (maybe_local (kind.Word word.Where) (where_part n) (after (where_part n) (where_local n)) ws us vs e he) (λ ws us vs es e he. alike _ e he)))))

unmarked_local : (n : ℕ) (x : Name) (b : Bool) → Nearby (unmarked_at b n x)
unmarked_local n x true all us vs f h =
    goes_on _ _ (take_local (kind.Sign sign.Equal) all us vs f h) (λ ws us vs q e he.
    goes_on _ _ (expr_local n ws us vs e (behind_tail e ws he)) (λ ws us vs v e he. alike _ e he))
unmarked_local n x false all us vs f h = function_local n declared.Function x all us vs f h

named_local : (n : ℕ) (x : Name) → Nearby (λ ts. unmarked_at (next_is (kind.Sign sign.Equal) ts) n x ts)
unfolding next_is
named_local n x all us vs (t ∷ f) h = unmarked_local n x (next_is (kind.Sign sign.Equal) (t ∷ f)) all us vs (t ∷ f) h
named_local n x all us vs [] h = reached (reaches (unmarked_at (next_is (kind.Sign sign.Equal) us) n x) (after (unmarked_at (next_is (kind.Sign sign.Equal) us) n x) (unmarked_local n x (next_is (kind.Sign sign.Equal) us))) us)

drop_local : {A : Type 0} (p : Reader A) → Nearby p → Nearby (λ ts. p (drop 1 ts))
drop_local p l all us vs (t ∷ f) h = l all us vs f (further h)
drop_local p l all [] vs [] h = reached (reaches p (after p l) [])
drop_local p l all (u ∷ us) vs [] h = reached (wider (omega arith) (reaches p (after p l) us))

decl_at_local : (n : ℕ) (o : Option DeclKind) → Nearby (decl_at o n)
decl_at_local n (Some k) all us vs f h = goes_on _ _ (drop_local name name_local all us vs f h) (λ ws us vs x e he. function_local n k x ws us vs e he)
decl_at_local n None all us vs f h = goes_on _ _ (name_local all us vs f h) (λ ws us vs x e he. named_local n x ws us vs e he)

marked_local : (n : ℕ) → Nearby (λ ts. decl_at (next_in decl_word ts) n ts)
unfolding next_in
marked_local n all us vs (t ∷ f) h = decl_at_local n (next_in decl_word (t ∷ f)) all us vs (t ∷ f) h
marked_local n all us vs [] h = reached (reaches (decl_at (next_in decl_word us) n) (after (decl_at (next_in decl_word us) n) (decl_at_local n (next_in decl_word us))) us)

decl_local : (n : ℕ) → Nearby (decl n)
unfolding decl
decl_local n all us vs f h = goes_on _ _ (take_local (kind.Word word.Let) all us vs f h) (λ ws us vs l e he. marked_local n ws us vs e (behind_tail e ws he))

-- ---- programs

-- reading to the end came to the last n tokens, or stopped for depth just before them
pub data ReachedEnd {A : Type 0} (n : ℕ) : Result A Fault → Type 0 where
  end_ok : (x : A) → ReachedEnd n (Ok x)
  end_parse : (left : ℕ) → left ≤ n → ReachedEnd n (Err (parse left))
  end_deep : (left : ℕ) → left ≤ suc n → ReachedEnd n (Err (deep left))

-- Both stop alike within what they have in common, or the first comes to its end.
pub data LocalEnd {A : Type 0} (all us vs : List Token) : Result A Fault → Result A Fault → Type 0 where
  stops_alike : (t : Token) (f : List Token) → Tail (t ∷ f) all → LocalEnd all us vs (Err (parse (suc (length (f ++ us))))) (Err (parse (suc (length (f ++ vs)))))
  stops_deep : (t u : Token) (f : List Token) → Tail (t ∷ u ∷ f) all → LocalEnd all us vs (Err (deep (suc (suc (length (f ++ us)))))) (Err (deep (suc (suc (length (f ++ vs))))))
  ends : {r s : Result A Fault} → ReachedEnd (length us) r → LocalEnd all us vs r s

wider_end : {A : Type 0} {n m : ℕ} {r : Result A Fault} → n ≤ m → ReachedEnd n r → ReachedEnd m r
wider_end le (end_ok x) = end_ok x
wider_end le (end_parse left h) = end_parse left (omega arith)
wider_end le (end_deep left h) = end_deep left (omega arith)

end_all : {A : Type 0} {all us vs : List Token} {r s : Result A Fault} → LocalEnd all us vs r s → ReachedEnd (length (all ++ us)) r
end_all {all = all} {us = us} (stops_alike t f h) = end_parse (suc (length (f ++ us))) (tail_length (t ∷ f) all us h)
end_all {all = all} {us = us} (stops_deep t u f h) = let k = tail_length (t ∷ u ∷ f) all us h in end_deep (suc (suc (length (f ++ us)))) (omega arith)
end_all {all = all} {us = us} (ends h) = let k = length-append all us in wider_end (omega arith) h

then_ends : {A B : Type 0} {n : ℕ} {r : Result (A × List Token) Fault} {f : A × List Token → Result B Fault} → Reached n r → ((y : A × List Token) → ReachedEnd (length y.1) (f y)) → ReachedEnd n (r >>= f)
unfolding ◌>>=◌
then_ends (reached_ok y h) k = wider_end h (k y)
then_ends (reached_parse left h) k = end_parse left h
then_ends (reached_deep left h) k = end_deep left h

ends_on : {A B : Type 0} {all us vs : List Token} {r s : Result (A × List Token) Fault} (f g : A × List Token → Result B Fault) →
    Local false all us vs r s → ((ws us vs : List Token) (x : A) (e : List Token) → Tail e ws → LocalEnd ws us vs (f (x, e ++ us)) (g (x, e ++ vs))) → LocalEnd all us vs (r >>= f) (s >>= g)
unfolding ◌>>=◌
ends_on {all = all} {us = us} {vs = vs} f g (alike x e h) k = k all us vs x e h
ends_on f g (bad_alike t e h) k = stops_alike t e h
ends_on f g (deep_alike t u e h) k = stops_deep t u e h
ends_on f g (reached h) k = ends (then_ends h (λ y. end_all (k [] y.1 y.1 y.0 [] here)))

mapped_end : {A B : Type 0} {n : ℕ} {r : Result A Fault} (f : A → B) → ReachedEnd n r → ReachedEnd n (r >>= λ x. Ok (f x))
unfolding ◌>>=◌
mapped_end f (end_ok x) = end_ok (f x)
mapped_end f (end_parse left h) = end_parse left h
mapped_end f (end_deep left h) = end_deep left h

mapped_local : {A B : Type 0} {all us vs : List Token} {r s : Result A Fault} (f : A → B) → LocalEnd all us vs r s → LocalEnd all us vs (r >>= λ x. Ok (f x)) (s >>= λ x. Ok (f x))
unfolding ◌>>=◌
mapped_local f (stops_alike t e h) = stops_alike t e h
mapped_local f (stops_deep t u e h) = stops_deep t u e h
mapped_local f (ends h) = ends (mapped_end f h)

decls_reached : (n most : ℕ) (ts : List Token) → ReachedEnd (length ts) (decls n most ts)
unfolding decls
decls_reached n most [] = end_ok []
decls_reached n zero (t ∷ ts) = end_parse (suc (length ts)) (omega arith)
decls_reached n (suc most) (t ∷ ts) = then_ends (reaches (decl n) (after (decl n) (decl_local n)) (t ∷ ts)) (λ d. mapped_end (λ ds. d.0 ∷ ds) (decls_reached n most d.1))

decls_local : (n most : ℕ) (all us vs f : List Token) → Tail f all → LocalEnd all us vs (decls n most (f ++ us)) (decls n most (f ++ vs))
unfolding decls
decls_local n most all us vs [] h = ends (decls_reached n most us)
decls_local n zero all us vs (t ∷ f) h = stops_alike t f h
decls_local n (suc most) all us vs (t ∷ f) h = ends_on _ _ (decl_local n all us vs (t ∷ f) h) (λ ws us vs d e he. mapped_local (λ ds. d ∷ ds) (decls_local n most ws us vs e he))

-- an answer leaves at most n tokens
data Leaves {A : Type 0} (n : ℕ) : Result (A × List Token) Fault → Type 0 where
  leaves : (y : A × List Token) → length y.1 ≤ n → Leaves n (Ok y)
  no_answer : (e : Fault) → Leaves n (Err e)

reached_leaves : {A : Type 0} {n : ℕ} {r : Result (A × List Token) Fault} → Reached n r → Leaves n r
reached_leaves (reached_ok y h) = leaves y h
reached_leaves (reached_parse left h) = no_answer (parse left)
reached_leaves (reached_deep left h) = no_answer (deep left)

-- a declaration takes a token
decl_leaves : (n : ℕ) (t : Token) (ts : List Token) → Leaves (length ts) (decl n (t ∷ ts))
unfolding decl take ◌>>=◌
decl_leaves n t ts = by_mark (same_mark (kind.Word word.Let) t.kind)
  where
    by_mark : (b : Bool) → Leaves (length ts) (take_at b t ts >>= λ l. decl_at (next_in decl_word l.1) n l.1)
    by_mark true = let after_let : Reader Decl = λ us. decl_at (next_in decl_word us) n us in reached_leaves (reaches after_let (after after_let (marked_local n)) ts)
    by_mark false = no_answer (parse (suc (length ts)))

same_after : {A B : Type 0} {n : ℕ} {r : Result (A × List Token) Fault} (f g : A × List Token → Result B Fault) → Leaves n r → ((x : A × List Token) → length x.1 ≤ n → f x ≡ g x) → (r >>= f) ≡ (r >>= g)
unfolding ◌>>=◌
same_after f g (leaves y h) k = k y h
same_after f g (no_answer e) k = refl

decls_enough : (n m k : ℕ) (ts : List Token) → length ts ≤ m → length ts ≤ k → decls n m ts ≡ decls n k ts
unfolding decls
decls_enough n m k [] le le' = refl
decls_enough n zero k (t ∷ ts) le le' = absurd (omega arith)
decls_enough n (suc m) zero (t ∷ ts) le le' = absurd (omega arith)
decls_enough n (suc m) (suc k) (t ∷ ts) le le' =
    same_after _ _ (decl_leaves n t ts) (λ d ld. ap (λ r. r >>= λ ds. Ok (d.0 ∷ ds)) (decls_enough n m k d.1 (omega arith) (omega arith)))

-- Where reading stops within the tokens f, it stops there whatever follows them.
pub program_local : (n : ℕ) (us vs f : List Token) → LocalEnd f us vs (read_program n (f ++ us)) (read_program n (f ++ vs))
unfolding read_program
program_local n us vs f =
    let m = length (f ++ us) + length (f ++ vs) in
    let a = decls_enough n m (length (f ++ us)) (f ++ us) (omega arith) (omega arith) in
    let b = decls_enough n m (length (f ++ vs)) (f ++ vs) (omega arith) (omega arith) in
    subst (λ s. LocalEnd f us vs (decls n (length (f ++ us)) (f ++ us)) s) b (subst (λ r. LocalEnd f us vs r (decls n m (f ++ vs))) a (decls_local n m f us vs f here))
