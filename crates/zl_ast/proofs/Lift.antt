-- What is a phrase with at most n constructs opened one inside the other is one with at most n + 1.
use Rattle.std.proofs.Common.{◌≡◌, ℕ, zero, suc, ◌+◌, ◌-◌, ◌≤◌, Bool, List, Option, arith, subst}
use Rattle.zl_lexer.specs.declared.token.Token.{Token}
use Rattle.zl_lexer.specs.declared.token.TokenKind.{TokenKind}
use Rattle.zl_value.specs.declared.position.Pos.{Pos}
use Rattle.zl_ast.specs.declared.operator.Infix.{Infix}
use Rattle.zl_ast.specs.declared.expr.Expr.{Expr}
use Rattle.zl_ast.specs.declared.eqn.Eqn.{Eqn}
use Rattle.zl_ast.specs.declared.program.Decl.{Decl}
use Rattle.zl_ast.specs.Phrases.{Phrase, Nothing, ListOf, Maybe, ToClose}
use Rattle.zl_ast.specs.Phrases as phrases
use Rattle.zl_ast.specs.Expressions.{Links, Level, IsAtom, PrefOf, TermOf, SumOf, CmpOf, ConjOf, DisjOf, ExprOf, IsExpr, IsPref}
use Rattle.zl_ast.specs.Expressions as e
use Rattle.zl_ast.specs.Equations.{IsUp, IsEvent, IsCond, IsResetArm, IsAlt, MoreAlts, IsMove, MoreMoves, IsStateEnd, DoEqs, BodyOf, ArmOf, StateOf, EqnOf, IsEqs}
use Rattle.zl_ast.specs.Equations as q
use Rattle.zl_ast.specs.Declarations.{IsResult, IsWhere, IsDecl, IsDecls}
use Rattle.zl_ast.specs.Declarations as d

-- Each phrase of the first form is one of the second.
abbrev pub Into : {A : Type 0} → Phrase A → Phrase A → Type 0
Into {A = A} X Y = (ts : List Token) (x : A) (rest : List Token) → X ts x rest → Y ts x rest

nothing_into : {A : Type 0} (X : Phrase A) → Into Nothing X
nothing_into X ts x rest h = elim h [ ]

list_into : {A : Type 0} (k : TokenKind) (X Y : Phrase A) → Into X Y → Into (ListOf k X) (ListOf k Y)
list_into k X Y into _ _ _ (phrases.last h n) = phrases.last (into _ _ _ h) n
list_into k X Y into _ _ _ (phrases.more h t hs) = phrases.more (into _ _ _ h) t (list_into k X Y into _ _ _ hs)

maybe_into : {A : Type 0} (k : TokenKind) (X Y : Phrase A) → Into X Y → Into (Maybe k X) (Maybe k Y)
maybe_into k X Y into _ _ _ (phrases.absent n) = phrases.absent n
maybe_into k X Y into _ _ _ (phrases.present t h) = phrases.present t (into _ _ _ h)

to_close_into : {A : Type 0} (X Y : Phrase A) → Into X Y → Into (ToClose X) (ToClose Y)
to_close_into X Y into _ _ _ (phrases.empty c) = phrases.empty c
to_close_into X Y into _ _ _ (phrases.items hs c) = phrases.items (list_into _ X Y into _ _ _ hs) c

links_into : (op : TokenKind → Option Infix) (X Y : Phrase Expr) → Into X Y → Into (Links op X) (Links op Y)
links_into op X Y into _ _ _ (e.none n) = e.none n
links_into op X Y into _ _ _ (e.some o h hs) = e.some o (into _ _ _ h) (links_into op X Y into _ _ _ hs)

level_into : (op : TokenKind → Option Infix) (X Y : Phrase Expr) → Into X Y → Into (Level op X) (Level op Y)
level_into op X Y into _ _ _ (e.level h hs) = e.level (into _ _ _ h) (links_into op X Y into _ _ _ hs)

module _ (X Y : Phrase Expr) (into : Into X Y) where
  atom_into : (n : ℕ) → Into (IsAtom X n) (IsAtom Y (suc n))
  atom_into n _ _ _ (e.int i h) = e.int i h
  atom_into n _ _ _ (e.float f h) = e.float f h
  atom_into n _ _ _ (e.is_true h) = e.is_true h
  atom_into n _ _ _ (e.is_false h) = e.is_false h
  atom_into n _ _ _ (e.var h o) = e.var h o
  atom_into n _ _ _ (e.call h o hs) = e.call h o (to_close_into X Y into _ _ _ hs)
  atom_into n _ _ _ (e.last_of h x) = e.last_of h x
  atom_into n _ _ _ (e.parens o h c) = e.parens o (into _ _ _ h) c

  module _ (P Q : Phrase Expr) (operand : Into P Q) where
    pref_into : (n : ℕ) → Into (PrefOf X P n) (PrefOf Y Q (suc n))
    pref_into n _ _ _ (e.negative f m h) = e.negative f m h
    pref_into n _ _ _ (e.prefixed o f h) = e.prefixed o f (operand _ _ _ h)
    pref_into n _ _ _ (e.atom h) = e.atom (atom_into n _ _ _ h)

    sum_into : (n : ℕ) → Into (SumOf X P n) (SumOf Y Q (suc n))
    sum_into n = level_into _ _ _ (level_into _ _ _ (pref_into n))

    cmp_into : (n : ℕ) → Into (CmpOf X P n) (CmpOf Y Q (suc n))
    cmp_into n _ _ _ (e.alone h o) = e.alone (sum_into n _ _ _ h) o
    cmp_into n _ _ _ (e.compared h o k) = e.compared (sum_into n _ _ _ h) o (sum_into n _ _ _ k)

    disj_into : (n : ℕ) → Into (DisjOf X P n) (DisjOf Y Q (suc n))
    disj_into n = level_into _ _ _ (level_into _ _ _ (cmp_into n))

    expr_into : (n : ℕ) → Into (ExprOf X P n) (ExprOf Y Q (suc n))
    expr_into n _ _ _ (e.choice i c a x b y) = e.choice i (into _ _ _ c) a (into _ _ _ x) b (into _ _ _ y)
    expr_into n _ _ _ (e.plain h o) = e.plain (disj_into n _ _ _ h) o
    expr_into n _ _ _ (e.flow {n = m} h o y) = e.flow (disj_into (suc m) _ _ _ h) o (into _ _ _ y)

mutual
  unfolding IsExpr

  expr_lift : (n : ℕ) → Into (IsExpr n) (IsExpr (suc n))
  expr_lift zero = expr_into Nothing (IsExpr zero) (nothing_into (IsExpr zero)) Nothing (IsPref zero) (nothing_into (IsPref zero)) zero
  expr_lift (suc n) = expr_into (IsExpr n) (IsExpr (suc n)) (expr_lift n) (IsPref n) (IsPref (suc n)) (pref_lift n) (suc n)

  pref_lift : (n : ℕ) → Into (IsPref n) (IsPref (suc n))
  pref_lift zero = pref_into Nothing (IsExpr zero) (nothing_into (IsExpr zero)) Nothing (IsPref zero) (nothing_into (IsPref zero)) zero
  pref_lift (suc n) = pref_into (IsExpr n) (IsExpr (suc n)) (expr_lift n) (IsPref n) (IsPref (suc n)) (pref_lift n) (suc n)

-- ---- equations

up_lift : (n : ℕ) → Into (IsUp n) (IsUp (suc n))
up_lift _ _ _ _ (q.up {n = n} u o x c) = q.up u o (expr_lift n _ _ _ x) c

event_lift : (n : ℕ) → Into (IsEvent n) (IsEvent (suc n))
event_lift n = list_into _ _ _ (up_lift n)

cond_lift : (n : ℕ) → Into (IsCond n) (IsCond (suc n))
cond_lift n _ _ _ (q.event h) = q.event (event_lift n _ _ _ h)
cond_lift _ _ _ _ (q.test {n = n} o x c) = q.test o (expr_lift n _ _ _ x) c

reset_arm_lift : (n : ℕ) → Into (IsResetArm n) (IsResetArm (suc n))
reset_arm_lift n _ _ _ (q.reset_arm h a x) = q.reset_arm (event_lift n _ _ _ h) a (expr_lift n _ _ _ x)

alt_lift : (n : ℕ) (strong : Bool) (at : Pos) → Into (IsAlt n strong at) (IsAlt (suc n) strong at)
alt_lift n strong at _ _ _ (q.alt c w x) = q.alt (cond_lift n _ _ _ c) w x

alts_lift : (n : ℕ) (strong : Bool) → Into (MoreAlts n strong) (MoreAlts (suc n) strong)
alts_lift n strong _ _ _ (q.no_alts h) = q.no_alts h
alts_lift n strong _ _ _ (q.more_alts {at = at} w h hs) = q.more_alts w (alt_lift n strong at _ _ _ h) (alts_lift n strong _ _ _ hs)

move_lift : (n : ℕ) → Into (IsMove n) (IsMove (suc n))
move_lift n _ _ _ (q.move {at = at} {strong = strong} w h hs) = q.move w (alt_lift n strong at _ _ _ h) (alts_lift n strong _ _ _ hs)

moves_lift : (n : ℕ) → Into (MoreMoves n) (MoreMoves (suc n))
moves_lift n _ _ _ (q.no_moves h) = q.no_moves h
moves_lift n _ _ _ (q.more_moves h hs) = q.more_moves (move_lift n _ _ _ h) (moves_lift n _ _ _ hs)

state_end_lift : (n : ℕ) → Into (IsStateEnd n) (IsStateEnd (suc n))
state_end_lift n _ _ _ (q.done h) = q.done h
state_end_lift n _ _ _ (q.moves h hs) = q.moves (move_lift n _ _ _ h) (moves_lift n _ _ _ hs)

module _ (X Y : Phrase (List Eqn)) (into : Into X Y) where
  do_into : Into (DoEqs X) (DoEqs Y)
  do_into _ _ _ (q.no_eqs t h) = q.no_eqs t h
  do_into _ _ _ (q.some_eqs h) = q.some_eqs (into _ _ _ h)

  body_into : (n : ℕ) → Into (BodyOf X n) (BodyOf Y (suc n))
  body_into _ _ _ _ (q.body_of l o es c) = q.body_of l o (do_into _ _ _ es) c

  arm_into : (n : ℕ) → Into (ArmOf X n) (ArmOf Y (suc n))
  arm_into n _ _ _ (q.arm_of c a b) = q.arm_of (cond_lift n _ _ _ c) a (body_into n _ _ _ b)

  state_into : (n : ℕ) → Into (StateOf X n) (StateOf Y (suc n))
  state_into _ _ _ _ (q.state_of {n = n} x a l o es ms) = q.state_of x a l o (do_into _ _ _ es) (state_end_lift n _ _ _ ms)

  eqn_into : (n : ℕ) → Into (EqnOf X n) (EqnOf Y (suc n))
  eqn_into n _ _ _ (q.one x w v) = q.one x w (expr_lift n _ _ _ v)
  eqn_into _ _ _ _ (q.several {n = n} xs w f o vs) = q.several xs w f o (to_close_into _ _ (expr_lift n) _ _ _ vs)
  eqn_into n _ _ _ (q.der w x v s i r) =
      q.der w x v (expr_lift n _ _ _ s) (maybe_into _ _ _ (expr_lift n) _ _ _ i) (maybe_into _ _ _ (list_into _ _ _ (reset_arm_lift n)) _ _ _ r)
  eqn_into n _ _ _ (q.start w x v s) = q.start w x v (expr_lift n _ _ _ s)
  eqn_into n _ _ _ (q.present_of w b as_ o c) = q.present_of w b (list_into _ _ _ (arm_into n) _ _ _ as_) (maybe_into _ _ _ (body_into n) _ _ _ o) c
  eqn_into n _ _ _ (q.automaton w b ss c) = q.automaton w b (list_into _ _ _ (state_into n) _ _ _ ss) c
  eqn_into _ _ _ _ (q.reset {n = n} w es v c) = q.reset w (into _ _ _ es) v (cond_lift n _ _ _ c)

eqs_lift : (n : ℕ) → Into (IsEqs n) (IsEqs (suc n))
unfolding IsEqs
eqs_lift zero = list_into _ _ _ (eqn_into Nothing (IsEqs zero) (nothing_into (IsEqs zero)) zero)
eqs_lift (suc n) = list_into _ _ _ (eqn_into (IsEqs n) (IsEqs (suc n)) (eqs_lift n) (suc n))

-- ---- declarations

result_lift : (n : ℕ) → Into (IsResult n) (IsResult (suc n))
result_lift n _ _ _ (d.value h x) = d.value h (expr_lift n _ _ _ x)
result_lift _ _ _ _ (d.names xs) = d.names xs

where_lift : (n : ℕ) → Into (IsWhere n) (IsWhere (suc n))
where_lift n _ _ _ (d.where_eqs p es) = d.where_eqs p (eqs_lift n _ _ _ es)

decl_lift : (n : ℕ) → Into (IsDecl n) (IsDecl (suc n))
decl_lift n _ _ _ (d.constant l x w v) = d.constant l x w (expr_lift n _ _ _ v)
decl_lift _ _ _ _ (d.function_of {n = n} l k x o ps w r es) = d.function_of l k x o ps w (result_lift (suc n) _ _ _ r) (maybe_into _ _ _ (where_lift (suc n)) _ _ _ es)

decls_lift : (n : ℕ) (ts : List Token) (ds : List Decl) → IsDecls n ts ds → IsDecls (suc n) ts ds
decls_lift n _ _ d.no_decls = d.no_decls
decls_lift n _ _ (d.some_decls h hs) = d.some_decls (decl_lift n _ _ _ h) (decls_lift n _ _ hs)

raised : (k n : ℕ) (ts : List Token) (ds : List Decl) → IsDecls n ts ds → IsDecls (k + n) ts ds
raised zero n ts ds h = let eq : n ≡ zero + n = omega arith in subst (λ m. IsDecls m ts ds) eq h
raised (suc k) n ts ds h = let eq : suc (k + n) ≡ suc k + n = omega arith in subst (λ m. IsDecls m ts ds) eq (decls_lift (k + n) ts ds (raised k n ts ds h))

pub lift : (n m : ℕ) (ts : List Token) (ds : List Decl) → n ≤ m → IsDecls n ts ds → IsDecls m ts ds
lift n m ts ds le h = let eq : (m - n) + n ≡ m = omega arith in subst (λ k. IsDecls k ts ds) eq (raised (m - n) n ts ds h)
