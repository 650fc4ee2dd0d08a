-- A tree that was made of tokens whose numbers are in their ranges keeps what the grammar says of it.
use Rattle.std.proofs.Common.{◌≡◌, ℕ, zero, suc, ◌<◌, pos, negsuc, ◌≤ℤ◌, ◌&&◌, int_le, true, ℤ, List, [], ◌∷◌, ◌++◌, map, length, Option, Some, None, refl, sym, ap, subst, ◌∙◌, arith, append_assoc, Bool}
use Rattle.std.specs.List.{AllByRecursion}
use Rattle.zl_value.specs.declared.position.Pos.{Pos}
use Rattle.std.proofs.lemmas.Int.{ints}
use Rattle.zl_value.specs.Fraction.{Fraction, neg, greatest}
use Rattle.zl_value.proofs.Fractions.{IsFrac-neg}
use Rattle.zl_value.specs.Operators.{int_fits}
use Rattle.zl_value.specs.declared.value.Ty.{Ty}
use Rattle.zl_value.specs.declared.value.Ty.TheVariants as ty
use Rattle.zl_value.specs.declared.value.Value.{Value}
use Rattle.zl_value.specs.declared.value.Value.TheVariants.{I, F}
use Rattle.zl_lexer.specs.declared.token.Token.{Token}
use Rattle.zl_lexer.specs.declared.token.TokenKind.{TokenKind}
use Rattle.zl_lexer.specs.declared.token.TokenKind.TheVariants as kind
use Rattle.zl_lexer.specs.declared.token.Word.{Word}
use Rattle.zl_lexer.specs.declared.token.Word.TheVariants as word
use Rattle.zl_lexer.specs.declared.token.Sign.TheVariants as sign
use Rattle.zl_lexer.specs.Facts.{IsKind}
use Rattle.zl_ast.specs.declared.name.Name.{Name}
use Rattle.zl_ast.specs.declared.operator.Infix.{Infix}
use Rattle.zl_ast.specs.declared.operator.Prefix.{Prefix}
use Rattle.zl_ast.specs.declared.operator.FlowOp.{FlowOp}
use Rattle.zl_ast.specs.declared.expr.Expr.{Expr}
use Rattle.zl_ast.specs.declared.expr.Expr.TheVariants as tree
use Rattle.zl_ast.specs.declared.expr.Expr.TheOpen as open_expr
use Rattle.zl_ast.specs.declared.expr.Expr.TheFolds.{fold-roll-Expr, fold-roll-Link}
use Rattle.zl_ast.specs.declared.expr.Link.{Link}
use Rattle.zl_ast.specs.declared.eqn.Eqn.{Eqn}
use Rattle.zl_ast.specs.declared.eqn.Eqn.TheVariants as eqn
use Rattle.zl_ast.specs.declared.eqn.Eqn.TheOpen as open_eqn
use Rattle.zl_ast.specs.declared.eqn.Eqn.TheFolds.{fold-roll-Eqn, fold-roll-Arm, fold-roll-Body, fold-roll-State}
use Rattle.zl_ast.specs.declared.eqn.Cond.{Cond}
use Rattle.zl_ast.specs.declared.eqn.Up.{Up}
use Rattle.zl_ast.specs.declared.eqn.ResetArm.{ResetArm}
use Rattle.zl_ast.specs.declared.eqn.Move.{Move}
use Rattle.zl_ast.specs.declared.eqn.Arm.{Arm}
use Rattle.zl_ast.specs.declared.eqn.Body.{Body}
use Rattle.zl_ast.specs.declared.eqn.State.{State}
use Rattle.zl_ast.specs.declared.program.Decl.{Decl}
use Rattle.zl_ast.specs.declared.program.DeclKind.{DeclKind}
use Rattle.zl_ast.specs.declared.program.Param.{Param}
use Rattle.zl_ast.specs.declared.program.Program.{Program}
use Rattle.zl_ast.specs.Operators.{type_name}
use Rattle.zl_ast.specs.Phrases.{Phrase, Nothing, Takes, takes, Finds, finds, IsName, ListOf, Maybe, Passes, ToClose, IsTuple, listed}
use Rattle.zl_ast.specs.Phrases as phrases
use Rattle.zl_ast.specs.Expressions.{link, chained, Links, Level, IsAtom, PrefOf, TermOf, SumOf, CmpOf, ConjOf, DisjOf, ExprOf, IsExpr, IsPref}
use Rattle.zl_ast.specs.Expressions as e
use Rattle.zl_ast.specs.Equations.{arm, body, state, IsUp, IsEvent, IsCond, IsResetArm, IsAlt, MoreAlts, IsMove, MoreMoves, IsStateEnd, IsLocals, DoEqs, BodyOf, ArmOf, StateOf, EqnOf, IsEqs}
use Rattle.zl_ast.specs.Equations as q
use Rattle.zl_ast.specs.Declarations.{IsTypeName, IsParam, IsResult, IsWhere, IsDecl, IsDecls, nesting_limit}
use Rattle.zl_ast.specs.Declarations as d
use Rattle.zl_ast.specs.Parsed.{IsParsed}
use Rattle.zl_ast.specs.Assignments.{joined}
use Rattle.zl_ast.specs.TypeEqualities.{called, called_step}
use Rattle.zl_flat.proofs.WellFormedParts.{all-append}
use Rattle.zl_flat.proofs.WellFormedGrammar.{Written, literal, left_side, annotated, some_states, some_arms, IsLeftOf, IsAnnotation, IsWritten, AllWritten, expr_step, link_step, expr_written, link_written, exprs_written, event_written, cond_written, start_written, reset_arm_written, moves_written, eqn_step, arm_step, body_step, state_step, eqn_written, arm_written, body_written, state_written, eqns_written, params_written, decl_written, decls_written}

-- ---- forms of a tree

written-Lit : (v : Value) (at : Pos) → expr_written (tree.Lit v at) ≡ literal v ∷ []
unfolding expr_written
written-Lit v at = ap expr_written (sym (tree.rolls-Lit v at)) ∙ fold-roll-Expr (List Written) (List Written) expr_step link_step (open_expr.Lit v at)

written-Var : (x : Name) → expr_written (tree.Var x) ≡ []
unfolding expr_written
written-Var x = ap expr_written (sym (tree.rolls-Var x)) ∙ fold-roll-Expr (List Written) (List Written) expr_step link_step (open_expr.Var x)

written-Last : (x : Name) (at : Pos) → expr_written (tree.Last x at) ≡ []
unfolding expr_written
written-Last x at = ap expr_written (sym (tree.rolls-Last x at)) ∙ fold-roll-Expr (List Written) (List Written) expr_step link_step (open_expr.Last x at)

written-Call : (x : Name) (xs : List Expr) → expr_written (tree.Call x xs) ≡ exprs_written xs
unfolding expr_written
written-Call x xs = ap expr_written (sym (tree.rolls-Call x xs)) ∙ fold-roll-Expr (List Written) (List Written) expr_step link_step (open_expr.Call x xs)

called-Call : (x : Name) (xs : List Expr) → called (tree.Call x xs) ≡ Some x
unfolding called
called-Call x xs = ap called (sym (tree.rolls-Call x xs)) ∙ fold-roll-Expr (Option Name) (Option Name) called_step (λ l. None) (open_expr.Call x xs)

written-Prefix : (op : Prefix) (at : Pos) (x : Expr) → expr_written (tree.Prefix op at x) ≡ expr_written x
unfolding expr_written
written-Prefix op at x = ap expr_written (sym (tree.rolls-Prefix op at x)) ∙ fold-roll-Expr (List Written) (List Written) expr_step link_step (open_expr.Prefix op at x)

written-Chain : (x : Expr) (ls : List Link) → expr_written (tree.Chain x ls) ≡ expr_written x ++ joined (map link_written ls)
unfolding expr_written link_written
written-Chain x ls = ap expr_written (sym (tree.rolls-Chain x ls)) ∙ fold-roll-Expr (List Written) (List Written) expr_step link_step (open_expr.Chain x ls)

written-Flow : (op : FlowOp) (at : Pos) (x y : Expr) → expr_written (tree.Flow op at x y) ≡ expr_written x ++ expr_written y
unfolding expr_written
written-Flow op at x y = ap expr_written (sym (tree.rolls-Flow op at x y)) ∙ fold-roll-Expr (List Written) (List Written) expr_step link_step (open_expr.Flow op at x y)

written-If : (at : Pos) (c x y : Expr) → expr_written (tree.If at c x y) ≡ expr_written c ++ (expr_written x ++ expr_written y)
unfolding expr_written
written-If at c x y = ap expr_written (sym (tree.rolls-If at c x y)) ∙ fold-roll-Expr (List Written) (List Written) expr_step link_step (open_expr.If at c x y)

written-link : (op : Infix) (at : Pos) (x : Expr) → link_written (link op at x) ≡ expr_written x
unfolding expr_written link_written
written-link op at x = fold-roll-Link (List Written) (List Written) expr_step link_step (record { op = op; at = at; arg = x })

written-Plain : (left : List Name) (right : Expr) → eqn_written (eqn.Plain left right) ≡ left_side left (called right) ∷ expr_written right
unfolding eqn_written
written-Plain left right = ap eqn_written (sym (eqn.rolls-Plain left right)) ∙ fold-roll-Eqn (List Written) (List Written) (List Written) (List Written) eqn_step arm_step body_step state_step (open_eqn.Plain left right)

written-Der : (at : Pos) (x : Name) (slope : Expr) (start : Option Expr) (resets : List ResetArm) → eqn_written (eqn.Der at x slope start resets) ≡ expr_written slope ++ (start_written start ++ joined (map reset_arm_written resets))
unfolding eqn_written
written-Der at x slope start resets =
    ap eqn_written (sym (eqn.rolls-Der at x slope start resets)) ∙ fold-roll-Eqn (List Written) (List Written) (List Written) (List Written) eqn_step arm_step body_step state_step (open_eqn.Der at x slope start resets)

written-Start : (at : Pos) (x : Name) (v : Expr) → eqn_written (eqn.Start at x v) ≡ expr_written v
unfolding eqn_written
written-Start at x v = ap eqn_written (sym (eqn.rolls-Start at x v)) ∙ fold-roll-Eqn (List Written) (List Written) (List Written) (List Written) eqn_step arm_step body_step state_step (open_eqn.Start at x v)

-- of a part that may be absent
abbrev some_written : {A : Type 0} → (A → List Written) → Option A → List Written
some_written s None = []
some_written s (Some x) = s x

written-Present : (at : Pos) (arms : List Arm) (other : Option Body) → eqn_written (eqn.Present at arms other) ≡ some_arms (length (map arm_written arms)) ∷ (joined (map arm_written arms) ++ some_written body_written other)
unfolding eqn_written arm_written body_written
written-Present at arms None = ap eqn_written (sym (eqn.rolls-Present at arms None)) ∙ fold-roll-Eqn (List Written) (List Written) (List Written) (List Written) eqn_step arm_step body_step state_step (open_eqn.Present at arms None)
written-Present at arms (Some b) =
    ap eqn_written (sym (eqn.rolls-Present at arms (Some b))) ∙ fold-roll-Eqn (List Written) (List Written) (List Written) (List Written) eqn_step arm_step body_step state_step (open_eqn.Present at arms (Some b))

written-Automaton : (at : Pos) (states : List State) → eqn_written (eqn.Automaton at states) ≡ some_states (length (map state_written states)) ∷ joined (map state_written states)
unfolding eqn_written state_written
written-Automaton at states =
    ap eqn_written (sym (eqn.rolls-Automaton at states)) ∙ fold-roll-Eqn (List Written) (List Written) (List Written) (List Written) eqn_step arm_step body_step state_step (open_eqn.Automaton at states)

written-Reset : (at : Pos) (eqs : List Eqn) (c : Cond) → eqn_written (eqn.Reset at eqs c) ≡ eqns_written eqs ++ cond_written c
unfolding eqn_written
written-Reset at eqs c = ap eqn_written (sym (eqn.rolls-Reset at eqs c)) ∙ fold-roll-Eqn (List Written) (List Written) (List Written) (List Written) eqn_step arm_step body_step state_step (open_eqn.Reset at eqs c)

written-arm : (c : Cond) (b : Body) → arm_written (arm c b) ≡ cond_written c ++ body_written b
unfolding arm_written body_written
written-arm c b = fold-roll-Arm (List Written) (List Written) (List Written) (List Written) eqn_step arm_step body_step state_step (record { cond = c; body = b })

written-body : (locals : List Name) (eqs : List Eqn) → body_written (body locals eqs) ≡ eqns_written eqs
unfolding body_written eqn_written
written-body locals eqs = fold-roll-Body (List Written) (List Written) (List Written) (List Written) eqn_step arm_step body_step state_step (record { locals = locals; eqs = eqs })

written-state : (x : Name) (b : Body) (moves : List Move) → state_written (state x b moves) ≡ body_written b ++ moves_written moves
unfolding state_written body_written
written-state x b moves = fold-roll-State (List Written) (List Written) (List Written) (List Written) eqn_step arm_step body_step state_step (record { name = x; body = b; moves = moves })

-- ---- phrases

append_none : (ws : List Written) → ws ++ [] ≡ ws
append_none [] = refl
append_none (w ∷ ws) = ap (λ xs. w ∷ xs) (append_none ws)

joined_append : {A : Type 0} (s : A → List Written) (xs ys : List A) → joined (map s xs) ++ joined (map s ys) ≡ joined (map s (xs ++ ys))
joined_append s [] ys = refl
joined_append s (x ∷ xs) ys = append_assoc (s x) (joined (map s xs)) (joined (map s ys)) ∙ ap (λ zs. s x ++ zs) (joined_append s xs ys)

-- a literal of the lexer fits the width
in-width : (z : ℤ) → pos 0 ≤ℤ z → z ≤ℤ pos 9223372036854775807 → int_fits z ≡ true
in-width z lo hi = both (int_le (negsuc greatest) z) (int_le z (pos greatest)) (grind (arith, ints)) (grind (arith, ints))
  where
    both : (b c : Bool) → b ≡ true → c ≡ true → (b && c) ≡ true
    both b c h k = cc

-- What a phrase takes keeps what the grammar says of the tree that is made of it, if the tokens' numbers are in their ranges.
module _ (count : ℕ) where
  abbrev Fits : List Token → Type 0
  Fits ts = AllByRecursion (λ (t : Token). IsKind count t.kind) ts

  record Passage (ws : List Written) (ts us : List Token) : Type 0 where
    pub goes : Fits ts → AllWritten ws × Fits us

  here : (ts : List Token) → Passage [] ts ts
  here ts = record { goes = λ h. (tt, h) }

  then : (ws vs : List Written) (ts us rest : List Token) → Passage ws ts us → Passage vs us rest → Passage (ws ++ vs) ts rest
  then ws vs ts us rest p r = record { goes = λ h. let a = p.goes h in let b = r.goes a.1 in (all-append IsWritten ws vs a.0 b.0, b.1) }

  infixr 20 ◌▸◌
  ◌▸◌ : {ws vs : List Written} {ts us rest : List Token} → Passage ws ts us → Passage vs us rest → Passage (ws ++ vs) ts rest
  ◌▸◌ {ws = ws} {vs = vs} {ts = ts} {us = us} {rest = rest} p r = then ws vs ts us rest p r

  moved : {ws vs : List Written} {ts us : List Token} → ws ≡ vs → Passage ws ts us → Passage vs ts us
  moved {ts = ts} {us = us} e p = subst (λ xs. Passage xs ts us) e p

  -- with one thing more before it
  behind : {w : Written} {ws : List Written} {ts us : List Token} → IsWritten w → Passage ws ts us → Passage (w ∷ ws) ts us
  behind h p = record { goes = λ k. let a = p.goes k in ((h, a.0), a.1) }

  abbrev Within : {A : Type 0} → (A → List Written) → Phrase A → Type 0
  Within {A = A} s X = (ts : List Token) (x : A) (rest : List Token) → X ts x rest → Passage (s x) ts rest

  skipped : {k : TokenKind} {ts us : List Token} {at : Pos} → Takes k ts at us → Passage [] ts us
  skipped (takes t e) = record { goes = λ h. (tt, h.1) }

  passed : {A : Type 0} {table : TokenKind → Option A} {ts us : List Token} {a : A} {at : Pos} → Finds table ts a at us → Passage [] ts us
  passed (finds t a e) = record { goes = λ h. (tt, h.1) }

  an_int : {i : ℤ} {ts us : List Token} {at : Pos} → Takes (kind.Int i) ts at us → Passage (literal (I i) ∷ []) ts us
  an_int {i = i} (takes t e) = record { goes = λ h. let r = subst (IsKind count) e h.0 in ((in-width i r.0 r.1, tt), h.1) }

  a_float : {r : Fraction} {ts us : List Token} {at : Pos} → Takes (kind.Float r) ts at us → Passage (literal (F r) ∷ []) ts us
  a_float (takes t e) = record { goes = λ h. ((subst (IsKind count) e h.0, tt), h.1) }

  a_negative : {r : Fraction} {ts us : List Token} {at : Pos} → Takes (kind.Float r) ts at us → Passage (literal (F (neg r)) ∷ []) ts us
  a_negative {r = r} (takes t e) = record { goes = λ h. ((IsFrac-neg r (subst (IsKind count) e h.0), tt), h.1) }

  a_name : {ts us : List Token} {x : Name} → IsName ts x us → Passage [] ts us
  a_name (phrases.name id h) = skipped h

  a_list : {A : Type 0} {k : TokenKind} {X : Phrase A} (s : A → List Written) → Within s X → (ts : List Token) (xs : List A) (us : List Token) → ListOf k X ts xs us → Passage (joined (map s xs)) ts us
  a_list s w _ _ _ (phrases.last {x = x} h _) = moved (sym (append_none (s x))) (w _ _ _ h)
  a_list s w _ _ _ (phrases.more h k hs) = w _ _ _ h ▸ (skipped k ▸ a_list s w _ _ _ hs)

  a_maybe : {A : Type 0} {k : TokenKind} {X : Phrase A} (s : A → List Written) → Within s X → (ts : List Token) (x : Option A) (us : List Token) → Maybe k X ts x us → Passage (some_written s x) ts us
  a_maybe s w _ _ _ (phrases.absent {ts = ts} _) = here ts
  a_maybe s w _ _ _ (phrases.present k h) = skipped k ▸ w _ _ _ h

  a_pass : {k : TokenKind} {ts us : List Token} → Passes k ts us → Passage [] ts us
  a_pass (phrases.without {ts = ts} _) = here ts
  a_pass (phrases.with_it k) = skipped k

  up_to_close : {A : Type 0} {X : Phrase A} (s : A → List Written) → Within s X → (ts : List Token) (xs : List A) (us : List Token) → ToClose X ts xs us → Passage (joined (map s xs)) ts us
  up_to_close s w _ _ _ (phrases.empty k) = skipped k
  up_to_close s w _ _ _ (phrases.items hs k) = moved (append_none _) (a_list s w _ _ _ hs ▸ skipped k)

  abbrev no_name : Name → List Written
  no_name x = []

  names_written : (xs : List Name) → joined (map no_name xs) ≡ []
  names_written [] = refl
  names_written (x ∷ xs) = names_written xs

  names_within : Within no_name IsName
  names_within ts x us h = a_name h

  a_tuple : (ts : List Token) (xs : List Name) (us : List Token) → IsTuple ts xs us → Passage [] ts us
  a_tuple _ _ _ (phrases.tuple {names = names} o h k hs c) = skipped o ▸ (a_name h ▸ (skipped k ▸ (moved (names_written names) (a_list no_name names_within _ _ _ hs) ▸ skipped c)))

  nothing_within : {A : Type 0} (s : A → List Written) → Within s Nothing
  nothing_within s ts x us h = elim h [ ]

  -- ---- expressions

  links_within : {operator : TokenKind → Option Infix} {Part : Phrase Expr} → Within expr_written Part → (ts : List Token) (ls : List Link) (us : List Token) → Links operator Part ts ls us → Passage (joined (map link_written ls)) ts us
  links_within w _ _ _ (e.none {ts = ts} _) = here ts
  links_within w _ _ _ (e.some {op = op} {at = at} {x = x} o h ls) = moved (sym (written-link op at x)) (passed o ▸ w _ _ _ h) ▸ links_within w _ _ _ ls

  chained_written : (x : Expr) (ls : List Link) → expr_written x ++ joined (map link_written ls) ≡ expr_written (chained x ls)
  chained_written x [] = append_none (expr_written x)
  chained_written x (l ∷ ls) = sym (written-Chain x (l ∷ ls))

  level_within : {operator : TokenKind → Option Infix} {Part : Phrase Expr} → Within expr_written Part → Within expr_written (Level operator Part)
  level_within w _ _ _ (e.level {x = x} {ls = ls} h hs) = moved (chained_written x ls) (w _ _ _ h ▸ links_within w _ _ _ hs)

  module _ (Inside : Phrase Expr) (within : Within expr_written Inside) where
    atom_within : (n : ℕ) → Within expr_written (IsAtom Inside n)
    atom_within n _ _ _ (e.int i h) = moved (sym (written-Lit _ _)) (an_int h)
    atom_within n _ _ _ (e.float f h) = moved (sym (written-Lit _ _)) (a_float h)
    atom_within n _ _ _ (e.is_true h) = moved (sym (written-Lit _ _)) (behind tt (skipped h))
    atom_within n _ _ _ (e.is_false h) = moved (sym (written-Lit _ _)) (behind tt (skipped h))
    atom_within n _ _ _ (e.var h _) = moved (sym (written-Var _)) (a_name h)
    atom_within n _ _ _ (e.call h o hs) = moved (sym (written-Call _ _)) (a_name h ▸ (skipped o ▸ up_to_close expr_written within _ _ _ hs))
    atom_within n _ _ _ (e.last_of h k) = moved (sym (written-Last _ _)) (skipped h ▸ a_name k)
    atom_within n _ _ _ (e.parens o h c) = skipped o ▸ moved (append_none _) (within _ _ _ h ▸ skipped c)

    module _ (Operand : Phrase Expr) (operand : Within expr_written Operand) where
      pref_within : (n : ℕ) → Within expr_written (PrefOf Inside Operand n)
      pref_within n _ _ _ (e.negative f m h) = moved (sym (written-Lit _ _)) (skipped m ▸ a_negative h)
      pref_within n _ _ _ (e.prefixed o _ h) = moved (sym (written-Prefix _ _ _)) (passed o ▸ operand _ _ _ h)
      pref_within n _ _ _ (e.atom h) = atom_within n _ _ _ h

      sum_within : (n : ℕ) → Within expr_written (SumOf Inside Operand n)
      sum_within n = level_within (level_within (pref_within n))

      cmp_within : (n : ℕ) → Within expr_written (CmpOf Inside Operand n)
      cmp_within n _ _ _ (e.alone h _) = sum_within n _ _ _ h
      cmp_within n _ _ _ (e.compared {x = x} {y = y} {op = op} {at = at} h o k) =
          moved (sym (written-Chain x (link op at y ∷ [])))
          (sum_within n _ _ _ h ▸ moved (sym (append_none _)) (moved (sym (written-link op at y)) (passed o ▸ sum_within n _ _ _ k)))

      disj_within : (n : ℕ) → Within expr_written (DisjOf Inside Operand n)
      disj_within n = level_within (level_within (cmp_within n))

      expr_of_within : (n : ℕ) → Within expr_written (ExprOf Inside Operand n)
      expr_of_within n _ _ _ (e.choice i c a x b y) = moved (sym (written-If _ _ _ _)) (skipped i ▸ (within _ _ _ c ▸ (skipped a ▸ (within _ _ _ x ▸ (skipped b ▸ within _ _ _ y)))))
      expr_of_within n _ _ _ (e.plain h _) = disj_within n _ _ _ h
      expr_of_within n _ _ _ (e.flow {n = m} h o k) = moved (sym (written-Flow _ _ _ _)) (disj_within (suc m) _ _ _ h ▸ (passed o ▸ within _ _ _ k))

  mutual
    unfolding IsExpr

    expr_within : (n : ℕ) → Within expr_written (IsExpr n)
    expr_within zero = expr_of_within Nothing (nothing_within expr_written) Nothing (nothing_within expr_written) zero
    expr_within (suc n) = expr_of_within (IsExpr n) (expr_within n) (IsPref n) (pref_of_within n) (suc n)

    pref_of_within : (n : ℕ) → Within expr_written (IsPref n)
    pref_of_within zero = pref_within Nothing (nothing_within expr_written) Nothing (nothing_within expr_written) zero
    pref_of_within (suc n) = pref_within (IsExpr n) (expr_within n) (IsPref n) (pref_of_within n) (suc n)

  -- ---- conditions and moves

  not-empty : {A : Type 0} {k : TokenKind} {X : Phrase A} (ts : List Token) (xs : List A) (us : List Token) → ListOf k X ts xs us → 0 < length xs
  not-empty _ _ _ (phrases.last h _) = omega arith
  not-empty _ _ _ (phrases.more h k hs) = omega arith

  up_within : (n : ℕ) → Within (λ (u : Up). expr_written u.arg) (IsUp n)
  up_within _ _ _ _ (q.up {n = n} u o h c) = skipped u ▸ (skipped o ▸ moved (append_none _) (expr_within n _ _ _ h ▸ skipped c))

  event_within : (n : ℕ) → Within event_written (IsEvent n)
  event_within n _ _ _ h = behind (not-empty _ _ _ h) (a_list (λ (u : Up). expr_written u.arg) (up_within n) _ _ _ h)

  cond_within : (n : ℕ) → Within cond_written (IsCond n)
  cond_within n _ _ _ (q.event h) = event_within n _ _ _ h
  cond_within _ _ _ _ (q.test {n = n} o h c) = skipped o ▸ moved (append_none _) (expr_within n _ _ _ h ▸ skipped c)

  reset_arm_within : (n : ℕ) → Within reset_arm_written (IsResetArm n)
  reset_arm_within n _ _ _ (q.reset_arm h a x) = event_within n _ _ _ h ▸ (skipped a ▸ expr_within n _ _ _ x)

  alt_within : (n : ℕ) (strong : Bool) (at : Pos) → Within (λ (m : Move). cond_written m.cond) (IsAlt n strong at)
  alt_within n strong at _ _ _ (q.alt c w x) = moved (append_none _) (cond_within n _ _ _ c ▸ (passed w ▸ a_name x))

  alts_within : (n : ℕ) (strong : Bool) → Within moves_written (MoreAlts n strong)
  alts_within n strong _ _ _ (q.no_alts {ts = ts} _) = here ts
  alts_within n strong _ _ _ (q.more_alts e h hs) = skipped e ▸ (alt_within n strong _ _ _ _ h ▸ alts_within n strong _ _ _ hs)

  move_within : (n : ℕ) → Within moves_written (IsMove n)
  move_within n _ _ _ (q.move {strong = strong} w h hs) = passed w ▸ (alt_within n strong _ _ _ _ h ▸ alts_within n strong _ _ _ hs)

  moves_within : (n : ℕ) → Within moves_written (MoreMoves n)
  moves_within n _ _ _ (q.no_moves {ts = ts} _) = here ts
  moves_within n _ _ _ (q.more_moves {ms = ms} {others = others} h hs) = moved (joined_append (λ (m : Move). cond_written m.cond) ms others) (move_within n _ _ _ h ▸ moves_within n _ _ _ hs)

  state_end_within : (n : ℕ) → Within moves_written (IsStateEnd n)
  state_end_within n _ _ _ (q.done h) = skipped h
  state_end_within n _ _ _ (q.moves {ms = ms} {others = others} h hs) = moved (joined_append (λ (m : Move). cond_written m.cond) ms others) (move_within n _ _ _ h ▸ moves_within n _ _ _ hs)

  -- ---- equations

  locals_within : Within (λ (xs : List Name). []) IsLocals
  locals_within _ _ _ (q.locals {names = names} hs i) = moved (names_written names) (a_list no_name names_within _ _ _ hs) ▸ skipped i

  no_locals : (xs : Option (List Name)) → some_written (λ (xs : List Name). []) xs ≡ []
  no_locals None = refl
  no_locals (Some xs) = refl

  -- what an optional list holds
  some_listed : {A : Type 0} (s : A → List Written) (xs : Option (List A)) → some_written (λ ys. joined (map s ys)) xs ≡ joined (map s (listed xs))
  some_listed s None = refl
  some_listed s (Some xs) = refl

  on-left : (xs : List Name) (g : Name) → IsLeftOf xs (Some g)
  on-left [] g = tt
  on-left (x ∷ []) g = tt
  on-left (x ∷ y ∷ xs) g = tt

  as-many : {A B : Type 0} (g : A → B) (xs : List A) → 0 < length xs → 0 < length (map g xs)
  as-many g [] h = absurd (omega (arith, h))
  as-many g (x ∷ xs) h = omega arith

  start_is : (start : Option Expr) → some_written expr_written start ≡ start_written start
  start_is None = refl
  start_is (Some x) = refl

  module _ (Inside : Phrase (List Eqn)) (within : Within eqns_written Inside) where
    do_eqs_within : Within eqns_written (DoEqs Inside)
    do_eqs_within _ _ _ (q.no_eqs t {ts = ts} _) = here (t ∷ ts)
    do_eqs_within _ _ _ (q.some_eqs h) = within _ _ _ h

    body_within : (n : ℕ) → Within body_written (BodyOf Inside n)
    body_within n _ _ _ (q.body_of {names = names} {es = es} l o h e) =
        moved (sym (written-body (listed names) es)) (moved (no_locals names) (a_maybe (λ (xs : List Name). []) locals_within _ _ _ l) ▸ (skipped o ▸ moved (append_none _) (do_eqs_within _ _ _ h ▸ skipped e)))

    arm_within : (n : ℕ) → Within arm_written (ArmOf Inside n)
    arm_within n _ _ _ (q.arm_of c a b) = moved (sym (written-arm _ _)) (cond_within n _ _ _ c ▸ (skipped a ▸ body_within n _ _ _ b))

    state_within : (n : ℕ) → Within state_written (StateOf Inside n)
    state_within _ _ _ _ (q.state_of {n = n} {names = names} {es = es} {ms = ms} x a l o h e) =
        moved (sym (written-state _ _ ms))
        (a_name x ▸ (skipped a ▸
        (moved (sym (written-body (listed names) es)) (moved (no_locals names) (a_maybe (λ (xs : List Name). []) locals_within _ _ _ l) ▸ (skipped o ▸ do_eqs_within _ _ _ h)) ▸
        state_end_within n _ _ _ e)))

    eqn_within : (n : ℕ) → Within eqn_written (EqnOf Inside n)
    eqn_within n _ _ _ (q.one x e h) = moved (sym (written-Plain _ _)) (behind tt (a_name x ▸ (skipped e ▸ expr_within n _ _ _ h)))
    eqn_within _ _ _ _ (q.several {n = n} {names = names} {f = f} {args = args} xs e g o hs) =
        moved (sym (written-Plain _ _)) (behind (subst (IsLeftOf names) (sym (called-Call f args)) (on-left names f))
        (a_tuple _ _ _ xs ▸ (skipped e ▸ moved (sym (written-Call _ _)) (a_name g ▸ (skipped o ▸ up_to_close expr_written (expr_within n) _ _ _ hs)))))
    eqn_within n _ _ _ (q.der {start = start} {resets = resets} w x e s i r) =
        moved (sym (written-Der _ _ _ start (listed resets)))
        (skipped w ▸ (a_name x ▸ (skipped e ▸ (expr_within n _ _ _ s ▸ (moved (start_is start) (a_maybe expr_written (expr_within n) _ _ _ i) ▸
        moved (some_listed reset_arm_written resets) (a_maybe (λ rs. joined (map reset_arm_written rs)) (a_list reset_arm_written (reset_arm_within n)) _ _ _ r))))))
    eqn_within n _ _ _ (q.start w x e v) = moved (sym (written-Start _ _ _)) (skipped w ▸ (a_name x ▸ (skipped e ▸ expr_within n _ _ _ v)))
    eqn_within n _ _ _ (q.present_of w b arms o e) =
        moved (sym (written-Present _ _ _)) (behind (as-many arm_written _ (not-empty _ _ _ arms)) (skipped w ▸ (a_pass b ▸ (a_list arm_written (arm_within n) _ _ _ arms ▸ moved (append_none _) (a_maybe body_written (body_within n) _ _ _ o ▸ a_pass e)))))
    eqn_within n _ _ _ (q.automaton w b states e) =
        moved (sym (written-Automaton _ _)) (behind (as-many state_written _ (not-empty _ _ _ states)) (skipped w ▸ (a_pass b ▸ moved (append_none _) (a_list state_written (state_within n) _ _ _ states ▸ a_pass e))))
    eqn_within _ _ _ _ (q.reset {n = n} w h e c) = moved (sym (written-Reset _ _ _)) (skipped w ▸ (within _ _ _ h ▸ (skipped e ▸ cond_within n _ _ _ c)))

  eqs_within : (n : ℕ) → Within eqns_written (IsEqs n)
  unfolding IsEqs
  eqs_within zero = a_list eqn_written (eqn_within Nothing (nothing_within eqns_written) zero)
  eqs_within (suc n) = a_list eqn_written (eqn_within (IsEqs n) (eqs_within n) (suc n))

  -- ---- declarations

  annotation-of : (k : TokenKind) (t : Ty) → type_name k ≡ Some t → IsAnnotation (Some t)
  annotation-of k ty.Bool h = tt
  annotation-of k ty.Int h = tt
  annotation-of k ty.Float h = tt
  annotation-of (kind.Name id) ty.Zero h = cc
  annotation-of (kind.Int i) ty.Zero h = cc
  annotation-of (kind.Float r) ty.Zero h = cc
  annotation-of (kind.Word w) ty.Zero h = absurd (by_word w h)
    where
      by_word : (w : Word) → type_name (kind.Word w) ≡ Some ty.Zero → ⊥
      by_word word.Bool h = cc
      by_word word.Int h = cc
      by_word word.Float h = cc
      by_word _ h = cc
  annotation-of (kind.Sign s) ty.Zero h = cc

  type_within : (ts : List Token) (t : Ty) (us : List Token) → IsTypeName ts t us → IsAnnotation (Some t) × Passage [] ts us
  type_within _ t _ (d.named (finds u a e)) = (annotation-of u.kind t e, record { goes = λ h. (tt, h.1) })

  annotation_within : (ts : List Token) (t : Option Ty) (us : List Token) → Maybe (kind.Sign sign.Colon) IsTypeName ts t us → Passage (annotated t ∷ []) ts us
  annotation_within _ _ _ (phrases.absent {ts = ts} _) = behind tt (here ts)
  annotation_within _ _ _ (phrases.present k h) = let a = type_within _ _ _ h in skipped k ▸ behind a.0 a.1

  param_within : Within (λ (p : Param). annotated p.ty ∷ []) IsParam
  param_within _ _ _ (d.param x h) = a_name x ▸ annotation_within _ _ _ h

  params_are : (ps : List Param) → joined (map (λ (p : Param). annotated p.ty ∷ []) ps) ≡ params_written ps
  params_are [] = refl
  params_are (p ∷ ps) = ap (λ ws. annotated p.ty ∷ ws) (params_are ps)

  -- a result, and that there is one
  record Results (xs : List Expr) (ts us : List Token) : Type 0 where
    pub some : 0 < length xs
    pub passage : Passage (exprs_written xs) ts us

  vars_written : (xs : List Name) → exprs_written (map tree.Var xs) ≡ []
  vars_written [] = refl
  vars_written (x ∷ xs) = ap (λ ws. ws ++ exprs_written (map tree.Var xs)) (written-Var x) ∙ vars_written xs

  tuple-some : (ts : List Token) (xs : List Name) (us : List Token) → IsTuple ts xs us → 0 < length xs
  tuple-some _ _ _ (phrases.tuple o h k hs c) = omega arith

  result_within : (n : ℕ) (ts : List Token) (xs : List Expr) (us : List Token) → IsResult n ts xs us → Results xs ts us
  result_within n _ _ _ (d.value _ h) = record { some = omega arith; passage = moved (sym (append_none _)) (expr_within n _ _ _ h) }
  result_within n _ _ _ (d.names {xs = xs} h) = record { some = as-many tree.Var xs (tuple-some _ _ _ h); passage = moved (sym (vars_written xs)) (a_tuple _ _ _ h) }

  where_within : (n : ℕ) → Within eqns_written (IsWhere n)
  where_within n _ _ _ (d.where_eqs p h) = a_pass p ▸ eqs_within n _ _ _ h

  kind_within : Within (λ (k : DeclKind). []) d.IsKind
  kind_within _ _ _ (d.function {ts = ts} _) = here ts
  kind_within _ _ _ (d.marked h) = passed h

  decl_within : (n : ℕ) → Within decl_written (IsDecl n)
  decl_within n _ _ _ (d.constant l x e h) = behind (omega arith) (skipped l ▸ (a_name x ▸ (skipped e ▸ moved (sym (append_none _) ∙ sym (append_none _)) (expr_within n _ _ _ h))))
  decl_within _ _ _ _ (d.function_of {n = n} {params = params} {es = es} l k x o ps e r w) =
      let b = result_within (suc n) _ _ _ r in
      behind b.some
      (skipped l ▸ (kind_within _ _ _ k ▸ (a_name x ▸ (skipped o ▸ (moved (params_are params) (up_to_close (λ (p : Param). annotated p.ty ∷ []) param_within _ _ _ ps) ▸ (skipped e ▸
      (b.passage ▸ moved (some_listed eqn_written es) (a_maybe eqns_written (where_within (suc n)) _ _ _ w))))))))

  decls_within : (n : ℕ) (ts : List Token) (ds : List Decl) → IsDecls n ts ds → Passage (decls_written ds) ts []
  decls_within n _ _ d.no_decls = here []
  decls_within n _ _ (d.some_decls h hs) = decl_within n _ _ _ h ▸ decls_within n _ _ hs

-- A tree of tokens whose numbers are in their ranges keeps all that the grammar says of it.
pub parsed-written : (p : Program) → IsParsed p → AllWritten (decls_written p.decls)
parsed-written p h = let b = decls_within (length p.names) nesting_limit h.tokens p.decls h.is_program in (b.goes h.facts.kinds).0
