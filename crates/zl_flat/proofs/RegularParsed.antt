-- In a tree that was made of tokens each event has a zero-crossing, and each declaration a result.
use Rattle.std.proofs.Common.{◌≡◌, ℕ, zero, suc, ◌<◌, Bool, true, false, ◌&&◌, List, [], ◌∷◌, ◌++◌, map, length, Option, Some, None, refl, sym, ap, ◌∙◌, arith}
use Rattle.std.specs.List.{AllByRecursion}
use Rattle.zl_lexer.specs.declared.token.Token.{Token}
use Rattle.zl_lexer.specs.declared.token.TokenKind.{TokenKind}
use Rattle.zl_value.specs.declared.position.Pos.{Pos}
use Rattle.zl_ast.specs.declared.name.Name.{Name}
use Rattle.zl_ast.specs.declared.expr.Expr.{Expr}
use Rattle.zl_ast.specs.declared.expr.Expr.TheVariants as tree
use Rattle.zl_ast.specs.declared.eqn.Eqn.{Eqn}
use Rattle.zl_ast.specs.declared.eqn.Eqn.TheVariants as eqn
use Rattle.zl_ast.specs.declared.eqn.Eqn.TheOpen as open_eqn
use Rattle.zl_ast.specs.declared.eqn.Eqn.TheFolds.{fold-roll-Eqn, fold-roll-Arm, fold-roll-Body, fold-roll-State}
use Rattle.zl_ast.specs.declared.eqn.Arm.{Arm}
use Rattle.zl_ast.specs.declared.eqn.Body.{Body}
use Rattle.zl_ast.specs.declared.eqn.State.{State}
use Rattle.zl_ast.specs.declared.eqn.Cond.{Cond}
use Rattle.zl_ast.specs.declared.eqn.ResetArm.{ResetArm}
use Rattle.zl_ast.specs.declared.eqn.Move.{Move}
use Rattle.zl_ast.specs.declared.program.Decl.{Decl}
use Rattle.zl_ast.specs.declared.program.Program.{Program}
use Rattle.zl_ast.specs.Phrases as phrase
use Rattle.zl_ast.specs.Phrases.{Phrase, Nothing, ListOf, Maybe, IsTuple, listed}
use Rattle.zl_ast.specs.Equations.{IsUp, IsEvent, IsCond, IsAlt, MoreAlts, IsMove, MoreMoves, IsStateEnd, DoEqs, BodyOf, ArmOf, StateOf, EqnOf, IsEqs, arm, body, state}
use Rattle.zl_ast.specs.Equations as q
use Rattle.zl_ast.specs.Declarations.{IsResult, IsWhere, IsDecl, IsDecls}
use Rattle.zl_ast.specs.Declarations as d
use Rattle.zl_ast.specs.Parsed.{IsParsed}
use Rattle.zl_flat.proofs.RegularEqnTrees.{is_crossed, cond_crossed, all_true, moves_crossed, crossed_eqn, crossed_arm, crossed_body, crossed_state, eqn_crossed, arm_crossed, body_crossed, state_crossed, eqns_crossed}

-- ---- forms of equations

-- equations without conditions
crossed-Plain : (left : List Name) (right : Expr) → eqn_crossed (eqn.Plain left right) ≡ true
unfolding eqn_crossed
crossed-Plain left right = ap eqn_crossed (sym (eqn.rolls-Plain left right)) ∙ fold-roll-Eqn Bool Bool Bool Bool crossed_eqn crossed_arm crossed_body crossed_state (open_eqn.Plain left right)

crossed-Der : (at : Pos) (x : Name) (slope : Expr) (start : Option Expr) (resets : List ResetArm) → eqn_crossed (eqn.Der at x slope start resets) ≡ true
unfolding eqn_crossed
crossed-Der at x slope start resets = ap eqn_crossed (sym (eqn.rolls-Der at x slope start resets)) ∙ fold-roll-Eqn Bool Bool Bool Bool crossed_eqn crossed_arm crossed_body crossed_state (open_eqn.Der at x slope start resets)

crossed-Start : (at : Pos) (x : Name) (v : Expr) → eqn_crossed (eqn.Start at x v) ≡ true
unfolding eqn_crossed
crossed-Start at x v = ap eqn_crossed (sym (eqn.rolls-Start at x v)) ∙ fold-roll-Eqn Bool Bool Bool Bool crossed_eqn crossed_arm crossed_body crossed_state (open_eqn.Start at x v)

-- an `else` body, if there is one
abbrev crossed-none : Option Body → Bool
crossed-none None = true
crossed-none (Some b) = body_crossed b

-- those with conditions, and their parts
crossed-Present : (at : Pos) (arms : List Arm) (other : Option Body) → eqn_crossed (eqn.Present at arms other) ≡ (all_true (map arm_crossed arms) && crossed-none other)
unfolding eqn_crossed arm_crossed body_crossed
crossed-Present at arms None = ap eqn_crossed (sym (eqn.rolls-Present at arms None)) ∙ fold-roll-Eqn Bool Bool Bool Bool crossed_eqn crossed_arm crossed_body crossed_state (open_eqn.Present at arms None)
crossed-Present at arms (Some b) = ap eqn_crossed (sym (eqn.rolls-Present at arms (Some b))) ∙ fold-roll-Eqn Bool Bool Bool Bool crossed_eqn crossed_arm crossed_body crossed_state (open_eqn.Present at arms (Some b))

crossed-Automaton : (at : Pos) (states : List State) → eqn_crossed (eqn.Automaton at states) ≡ all_true (map state_crossed states)
unfolding eqn_crossed state_crossed
crossed-Automaton at states = ap eqn_crossed (sym (eqn.rolls-Automaton at states)) ∙ fold-roll-Eqn Bool Bool Bool Bool crossed_eqn crossed_arm crossed_body crossed_state (open_eqn.Automaton at states)

crossed-Reset : (at : Pos) (eqs : List Eqn) (c : Cond) → eqn_crossed (eqn.Reset at eqs c) ≡ (eqns_crossed eqs && cond_crossed c)
unfolding eqn_crossed
crossed-Reset at eqs c = ap eqn_crossed (sym (eqn.rolls-Reset at eqs c)) ∙ fold-roll-Eqn Bool Bool Bool Bool crossed_eqn crossed_arm crossed_body crossed_state (open_eqn.Reset at eqs c)

crossed-arm : (c : Cond) (b : Body) → arm_crossed (arm c b) ≡ (cond_crossed c && body_crossed b)
unfolding arm_crossed body_crossed
crossed-arm c b = fold-roll-Arm Bool Bool Bool Bool crossed_eqn crossed_arm crossed_body crossed_state (record { cond = c; body = b })

crossed-body : (locals : List Name) (eqs : List Eqn) → body_crossed (body locals eqs) ≡ eqns_crossed eqs
unfolding body_crossed eqn_crossed
crossed-body locals eqs = fold-roll-Body Bool Bool Bool Bool crossed_eqn crossed_arm crossed_body crossed_state (record { locals = locals; eqs = eqs })

crossed-state : (x : Name) (b : Body) (moves : List Move) → state_crossed (state x b moves) ≡ (body_crossed b && moves_crossed moves)
unfolding state_crossed body_crossed
crossed-state x b moves = fold-roll-State Bool Bool Bool Bool crossed_eqn crossed_arm crossed_body crossed_state (record { name = x; body = b; moves = moves })

-- ---- phrases

-- both of two truths
both-true : (a b : Bool) → a ≡ true → b ≡ true → (a && b) ≡ true
both-true a b e g = ap (λ c. c && b) e ∙ g

-- what the phrase stands for passes the test
abbrev Passing : {A : Type 0} → (A → Bool) → Phrase A → Type 0
Passing {A = A} test X = (ts : List Token) (x : A) (rest : List Token) → X ts x rest → test x ≡ true

-- each of a list does
list-passing : {A : Type 0} (test : A → Bool) (X : Phrase A) (separator : TokenKind) → Passing test X → Passing (λ xs. all_true (map test xs)) (ListOf separator X)
list-passing test X separator h _ _ _ (phrase.last {ts = ts} {rest = rest} {x = x} one end) = both-true (test x) true (h ts x rest one) refl
list-passing test X separator h _ _ _ (phrase.more {ts = ts} {us = us} {vs = vs} {rest = rest} {x = x} {xs = xs} one mark others) = both-true (test x) (all_true (map test xs)) (h ts x us one) (list-passing test X separator h vs xs rest others)

-- an event is a list that isn't empty
event-crossed : (n : ℕ) → Passing is_crossed (IsEvent n)
event-crossed n _ _ _ (phrase.last one end) = refl
event-crossed n _ _ _ (phrase.more one mark others) = refl

condition-crossed : (n : ℕ) → Passing cond_crossed (IsCond n)
condition-crossed n _ _ _ (q.event h) = event-crossed n _ _ _ h
condition-crossed _ _ _ _ (q.test o x c) = refl

-- moves
alt-crossed : (n : ℕ) (strong : Bool) (at : Pos) → Passing (λ (m : Move). cond_crossed m.cond) (IsAlt n strong at)
alt-crossed n strong at _ _ _ (q.alt c w x) = condition-crossed n _ _ _ c

alts-crossed : (n : ℕ) (strong : Bool) → Passing moves_crossed (MoreAlts n strong)
alts-crossed n strong _ _ _ (q.no_alts end) = refl
alts-crossed n strong _ _ _ (q.more_alts {m = m} {ms = ms} e h hs) = both-true (cond_crossed m.cond) (moves_crossed ms) (alt-crossed n strong _ _ _ _ h) (alts-crossed n strong _ _ _ hs)

move-crossed : (n : ℕ) → Passing moves_crossed (IsMove n)
move-crossed n _ _ _ (q.move {strong = strong} {m = m} {ms = ms} w h hs) = both-true (cond_crossed m.cond) (moves_crossed ms) (alt-crossed n strong _ _ _ _ h) (alts-crossed n strong _ _ _ hs)

-- moves one behind the other
moves-append : (ms others : List Move) → moves_crossed ms ≡ true → moves_crossed others ≡ true → moves_crossed (ms ++ others) ≡ true
moves-append [] others e g = g
moves-append (m ∷ ms) others e g = by_first (cond_crossed m.cond) e (λ k. moves-append ms others k g)
  where
    by_first : (b : Bool) → (b && moves_crossed ms) ≡ true → (moves_crossed ms ≡ true → moves_crossed (ms ++ others) ≡ true) → (b && moves_crossed (ms ++ others)) ≡ true
    by_first true e more = more e
    by_first false e more = absurd (cc)

more_moves-crossed : (n : ℕ) → Passing moves_crossed (MoreMoves n)
more_moves-crossed n _ _ _ (q.no_moves end) = refl
more_moves-crossed n _ _ _ (q.more_moves {ms = ms} {others = others} h hs) = moves-append ms others (move-crossed n _ _ _ h) (more_moves-crossed n _ _ _ hs)

end-crossed : (n : ℕ) → Passing moves_crossed (IsStateEnd n)
end-crossed n _ _ _ (q.done h) = refl
end-crossed n _ _ _ (q.moves {ms = ms} {others = others} h hs) = moves-append ms others (move-crossed n _ _ _ h) (more_moves-crossed n _ _ _ hs)

module _ (Inside : Phrase (List Eqn)) (inside : Passing eqns_crossed Inside) where
  -- bodies, arms, states and equations, where the equations inside them do
  do_eqs-crossed : Passing eqns_crossed (DoEqs Inside)
  do_eqs-crossed _ _ _ (q.no_eqs t e) = refl
  do_eqs-crossed _ _ _ (q.some_eqs h) = inside _ _ _ h

  a_body-crossed : (n : ℕ) → Passing body_crossed (BodyOf Inside n)
  a_body-crossed _ _ _ _ (q.body_of {names = names} {es = es} l o h e) = crossed-body (listed names) es ∙ do_eqs-crossed _ _ _ h

  an_arm-crossed : (n : ℕ) → Passing arm_crossed (ArmOf Inside n)
  an_arm-crossed n _ _ _ (q.arm_of {c = c} {b = b} z a h) = crossed-arm c b ∙ both-true (cond_crossed c) (body_crossed b) (condition-crossed n _ _ _ z) (a_body-crossed n _ _ _ h)

  a_state-crossed : (n : ℕ) → Passing state_crossed (StateOf Inside n)
  a_state-crossed _ _ _ _ (q.state_of {n = n} {x = x} {names = names} {es = es} {ms = ms} y a l o h e) =
      crossed-state x (body (listed names) es) ms ∙ both-true (body_crossed (body (listed names) es)) (moves_crossed ms) (crossed-body (listed names) es ∙ do_eqs-crossed _ _ _ h) (end-crossed n _ _ _ e)

  other-crossed : (n : ℕ) (opening : TokenKind) → Passing crossed-none (Maybe opening (BodyOf Inside n))
  other-crossed n opening _ _ _ (phrase.absent e) = refl
  other-crossed n opening _ _ _ (phrase.present o h) = a_body-crossed n _ _ _ h

  an_eqn-crossed : (n : ℕ) → Passing eqn_crossed (EqnOf Inside n)
  an_eqn-crossed n _ _ _ (q.one {x = x} {e = e} a b c) = crossed-Plain (x ∷ []) e
  an_eqn-crossed _ _ _ _ (q.several {names = names} {f = f} {args = args} a b c o e) = crossed-Plain names (tree.Call f args)
  an_eqn-crossed n _ _ _ (q.der {at = at} {x = x} {slope = slope} {start = start} {resets = resets} a b c e g h) = crossed-Der at x slope start (listed resets)
  an_eqn-crossed n _ _ _ (q.start {at = at} {x = x} {e = e} a b c g) = crossed-Start at x e
  an_eqn-crossed n _ _ _ (q.present_of {at = at} {arms = arms} {other = other} a b hs o e) =
      crossed-Present at arms other ∙ both-true (all_true (map arm_crossed arms)) (crossed-none other) (list-passing arm_crossed (ArmOf Inside n) _ (an_arm-crossed n) _ _ _ hs) (other-crossed n _ _ _ _ o)
  an_eqn-crossed n _ _ _ (q.automaton {at = at} {states = states} a b hs e) = crossed-Automaton at states ∙ list-passing state_crossed (StateOf Inside n) _ (a_state-crossed n) _ _ _ hs
  an_eqn-crossed _ _ _ _ (q.reset {n = n} {at = at} {es = es} {c = c} a h b z) = crossed-Reset at es c ∙ both-true (eqns_crossed es) (cond_crossed c) (inside _ _ _ h) (condition-crossed n _ _ _ z)

-- nothing is no equation
no_phrase : Passing eqns_crossed Nothing
no_phrase ts es rest h = elim h [ ]

-- equations, however deep
equations-crossed : (n : ℕ) → Passing eqns_crossed (IsEqs n)
unfolding IsEqs
equations-crossed zero ts es rest h = list-passing eqn_crossed (EqnOf Nothing zero) _ (an_eqn-crossed Nothing no_phrase zero) ts es rest h
equations-crossed (suc n) ts es rest h = list-passing eqn_crossed (EqnOf (IsEqs n) (suc n)) _ (an_eqn-crossed (IsEqs n) (equations-crossed n) (suc n)) ts es rest h

-- ---- declarations

-- those of a declaration
where-crossed : (n : ℕ) (opening : TokenKind) (ts : List Token) (es : Option (List Eqn)) (rest : List Token) → Maybe opening (IsWhere n) ts es rest → eqns_crossed (listed es) ≡ true
where-crossed n opening _ _ _ (phrase.absent e) = refl
where-crossed n opening _ _ _ (phrase.present o (d.where_eqs r h)) = equations-crossed n _ _ _ h

-- a declaration has a result
some-results : (n : ℕ) (ts : List Token) (xs : List Expr) (rest : List Token) → IsResult n ts xs rest → 0 < length xs
some-results n _ _ _ (d.value e x) = omega arith
some-results _ _ _ _ (d.names (phrase.tuple o x c xs e)) = omega arith

-- the declaration's events have zero-crossings, and it has a result
pub record IsWhole (x : Decl) : Type 0 where
  pub crossed : eqns_crossed x.eqs ≡ true
  pub some : 0 < length x.results

-- a declaration and declarations that were made of tokens
decl-whole : (n : ℕ) (ts : List Token) (x : Decl) (rest : List Token) → IsDecl n ts x rest → IsWhole x
decl-whole n _ _ _ (d.constant l x e v) = record { crossed = refl; some = omega arith }
decl-whole _ _ _ _ (d.function_of {n = n} {es = es} l k x o ps e r w) = record { crossed = where-crossed (suc n) _ _ es _ w; some = some-results (suc n) _ _ _ r }

decls-whole : (n : ℕ) (ts : List Token) (xs : List Decl) → IsDecls n ts xs → AllByRecursion IsWhole xs
decls-whole n _ _ d.no_decls = tt
decls-whole n _ _ (d.some_decls h hs) = (decl-whole n _ _ _ h, decls-whole n _ _ hs)

-- the declarations of a tree that was made of tokens
pub parsed-whole : (p : Program) → IsParsed p → AllByRecursion IsWhole p.decls
parsed-whole p h = decls-whole _ h.tokens p.decls h.is_program
