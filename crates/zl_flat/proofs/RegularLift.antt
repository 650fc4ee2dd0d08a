-- What is misplaced nowhere in combinatorial context is misplaced in no other.
use Rattle.std.proofs.Common.{◌≡◌, Bool, true, false, List, [], ◌∷◌, ◌++◌, map, Option, Some, None, refl, sym, ap, subst, ◌∙◌}
use Rattle.std.specs.List.{AllByRecursion}
use Rattle.zl_value.specs.declared.position.Pos.{Pos}
use Rattle.zl_ast.specs.declared.operator.Prefix.TheVariants as prefix
use Rattle.zl_ast.specs.declared.expr.Expr.{Expr, roll-Expr}
use Rattle.zl_ast.specs.declared.expr.Link.{Link, roll-Link}
use Rattle.zl_ast.specs.declared.expr.Expr.TheOpen.{Expr-F, Link-F}
use Rattle.zl_ast.specs.declared.expr.Expr.TheOpen as open_expr
use Rattle.zl_ast.specs.declared.expr.Expr.TheFolds.{fold-roll-Expr, fold-roll-Link, ind-Expr, map-Expr, map-Link}
use Rattle.zl_ast.specs.declared.eqn.Eqn.{Eqn, roll-Eqn}
use Rattle.zl_ast.specs.declared.eqn.Arm.{Arm}
use Rattle.zl_ast.specs.declared.eqn.Body.{Body}
use Rattle.zl_ast.specs.declared.eqn.State.{State}
use Rattle.zl_ast.specs.declared.eqn.Eqn.TheOpen.{Eqn-F}
use Rattle.zl_ast.specs.declared.eqn.Eqn.TheOpen as open_eqn
use Rattle.zl_ast.specs.declared.eqn.Eqn.TheFolds.{fold-roll-Eqn, ind-Eqn, map-Eqn}
use Rattle.zl_ast.specs.declared.program.Decl.{Decl}
use Rattle.zl_ast.specs.declared.program.DeclKind.{DeclKind}
use Rattle.zl_ast.specs.declared.program.DeclKind.TheVariants as decl
use Rattle.zl_ast.specs.Kinds as kinds
use Rattle.zl_ast.specs.Kinds.{Declared, Misplaced, unless_allowed, all_misplaced, expr_misplaced, link_misplaced, eqn_misplaced, arm_misplaced, body_misplaced, state_misplaced, exprs_misplaced, eqns_misplaced, decl_misplaced}
use Rattle.zl_flat.proofs.RulesKept.{none-left, none-right}
use Rattle.zl_flat.proofs.RegularGround.{argument-context}

-- nothing and nothing is nothing
both-none : {X : Type 0} (xs ys : List X) → xs ≡ [] → ys ≡ [] → xs ++ ys ≡ []
both-none xs ys e g = ap (λ zs. zs ++ ys) e ∙ g

-- what isn't misplaced is allowed, and the other way round
pub allowed : (b : Bool) (at : Pos) → unless_allowed b at ≡ [] → b ≡ true
allowed true at h = refl
allowed false at h = cc

not-refused : (b : Bool) (at : Pos) → b ≡ true → unless_allowed b at ≡ []
not-refused true at h = refl
not-refused false at h = absurd (cc)

-- what may be called in combinatorial context may be called in all
call-anywhere : (k : Option DeclKind) (c : kinds.Context) → kinds.allows_call k kinds.combinatorial ≡ true → kinds.allows_call k c ≡ true
call-anywhere None c h = refl
call-anywhere (Some decl.Constant) c h = refl
call-anywhere (Some decl.Function) c h = refl
call-anywhere (Some decl.Node) c h = absurd (cc)
call-anywhere (Some decl.Hybrid) c h = absurd (cc)

-- nothing is misplaced in combinatorial context, or in no context
abbrev pub Lifts : Misplaced → Type 0
Lifts m = m kinds.combinatorial ≡ [] → (c : kinds.Context) → m c ≡ []

-- so for several constructs
lift-all : (ms : List Misplaced) → AllByRecursion Lifts ms → Lifts (all_misplaced ms)
lift-all [] h m c = refl
lift-all (x ∷ xs) h m c =
    let one = x kinds.combinatorial in
    let more = all_misplaced xs kinds.combinatorial in
    both-none (x c) (all_misplaced xs c) (h.0 (none-left one more m) c) (lift-all xs h.1 (none-right one more m) c)

module _ (declared : Declared) where
  -- an expression, and an operator of a chain
  abbrev ExprLifts : Expr → Type 0
  ExprLifts x = Lifts (expr_misplaced declared x)

  abbrev LinkLifts : Link → Type 0
  LinkLifts l = Lifts (link_misplaced declared l)

  abbrev TheExpr : Type 0
  TheExpr = (e : Expr) × ExprLifts e

  abbrev TheLink : Type 0
  TheLink = (l : Link) × LinkLifts l

  -- each of several
  args-lift : (xs : List TheExpr) → AllByRecursion Lifts (map (expr_misplaced declared) (map (λ e. e.0) xs))
  args-lift [] = tt
  args-lift (x ∷ xs) = (x.1, args-lift xs)

  links-lift : (ls : List TheLink) → AllByRecursion Lifts (map (link_misplaced declared) (map (λ l. l.0) ls))
  links-lift [] = tt
  links-lift (l ∷ ls) = (l.1, links-lift ls)

  -- one layer of an expression, where its parts do
  expr-layer : (x : Expr-F TheExpr TheLink) → Lifts (kinds.expr_step declared (map-Expr Expr Link Misplaced Misplaced (expr_misplaced declared) (link_misplaced declared) (map-Expr TheExpr TheLink Expr Link (λ e. e.0) (λ l. l.0) x)))
  expr-layer (open_expr.Lit v at) m c = refl
  expr-layer (open_expr.Var x) m c = refl
  expr-layer (open_expr.Last x at) m c = absurd (cc)
  expr-layer (open_expr.Call x args) m c =
      let A = kinds.combinatorial in
      let k = declared x.id in
      let ms = map (expr_misplaced declared) (map (λ e. e.0) args) in
      let wrong = unless_allowed (kinds.allows_call k A) x.at in
      let more = all_misplaced ms (kinds.argument_context k A) in
      let ok = allowed (kinds.allows_call k A) x.at (none-left wrong more m) in
      both-none (unless_allowed (kinds.allows_call k c) x.at) (all_misplaced ms (kinds.argument_context k c)) (not-refused (kinds.allows_call k c) x.at (call-anywhere k c ok))
      (lift-all ms (args-lift args) (subst (λ d. all_misplaced ms d ≡ []) (argument-context k A ok) (none-right wrong more m)) (kinds.argument_context k c))
  expr-layer (open_expr.Prefix prefix.Minus at x) m c = x.1 m c
  expr-layer (open_expr.Prefix prefix.MinusDot at x) m c = x.1 m c
  expr-layer (open_expr.Prefix prefix.Not at x) m c = x.1 m c
  expr-layer (open_expr.Prefix prefix.Pre at x) m c = absurd (cc)
  expr-layer (open_expr.Chain x ls) m c =
      let ms = map (link_misplaced declared) (map (λ l. l.0) ls) in
      let one = expr_misplaced declared x.0 kinds.combinatorial in
      let more = all_misplaced ms kinds.combinatorial in
      both-none (expr_misplaced declared x.0 c) (all_misplaced ms c) (x.1 (none-left one more m) c) (lift-all ms (links-lift ls) (none-right one more m) c)
  expr-layer (open_expr.Flow op at x y) m c =
      let one = expr_misplaced declared x.0 kinds.discrete in
      let more = expr_misplaced declared y.0 kinds.discrete in
      absurd (no_more at more (none-right one (unless_allowed false at ++ more) m))
    where
      no_more : (at : Pos) (more : List Pos) → unless_allowed false at ++ more ≡ [] → ⊥
      no_more at more h = cc
  expr-layer (open_expr.If at z x y) m c =
      let A = kinds.combinatorial in
      let d = kinds.branch_context c in
      let a = expr_misplaced declared z.0 A in
      let b = expr_misplaced declared x.0 A in
      let e = expr_misplaced declared y.0 A in
      let later = none-right a (b ++ e) m in
      both-none (expr_misplaced declared z.0 c) (expr_misplaced declared x.0 d ++ expr_misplaced declared y.0 d) (z.1 (none-left a (b ++ e) m) c)
      (both-none (expr_misplaced declared x.0 d) (expr_misplaced declared y.0 d) (x.1 (none-left b e later) d) (y.1 (none-right b e later) d))

  pub expr-lifts : (x : Expr) → ExprLifts x
  unfolding expr_misplaced link_misplaced
  expr-lifts = ind-Expr ExprLifts LinkLifts
      (λ x y is. subst (λ z. ExprLifts (roll-Expr z)) is (subst Lifts (sym (fold-roll-Expr Misplaced Misplaced (kinds.expr_step declared) (kinds.link_step declared) (map-Expr TheExpr TheLink Expr Link (λ e. e.0) (λ l. l.0) y))) (expr-layer y)))
      (λ x y is. subst (λ z. LinkLifts (roll-Link z)) is (subst Lifts (sym (fold-roll-Link Misplaced Misplaced (kinds.expr_step declared) (kinds.link_step declared) (map-Link TheExpr TheLink Expr Link (λ e. e.0) (λ l. l.0) y))) y.arg.1))

  -- so do expressions
  exprs-lift : (xs : List Expr) → AllByRecursion Lifts (map (expr_misplaced declared) xs)
  exprs-lift [] = tt
  exprs-lift (x ∷ xs) = (expr-lifts x, exprs-lift xs)

  -- ---- equations: those of a combinatorial body are plain

  -- an equation
  abbrev EqnLifts : Eqn → Type 0
  EqnLifts e = Lifts (eqn_misplaced declared e)

  abbrev TheEqn : Type 0
  TheEqn = (e : Eqn) × EqnLifts e

  abbrev TheArm : Type 0
  TheArm = (a : Arm) × Unit {0}

  abbrev TheBody : Type 0
  TheBody = (b : Body) × Unit {0}

  abbrev TheState : Type 0
  TheState = (s : State) × Unit {0}

  -- a construct that isn't allowed is misplaced
  no-state : (at : Pos) (more : List Pos) → unless_allowed false at ++ more ≡ [] → ⊥
  no-state at more h = cc

  -- one layer of an equation: only a plain one is left
  eqn-layer : (e : Eqn-F TheEqn TheArm TheBody TheState) →
      Lifts (kinds.eqn_step declared (map-Eqn Eqn Arm Body State Misplaced Misplaced Misplaced Misplaced (eqn_misplaced declared) (arm_misplaced declared) (body_misplaced declared) (state_misplaced declared) (map-Eqn TheEqn TheArm TheBody TheState Eqn Arm Body State (λ e. e.0) (λ a. a.0) (λ b. b.0) (λ s. s.0) e)))
  unfolding kinds.allows_present
  eqn-layer (open_eqn.Plain left right) m c = expr-lifts right m c
  eqn-layer (open_eqn.Der at x slope start resets) m c = absurd (no-state at _ m)
  eqn-layer (open_eqn.Start at x value) m c = absurd (no-state at _ m)
  eqn-layer (open_eqn.Present at arms None) m c = absurd (no-state at _ m)
  eqn-layer (open_eqn.Present at arms (Some b)) m c = absurd (no-state at _ m)
  eqn-layer (open_eqn.Automaton at states) m c = absurd (no-state at _ m)
  eqn-layer (open_eqn.Reset at eqs z) m c = absurd (no-state at _ m)

  pub eqn-lifts : (e : Eqn) → EqnLifts e
  unfolding eqn_misplaced arm_misplaced body_misplaced state_misplaced
  eqn-lifts = ind-Eqn EqnLifts (λ a. Unit {0}) (λ b. Unit {0}) (λ s. Unit {0})
      (λ x y is. subst (λ z. EqnLifts (roll-Eqn z)) is (subst Lifts (sym (fold-roll-Eqn Misplaced Misplaced Misplaced Misplaced (kinds.eqn_step declared) (kinds.arm_step declared) (kinds.body_step declared) (kinds.state_step declared) (map-Eqn TheEqn TheArm TheBody TheState Eqn Arm Body State (λ e. e.0) (λ a. a.0) (λ b. b.0) (λ s. s.0) y))) (eqn-layer y)))
      (λ x y is. tt)
      (λ x y is. tt)
      (λ x y is. tt)

  -- so do equations
  eqns-lift : (es : List Eqn) → AllByRecursion Lifts (map (eqn_misplaced declared) es)
  eqns-lift [] = tt
  eqns-lift (e ∷ es) = (eqn-lifts e, eqns-lift es)

  -- where a declaration can be called, its results and equations may stand in the context of the call
  pub decl-lifts : (d : Decl) (c : kinds.Context) → kinds.allows_call (Some d.kind) c ≡ true → decl_misplaced declared d ≡ [] → (exprs_misplaced declared d.results c ≡ []) × (eqns_misplaced declared d.eqs c ≡ [])
  decl-lifts d c ok m = by_kind d.kind c ok
      (none-left (exprs_misplaced declared d.results (kinds.body_context d.kind)) (eqns_misplaced declared d.eqs (kinds.body_context d.kind)) m)
      (none-right (exprs_misplaced declared d.results (kinds.body_context d.kind)) (eqns_misplaced declared d.eqs (kinds.body_context d.kind)) m)
    where
      anywhere : (c : kinds.Context) → exprs_misplaced declared d.results kinds.combinatorial ≡ [] → eqns_misplaced declared d.eqs kinds.combinatorial ≡ [] → (exprs_misplaced declared d.results c ≡ []) × (eqns_misplaced declared d.eqs c ≡ [])
      anywhere c x y = (lift-all (map (expr_misplaced declared) d.results) (exprs-lift d.results) x c, lift-all (map (eqn_misplaced declared) d.eqs) (eqns-lift d.eqs) y c)

      by_kind : (k : DeclKind) (c : kinds.Context) → kinds.allows_call (Some k) c ≡ true → exprs_misplaced declared d.results (kinds.body_context k) ≡ [] → eqns_misplaced declared d.eqs (kinds.body_context k) ≡ [] → (exprs_misplaced declared d.results c ≡ []) × (eqns_misplaced declared d.eqs c ≡ [])
      by_kind decl.Constant c ok x y = anywhere c x y
      by_kind decl.Function c ok x y = anywhere c x y
      by_kind decl.Node kinds.combinatorial ok x y = absurd (cc)
      by_kind decl.Node kinds.recalling ok x y = absurd (cc)
      by_kind decl.Node kinds.discrete ok x y = (x, y)
      by_kind decl.Node kinds.hybrid ok x y = absurd (cc)
      by_kind decl.Hybrid kinds.combinatorial ok x y = absurd (cc)
      by_kind decl.Hybrid kinds.recalling ok x y = absurd (cc)
      by_kind decl.Hybrid kinds.discrete ok x y = absurd (cc)
      by_kind decl.Hybrid kinds.hybrid ok x y = (x, y)
