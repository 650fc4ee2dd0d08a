-- Violations that uses of names and lists of names give are of the rules of names.
use Rattle.std.proofs.Common.{ℕ, Bool, true, false, not, ◌&&◌, ◌||◌, cond, nat_eq, List, [], ◌∷◌, ◌++◌, map, length, Option, Some, None, sym, subst}
use Rattle.std.specs.List.{AllByRecursion}
use Rattle.zl_value.specs.declared.position.Pos.{Pos}
use Rattle.zl_value.specs.declared.rule.Rule.{Rule}
use Rattle.zl_value.specs.declared.rule.Rule.TheVariants as rule
use Rattle.zl_ast.specs.declared.name.Name.{Name}
use Rattle.zl_ast.specs.declared.scope.VarInfo.{VarInfo}
use Rattle.zl_ast.specs.declared.expr.Expr.{Expr, roll-Expr}
use Rattle.zl_ast.specs.declared.expr.Link.{Link, roll-Link}
use Rattle.zl_ast.specs.declared.expr.Expr.TheOpen.{Expr-F, Link-F}
use Rattle.zl_ast.specs.declared.expr.Expr.TheOpen as open_expr
use Rattle.zl_ast.specs.declared.expr.Expr.TheFolds.{fold-roll-Expr, fold-roll-Link, ind-Expr, map-Expr, map-Link}
use Rattle.zl_ast.specs.declared.eqn.Eqn.{Eqn, roll-Eqn}
use Rattle.zl_ast.specs.declared.eqn.Arm.{Arm, roll-Arm}
use Rattle.zl_ast.specs.declared.eqn.Body.{Body, roll-Body}
use Rattle.zl_ast.specs.declared.eqn.State.{State, roll-State}
use Rattle.zl_ast.specs.declared.eqn.Cond.{Cond}
use Rattle.zl_ast.specs.declared.eqn.Cond.TheVariants.{Event, Test}
use Rattle.zl_ast.specs.declared.eqn.Up.{Up}
use Rattle.zl_ast.specs.declared.eqn.ResetArm.{ResetArm}
use Rattle.zl_ast.specs.declared.eqn.Move.{Move}
use Rattle.zl_ast.specs.declared.eqn.Eqn.TheOpen.{Eqn-F, Arm-F, Body-F, State-F}
use Rattle.zl_ast.specs.declared.eqn.Eqn.TheOpen as open_eqn
use Rattle.zl_ast.specs.declared.eqn.Eqn.TheFolds.{fold-roll-Eqn, fold-roll-Arm, fold-roll-Body, fold-roll-State, ind-Eqn, map-Eqn, map-Arm, map-Body, map-State}
use Rattle.zl_ast.specs.Names.{Violation, broken_if, among, with_id, repeats, strangers}
use Rattle.zl_ast.specs.NamesDefined.{is_defined, first_places}
use Rattle.zl_ast.specs.NamesUsed as used
use Rattle.zl_ast.specs.NamesUsed.{Known, Uses, BodyUses, all_uses, each_value, call_broken, Signature, expr_uses, link_uses, value_uses, values_uses, ups_uses, cond_uses, start_uses, reset_arm_uses, moves_uses, same_strength, within, inside, eqn_uses, arm_uses, body_uses, state_uses, eqns_uses}
use Rattle.zl_ast.specs.NamesRules.{twice}
use Rattle.zl_ast.specs.Scopes.{variables}

-- one of the rules of names
abbrev pub IsOfNames : Rule → Type 0
IsOfNames rule.NameUnknown = Unit {0}
IsOfNames rule.NameTwice = Unit {0}
IsOfNames rule.DefinedTwice = Unit {0}
IsOfNames rule.Undefined = Unit {0}
IsOfNames rule.Arity = Unit {0}
IsOfNames rule.Branch = Unit {0}
IsOfNames rule.Main = Unit {0}
IsOfNames rule.Last = Unit {0}
IsOfNames _ = ⊥

abbrev pub AllOfNames : List Violation → Type 0
AllOfNames vs = AllByRecursion (λ v. IsOfNames v.0) vs

-- ---- lists

pub one_if : (b : Bool) (r : Rule) (at : Pos) → IsOfNames r → AllOfNames (broken_if b r at)
one_if true r at h = (h, tt)
one_if false r at h = tt

pub joined : (vs ws : List Violation) → AllOfNames vs → AllOfNames ws → AllOfNames (vs ++ ws)
joined [] ws h k = k
joined (v ∷ vs) ws h k = (h.0, joined vs ws h.1 k)

-- a violation that there may be, and others
pub more : (b : Bool) (r : Rule) (at : Pos) (vs : List Violation) → IsOfNames r → AllOfNames vs → AllOfNames (broken_if b r at ++ vs)
more b r at vs h k = joined (broken_if b r at) vs (one_if b r at h) k

-- what holds of each result holds of the results
pub each : {A B : Type 0} (P : B → Type 0) (f : A → B) (xs : List ((x : A) × P (f x))) → AllByRecursion P (map f (map (λ x. x.0) xs))
each P f [] = tt
each P f (x ∷ xs) = (x.1, each P f xs)

pub every : {A B : Type 0} (P : B → Type 0) (f : A → B) (h : (x : A) → P (f x)) (xs : List A) → AllByRecursion P (map f xs)
every P f h [] = tt
every P f h (x ∷ xs) = (h x, every P f h xs)

pub repeats_of_names : (r : Rule) (seen : List ℕ) (names : List Name) → IsOfNames r → AllOfNames (repeats r seen names)
repeats_of_names r seen [] h = tt
repeats_of_names r seen (x ∷ names) h = more (among seen x.id) r x.at (repeats r (with_id seen x.id) names) h (repeats_of_names r (with_id seen x.id) names h)

pub strangers_of_names : (r : Rule) (ids : List ℕ) (names : List Name) → IsOfNames r → AllOfNames (strangers r ids names)
strangers_of_names r ids [] h = tt
strangers_of_names r ids (x ∷ names) h = more (not (among ids x.id)) r x.at (strangers r ids names) h (strangers_of_names r ids names h)

pub first_places_of_names : (wanted seen : List ℕ) (vs : List VarInfo) → AllOfNames (first_places wanted seen vs)
first_places_of_names wanted seen [] = tt
first_places_of_names wanted seen (v ∷ vs) =
    let here = is_defined v && (among wanted v.name && not (among seen v.name)) in
    more here rule.DefinedTwice v.at (first_places wanted (cond here (with_id seen v.name) seen) vs) tt
    (first_places_of_names wanted (cond here (with_id seen v.name) seen) vs)

pub twice_of_names : (constants seen : List ℕ) (vs : List VarInfo) → AllOfNames (twice constants seen vs)
twice_of_names constants seen [] = tt
twice_of_names constants seen (v ∷ vs) =
    more (among seen v.name || among constants v.name) rule.NameTwice v.at (twice constants (with_id seen v.name) vs) tt
    (twice_of_names constants (with_id seen v.name) vs)

-- ---- uses

-- under each list of visible variables
abbrev pub UsesOfNames : Uses → Type 0
UsesOfNames u = (visible : List ℕ) → AllOfNames (u visible)

all_of_names : (us : List Uses) → AllByRecursion UsesOfNames us → UsesOfNames (all_uses us)
all_of_names [] h visible = tt
all_of_names (u ∷ us) h visible = joined (u visible) (all_uses us visible) (h.0 visible) (all_of_names us h.1 visible)

-- whatever number of results is wanted
abbrev ResultsOfNames : (ℕ → Uses) → Type 0
ResultsOfNames x = (results : ℕ) → UsesOfNames (x results)

each_of_names : (xs : List (ℕ → Uses)) → AllByRecursion ResultsOfNames xs → UsesOfNames (each_value xs)
each_of_names [] h visible = tt
each_of_names (x ∷ xs) h visible = joined (x 1 visible) (each_value xs visible) (h.0 1 visible) (each_of_names xs h.1 visible)

call_of_names : (s : Option Signature) (f : Name) (arguments results : ℕ) → AllOfNames (call_broken s f arguments results)
call_of_names None f arguments results = (tt, tt)
call_of_names (Some s) f arguments results = one_if (not (nat_eq arguments s.0 && nat_eq results s.1)) rule.Arity f.at tt

module _ (k : Known) where
  abbrev ExprOfNames : Expr → Type 0
  ExprOfNames x = ResultsOfNames (expr_uses k x)

  abbrev LinkOfNames : Link → Type 0
  LinkOfNames l = UsesOfNames (link_uses k l)

  -- what is known of the parts of an expression
  abbrev TheExpr : Type 0
  TheExpr = (e : Expr) × ExprOfNames e

  abbrev TheLink : Type 0
  TheLink = (l : Link) × LinkOfNames l

  expr_layer : (x : Expr-F TheExpr TheLink) → ResultsOfNames (used.expr_step k (map-Expr Expr Link (ℕ → Uses) Uses (expr_uses k) (link_uses k) (map-Expr TheExpr TheLink Expr Link (λ e. e.0) (λ l. l.0) x)))
  expr_layer (open_expr.Lit v at) results visible = tt
  expr_layer (open_expr.Var x) results visible = one_if (not (among visible x.id || among k.constants x.id)) rule.NameUnknown x.at tt
  expr_layer (open_expr.Last x at) results visible =
      more (not (among visible x.id)) rule.NameUnknown x.at (broken_if (among k.parameters x.id) rule.Last at) tt (one_if (among k.parameters x.id) rule.Last at tt)
  expr_layer (open_expr.Call f args) results visible =
      joined (call_broken (k.signature f.id) f (length (map (expr_uses k) (map (λ e. e.0) args))) results) (each_value (map (expr_uses k) (map (λ e. e.0) args)) visible)
      (call_of_names (k.signature f.id) f (length (map (expr_uses k) (map (λ e. e.0) args))) results)
      (each_of_names (map (expr_uses k) (map (λ e. e.0) args)) (each ResultsOfNames (expr_uses k) args) visible)
  expr_layer (open_expr.Prefix op at x) results visible = x.1 1 visible
  expr_layer (open_expr.Chain x ls) results visible =
      joined (expr_uses k x.0 1 visible) (all_uses (map (link_uses k) (map (λ l. l.0) ls)) visible) (x.1 1 visible)
      (all_of_names (map (link_uses k) (map (λ l. l.0) ls)) (each UsesOfNames (link_uses k) ls) visible)
  expr_layer (open_expr.Flow op at x y) results visible = joined (expr_uses k x.0 1 visible) (expr_uses k y.0 1 visible) (x.1 1 visible) (y.1 1 visible)
  expr_layer (open_expr.If at c x y) results visible =
      joined (expr_uses k c.0 1 visible) (expr_uses k x.0 1 visible ++ expr_uses k y.0 1 visible) (c.1 1 visible)
      (joined (expr_uses k x.0 1 visible) (expr_uses k y.0 1 visible) (x.1 1 visible) (y.1 1 visible))

  link_layer : (l : Link-F TheExpr TheLink) → UsesOfNames (used.link_step k (map-Link Expr Link (ℕ → Uses) Uses (expr_uses k) (link_uses k) (map-Link TheExpr TheLink Expr Link (λ e. e.0) (λ l. l.0) l)))
  link_layer l visible = l.arg.1 1 visible

  expr_of_names : (x : Expr) → ExprOfNames x
  unfolding expr_uses link_uses
  expr_of_names = ind-Expr ExprOfNames LinkOfNames
      (λ x y is results visible.
      subst (λ z. AllOfNames (expr_uses k (roll-Expr z) results visible)) is
      (subst (λ (u : ℕ → Uses). AllOfNames (u results visible)) (sym (fold-roll-Expr (ℕ → Uses) Uses (used.expr_step k) (used.link_step k) (map-Expr TheExpr TheLink Expr Link (λ e. e.0) (λ l. l.0) y)))
      (expr_layer y results visible)))
      (λ x y is visible.
      subst (λ z. AllOfNames (link_uses k (roll-Link z) visible)) is
      (subst (λ (u : Uses). AllOfNames (u visible)) (sym (fold-roll-Link (ℕ → Uses) Uses (used.expr_step k) (used.link_step k) (map-Link TheExpr TheLink Expr Link (λ e. e.0) (λ l. l.0) y)))
      (link_layer y visible)))

  value_of_names : (x : Expr) → UsesOfNames (value_uses k x)
  value_of_names x visible = expr_of_names x 1 visible

  pub values_of_names : (xs : List Expr) → UsesOfNames (values_uses k xs)
  values_of_names xs = each_of_names (map (expr_uses k) xs) (every ResultsOfNames (expr_uses k) expr_of_names xs)

  ups_of_names : (ups : List Up) → UsesOfNames (ups_uses k ups)
  ups_of_names ups = all_of_names (map (λ u. value_uses k u.arg) ups) (every UsesOfNames (λ u. value_uses k u.arg) (λ u. value_of_names u.arg) ups)

  cond_of_names : (c : Cond) → UsesOfNames (cond_uses k c)
  cond_of_names (Event ups) = ups_of_names ups
  cond_of_names (Test at x) = value_of_names x

  start_of_names : (start : Option Expr) → UsesOfNames (start_uses k start)
  start_of_names None visible = tt
  start_of_names (Some x) visible = value_of_names x visible

  reset_arm_of_names : (r : ResetArm) → UsesOfNames (reset_arm_uses k r)
  reset_arm_of_names r visible = joined (ups_uses k r.event visible) (value_uses k r.value visible) (ups_of_names r.event visible) (value_of_names r.value visible)

  move_of_names : (b : Bool) (u : Uses) (visible : List ℕ) → UsesOfNames u → AllOfNames (cond b (u visible) [])
  move_of_names true u visible h = h visible
  move_of_names false u visible h = tt

  moves_of_names : (strong : Bool) (ms : List Move) → UsesOfNames (moves_uses k strong ms)
  moves_of_names strong [] visible = tt
  moves_of_names strong (m ∷ ms) visible =
      joined (cond (same_strength strong m.strong) (cond_uses k m.cond visible) []) (moves_uses k strong ms visible)
      (move_of_names (same_strength strong m.strong) (cond_uses k m.cond) visible (cond_of_names m.cond)) (moves_of_names strong ms visible)

  abbrev EqnUsesOfNames : Eqn → Type 0
  EqnUsesOfNames e = UsesOfNames (eqn_uses k e)

  abbrev ArmUsesOfNames : Arm → Type 0
  ArmUsesOfNames a = UsesOfNames (arm_uses k a)

  abbrev InsideOfNames : BodyUses → Type 0
  InsideOfNames b = UsesOfNames b.equations

  abbrev BodyUsesOfNames : Body → Type 0
  BodyUsesOfNames b = InsideOfNames (body_uses k b)

  abbrev StateUsesOfNames : State → Type 0
  StateUsesOfNames s = UsesOfNames (state_uses k s)

  -- what is known of the parts of an equation
  abbrev TheEqn : Type 0
  TheEqn = (e : Eqn) × EqnUsesOfNames e

  abbrev TheArm : Type 0
  TheArm = (a : Arm) × ArmUsesOfNames a

  abbrev TheBody : Type 0
  TheBody = (b : Body) × BodyUsesOfNames b

  abbrev TheState : Type 0
  TheState = (s : State) × StateUsesOfNames s

  eqn_layer : (e : Eqn-F TheEqn TheArm TheBody TheState) → UsesOfNames (used.eqn_step k (map-Eqn Eqn Arm Body State Uses Uses BodyUses Uses (eqn_uses k) (arm_uses k) (body_uses k) (state_uses k) (map-Eqn TheEqn TheArm TheBody TheState Eqn Arm Body State (λ e. e.0) (λ a. a.0) (λ b. b.0) (λ s. s.0) e)))
  eqn_layer (open_eqn.Plain left right) visible = expr_of_names right (length left) visible
  eqn_layer (open_eqn.Der at x slope start resets) visible =
      joined (value_uses k slope visible) (start_uses k start visible ++ all_uses (map (reset_arm_uses k) resets) visible) (value_of_names slope visible)
      (joined (start_uses k start visible) (all_uses (map (reset_arm_uses k) resets) visible) (start_of_names start visible)
      (all_of_names (map (reset_arm_uses k) resets) (every UsesOfNames (reset_arm_uses k) reset_arm_of_names resets) visible))
  eqn_layer (open_eqn.Start at x value) visible = value_of_names value visible
  eqn_layer (open_eqn.Present at arms None) visible =
      joined (all_uses (map (arm_uses k) (map (λ a. a.0) arms)) visible) [] (all_of_names (map (arm_uses k) (map (λ a. a.0) arms)) (each UsesOfNames (arm_uses k) arms) visible) tt
  eqn_layer (open_eqn.Present at arms (Some b)) visible =
      joined (all_uses (map (arm_uses k) (map (λ a. a.0) arms)) visible) (inside (body_uses k b.0) visible) (all_of_names (map (arm_uses k) (map (λ a. a.0) arms)) (each UsesOfNames (arm_uses k) arms) visible)
      (b.1 (within (body_uses k b.0).locals visible))
  eqn_layer (open_eqn.Automaton at states) visible = all_of_names (map (state_uses k) (map (λ s. s.0) states)) (each UsesOfNames (state_uses k) states) visible
  eqn_layer (open_eqn.Reset at eqs c) visible =
      joined (all_uses (map (eqn_uses k) (map (λ e. e.0) eqs)) visible) (cond_uses k c visible) (all_of_names (map (eqn_uses k) (map (λ e. e.0) eqs)) (each UsesOfNames (eqn_uses k) eqs) visible) (cond_of_names c visible)

  arm_layer : (a : Arm-F TheEqn TheArm TheBody TheState) → UsesOfNames (used.arm_step k (map-Arm Eqn Arm Body State Uses Uses BodyUses Uses (eqn_uses k) (arm_uses k) (body_uses k) (state_uses k) (map-Arm TheEqn TheArm TheBody TheState Eqn Arm Body State (λ e. e.0) (λ a. a.0) (λ b. b.0) (λ s. s.0) a)))
  arm_layer a visible = joined (cond_uses k a.cond visible) (inside (body_uses k a.body.0) visible) (cond_of_names a.cond visible) (a.body.1 (within (body_uses k a.body.0).locals visible))

  body_layer : (b : Body-F TheEqn TheArm TheBody TheState) → InsideOfNames (used.body_step k (map-Body Eqn Arm Body State Uses Uses BodyUses Uses (eqn_uses k) (arm_uses k) (body_uses k) (state_uses k) (map-Body TheEqn TheArm TheBody TheState Eqn Arm Body State (λ e. e.0) (λ a. a.0) (λ b. b.0) (λ s. s.0) b)))
  body_layer b visible = all_of_names (map (eqn_uses k) (map (λ e. e.0) b.eqs)) (each UsesOfNames (eqn_uses k) b.eqs) visible

  state_layer : (s : State-F TheEqn TheArm TheBody TheState) → UsesOfNames (used.state_step k (map-State Eqn Arm Body State Uses Uses BodyUses Uses (eqn_uses k) (arm_uses k) (body_uses k) (state_uses k) (map-State TheEqn TheArm TheBody TheState Eqn Arm Body State (λ e. e.0) (λ a. a.0) (λ b. b.0) (λ s. s.0) s)))
  state_layer s visible =
      let inner = within (body_uses k s.body.0).locals visible in
      joined (inside (body_uses k s.body.0) visible) (moves_uses k false s.moves inner ++ moves_uses k true s.moves visible) (s.body.1 inner)
      (joined (moves_uses k false s.moves inner) (moves_uses k true s.moves visible) (moves_of_names false s.moves inner) (moves_of_names true s.moves visible))

  eqn_uses_of_names : (e : Eqn) → EqnUsesOfNames e
  unfolding eqn_uses arm_uses body_uses state_uses
  eqn_uses_of_names = ind-Eqn EqnUsesOfNames ArmUsesOfNames BodyUsesOfNames StateUsesOfNames
      (λ x y is visible.
      subst (λ z. AllOfNames (eqn_uses k (roll-Eqn z) visible)) is
      (subst (λ (u : Uses). AllOfNames (u visible)) (sym (fold-roll-Eqn Uses Uses BodyUses Uses (used.eqn_step k) (used.arm_step k) (used.body_step k) (used.state_step k) (map-Eqn TheEqn TheArm TheBody TheState Eqn Arm Body State (λ e. e.0) (λ a. a.0) (λ b. b.0) (λ s. s.0) y)))
      (eqn_layer y visible)))
      (λ x y is visible.
      subst (λ z. AllOfNames (arm_uses k (roll-Arm z) visible)) is
      (subst (λ (u : Uses). AllOfNames (u visible)) (sym (fold-roll-Arm Uses Uses BodyUses Uses (used.eqn_step k) (used.arm_step k) (used.body_step k) (used.state_step k) (map-Arm TheEqn TheArm TheBody TheState Eqn Arm Body State (λ e. e.0) (λ a. a.0) (λ b. b.0) (λ s. s.0) y)))
      (arm_layer y visible)))
      (λ x y is visible.
      subst (λ z. AllOfNames ((body_uses k (roll-Body z)).equations visible)) is
      (subst (λ (b : BodyUses). AllOfNames (b.equations visible)) (sym (fold-roll-Body Uses Uses BodyUses Uses (used.eqn_step k) (used.arm_step k) (used.body_step k) (used.state_step k) (map-Body TheEqn TheArm TheBody TheState Eqn Arm Body State (λ e. e.0) (λ a. a.0) (λ b. b.0) (λ s. s.0) y)))
      (body_layer y visible)))
      (λ x y is visible.
      subst (λ z. AllOfNames (state_uses k (roll-State z) visible)) is
      (subst (λ (u : Uses). AllOfNames (u visible)) (sym (fold-roll-State Uses Uses BodyUses Uses (used.eqn_step k) (used.arm_step k) (used.body_step k) (used.state_step k) (map-State TheEqn TheArm TheBody TheState Eqn Arm Body State (λ e. e.0) (λ a. a.0) (λ b. b.0) (λ s. s.0) y)))
      (state_layer y visible)))

  pub eqns_uses_of_names : (es : List Eqn) → UsesOfNames (eqns_uses k es)
  eqns_uses_of_names es = all_of_names (map (eqn_uses k) es) (every UsesOfNames (eqn_uses k) eqn_uses_of_names es)
