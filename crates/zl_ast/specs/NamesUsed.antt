-- The uses of names in expressions and equations, and the rules that they break.
use Rattle.std.specs.Prelude.{ℕ, Bool, true, false, not, ◌&&◌, ◌||◌, if◌then◌else◌, nat_eq, List, [], ◌∷◌, ◌++◌, map, length, Option, Some, None}
use Rattle.zl_value.specs.declared.position.Pos.{Pos}
use Rattle.zl_value.specs.declared.rule.Rule.TheVariants as rule
use Rattle.zl_ast.specs.declared.name.Name.{Name}
use Rattle.zl_ast.specs.declared.expr.Expr.{Expr}
use Rattle.zl_ast.specs.declared.expr.Link.{Link}
use Rattle.zl_ast.specs.declared.expr.Expr.TheOpen.{Expr-F, Link-F}
use Rattle.zl_ast.specs.declared.expr.Expr.TheOpen as open_expr
use Rattle.zl_ast.specs.declared.expr.Expr.TheFolds.{fold-Expr, fold-Link}
use Rattle.zl_ast.specs.declared.eqn.Eqn.{Eqn}
use Rattle.zl_ast.specs.declared.eqn.Arm.{Arm}
use Rattle.zl_ast.specs.declared.eqn.Body.{Body}
use Rattle.zl_ast.specs.declared.eqn.State.{State}
use Rattle.zl_ast.specs.declared.eqn.Cond.{Cond}
use Rattle.zl_ast.specs.declared.eqn.Cond.TheVariants.{Event, Test}
use Rattle.zl_ast.specs.declared.eqn.Up.{Up}
use Rattle.zl_ast.specs.declared.eqn.ResetArm.{ResetArm}
use Rattle.zl_ast.specs.declared.eqn.Move.{Move}
use Rattle.zl_ast.specs.declared.eqn.Eqn.TheOpen.{Eqn-F, Arm-F, Body-F, State-F}
use Rattle.zl_ast.specs.declared.eqn.Eqn.TheOpen as open_eqn
use Rattle.zl_ast.specs.declared.eqn.Eqn.TheFolds.{fold-Eqn, fold-Arm, fold-Body, fold-State}
use Rattle.zl_ast.specs.Names.{Violation, broken_if, among, with_ids, ids_of}

-- how many arguments a called name takes, and how many results it gives
abbrev pub Signature : Type 0
Signature = ℕ × ℕ

-- What is known of names in a declaration, other than its variables.
pub record Known : Type 0 where
  -- the numbers of the constants declared before
  pub constants : List ℕ
  -- the functions, nodes and hybrid declarations declared before, and the built-in functions
  pub signature : ℕ → Option Signature
  -- the numbers of the parameters
  pub parameters : List ℕ

-- The violations under a list of the numbers of the visible variables.
abbrev pub Uses : Type 0
Uses = List ℕ → List Violation

abbrev pub all_uses : List Uses → Uses
all_uses [] visible = []
all_uses (u ∷ us) visible = u visible ++ all_uses us visible

-- expressions of which one result each is wanted
abbrev pub each_value : List (ℕ → Uses) → Uses
each_value [] visible = []
each_value (x ∷ xs) visible = x 1 visible ++ each_value xs visible

-- a name that is read, with the variables and constants that it may be
abbrev pub read_broken : List ℕ → List ℕ → Name → List Violation
read_broken visible constants x = broken_if (not (among visible x.id || among constants x.id)) rule.NameUnknown x.at

-- `last x`: no constant has a last value, and no parameter either
abbrev pub last_broken : List ℕ → List ℕ → Name → Pos → List Violation
last_broken visible parameters x at = broken_if (not (among visible x.id)) rule.NameUnknown x.at ++ broken_if (among parameters x.id) rule.Last at

-- a call with so many arguments, where so many results are wanted
abbrev pub call_broken : Option Signature → Name → ℕ → ℕ → List Violation
call_broken None f arguments results = (rule.NameUnknown, f.at) ∷ []
call_broken (Some s) f arguments results = broken_if (not (nat_eq arguments s.0 && nat_eq results s.1)) rule.Arity f.at

-- a body: its locals, and its equations under the variables that are visible inside it
pub record BodyUses : Type 0 where
  pub locals : List Name
  pub equations : Uses

-- the variables that are visible in a body
abbrev pub within : List Name → List ℕ → List ℕ
within locals visible = with_ids visible (ids_of locals)

abbrev pub inside : BodyUses → Uses
inside b visible = b.equations (within b.locals visible)

abbrev pub other_uses : Option BodyUses → Uses
other_uses None visible = []
other_uses (Some b) visible = inside b visible

abbrev pub same_strength : Bool → Bool → Bool
same_strength true s = s
same_strength false s = not s

module _ (k : Known) where
  -- An expression of which so many results are wanted: one, but for the right side of an equation with several names.
  abbrev pub expr_step : Expr-F (ℕ → Uses) Uses → ℕ → Uses
  expr_step (open_expr.Lit v at) results visible = []
  expr_step (open_expr.Var x) results visible = read_broken visible k.constants x
  expr_step (open_expr.Last x at) results visible = last_broken visible k.parameters x at
  expr_step (open_expr.Call f args) results visible = call_broken (k.signature f.id) f (length args) results ++ each_value args visible
  expr_step (open_expr.Prefix op at x) results visible = x 1 visible
  expr_step (open_expr.Chain x ls) results visible = x 1 visible ++ all_uses ls visible
  expr_step (open_expr.Flow op at x y) results visible = x 1 visible ++ y 1 visible
  expr_step (open_expr.If at c x y) results visible = c 1 visible ++ (x 1 visible ++ y 1 visible)

  abbrev pub link_step : Link-F (ℕ → Uses) Uses → Uses
  link_step l = l.arg 1

  unfoldable pub expr_uses : Expr → ℕ → Uses
  expr_uses = fold-Expr (ℕ → Uses) Uses expr_step link_step

  unfoldable pub link_uses : Link → Uses
  link_uses = fold-Link (ℕ → Uses) Uses expr_step link_step

  abbrev pub value_uses : Expr → Uses
  value_uses x = expr_uses x 1

  abbrev pub values_uses : List Expr → Uses
  values_uses xs = each_value (map expr_uses xs)

  abbrev pub ups_uses : List Up → Uses
  ups_uses ups = all_uses (map (λ u. value_uses u.arg) ups)

  abbrev pub cond_uses : Cond → Uses
  cond_uses (Event ups) = ups_uses ups
  cond_uses (Test at x) = value_uses x

  abbrev pub start_uses : Option Expr → Uses
  start_uses None visible = []
  start_uses (Some x) visible = value_uses x visible

  abbrev pub reset_arm_uses : ResetArm → Uses
  reset_arm_uses r visible = ups_uses r.event visible ++ value_uses r.value visible

  -- the conditions of the moves by `unless`, or of those by `until`
  abbrev pub moves_uses : Bool → List Move → Uses
  moves_uses strong [] visible = []
  moves_uses strong (m ∷ ms) visible = (if same_strength strong m.strong then cond_uses m.cond visible else []) ++ moves_uses strong ms visible

  abbrev pub eqn_step : Eqn-F Uses Uses BodyUses Uses → Uses
  eqn_step (open_eqn.Plain left right) visible = expr_uses right (length left) visible
  eqn_step (open_eqn.Der at x slope start resets) visible = value_uses slope visible ++ (start_uses start visible ++ all_uses (map reset_arm_uses resets) visible)
  eqn_step (open_eqn.Start at x value) visible = value_uses value visible
  eqn_step (open_eqn.Present at arms other) visible = all_uses arms visible ++ other_uses other visible
  eqn_step (open_eqn.Automaton at states) visible = all_uses states visible
  eqn_step (open_eqn.Reset at eqs c) visible = all_uses eqs visible ++ cond_uses c visible

  abbrev pub arm_step : Arm-F Uses Uses BodyUses Uses → Uses
  arm_step a visible = cond_uses a.cond visible ++ inside a.body visible

  abbrev pub body_step : Body-F Uses Uses BodyUses Uses → BodyUses
  body_step b = record { locals = b.locals; equations = all_uses b.eqs }

  -- The conditions behind `until` see the locals of the state's body, and those behind `unless` don't.
  abbrev pub state_step : State-F Uses Uses BodyUses Uses → Uses
  state_step s visible =
      inside s.body visible ++ (moves_uses false s.moves (within s.body.locals visible) ++ moves_uses true s.moves visible)

  unfoldable pub eqn_uses : Eqn → Uses
  eqn_uses = fold-Eqn Uses Uses BodyUses Uses eqn_step arm_step body_step state_step

  unfoldable pub arm_uses : Arm → Uses
  arm_uses = fold-Arm Uses Uses BodyUses Uses eqn_step arm_step body_step state_step

  unfoldable pub body_uses : Body → BodyUses
  body_uses = fold-Body Uses Uses BodyUses Uses eqn_step arm_step body_step state_step

  unfoldable pub state_uses : State → Uses
  state_uses = fold-State Uses Uses BodyUses Uses eqn_step arm_step body_step state_step

  -- a body under the variables that are visible outside it
  unfoldable pub in_body : Body → Uses
  in_body b = inside (body_uses b)

  abbrev pub in_other : Option Body → Uses
  in_other None visible = []
  in_other (Some b) visible = in_body b visible

  abbrev pub eqns_uses : List Eqn → Uses
  eqns_uses es = all_uses (map eqn_uses es)
