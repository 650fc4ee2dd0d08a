-- The rule of kinds: which construct may stand in which context.
use Rattle.std.specs.Prelude.{◌≡◌, ℕ, Bool, true, false, not, if◌then◌else◌, is_some, nat_eq, List, [], ◌∷◌, ◌++◌, map, Option, Some, None, Contains}
use Rattle.std.specs.List.{AllByRecursion}
use Rattle.zl_value.specs.declared.position.Pos.{Pos}
use Rattle.zl_ast.specs.declared.operator.Prefix.{Prefix}
use Rattle.zl_ast.specs.declared.operator.Prefix.TheVariants as prefix
use Rattle.zl_ast.specs.declared.expr.Expr.{Expr}
use Rattle.zl_ast.specs.declared.expr.Link.{Link}
use Rattle.zl_ast.specs.declared.expr.Expr.TheOpen.{Expr-F, Link-F}
use Rattle.zl_ast.specs.declared.expr.Expr.TheOpen as open_expr
use Rattle.zl_ast.specs.declared.expr.Expr.TheFolds.{fold-Expr, fold-Link}
use Rattle.zl_ast.specs.declared.eqn.Eqn.{Eqn}
use Rattle.zl_ast.specs.declared.eqn.Arm.{Arm}
use Rattle.zl_ast.specs.declared.eqn.Body.{Body}
use Rattle.zl_ast.specs.declared.eqn.State.{State}
use Rattle.zl_ast.specs.declared.eqn.Cond.{Cond}
use Rattle.zl_ast.specs.declared.eqn.Cond.TheVariants.{Event, Test}
use Rattle.zl_ast.specs.declared.eqn.Up.{Up}
use Rattle.zl_ast.specs.declared.eqn.ResetArm.{ResetArm}
use Rattle.zl_ast.specs.declared.eqn.Eqn.TheOpen.{Eqn-F, Arm-F, Body-F, State-F}
use Rattle.zl_ast.specs.declared.eqn.Eqn.TheOpen as open_eqn
use Rattle.zl_ast.specs.declared.eqn.Eqn.TheFolds.{fold-Eqn, fold-Arm, fold-Body, fold-State}
use Rattle.zl_ast.specs.declared.program.Decl.{Decl}
use Rattle.zl_ast.specs.declared.program.DeclKind.{DeclKind}
use Rattle.zl_ast.specs.declared.program.DeclKind.TheVariants as decl
use Rattle.zl_ast.specs.declared.program.Program.{Program}
use Rattle.zl_ast.specs.Parsed.{Before}

-- ---- contexts

-- What may happen where an expression or an equation stands. The kinds A, D and C of Zélus, and one between A and D.
pub data Context : Type 0 where
  -- A: without memory
  combinatorial : Context
  -- combinatorial, but that `last` values may be read
  recalling : Context
  -- D: in steps, with memory
  discrete : Context
  -- C: in continuous time, with derivatives and zero-crossings
  hybrid : Context

-- where `pre`, `->` and `fby` may stand, and nodes be called
abbrev pub is_discrete : Context → Bool
is_discrete discrete = true
is_discrete _ = false

-- where derivatives and events may stand, and hybrid declarations be called
abbrev pub is_hybrid : Context → Bool
is_hybrid hybrid = true
is_hybrid _ = false

-- where `last` may stand
abbrev pub allows_last : Context → Bool
allows_last recalling = true
allows_last discrete = true
allows_last _ = false

-- where `init`, an automaton and a `reset` block may stand
abbrev pub allows_state : Context → Bool
allows_state discrete = true
allows_state hybrid = true
allows_state _ = false

-- where a `present` may stand, with an `else` or without
unfoldable pub allows_present : Bool → Context → Bool
allows_present other discrete = true
allows_present other hybrid = not other
allows_present other _ = false

-- the context of the branches of an `if`
abbrev pub branch_context : Context → Context
branch_context combinatorial = combinatorial
branch_context recalling = recalling
branch_context discrete = recalling
branch_context hybrid = combinatorial

-- where a prefix operator may stand
abbrev pub allows_prefix : Prefix → Context → Bool
allows_prefix prefix.Pre c = is_discrete c
allows_prefix _ c = true

-- the context of its operand
abbrev pub operand_context : Prefix → Context → Context
operand_context prefix.Pre c = discrete
operand_context _ c = c

-- ---- declarations

-- the context of a declaration's results and equations
abbrev pub body_context : DeclKind → Context
body_context decl.Constant = combinatorial
body_context decl.Function = combinatorial
body_context decl.Node = discrete
body_context decl.Hybrid = hybrid

-- what the names of earlier declarations declare, by their numbers
abbrev pub Declared : Type 0
Declared = ℕ → Option DeclKind

-- Where a name may be called that declares this. The built-in functions, which nothing declares, may be called everywhere.
abbrev pub allows_call : Option DeclKind → Context → Bool
allows_call (Some decl.Node) c = is_discrete c
allows_call (Some decl.Hybrid) c = is_hybrid c
allows_call _ c = true

-- the context of the arguments
abbrev pub argument_context : Option DeclKind → Context → Context
argument_context (Some decl.Node) c = discrete
argument_context (Some decl.Hybrid) c = hybrid
argument_context _ c = c

-- ---- misplaced constructs

-- the places of misplaced constructs, under the context
abbrev pub Misplaced : Type 0
Misplaced = Context → List Pos

-- the place of a construct, unless it is allowed
abbrev pub unless_allowed : Bool → Pos → List Pos
unless_allowed true at = []
unless_allowed false at = at ∷ []

-- those of several constructs, one after the other
abbrev pub all_misplaced : List Misplaced → Misplaced
all_misplaced [] c = []
all_misplaced (m ∷ ms) c = m c ++ all_misplaced ms c

-- those of a body that may be absent
abbrev pub other_misplaced : Option Misplaced → Misplaced
other_misplaced None c = []
other_misplaced (Some m) c = m c

-- the first token of an event
abbrev pub event_place : List Up → List Pos
event_place [] = []
event_place (u ∷ us) = u.at ∷ []

module _ (known : Declared) where
  -- An expression. The parts of `pre`, `->` and `fby` are discrete wherever these stand.
  abbrev pub expr_step : Expr-F Misplaced Misplaced → Misplaced
  expr_step (open_expr.Lit v at) c = []
  expr_step (open_expr.Var x) c = []
  expr_step (open_expr.Last x at) c = unless_allowed (allows_last c) at
  expr_step (open_expr.Call f args) c = unless_allowed (allows_call (known f.id) c) f.at ++ all_misplaced args (argument_context (known f.id) c)
  expr_step (open_expr.Prefix op at x) c = unless_allowed (allows_prefix op c) at ++ x (operand_context op c)
  expr_step (open_expr.Chain x ls) c = x c ++ all_misplaced ls c
  expr_step (open_expr.Flow op at x y) c = x discrete ++ (unless_allowed (is_discrete c) at ++ y discrete)
  expr_step (open_expr.If at b x y) c = b c ++ (x (branch_context c) ++ y (branch_context c))

  abbrev pub link_step : Link-F Misplaced Misplaced → Misplaced
  link_step l = l.arg

  unfoldable pub expr_misplaced : Expr → Misplaced
  expr_misplaced = fold-Expr Misplaced Misplaced expr_step link_step

  unfoldable pub link_misplaced : Link → Misplaced
  link_misplaced = fold-Link Misplaced Misplaced expr_step link_step

  abbrev pub exprs_misplaced : List Expr → Misplaced
  exprs_misplaced xs = all_misplaced (map expr_misplaced xs)

  -- the arguments of the zero-crossings of an event, wherever it stands
  abbrev pub ups_misplaced : List Up → List Pos
  ups_misplaced ups = all_misplaced (map (λ u. expr_misplaced u.arg) ups) combinatorial

  -- A condition: an event in a hybrid context, and a test in a discrete one.
  abbrev pub cond_misplaced : Cond → Misplaced
  cond_misplaced (Event ups) c = (if is_discrete c then event_place ups else []) ++ ups_misplaced ups
  cond_misplaced (Test at x) c = unless_allowed (not (is_hybrid c)) at ++ expr_misplaced x recalling

  -- the value behind the `init` of a derivative
  abbrev pub start_misplaced : Option Expr → List Pos
  start_misplaced None = []
  start_misplaced (Some x) = expr_misplaced x recalling

  -- the `reset` of a derivative
  abbrev pub resets_misplaced : List ResetArm → List Pos
  resets_misplaced [] = []
  resets_misplaced (r ∷ rs) = (ups_misplaced r.event ++ expr_misplaced r.value recalling) ++ resets_misplaced rs

  -- An equation. The bodies of a `present` are discrete, and those of an automaton or a `reset` block are what it stands in.
  -- No list of equations is recalling, so a plain equation may stand in all.
  abbrev pub eqn_step : Eqn-F Misplaced Misplaced Misplaced Misplaced → Misplaced
  eqn_step (open_eqn.Plain left right) c = expr_misplaced right c
  eqn_step (open_eqn.Der at x slope start resets) c =
      unless_allowed (is_hybrid c) at ++ (expr_misplaced slope hybrid ++ (start_misplaced start ++ resets_misplaced resets))
  eqn_step (open_eqn.Start at x value) c = unless_allowed (allows_state c) at ++ expr_misplaced value recalling
  eqn_step (open_eqn.Present at arms other) c =
      unless_allowed (allows_present (is_some other) c) at ++ (all_misplaced arms c ++ other_misplaced other discrete)
  eqn_step (open_eqn.Automaton at states) c = unless_allowed (allows_state c) at ++ all_misplaced states c
  eqn_step (open_eqn.Reset at eqs b) c = unless_allowed (allows_state c) at ++ (all_misplaced eqs c ++ cond_misplaced b c)

  abbrev pub arm_step : Arm-F Misplaced Misplaced Misplaced Misplaced → Misplaced
  arm_step a c = cond_misplaced a.cond c ++ a.body discrete

  abbrev pub body_step : Body-F Misplaced Misplaced Misplaced Misplaced → Misplaced
  body_step b = all_misplaced b.eqs

  abbrev pub state_step : State-F Misplaced Misplaced Misplaced Misplaced → Misplaced
  state_step s c = s.body c ++ all_misplaced (map (λ m. cond_misplaced m.cond) s.moves) c

  unfoldable pub eqn_misplaced : Eqn → Misplaced
  eqn_misplaced = fold-Eqn Misplaced Misplaced Misplaced Misplaced eqn_step arm_step body_step state_step

  unfoldable pub arm_misplaced : Arm → Misplaced
  arm_misplaced = fold-Arm Misplaced Misplaced Misplaced Misplaced eqn_step arm_step body_step state_step

  unfoldable pub body_misplaced : Body → Misplaced
  body_misplaced = fold-Body Misplaced Misplaced Misplaced Misplaced eqn_step arm_step body_step state_step

  unfoldable pub state_misplaced : State → Misplaced
  state_misplaced = fold-State Misplaced Misplaced Misplaced Misplaced eqn_step arm_step body_step state_step

  -- the body behind the `else` of a `present`
  abbrev pub in_other : Option Body → List Pos
  in_other None = []
  in_other (Some b) = body_misplaced b discrete

  abbrev pub eqns_misplaced : List Eqn → Misplaced
  eqns_misplaced es = all_misplaced (map eqn_misplaced es)

  -- A declaration: its results are in the context of its equations.
  abbrev pub decl_misplaced : Decl → List Pos
  decl_misplaced d = exprs_misplaced d.results (body_context d.kind) ++ eqns_misplaced d.eqs (body_context d.kind)

-- before the first declaration
unfoldable pub none_declared : Declared
none_declared id = None

-- behind a declaration
unfoldable pub declared_with : Declared → Decl → Declared
declared_with known d id = if nat_eq d.name.id id then Some d.kind else known id

-- declarations, where this is known of earlier ones
abbrev pub decls_misplaced : Declared → List Decl → List Pos
decls_misplaced known [] = []
decls_misplaced known (d ∷ ds) = decl_misplaced known d ++ decls_misplaced (declared_with known d) ds

-- The places of the constructs of a program that stand where they may not, in the order of the text.
abbrev pub misplaced : Program → List Pos
misplaced p = decls_misplaced none_declared p.decls

-- ---- the first one

-- A construct stands here where it may not, and none before it does.
pub record IsMisplacedAt (p : Program) (at : Pos) : Type 0 where
  pub broken : Contains (misplaced p) at
  pub least : AllByRecursion (λ other. Before other at → ⊥) (misplaced p)

-- the place of the first misplaced construct, or none where there is none
abbrev pub IsFirstMisplaced : Program → Option Pos → Type 0
IsFirstMisplaced p None = misplaced p ≡ []
IsFirstMisplaced p (Some at) = IsMisplacedAt p at
