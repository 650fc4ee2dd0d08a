-- The constraints on initialisation levels that a program gives, in the order of the text.
use Rattle.std.specs.Prelude.{ℕ, Bool, true, false, not, ◌&&◌, ◌||◌, if◌then◌else◌, nat_eq, List, [], ◌∷◌, ◌++◌, map, Option, Some, None}
use Rattle.zl_value.specs.declared.position.Pos.{Pos}
use Rattle.zl_ast.specs.declared.name.Name.{Name}
use Rattle.zl_ast.specs.declared.scope.VarInfo.{VarInfo}
use Rattle.zl_ast.specs.declared.constraint.Asked.{Asked}
use Rattle.zl_ast.specs.declared.constraint.Asked.TheVariants as asked
use Rattle.zl_ast.specs.declared.constraint.Requirement.{Requirement}
use Rattle.zl_ast.specs.declared.operator.Prefix.{Prefix}
use Rattle.zl_ast.specs.declared.operator.Prefix.TheVariants as prefix_op
use Rattle.zl_ast.specs.declared.operator.FlowOp.{FlowOp}
use Rattle.zl_ast.specs.declared.operator.FlowOp.TheVariants as flow_op
use Rattle.zl_ast.specs.declared.expr.Expr.{Expr}
use Rattle.zl_ast.specs.declared.expr.Link.{Link, out-Link}
use Rattle.zl_ast.specs.declared.expr.Expr.TheOpen.{Expr-F, Link-F}
use Rattle.zl_ast.specs.declared.expr.Expr.TheOpen as open_expr
use Rattle.zl_ast.specs.declared.expr.Expr.TheFolds.{para-Expr, para-Link}
use Rattle.zl_ast.specs.declared.eqn.Eqn.{Eqn}
use Rattle.zl_ast.specs.declared.eqn.Arm.{Arm}
use Rattle.zl_ast.specs.declared.eqn.Body.{Body}
use Rattle.zl_ast.specs.declared.eqn.State.{State}
use Rattle.zl_ast.specs.declared.eqn.Cond.{Cond}
use Rattle.zl_ast.specs.declared.eqn.Cond.TheVariants.{Event, Test}
use Rattle.zl_ast.specs.declared.eqn.Up.{Up}
use Rattle.zl_ast.specs.declared.eqn.ResetArm.{ResetArm}
use Rattle.zl_ast.specs.declared.eqn.Move.{Move}
use Rattle.zl_ast.specs.declared.eqn.Eqn.TheOpen.{Eqn-F, Arm-F, Body-F, State-F}
use Rattle.zl_ast.specs.declared.eqn.Eqn.TheOpen as open_eqn
use Rattle.zl_ast.specs.declared.eqn.Eqn.TheFolds.{fold-Eqn, fold-Arm, fold-Body, fold-State}
use Rattle.zl_ast.specs.declared.program.Decl.{Decl}
use Rattle.zl_ast.specs.declared.program.Param.{Param}
use Rattle.zl_ast.specs.declared.program.Program.{Program}
use Rattle.zl_ast.specs.Names.{among, with_ids, ids_of, is_built_in}
use Rattle.zl_ast.specs.NamesDefined.{with_defined}
use Rattle.zl_ast.specs.NamesRules.{place_of, is_hybrid}
use Rattle.zl_ast.specs.Scopes.{variables}
use Rattle.zl_ast.specs.Anchored.{anchored, settled}

-- What is known of the names in a declaration.
pub record Known : Type 0 where
  -- the texts of the program's names
  pub names : List (List ℕ)
  -- the place of the variable with this number
  pub place : ℕ → Option Pos
  -- the variables that are anchored
  pub anchored : List ℕ
  -- the variables that are anchored or surely defined
  pub settled : List ℕ

-- a constraint of the construct at the one place, on what stands at the other
abbrev pub ask : Pos → Pos → Asked → Requirement
ask at node a = record { at = at; node = node; asked = a }

-- the construct at the place asks the same of what stands at each of these
abbrev pub ask_each : Pos → Asked → List Pos → List Requirement
ask_each at a nodes = map (λ p. ask at p a) nodes

-- what stands at the place is late where one of its parts is
abbrev pub late_where_each : Pos → List Pos → List Requirement
late_where_each at parts = map (λ p. ask at at (asked.LateWhere p)) parts

-- ---- expressions

-- The constraints in an expression, by the variables whose `last` is early although they aren't anchored.
abbrev pub Constraints : Type 0
Constraints = (ℕ → Bool) → List Requirement

-- a part of an expression, and the constraints in it
abbrev pub Part : Type 0
Part = Expr × Constraints

-- where a part stands
abbrev pub node : Part → Pos
node x = place_of x.0

-- a name that is read: it has the level of its variable, and a constant is early
abbrev pub read_constraint : Option Pos → Pos → Requirement
read_constraint None at = ask at at asked.Early
read_constraint (Some p) at = ask at at (asked.LateWhere p)

-- the variable of `last`
abbrev pub last_needs : Option Pos → Pos → List Requirement
last_needs None at = []
last_needs (Some p) at = ask at p asked.Early ∷ []

-- early, where it is known to be
abbrev pub early_or_late : Bool → Asked
early_or_late true = asked.Early
early_or_late false = asked.Late

-- A built-in function is late where its argument is, and any other call is early and wants early arguments.
abbrev pub call_constraints : Bool → Pos → List Pos → List Requirement
call_constraints true at parts = late_where_each at parts
call_constraints false at parts = ask at at asked.Early ∷ ask_each at asked.Early parts

-- `pre e` is late and wants e early, and any other operator is late where its operand is
abbrev pub prefix_constraints : Prefix → Pos → Pos → List Requirement
prefix_constraints prefix_op.Pre at x = ask at at asked.Late ∷ ask at x asked.Early ∷ []
prefix_constraints _ at x = ask at at (asked.LateWhere x) ∷ []

-- `x -> y` has the level of x, and so has `x fby y`, which wants y early
abbrev pub flow_constraints : FlowOp → Pos → Pos → Pos → List Requirement
flow_constraints flow_op.Arrow at x y = ask at at (asked.LateWhere x) ∷ []
flow_constraints flow_op.Fby at x y = ask at at (asked.LateWhere x) ∷ ask at y asked.Early ∷ []

-- the constraints in parts, one after the other
abbrev pub each_constraints : List Part → Constraints
each_constraints [] free = []
each_constraints (x ∷ xs) free = x.1 free ++ each_constraints xs free

-- an operator with its right operand, by the place of its left one
abbrev pub LinkPart : Type 0
LinkPart = Link × (Pos → Constraints)

-- operators with their right operands, by the place of the first left one
abbrev pub links_constraints : Pos → List LinkPart → Constraints
links_constraints left [] free = []
links_constraints left (l ∷ ls) free = l.1 left free ++ links_constraints (out-Link l.0).at ls free

module _ (k : Known) where
  -- `last x` wants x early
  abbrev pub last_constraints : Name → Pos → Constraints
  last_constraints x at free = last_needs (k.place x.id) at ++ ask at at (early_or_late (among k.anchored x.id || free x.id)) ∷ []

  -- Constraints in the order of the text: those of an operator stand between its operands.
  abbrev pub expr_step : Expr-F Part LinkPart → Constraints
  expr_step (open_expr.Lit v at) free = ask at at asked.Early ∷ []
  expr_step (open_expr.Var x) free = read_constraint (k.place x.id) x.at ∷ []
  expr_step (open_expr.Last x at) free = last_constraints x at free
  expr_step (open_expr.Call f args) free = call_constraints (is_built_in k.names f.id) f.at (map node args) ++ each_constraints args free
  expr_step (open_expr.Prefix op at x) free = prefix_constraints op at (node x) ++ x.1 free
  expr_step (open_expr.Chain x ls) free = x.1 free ++ links_constraints (node x) ls free
  expr_step (open_expr.Flow op at x y) free = x.1 free ++ (flow_constraints op at (node x) (node y) ++ y.1 free)
  expr_step (open_expr.If at c x y) free = late_where_each at (node c ∷ node x ∷ node y ∷ []) ++ (c.1 free ++ (x.1 free ++ y.1 free))

  -- an operator of a chain is late where one of its operands is
  abbrev pub link_step : Link-F Part LinkPart → Pos → Constraints
  link_step l left free = late_where_each l.at (left ∷ node l.arg ∷ []) ++ l.arg.1 free

  unfoldable pub expr_constraints : Expr → Constraints
  expr_constraints = para-Expr Constraints (Pos → Constraints) expr_step link_step

  unfoldable pub link_constraints : Link → Pos → Constraints
  link_constraints = para-Link Constraints (Pos → Constraints) expr_step link_step

  -- operators with their right operands, by the place of the first left one
  abbrev pub links_of : Pos → List Link → Constraints
  links_of left [] free = []
  links_of left (l ∷ ls) free = link_constraints l left free ++ links_of (out-Link l).at ls free

  -- expressions, one after the other
  abbrev pub exprs_constraints : List Expr → Constraints
  exprs_constraints [] free = []
  exprs_constraints (x ∷ xs) free = expr_constraints x free ++ exprs_constraints xs free

-- ---- equations

-- Where a list of equations stands.
pub record Setting : Type 0 where
  -- in hybrid context
  pub hybrid : Bool
  -- in an arm of a `present` in hybrid context
  pub handler : Bool
  -- the locals that are declared around it, in such an arm those inside the arm
  pub inside : List ℕ
  -- the variables that the body whose list it is declares
  pub own : List ℕ

-- The constraints in equations, by where they stand.
abbrev pub Needs : Type 0
Needs = Setting → List Requirement

-- In an arm of a `present` in hybrid context `last` is early of what isn't declared inside the arm.
abbrev pub free_at : Bool → List ℕ → ℕ → Bool
free_at handler inside id = handler && not (among inside id)

-- the same of a setting
abbrev pub free_in : Setting → ℕ → Bool
free_in s = free_at s.handler s.inside

-- in a reset value `last` is always early
abbrev pub all_free : ℕ → Bool
all_free id = true

-- the arms of a `present`
abbrev pub in_arm : Setting → Setting
in_arm s = if s.hybrid then record { hybrid = false; handler = true; inside = []; own = [] } else s

-- the equations of a body with these locals
abbrev pub within : List Name → Setting → Setting
within locals s = record { hybrid = s.hybrid; handler = s.handler; inside = with_ids s.inside (ids_of locals); own = with_ids [] (ids_of locals) }

-- the equations of a `reset` block: they are no list of a body
abbrev pub in_reset : Setting → Setting
in_reset s = record { hybrid = s.hybrid; handler = s.handler; inside = s.inside; own = [] }

-- equations, arms or states, one after the other
abbrev pub all_needs : List Needs → Needs
all_needs [] s = []
all_needs (n ∷ ns) s = n s ++ all_needs ns s

-- a body: its locals, and the constraints in its equations
pub record BodyNeeds : Type 0 where
  pub locals : List Name
  pub equations : Needs

-- the two places are one
abbrev pub same_place : Pos → Pos → Bool
same_place p q = nat_eq p.line q.line && nat_eq p.column q.column

-- this is the place of the variable
abbrev pub is_place : Option Pos → Pos → Bool
is_place None at = false
is_place (Some p) at = same_place p at

-- `x = e` by the place of e: in the list of the body that declares x it is late where e is, and elsewhere e has to be early
abbrev pub defined_needs : Option Pos → Bool → Pos → Pos → List Requirement
defined_needs place false at e = ask at e asked.Early ∷ []
defined_needs None true at e = []
defined_needs (Some p) true at e = ask at p (asked.LateWhere e) ∷ []

-- where the `init` value of a `der` stands
abbrev pub start_places : Option Expr → List Pos
start_places None = []
start_places (Some x) = place_of x ∷ []

-- where the reset values of a `der` stand
abbrev pub reset_places : List ResetArm → List Pos
reset_places rs = map (λ r. place_of r.value) rs

module _ (k : Known) where
  -- The place of a variable that is neither anchored nor surely defined: no levels will do.
  abbrev pub unsettled : Name → List Requirement
  unsettled x = if is_place (k.place x.id) x.at && not (among k.settled x.id) then ask x.at x.at asked.Never ∷ [] else []

  -- the same of names, one after the other
  abbrev pub all_unsettled : List Name → List Requirement
  all_unsettled [] = []
  all_unsettled (x ∷ xs) = unsettled x ++ all_unsettled xs

  -- the names on the left of a plain equation at a place, by the place of its right side
  abbrev pub each_defined : List ℕ → Pos → Pos → List Name → List Requirement
  each_defined own at e [] = []
  each_defined own at e (x ∷ xs) = defined_needs (k.place x.id) (among own x.id) at e ++ each_defined own at e xs

  -- a plain equation stands at its first name
  abbrev pub left_needs : List Name → Pos → List ℕ → List Requirement
  left_needs [] e own = []
  left_needs (x ∷ xs) e own = each_defined own x.at e (x ∷ xs) ++ all_unsettled (x ∷ xs)

  -- the argument of `up` has to be early
  abbrev pub ups_constraints : List Up → Constraints
  ups_constraints [] free = []
  ups_constraints (u ∷ us) free = ask u.at (place_of u.arg) asked.Early ∷ (expr_constraints k u.arg free ++ ups_constraints us free)

  -- a test has to be early
  abbrev pub cond_constraints : Cond → Constraints
  cond_constraints (Event ups) free = ups_constraints ups free
  cond_constraints (Test at x) free = ask at (place_of x) asked.Early ∷ expr_constraints k x free

  -- the `init` value of a `der`
  abbrev pub start_constraints : Option Expr → Constraints
  start_constraints None free = []
  start_constraints (Some x) free = expr_constraints k x free

  -- the events and the reset values of a `der`
  abbrev pub resets_constraints : List ResetArm → Constraints
  resets_constraints [] free = []
  resets_constraints (r ∷ rs) free = ups_constraints r.event free ++ (expr_constraints k r.value all_free ++ resets_constraints rs free)

  -- the conditions of moves
  abbrev pub moves_constraints : List Move → Constraints
  moves_constraints [] free = []
  moves_constraints (m ∷ ms) free = cond_constraints m.cond free ++ moves_constraints ms free

  -- a body: the places of its locals, and its equations
  abbrev pub inside_body : BodyNeeds → Needs
  inside_body b s = all_unsettled b.locals ++ b.equations (within b.locals s)

  -- the body behind `else`
  abbrev pub other_needs : Option BodyNeeds → Needs
  other_needs None s = []
  other_needs (Some b) s = inside_body b (in_arm s)

  -- Derivatives, `init` values and reset values have to be early.
  abbrev pub eqn_step : Eqn-F Needs Needs BodyNeeds Needs → Needs
  eqn_step (open_eqn.Plain left right) s = left_needs left (place_of right) s.own ++ expr_constraints k right (free_in s)
  eqn_step (open_eqn.Der at x slope start resets) s =
      ask_each at asked.Early (place_of slope ∷ (start_places start ++ reset_places resets))
      ++ (unsettled x ++ (expr_constraints k slope (free_in s) ++ (start_constraints start (free_in s) ++ resets_constraints resets (free_in s))))
  eqn_step (open_eqn.Start at x value) s = ask at (place_of value) asked.Early ∷ (unsettled x ++ expr_constraints k value (free_in s))
  eqn_step (open_eqn.Present at arms other) s = all_needs arms s ++ other_needs other s
  eqn_step (open_eqn.Automaton at states) s = all_needs states s
  eqn_step (open_eqn.Reset at eqs c) s = all_needs eqs (in_reset s) ++ cond_constraints c (free_in s)

  abbrev pub arm_step : Arm-F Needs Needs BodyNeeds Needs → Needs
  arm_step a s = cond_constraints a.cond (free_in s) ++ inside_body a.body (in_arm s)

  abbrev pub body_step : Body-F Needs Needs BodyNeeds Needs → BodyNeeds
  body_step b = record { locals = b.locals; equations = all_needs b.eqs }

  -- the conditions of a state's moves stand inside its body
  abbrev pub state_step : State-F Needs Needs BodyNeeds Needs → Needs
  state_step t s = inside_body t.body s ++ moves_constraints t.moves (free_in (within t.body.locals s))

  unfoldable pub eqn_needs : Eqn → Needs
  eqn_needs = fold-Eqn Needs Needs BodyNeeds Needs eqn_step arm_step body_step state_step

  unfoldable pub arm_needs : Arm → Needs
  arm_needs = fold-Arm Needs Needs BodyNeeds Needs eqn_step arm_step body_step state_step

  unfoldable pub body_needs : Body → BodyNeeds
  body_needs = fold-Body Needs Needs BodyNeeds Needs eqn_step arm_step body_step state_step

  unfoldable pub state_needs : State → Needs
  state_needs = fold-State Needs Needs BodyNeeds Needs eqn_step arm_step body_step state_step

  -- a list of equations
  abbrev pub eqns_needs : List Eqn → Needs
  eqns_needs es = all_needs (map eqn_needs es)

  -- a body in its setting
  unfoldable pub in_body : Body → Needs
  in_body b = inside_body (body_needs b)

  abbrev pub in_other : Option Body → Needs
  in_other None s = []
  in_other (Some b) s = in_body b (in_arm s)

-- ---- declarations

-- the place of a variable, where others have these
abbrev pub with_place : (ℕ → Option Pos) → VarInfo → ℕ → Option Pos
with_place place v id = if nat_eq v.name id then Some v.at else place id

-- the same of variables, one after the other
abbrev pub with_places : (ℕ → Option Pos) → List VarInfo → ℕ → Option Pos
with_places place [] = place
with_places place (v ∷ vs) = with_places (with_place place v) vs

-- what is known in a declaration, in a program with these names
abbrev pub known_in : List (List ℕ) → Decl → Known
known_in names d =
    record {
      names = names;
      place = with_places (λ q. None) (variables d);
      anchored = with_ids [] (anchored d.eqs);
      settled = with_ids [] (settled d.eqs);
    }

-- where the equations of a declaration stand
abbrev pub setting_of : Decl → Setting
setting_of d = record { hybrid = is_hybrid d.kind; handler = false; inside = []; own = with_defined [] (variables d) }

-- a parameter is early
abbrev pub params_needs : List Param → List Requirement
params_needs ps = map (λ p. ask p.name.at p.name.at asked.Early) ps

-- The constraints in a declaration, by what is known in it and where its equations stand: that its results are early, its
-- parameters, its results, its equations. No answer depends on where the first of these stand.
unfoldable pub decl_parts : Known → Setting → Decl → List Requirement
decl_parts k s d =
    ask_each d.name.at asked.Early (map place_of d.results)
    ++ (params_needs d.params ++ (exprs_constraints k d.results (free_in s) ++ eqns_needs k d.eqs s))

-- the constraints in a declaration, in a program with these names
unfoldable pub decl_requirements : List (List ℕ) → Decl → List Requirement
decl_requirements names d = decl_parts (known_in names d) (setting_of d) d

-- the constraints in declarations, one after the other
abbrev pub decls_requirements : List (List ℕ) → List Decl → List Requirement
decls_requirements names [] = []
decls_requirements names (d ∷ ds) = decl_requirements names d ++ decls_requirements names ds

-- the constraints in a program
abbrev pub requirements : Program → List Requirement
requirements p = decls_requirements p.names p.decls
