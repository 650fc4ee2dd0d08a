-- The equalities of types that a program gives, in the order of the text. A variable is named by the place where it is first
-- declared or defined, and an occurrence by its own place. The rules are this project's own, after Zélus.
use Rattle.std.specs.Prelude.{ℕ, nat_eq, if◌then◌else◌, codes, List, [], ◌∷◌, ◌++◌, map, Option, Some, None}
use Rattle.zl_value.specs.declared.position.Pos.{Pos}
use Rattle.zl_value.specs.declared.value.Ty.{Ty}
use Rattle.zl_value.specs.declared.value.Ty.TheVariants as ty
use Rattle.zl_value.specs.declared.value.Value.{Value}
use Rattle.zl_value.specs.declared.value.Value.TheVariants as value
use Rattle.zl_ast.specs.declared.constraint.Side.TheVariants as side
use Rattle.zl_ast.specs.declared.constraint.Equality.{Equality}
use Rattle.zl_ast.specs.declared.scope.VarInfo.{VarInfo}
use Rattle.zl_ast.specs.declared.name.Name.{Name}
use Rattle.zl_ast.specs.declared.operator.Infix.{Infix}
use Rattle.zl_ast.specs.declared.operator.Infix.TheVariants as infix_op
use Rattle.zl_ast.specs.declared.operator.Prefix.{Prefix}
use Rattle.zl_ast.specs.declared.operator.Prefix.TheVariants as prefix_op
use Rattle.zl_ast.specs.declared.expr.Expr.{Expr}
use Rattle.zl_ast.specs.declared.expr.Link.{Link}
use Rattle.zl_ast.specs.declared.expr.Expr.TheOpen.{Expr-F, Link-F}
use Rattle.zl_ast.specs.declared.expr.Expr.TheOpen as open_expr
use Rattle.zl_ast.specs.declared.expr.Expr.TheFolds.{fold-Expr, fold-Link}
use Rattle.zl_ast.specs.declared.eqn.Eqn.{Eqn}
use Rattle.zl_ast.specs.declared.eqn.Arm.{Arm}
use Rattle.zl_ast.specs.declared.eqn.Body.{Body}
use Rattle.zl_ast.specs.declared.eqn.State.{State}
use Rattle.zl_ast.specs.declared.eqn.Cond.{Cond}
use Rattle.zl_ast.specs.declared.eqn.Cond.TheVariants.{Event, Test}
use Rattle.zl_ast.specs.declared.eqn.Up.{Up}
use Rattle.zl_ast.specs.declared.eqn.ResetArm.{ResetArm}
use Rattle.zl_ast.specs.declared.eqn.Move.{Move}
use Rattle.zl_ast.specs.declared.eqn.Eqn.TheOpen.{Eqn-F, Arm-F, Body-F, State-F}
use Rattle.zl_ast.specs.declared.eqn.Eqn.TheOpen as open_eqn
use Rattle.zl_ast.specs.declared.eqn.Eqn.TheFolds.{fold-Eqn, fold-Arm, fold-Body, fold-State}
use Rattle.zl_ast.specs.declared.program.Decl.{Decl}
use Rattle.zl_ast.specs.declared.program.Param.{Param}
use Rattle.zl_ast.specs.declared.program.Program.{Program}
use Rattle.zl_ast.specs.Names.{has_text}
use Rattle.zl_ast.specs.NamesRules.{place_of, last_place}
use Rattle.zl_ast.specs.Scopes.{variables}
use Rattle.zl_ast.specs.Assignments.{joined}

-- ---- what is known of names

-- The places of a declaration's parameters, and of its results.
pub record Signature : Type 0 where
  pub params : List Pos
  pub results : List Pos

-- what belongs to the number of a name
abbrev pub Table : Type 0 → Type 0
Table A = ℕ → Option A

-- for no number
abbrev pub nothing : {A : Type 0} → Table A
nothing id = None

-- with one entry more, in place of any other at this number
abbrev pub with_entry : {A : Type 0} → Table A → ℕ → A → Table A
with_entry t id x = λ q. if nat_eq id q then Some x else t q

-- with the places of these variables
abbrev pub with_places : Table Pos → List VarInfo → Table Pos
with_places t [] = t
with_places t (v ∷ vs) = with_places (with_entry t v.name v.at) vs

-- What the names in a declaration stand for.
pub record Environment : Type 0 where
  -- the texts of names
  pub names : List (List ℕ)
  -- the places of the declaration's variables
  pub variables : Table Pos
  -- the declarations before it
  pub declared : Table Signature

-- ---- equalities

-- what stands at the node has this type
abbrev pub fixed : Pos → Ty → Pos → Equality
fixed at t node = record { at = at; node = node; side = side.Fixed t }

-- what stands at the node has the type of the other
abbrev pub same : Pos → Pos → Pos → Equality
same at node other = record { at = at; node = node; side = side.SameAs other }

-- each pair of one type
abbrev pub same_pairs : Pos → List Pos → List Pos → List Equality
same_pairs at (p ∷ ps) (q ∷ qs) = same at p q ∷ same_pairs at ps qs
same_pairs at _ _ = []

-- the place that was found, if there is one
abbrev pub found : Option Pos → List Pos
found None = []
found (Some p) = p ∷ []

-- of one type with what was found
abbrev pub same_as_found : Pos → Pos → Option Pos → List Equality
same_as_found at node place = map (same at node) (found place)

-- ---- operators

-- the type of a literal
abbrev pub type_of : Value → Ty
type_of (value.B b) = ty.Bool
type_of (value.I i) = ty.Int
type_of (value.F f) = ty.Float

-- an operator before its operand
abbrev pub prefix_equalities : Prefix → Pos → Pos → List Equality
prefix_equalities prefix_op.Minus at x = fixed at ty.Int x ∷ fixed at ty.Int at ∷ []
prefix_equalities prefix_op.MinusDot at x = fixed at ty.Float x ∷ fixed at ty.Float at ∷ []
prefix_equalities prefix_op.Not at x = fixed at ty.Bool x ∷ fixed at ty.Bool at ∷ []
prefix_equalities prefix_op.Pre at x = same at at x ∷ []

-- the one type of an operator's operands and result; a comparison has none
abbrev pub type_of_all : Infix → Option Ty
type_of_all infix_op.Or = Some ty.Bool
type_of_all infix_op.And = Some ty.Bool
type_of_all infix_op.Equal = None
type_of_all infix_op.Unequal = None
type_of_all infix_op.Less = None
type_of_all infix_op.AtMost = None
type_of_all infix_op.Greater = None
type_of_all infix_op.AtLeast = None
type_of_all infix_op.Plus = Some ty.Int
type_of_all infix_op.Minus = Some ty.Int
type_of_all infix_op.PlusDot = Some ty.Float
type_of_all infix_op.MinusDot = Some ty.Float
type_of_all infix_op.Star = Some ty.Int
type_of_all infix_op.Slash = Some ty.Int
type_of_all infix_op.Mod = Some ty.Int
type_of_all infix_op.StarDot = Some ty.Float
type_of_all infix_op.SlashDot = Some ty.Float

-- An operator between two operands. A comparison takes two operands of one type, and its result is bool.
abbrev pub infix_equalities : Option Ty → Pos → Pos → Pos → List Equality
infix_equalities (Some t) left at right = fixed at t left ∷ fixed at t right ∷ fixed at t at ∷ []
infix_equalities None left at right = same at left right ∷ fixed at ty.Bool at ∷ []

-- an operator all of whose parts and whose result have one type
abbrev pub both_same : Pos → Pos → Pos → List Equality
both_same at left right = same at at left ∷ same at at right ∷ []

-- a condition and two branches
abbrev pub if_equalities : Pos → Pos → Pos → Pos → List Equality
if_equalities at c x y = fixed at ty.Bool c ∷ both_same at x y

-- ---- calls

-- the first result of a declaration
abbrev pub first_result : Option Signature → Option Pos
first_result None = None
first_result (Some s) = first_of s.results
  where
    first_of : List Pos → Option Pos
    first_of [] = None
    first_of (p ∷ ps) = Some p

-- a function from one type to another
abbrev pub from_to : Ty → Ty → Pos → List Pos → List Equality
from_to t u at args = map (fixed at t) args ++ fixed at u at ∷ []

-- the functions that every program has
abbrev pub built_in_call : List (List ℕ) → Name → List Pos → List Equality
built_in_call names f args =
    if has_text names f.id (codes "float_of_int") then from_to ty.Int ty.Float f.at args
    else (if has_text names f.id (codes "truncate") then from_to ty.Float ty.Int f.at args else [])

-- Arguments as parameters, and the call itself as the first result.
abbrev pub call_equalities : Environment → Name → List Pos → Option Signature → List Equality
call_equalities e f args None = built_in_call e.names f args
call_equalities e f args (Some s) = same_pairs f.at args s.params ++ same_as_found f.at f.at (first_result (Some s))

-- ---- expressions

-- An expression: its place, and its equalities in the order of the text.
pub record Part : Type 0 where
  pub at : Pos
  pub equalities : List Equality

-- an operator with its right operand
pub record LinkPart : Type 0 where
  pub op : Infix
  pub at : Pos
  pub right : Part

-- the places of parts, and their equalities
abbrev pub places : List Part → List Pos
places xs = map (λ x. x.at) xs

abbrev pub all_equalities : List Part → List Equality
all_equalities xs = joined (map (λ x. x.equalities) xs)

-- Operators from the left, behind a left operand with this place. The result of each is the left operand of the next.
abbrev pub links_equalities : Pos → List LinkPart → List Equality
links_equalities left [] = []
links_equalities left (l ∷ ls) = infix_equalities (type_of_all l.op) left l.at l.right.at ++ (l.right.equalities ++ links_equalities l.at ls)

-- a name that is read: a variable, or else a constant
abbrev pub or_constant : Option Pos → Option Signature → Option Pos
or_constant (Some p) s = Some p
or_constant None s = first_result s

module _ (e : Environment) where
  -- what gives its type to a name that is read
  abbrev pub read_place : Name → Option Pos
  read_place x = or_constant (e.variables x.id) (e.declared x.id)

  -- By its form. What it says of its parts comes before theirs, but for operators between operands.
  abbrev pub expr_step : Expr-F Part LinkPart → Part
  expr_step (open_expr.Lit v at) = record { at = at; equalities = fixed at (type_of v) at ∷ [] }
  expr_step (open_expr.Var x) = record { at = x.at; equalities = same_as_found x.at x.at (read_place x) }
  expr_step (open_expr.Last x at) = record { at = at; equalities = same_as_found at at (e.variables x.id) }
  expr_step (open_expr.Call f args) = record { at = f.at; equalities = call_equalities e f (places args) (e.declared f.id) ++ all_equalities args }
  expr_step (open_expr.Prefix op at x) = record { at = at; equalities = prefix_equalities op at x.at ++ x.equalities }
  expr_step (open_expr.Chain x ls) = record { at = last_place x.at (map (λ l. l.at) ls); equalities = x.equalities ++ links_equalities x.at ls }
  expr_step (open_expr.Flow op at x y) = record { at = at; equalities = x.equalities ++ (both_same at x.at y.at ++ y.equalities) }
  expr_step (open_expr.If at c x y) =
      record { at = at; equalities = if_equalities at c.at x.at y.at ++ (c.equalities ++ (x.equalities ++ y.equalities)) }

  abbrev pub link_step : Link-F Part LinkPart → LinkPart
  link_step l = record { op = l.op; at = l.at; right = l.arg }

  -- down an expression
  unfoldable pub expr_part : Expr → Part
  expr_part = fold-Expr Part LinkPart expr_step link_step

  unfoldable pub link_part : Link → LinkPart
  link_part = fold-Link Part LinkPart expr_step link_step

  abbrev pub expr_equalities : Expr → List Equality
  expr_equalities x = (expr_part x).equalities

  abbrev pub exprs_equalities : List Expr → List Equality
  exprs_equalities xs = joined (map expr_equalities xs)

-- ---- equations

-- the name that an expression calls, if it is a call
abbrev pub called_step : Expr-F (Option Name) (Option Name) → Option Name
called_step (open_expr.Call f args) = Some f
called_step _ = None

unfoldable pub called : Expr → Option Name
called = fold-Expr (Option Name) (Option Name) called_step (λ l. None)

-- the places of all results
abbrev pub results_of : Option Signature → List Pos
results_of None = []
results_of (Some s) = s.results

-- those of a part that may be absent
abbrev pub if_any : Option (List Equality) → List Equality
if_any None = []
if_any (Some es) = es

-- the place of an `init` part, and those of reset values
abbrev pub start_places : Option Expr → List Pos
start_places None = []
start_places (Some x) = place_of x ∷ []

abbrev pub reset_places : List ResetArm → List Pos
reset_places resets = map (λ r. place_of r.value) resets

-- what has the type of a variable with a `der`: the variable, if it was found, and all parts
abbrev pub der_places : Option Pos → Expr → Option Expr → List ResetArm → List Pos
der_places variable slope start resets = found variable ++ (place_of slope ∷ (start_places start ++ reset_places resets))

module _ (e : Environment) where
  -- several names on the left of a call, each as the result that it stands for
  abbrev pub names_equalities : Pos → List Name → List Pos → List Equality
  names_equalities at (x ∷ xs) (r ∷ rs) = same_as_found at r (e.variables x.id) ++ names_equalities at xs rs
  names_equalities at _ _ = []

  -- several names on the left, where this name is called
  abbrev pub several_equalities : List Name → Option Name → List Equality
  several_equalities left None = []
  several_equalities left (Some f) = names_equalities f.at left (results_of (e.declared f.id))

  -- the two sides of a plain equation
  abbrev pub sides_equalities : List Name → Expr → List Equality
  sides_equalities (x ∷ []) right = same_as_found x.at (place_of right) (e.variables x.id)
  sides_equalities left right = several_equalities left (called right)

  -- the argument of `up` is float
  abbrev pub up_equalities : Up → List Equality
  up_equalities u = fixed u.at ty.Float (place_of u.arg) ∷ expr_equalities e u.arg

  abbrev pub ups_equalities : List Up → List Equality
  ups_equalities ups = joined (map up_equalities ups)

  -- a test is bool: its parenthesis asks that
  abbrev pub test_equalities : Pos → Expr → List Equality
  test_equalities at x = fixed at ty.Bool (place_of x) ∷ expr_equalities e x

  -- a condition: an event or a test
  abbrev pub cond_equalities : Cond → List Equality
  cond_equalities (Event ups) = ups_equalities ups
  cond_equalities (Test at x) = test_equalities at x

  -- the `init` part of a `der`
  abbrev pub start_equalities : Option Expr → List Equality
  start_equalities None = []
  start_equalities (Some x) = expr_equalities e x

  -- a reset value with its event
  abbrev pub reset_arm_equalities : ResetArm → List Equality
  reset_arm_equalities r = ups_equalities r.event ++ expr_equalities e r.value

  -- the conditions of transitions
  abbrev pub moves_equalities : List Move → List Equality
  moves_equalities ms = joined (map (λ m. cond_equalities m.cond) ms)

  -- By its form. What it says of its parts comes before theirs.
  abbrev pub eqn_step : Eqn-F (List Equality) (List Equality) (List Equality) (List Equality) → List Equality
  eqn_step (open_eqn.Plain left right) = sides_equalities left right ++ expr_equalities e right
  eqn_step (open_eqn.Der at x slope start resets) =
      map (fixed at ty.Float) (der_places (e.variables x.id) slope start resets)
      ++ (expr_equalities e slope ++ (start_equalities start ++ joined (map reset_arm_equalities resets)))
  eqn_step (open_eqn.Start at x value) = same_as_found at (place_of value) (e.variables x.id) ++ expr_equalities e value
  eqn_step (open_eqn.Present at arms other) = joined arms ++ if_any other
  eqn_step (open_eqn.Automaton at states) = joined states
  eqn_step (open_eqn.Reset at eqs c) = joined eqs ++ cond_equalities c

  abbrev pub arm_step : Arm-F (List Equality) (List Equality) (List Equality) (List Equality) → List Equality
  arm_step a = cond_equalities a.cond ++ a.body

  abbrev pub body_step : Body-F (List Equality) (List Equality) (List Equality) (List Equality) → List Equality
  body_step b = joined b.eqs

  abbrev pub state_step : State-F (List Equality) (List Equality) (List Equality) (List Equality) → List Equality
  state_step s = s.body ++ moves_equalities s.moves

  -- down an equation
  unfoldable pub eqn_equalities : Eqn → List Equality
  eqn_equalities = fold-Eqn (List Equality) (List Equality) (List Equality) (List Equality) eqn_step arm_step body_step state_step

  unfoldable pub arm_equalities : Arm → List Equality
  arm_equalities = fold-Arm (List Equality) (List Equality) (List Equality) (List Equality) eqn_step arm_step body_step state_step

  unfoldable pub body_equalities : Body → List Equality
  body_equalities = fold-Body (List Equality) (List Equality) (List Equality) (List Equality) eqn_step arm_step body_step state_step

  unfoldable pub state_equalities : State → List Equality
  state_equalities = fold-State (List Equality) (List Equality) (List Equality) (List Equality) eqn_step arm_step body_step state_step

  -- the body behind an `else`
  abbrev pub other_equalities : Option Body → List Equality
  other_equalities None = []
  other_equalities (Some b) = body_equalities b

  abbrev pub eqns_equalities : List Eqn → List Equality
  eqns_equalities es = joined (map eqn_equalities es)

-- ---- declarations

-- an annotation fixes its parameter
abbrev pub annotation : Pos → Option Ty → List Equality
annotation at None = []
annotation at (Some t) = fixed at t at ∷ []

abbrev pub params_equalities : List Param → List Equality
params_equalities params = joined (map (λ p. annotation p.name.at p.ty) params)

-- a declaration: its parameters, its results and its equations
abbrev pub decl_equalities : Environment → Decl → List Equality
decl_equalities e d = params_equalities d.params ++ (exprs_equalities e d.results ++ eqns_equalities e d.eqs)

-- what a call of a declaration speaks of
abbrev pub signature_of : Decl → Signature
signature_of d = record { params = map (λ p. p.name.at) d.params; results = map place_of d.results }

-- before the first declaration
abbrev pub before_all : List (List ℕ) → Environment
before_all names = record { names = names; variables = nothing; declared = nothing }

-- in a declaration with these variables
abbrev pub with_variables : Environment → List VarInfo → Environment
with_variables e vs = record { names = e.names; variables = with_places nothing vs; declared = e.declared }

-- behind a declaration
abbrev pub with_declared : Environment → Decl → Environment
with_declared e d = record { names = e.names; variables = e.variables; declared = with_entry e.declared d.name.id (signature_of d) }

-- declarations, in what stands before them
abbrev pub decls_equalities : Environment → List Decl → List Equality
decls_equalities e [] = []
decls_equalities e (d ∷ ds) =
    let inside = with_variables e (variables d) in
    decl_equalities inside d ++ decls_equalities (with_declared inside d) ds

-- the equalities of types of a program
abbrev pub equalities : Program → List Equality
equalities p = decls_equalities (before_all p.names) p.decls
