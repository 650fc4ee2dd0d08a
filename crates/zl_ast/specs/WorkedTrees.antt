-- How worked programs are written: a word for each construct, its line and column behind it, then its parts. A name is its
-- number, its line and its column. Each node is rolled from its layer, which is the same node as its variant gives, since the
-- definitions compute on rolled ones.
use Rattle.std.specs.Prelude.{ℕ, suc, pos, true, false, Bool, List, [], ◌∷◌, Option}
use Rattle.zl_value.specs.Fraction.{neg, whole}
use Rattle.zl_value.specs.declared.position.Pos.{Pos}
use Rattle.zl_value.specs.declared.value.Ty.{Ty}
use Rattle.zl_value.specs.declared.value.Value.{Value}
use Rattle.zl_value.specs.declared.value.Value.TheVariants.{B, I, F}
use Rattle.zl_ast.specs.declared.name.Name.{Name}
use Rattle.zl_ast.specs.declared.operator.Prefix.TheVariants.{Minus, MinusDot, Not, Pre}
use Rattle.zl_ast.specs.declared.operator.Infix.{Infix}
use Rattle.zl_ast.specs.declared.operator.FlowOp.TheVariants.{Arrow, Fby}
use Rattle.zl_ast.specs.declared.expr.Expr.{Expr, roll-Expr}
use Rattle.zl_ast.specs.declared.expr.Expr.TheOpen as open_expr
use Rattle.zl_ast.specs.declared.expr.Link.{Link, roll-Link}
use Rattle.zl_ast.specs.declared.eqn.Eqn.{Eqn, roll-Eqn}
use Rattle.zl_ast.specs.declared.eqn.Eqn.TheOpen as open_eqn
use Rattle.zl_ast.specs.declared.eqn.Arm.{Arm}
use Rattle.zl_ast.specs.declared.eqn.Body.{Body}
use Rattle.zl_ast.specs.declared.eqn.State.{State}
use Rattle.zl_ast.specs.declared.eqn.Cond.{Cond}
use Rattle.zl_ast.specs.declared.eqn.Cond.TheVariants.{Event, Test}
use Rattle.zl_ast.specs.declared.eqn.Up.{Up}
use Rattle.zl_ast.specs.declared.eqn.ResetArm.{ResetArm}
use Rattle.zl_ast.specs.declared.eqn.Move.{Move}
use Rattle.zl_ast.specs.declared.program.Decl.{Decl}
use Rattle.zl_ast.specs.declared.program.DeclKind.{DeclKind}
use Rattle.zl_ast.specs.declared.program.DeclKind.TheVariants.{Constant, Hybrid}
use Rattle.zl_ast.specs.declared.program.Param.{Param}
use Rattle.zl_ast.specs.declared.program.Program.{Program}

abbrev pub at : ℕ → ℕ → Pos
at line column = record { line = line; column = column }

abbrev pub name : ℕ → ℕ → ℕ → Name
name id line column = record { id = id; at = at line column }

-- ---- expressions

abbrev pub literal : Value → ℕ → ℕ → Expr
literal v line column = roll-Expr (open_expr.Lit v (at line column))

abbrev pub int : ℕ → ℕ → ℕ → Expr
int i = literal (I (pos i))

abbrev pub float : ℕ → ℕ → ℕ → Expr
float n = literal (F (whole (pos n)))

abbrev pub negative : ℕ → ℕ → ℕ → Expr
negative n = literal (F (neg (whole (pos n))))

abbrev pub bool : Bool → ℕ → ℕ → Expr
bool b = literal (B b)

abbrev pub var : ℕ → ℕ → ℕ → Expr
var id line column = roll-Expr (open_expr.Var (name id line column))

abbrev pub last : ℕ → ℕ → Name → Expr
last line column x = roll-Expr (open_expr.Last x (at line column))

abbrev pub call : Name → List Expr → Expr
call f args = roll-Expr (open_expr.Call f args)

abbrev pub minus : ℕ → ℕ → Expr → Expr
minus line column x = roll-Expr (open_expr.Prefix Minus (at line column) x)

abbrev pub minus_dot : ℕ → ℕ → Expr → Expr
minus_dot line column x = roll-Expr (open_expr.Prefix MinusDot (at line column) x)

abbrev pub negation : ℕ → ℕ → Expr → Expr
negation line column x = roll-Expr (open_expr.Prefix Not (at line column) x)

-- `pre`
abbrev pub before : ℕ → ℕ → Expr → Expr
before line column x = roll-Expr (open_expr.Prefix Pre (at line column) x)

-- an operator with its right operand
abbrev pub op : Infix → ℕ → ℕ → Expr → Link
op o line column x = roll-Link (record { op = o; at = at line column; arg = x })

abbrev pub chain : Expr → List Link → Expr
chain x links = roll-Expr (open_expr.Chain x links)

abbrev pub arrow : ℕ → ℕ → Expr → Expr → Expr
arrow line column x y = roll-Expr (open_expr.Flow Arrow (at line column) x y)

-- `fby`
abbrev pub followed : ℕ → ℕ → Expr → Expr → Expr
followed line column x y = roll-Expr (open_expr.Flow Fby (at line column) x y)

-- `if`
abbrev pub choice : ℕ → ℕ → Expr → Expr → Expr → Expr
choice line column c x y = roll-Expr (open_expr.If (at line column) c x y)

-- ---- equations

abbrev pub plains : List Name → Expr → Eqn
plains left right = roll-Eqn (open_eqn.Plain left right)

abbrev pub plain : Name → Expr → Eqn
plain x = plains (x ∷ [])

abbrev pub init : ℕ → ℕ → Name → Expr → Eqn
init line column x value = roll-Eqn (open_eqn.Start (at line column) x value)

abbrev pub up : ℕ → ℕ → Expr → Up
up line column x = record { at = at line column; arg = x }

abbrev pub event : List Up → Cond
event = Event

abbrev pub test : ℕ → ℕ → Expr → Cond
test line column x = Test (at line column) x

-- a reset value with its event
abbrev pub becomes : List Up → Expr → ResetArm
becomes ups x = record { event = ups; value = x }

abbrev pub der : ℕ → ℕ → Name → Expr → Option Expr → List ResetArm → Eqn
der line column x slope start resets = roll-Eqn (open_eqn.Der (at line column) x slope start resets)

abbrev pub present : ℕ → ℕ → List Arm → Option Body → Eqn
present line column arms other = roll-Eqn (open_eqn.Present (at line column) arms other)

abbrev pub automaton : ℕ → ℕ → List State → Eqn
automaton line column states = roll-Eqn (open_eqn.Automaton (at line column) states)

abbrev pub reset : ℕ → ℕ → List Eqn → Cond → Eqn
reset line column eqs c = roll-Eqn (open_eqn.Reset (at line column) eqs c)

abbrev pub move : Bool → Bool → ℕ → ℕ → Cond → Name → Move
move strong fresh line column c to = record { strong = strong; reset = fresh; at = at line column; cond = c; target = to }

abbrev pub until_then : ℕ → ℕ → Cond → Name → Move
until_then = move false true

abbrev pub until_continue : ℕ → ℕ → Cond → Name → Move
until_continue = move false false

abbrev pub unless_then : ℕ → ℕ → Cond → Name → Move
unless_then = move true true

abbrev pub unless_continue : ℕ → ℕ → Cond → Name → Move
unless_continue = move true false

-- ---- declarations

abbrev pub constant : Name → Expr → Decl
constant x e = record { kind = Constant; name = x; params = []; results = e ∷ []; eqs = [] }

abbrev pub param : Name → Option Ty → Param
param x t = record { name = x; ty = t }

abbrev pub declared : DeclKind → Name → List Param → List Expr → List Eqn → Decl
declared k x params results eqs = record { kind = k; name = x; params = params; results = results; eqs = eqs }

-- let hybrid main() = m where m = 1
-- behind a program's other declarations in this line, where `main` has this number and m the next one
abbrev pub least_main : ℕ → ℕ → Decl
least_main id line =
    declared Hybrid (name id line 12) [] (var (suc id) line 21 ∷ []) (plain (name (suc id) line 29) (int 1 line 33) ∷ [])

abbrev pub program : List Decl → List (List ℕ) → Program
program decls names = record { decls = decls; names = names }
