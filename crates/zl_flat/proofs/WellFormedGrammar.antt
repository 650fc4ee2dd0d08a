-- What holds of each tree that was made of the tokens of a text, and that no rule of names or types says.
use Rattle.std.proofs.Common.{ℕ, ◌<◌, List, [], ◌∷◌, ◌++◌, map, length, Option, Some, None}
use Rattle.std.specs.List.{AllByRecursion}
use Rattle.zl_value.specs.Script.{IsOfType}
use Rattle.zl_value.specs.declared.value.Ty.{Ty}
use Rattle.zl_value.specs.declared.value.Ty.TheVariants.{Bool as BoolTy, Int, Float, Zero}
use Rattle.zl_value.specs.declared.value.Value.{Value}
use Rattle.zl_ast.specs.declared.name.Name.{Name}
use Rattle.zl_ast.specs.declared.expr.Expr.{Expr}
use Rattle.zl_ast.specs.declared.expr.Link.{Link}
use Rattle.zl_ast.specs.declared.expr.Expr.TheOpen.{Expr-F, Link-F}
use Rattle.zl_ast.specs.declared.expr.Expr.TheOpen as open_expr
use Rattle.zl_ast.specs.declared.expr.Expr.TheFolds.{fold-Expr, fold-Link}
use Rattle.zl_ast.specs.declared.eqn.Eqn.{Eqn}
use Rattle.zl_ast.specs.declared.eqn.Arm.{Arm}
use Rattle.zl_ast.specs.declared.eqn.Body.{Body}
use Rattle.zl_ast.specs.declared.eqn.State.{State}
use Rattle.zl_ast.specs.declared.eqn.Cond.{Cond}
use Rattle.zl_ast.specs.declared.eqn.Cond.TheVariants.{Event, Test}
use Rattle.zl_ast.specs.declared.eqn.Up.{Up}
use Rattle.zl_ast.specs.declared.eqn.ResetArm.{ResetArm}
use Rattle.zl_ast.specs.declared.eqn.Move.{Move}
use Rattle.zl_ast.specs.declared.eqn.Eqn.TheOpen.{Eqn-F, Arm-F, Body-F, State-F}
use Rattle.zl_ast.specs.declared.eqn.Eqn.TheOpen as open_eqn
use Rattle.zl_ast.specs.declared.eqn.Eqn.TheFolds.{fold-Eqn, fold-Arm, fold-Body, fold-State}
use Rattle.zl_ast.specs.declared.program.Decl.{Decl}
use Rattle.zl_ast.specs.declared.program.Param.{Param}
use Rattle.zl_ast.specs.Assignments.{joined}
use Rattle.zl_ast.specs.TypeEqualities.{called}
use Rattle.zl_flat.specs.Operators.{value_type}

-- What stands in a tree of which the grammar says more than the tree: a literal, the left side of an equation with the name
-- that its right side calls, the type behind a parameter, and how many results a declaration has, states an automaton, arms
-- a choice and `up`s an event.
pub data Written : Type 0 where
  literal : Value → Written
  left_side : List Name → Option Name → Written
  annotated : Option Ty → Written
  some_results : ℕ → Written
  some_states : ℕ → Written
  some_arms : ℕ → Written
  some_ups : ℕ → Written

-- several names stand on the left of a call alone
abbrev pub IsLeftOf : List Name → Option Name → Type 0
IsLeftOf [] c = Unit {0}
IsLeftOf (x ∷ []) c = Unit {0}
IsLeftOf (x ∷ y ∷ xs) None = ⊥
IsLeftOf (x ∷ y ∷ xs) (Some g) = Unit {0}

-- no parameter has the type of an `up`
abbrev pub IsAnnotation : Option Ty → Type 0
IsAnnotation None = Unit {0}
IsAnnotation (Some BoolTy) = Unit {0}
IsAnnotation (Some Int) = Unit {0}
IsAnnotation (Some Float) = Unit {0}
IsAnnotation (Some Zero) = ⊥

abbrev pub IsWritten : Written → Type 0
IsWritten (literal v) = IsOfType (value_type v) v
IsWritten (left_side left c) = IsLeftOf left c
IsWritten (annotated ty) = IsAnnotation ty
IsWritten (some_results n) = 0 < n
IsWritten (some_states n) = 0 < n
IsWritten (some_arms n) = 0 < n
IsWritten (some_ups n) = 0 < n

abbrev pub AllWritten : List Written → Type 0
AllWritten ws = AllByRecursion IsWritten ws

-- ---- down the tree

abbrev pub expr_step : Expr-F (List Written) (List Written) → List Written
expr_step (open_expr.Lit v at) = literal v ∷ []
expr_step (open_expr.Var x) = []
expr_step (open_expr.Last x at) = []
expr_step (open_expr.Call f args) = joined args
expr_step (open_expr.Prefix op at x) = x
expr_step (open_expr.Chain x ls) = x ++ joined ls
expr_step (open_expr.Flow op at x y) = x ++ y
expr_step (open_expr.If at c x y) = c ++ (x ++ y)

abbrev pub link_step : Link-F (List Written) (List Written) → List Written
link_step l = l.arg

unfoldable pub expr_written : Expr → List Written
expr_written = fold-Expr (List Written) (List Written) expr_step link_step

unfoldable pub link_written : Link → List Written
link_written = fold-Link (List Written) (List Written) expr_step link_step

abbrev pub exprs_written : List Expr → List Written
exprs_written xs = joined (map expr_written xs)

abbrev pub ups_written : List Up → List Written
ups_written us = joined (map (λ u. expr_written u.arg) us)

abbrev pub event_written : List Up → List Written
event_written us = some_ups (length us) ∷ ups_written us

abbrev pub cond_written : Cond → List Written
cond_written (Event us) = event_written us
cond_written (Test at x) = expr_written x

abbrev pub start_written : Option Expr → List Written
start_written None = []
start_written (Some x) = expr_written x

abbrev pub reset_arm_written : ResetArm → List Written
reset_arm_written r = event_written r.event ++ expr_written r.value

abbrev pub moves_written : List Move → List Written
moves_written ms = joined (map (λ m. cond_written m.cond) ms)

abbrev pub if_any : Option (List Written) → List Written
if_any None = []
if_any (Some ws) = ws

abbrev pub eqn_step : Eqn-F (List Written) (List Written) (List Written) (List Written) → List Written
eqn_step (open_eqn.Plain left right) = left_side left (called right) ∷ expr_written right
eqn_step (open_eqn.Der at x slope start resets) = expr_written slope ++ (start_written start ++ joined (map reset_arm_written resets))
eqn_step (open_eqn.Start at x value) = expr_written value
eqn_step (open_eqn.Present at arms other) = some_arms (length arms) ∷ (joined arms ++ if_any other)
eqn_step (open_eqn.Automaton at states) = some_states (length states) ∷ joined states
eqn_step (open_eqn.Reset at eqs c) = joined eqs ++ cond_written c

abbrev pub arm_step : Arm-F (List Written) (List Written) (List Written) (List Written) → List Written
arm_step a = cond_written a.cond ++ a.body

abbrev pub body_step : Body-F (List Written) (List Written) (List Written) (List Written) → List Written
body_step b = joined b.eqs

abbrev pub state_step : State-F (List Written) (List Written) (List Written) (List Written) → List Written
state_step s = s.body ++ moves_written s.moves

unfoldable pub eqn_written : Eqn → List Written
eqn_written = fold-Eqn (List Written) (List Written) (List Written) (List Written) eqn_step arm_step body_step state_step

unfoldable pub arm_written : Arm → List Written
arm_written = fold-Arm (List Written) (List Written) (List Written) (List Written) eqn_step arm_step body_step state_step

unfoldable pub body_written : Body → List Written
body_written = fold-Body (List Written) (List Written) (List Written) (List Written) eqn_step arm_step body_step state_step

unfoldable pub state_written : State → List Written
state_written = fold-State (List Written) (List Written) (List Written) (List Written) eqn_step arm_step body_step state_step

abbrev pub eqns_written : List Eqn → List Written
eqns_written es = joined (map eqn_written es)

abbrev pub params_written : List Param → List Written
params_written ps = map (λ p. annotated p.ty) ps

abbrev pub decl_written : Decl → List Written
decl_written d = some_results (length d.results) ∷ (params_written d.params ++ (exprs_written d.results ++ eqns_written d.eqs))

abbrev pub decls_written : List Decl → List Written
decls_written ds = joined (map decl_written ds)
