-- The parts of a struct of a tree that was put together, and the place of a result.
use Rattle.std.proofs.Common.{◌≡◌, ℕ, List, [], sym, ap, ◌∙◌}
use Rattle.zl_value.specs.declared.position.Pos.{Pos}
use Rattle.zl_ast.specs.declared.name.Name.{Name}
use Rattle.zl_ast.specs.declared.operator.Infix.{Infix}
use Rattle.zl_ast.specs.declared.expr.Expr.{Expr}
use Rattle.zl_ast.specs.declared.expr.Expr.TheVariants as tree
use Rattle.zl_ast.specs.declared.expr.Expr.TheOpen as open_expr
use Rattle.zl_ast.specs.declared.expr.Expr.TheFolds.{fold-roll-Expr}
use Rattle.zl_ast.specs.declared.expr.Expr.TheViews.{out-roll-Link}
use Rattle.zl_ast.specs.declared.expr.Link.{out-Link}
use Rattle.zl_ast.specs.declared.eqn.Eqn.{Eqn}
use Rattle.zl_ast.specs.declared.eqn.Eqn.TheViews.{out-roll-Arm, out-roll-Body, out-roll-State}
use Rattle.zl_ast.specs.declared.eqn.Cond.{Cond}
use Rattle.zl_ast.specs.declared.eqn.Move.{Move}
use Rattle.zl_ast.specs.declared.eqn.Arm.{out-Arm}
use Rattle.zl_ast.specs.declared.eqn.Body.{Body, out-Body}
use Rattle.zl_ast.specs.declared.eqn.State.{out-State}
use Rattle.zl_ast.specs.Expressions.{link}
use Rattle.zl_ast.specs.Equations.{body, arm, state}
use Rattle.zl_flat.specs.declared.variable.Variable.{Variable}
use Rattle.zl_flat.specs.Expansion.{result_step, result_place}

module _ (op : Infix) (at : Pos) (x : Expr) where
  pub link-at : (out-Link (link op at x)).at ≡ at
  link-at = ap (λ l. l.at) (out-roll-Link (record { op = op; at = at; arg = x }))

  pub link-arg : (out-Link (link op at x)).arg ≡ x
  link-arg = ap (λ l. l.arg) (out-roll-Link (record { op = op; at = at; arg = x }))

module _ (c : Cond) (b : Body) where
  pub arm-cond : (out-Arm (arm c b)).cond ≡ c
  arm-cond = ap (λ a. a.cond) (out-roll-Arm (record { cond = c; body = b }))

  pub arm-body : (out-Arm (arm c b)).body ≡ b
  arm-body = ap (λ a. a.body) (out-roll-Arm (record { cond = c; body = b }))

module _ (locals : List Name) (eqs : List Eqn) where
  pub body-locals : (out-Body (body locals eqs)).locals ≡ locals
  body-locals = ap (λ b. b.locals) (out-roll-Body (record { locals = locals; eqs = eqs }))

  pub body-eqs : (out-Body (body locals eqs)).eqs ≡ eqs
  body-eqs = ap (λ b. b.eqs) (out-roll-Body (record { locals = locals; eqs = eqs }))

module _ (name : Name) (b : Body) (moves : List Move) where
  pub state-body : (out-State (state name b moves)).body ≡ b
  state-body = ap (λ s. s.body) (out-roll-State (record { name = name; body = b; moves = moves }))

  pub state-moves : (out-State (state name b moves)).moves ≡ moves
  state-moves = ap (λ s. s.moves) (out-roll-State (record { name = name; body = b; moves = moves }))

pub ruleset struct_parts = (link-at, link-arg, arm-cond, arm-body, body-locals, body-eqs, state-body, state-moves)

pub on-result : (vs : List Variable) (x : Name) → result_place vs (tree.Var x) ≡ result_step vs (open_expr.Var x)
unfolding result_place
on-result vs x = ap (result_place vs) (sym (tree.rolls-Var x)) ∙ fold-roll-Expr (List ℕ) (List ℕ) (result_step vs) (λ l. []) (open_expr.Var x)
