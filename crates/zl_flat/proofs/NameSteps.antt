-- The uses of names in a tree, by its form.
use Rattle.std.proofs.Common.{◌≡◌, ℕ, Bool, false, List, map, Option, Some, None, ap}
use Rattle.zl_value.specs.declared.position.Pos.{Pos}
use Rattle.zl_value.specs.declared.value.Value.{Value}
use Rattle.zl_ast.specs.declared.name.Name.{Name}
use Rattle.zl_ast.specs.declared.operator.Infix.{Infix}
use Rattle.zl_ast.specs.declared.operator.Prefix.{Prefix}
use Rattle.zl_ast.specs.declared.operator.FlowOp.{FlowOp}
use Rattle.zl_ast.specs.declared.expr.Expr.{Expr}
use Rattle.zl_ast.specs.declared.expr.Expr.TheVariants as tree
use Rattle.zl_ast.specs.declared.expr.Expr.TheOpen as open_expr
use Rattle.zl_ast.specs.declared.expr.Expr.TheFolds.{fold-roll-Link}
use Rattle.zl_ast.specs.declared.expr.Link.{Link}
use Rattle.zl_ast.specs.declared.eqn.Eqn.{Eqn}
use Rattle.zl_ast.specs.declared.eqn.Eqn.TheVariants as eqn
use Rattle.zl_ast.specs.declared.eqn.Eqn.TheOpen as open_eqn
use Rattle.zl_ast.specs.declared.eqn.Eqn.TheFolds.{fold-roll-Arm, fold-roll-Body, fold-roll-State}
use Rattle.zl_ast.specs.declared.eqn.Cond.{Cond}
use Rattle.zl_ast.specs.declared.eqn.ResetArm.{ResetArm}
use Rattle.zl_ast.specs.declared.eqn.Move.{Move}
use Rattle.zl_ast.specs.declared.eqn.Arm.{Arm}
use Rattle.zl_ast.specs.declared.eqn.Body.{Body}
use Rattle.zl_ast.specs.declared.eqn.State.{State}
use Rattle.zl_ast.specs.Expressions.{link}
use Rattle.zl_ast.specs.Equations.{body, arm, state}
use Rattle.zl_ast.specs.NamesUsed as used
use Rattle.zl_ast.specs.NamesUsed.{Known, Uses, BodyUses, expr_uses, link_uses, eqn_uses, arm_uses, body_uses, state_uses}
use Rattle.zl_ast.specs.NamesRules.{variable_step, is_variable}
use Rattle.zl_flat.proofs.TreeFolds.{fold-lit, fold-var, fold-last, fold-call, fold-prefix, fold-chain, fold-flow, fold-if, fold-plain, fold-der, fold-start, fold-automaton, fold-reset, fold-present, fold-present_else}

module _ (k : Known) where
  pub uses-lit : (v : Value) (at : Pos) (results : ℕ) (visible : List ℕ) → expr_uses k (tree.Lit v at) results visible ≡ used.expr_step k (open_expr.Lit v at) results visible
  unfolding expr_uses link_uses
  uses-lit v at results visible = ap (λ u. u results visible) (fold-lit (ℕ → Uses) (Uses) (used.expr_step k) (used.link_step k) v at)

  pub uses-var : (x : Name) (results : ℕ) (visible : List ℕ) → expr_uses k (tree.Var x) results visible ≡ used.expr_step k (open_expr.Var x) results visible
  unfolding expr_uses link_uses
  uses-var x results visible = ap (λ u. u results visible) (fold-var (ℕ → Uses) (Uses) (used.expr_step k) (used.link_step k) x)

  pub uses-last : (x : Name) (at : Pos) (results : ℕ) (visible : List ℕ) → expr_uses k (tree.Last x at) results visible ≡ used.expr_step k (open_expr.Last x at) results visible
  unfolding expr_uses link_uses
  uses-last x at results visible = ap (λ u. u results visible) (fold-last (ℕ → Uses) (Uses) (used.expr_step k) (used.link_step k) x at)

  pub uses-call : (f : Name) (args : List Expr) (results : ℕ) (visible : List ℕ) → expr_uses k (tree.Call f args) results visible ≡ used.expr_step k (open_expr.Call f (map (expr_uses k) args)) results visible
  unfolding expr_uses link_uses
  uses-call f args results visible = ap (λ u. u results visible) (fold-call (ℕ → Uses) (Uses) (used.expr_step k) (used.link_step k) f args)

  pub uses-prefix : (op : Prefix) (at : Pos) (x : Expr) (results : ℕ) (visible : List ℕ) → expr_uses k (tree.Prefix op at x) results visible ≡ used.expr_step k (open_expr.Prefix op at (expr_uses k x)) results visible
  unfolding expr_uses link_uses
  uses-prefix op at x results visible = ap (λ u. u results visible) (fold-prefix (ℕ → Uses) (Uses) (used.expr_step k) (used.link_step k) op at x)

  pub uses-chain : (x : Expr) (ls : List Link) (results : ℕ) (visible : List ℕ) → expr_uses k (tree.Chain x ls) results visible ≡ used.expr_step k (open_expr.Chain (expr_uses k x) (map (link_uses k) ls)) results visible
  unfolding expr_uses link_uses
  uses-chain x ls results visible = ap (λ u. u results visible) (fold-chain (ℕ → Uses) (Uses) (used.expr_step k) (used.link_step k) x ls)

  pub uses-flow : (op : FlowOp) (at : Pos) (x y : Expr) (results : ℕ) (visible : List ℕ) → expr_uses k (tree.Flow op at x y) results visible ≡ used.expr_step k (open_expr.Flow op at (expr_uses k x) (expr_uses k y)) results visible
  unfolding expr_uses link_uses
  uses-flow op at x y results visible = ap (λ u. u results visible) (fold-flow (ℕ → Uses) (Uses) (used.expr_step k) (used.link_step k) op at x y)

  pub uses-if : (at : Pos) (b x y : Expr) (results : ℕ) (visible : List ℕ) → expr_uses k (tree.If at b x y) results visible ≡ used.expr_step k (open_expr.If at (expr_uses k b) (expr_uses k x) (expr_uses k y)) results visible
  unfolding expr_uses link_uses
  uses-if at b x y results visible = ap (λ u. u results visible) (fold-if (ℕ → Uses) (Uses) (used.expr_step k) (used.link_step k) at b x y)

  pub uses-link : (op : Infix) (at : Pos) (x : Expr) (visible : List ℕ) → link_uses k (link op at x) visible ≡ used.link_step k (record { op = op; at = at; arg = expr_uses k x }) visible
  unfolding expr_uses link_uses
  uses-link op at x visible = ap (λ u. u visible) (fold-roll-Link (ℕ → Uses) (Uses) (used.expr_step k) (used.link_step k) (record { op = op; at = at; arg = x }))

  pub uses-plain : (left : List Name) (right : Expr) (visible : List ℕ) → eqn_uses k (eqn.Plain left right) visible ≡ used.eqn_step k (open_eqn.Plain left right) visible
  unfolding eqn_uses arm_uses body_uses state_uses
  uses-plain left right visible = ap (λ u. u visible) (fold-plain Uses Uses BodyUses Uses (used.eqn_step k) (used.arm_step k) (used.body_step k) (used.state_step k) left right)

  pub uses-der : (at : Pos) (x : Name) (slope : Expr) (start : Option Expr) (resets : List ResetArm) (visible : List ℕ) → eqn_uses k (eqn.Der at x slope start resets) visible ≡ used.eqn_step k (open_eqn.Der at x slope start resets) visible
  unfolding eqn_uses arm_uses body_uses state_uses
  uses-der at x slope start resets visible = ap (λ u. u visible) (fold-der Uses Uses BodyUses Uses (used.eqn_step k) (used.arm_step k) (used.body_step k) (used.state_step k) at x slope start resets)

  pub uses-start : (at : Pos) (x : Name) (value : Expr) (visible : List ℕ) → eqn_uses k (eqn.Start at x value) visible ≡ used.eqn_step k (open_eqn.Start at x value) visible
  unfolding eqn_uses arm_uses body_uses state_uses
  uses-start at x value visible = ap (λ u. u visible) (fold-start Uses Uses BodyUses Uses (used.eqn_step k) (used.arm_step k) (used.body_step k) (used.state_step k) at x value)

  pub uses-automaton : (at : Pos) (states : List State) (visible : List ℕ) → eqn_uses k (eqn.Automaton at states) visible ≡ used.eqn_step k (open_eqn.Automaton at (map (state_uses k) states)) visible
  unfolding eqn_uses arm_uses body_uses state_uses
  uses-automaton at states visible = ap (λ u. u visible) (fold-automaton Uses Uses BodyUses Uses (used.eqn_step k) (used.arm_step k) (used.body_step k) (used.state_step k) at states)

  pub uses-reset : (at : Pos) (eqs : List Eqn) (test : Cond) (visible : List ℕ) → eqn_uses k (eqn.Reset at eqs test) visible ≡ used.eqn_step k (open_eqn.Reset at (map (eqn_uses k) eqs) test) visible
  unfolding eqn_uses arm_uses body_uses state_uses
  uses-reset at eqs test visible = ap (λ u. u visible) (fold-reset Uses Uses BodyUses Uses (used.eqn_step k) (used.arm_step k) (used.body_step k) (used.state_step k) at eqs test)

  pub uses-present : (at : Pos) (arms : List Arm) (visible : List ℕ) → eqn_uses k (eqn.Present at arms None) visible ≡ used.eqn_step k (open_eqn.Present at (map (arm_uses k) arms) None) visible
  unfolding eqn_uses arm_uses body_uses state_uses
  uses-present at arms visible = ap (λ u. u visible) (fold-present Uses Uses BodyUses Uses (used.eqn_step k) (used.arm_step k) (used.body_step k) (used.state_step k) at arms)

  pub uses-present_else : (at : Pos) (arms : List Arm) (b : Body) (visible : List ℕ) → eqn_uses k (eqn.Present at arms (Some b)) visible ≡ used.eqn_step k (open_eqn.Present at (map (arm_uses k) arms) (Some (body_uses k b))) visible
  unfolding eqn_uses arm_uses body_uses state_uses
  uses-present_else at arms b visible = ap (λ u. u visible) (fold-present_else Uses Uses BodyUses Uses (used.eqn_step k) (used.arm_step k) (used.body_step k) (used.state_step k) at arms b)

  pub uses-arm : (test : Cond) (b : Body) (visible : List ℕ) → arm_uses k (arm test b) visible ≡ used.arm_step k (record { cond = test; body = body_uses k b }) visible
  unfolding eqn_uses arm_uses body_uses state_uses
  uses-arm test b visible = ap (λ u. u visible) (fold-roll-Arm Uses Uses BodyUses Uses (used.eqn_step k) (used.arm_step k) (used.body_step k) (used.state_step k) (record { cond = test; body = b }))

  pub uses-body : (locals : List Name) (eqs : List Eqn) → body_uses k (body locals eqs) ≡ used.body_step k (record { locals = locals; eqs = map (eqn_uses k) eqs })
  unfolding eqn_uses arm_uses body_uses state_uses
  uses-body locals eqs = fold-roll-Body Uses Uses BodyUses Uses (used.eqn_step k) (used.arm_step k) (used.body_step k) (used.state_step k) (record { locals = locals; eqs = eqs })

  pub uses-state : (name : Name) (b : Body) (moves : List Move) (visible : List ℕ) → state_uses k (state name b moves) visible ≡ used.state_step k (record { name = name; body = body_uses k b; moves = moves }) visible
  unfolding eqn_uses arm_uses body_uses state_uses
  uses-state name b moves visible = ap (λ u. u visible) (fold-roll-State Uses Uses BodyUses Uses (used.eqn_step k) (used.arm_step k) (used.body_step k) (used.state_step k) (record { name = name; body = b; moves = moves }))

module _ (visible : List ℕ) where
  pub variable-var : (x : Name) → is_variable visible (tree.Var x) ≡ variable_step visible (open_expr.Var x)
  unfolding is_variable
  variable-var x = fold-var (Bool) (Bool) (variable_step visible) (λ l. false) x

pub ruleset name_steps = (uses-lit, uses-var, uses-last, uses-call, uses-prefix, uses-chain, uses-flow, uses-if, uses-link, uses-plain, uses-der, uses-start, uses-automaton, uses-reset, uses-present, uses-present_else, uses-arm, uses-body, uses-state, variable-var)
