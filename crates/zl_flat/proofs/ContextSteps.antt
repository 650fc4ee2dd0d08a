-- The contexts of a tree, by its form.
use Rattle.std.proofs.Common.{◌≡◌, List, map, Option, Some, None, ap}
use Rattle.zl_value.specs.declared.position.Pos.{Pos}
use Rattle.zl_value.specs.declared.value.Value.{Value}
use Rattle.zl_ast.specs.declared.name.Name.{Name}
use Rattle.zl_ast.specs.declared.operator.Infix.{Infix}
use Rattle.zl_ast.specs.declared.operator.Prefix.{Prefix}
use Rattle.zl_ast.specs.declared.operator.FlowOp.{FlowOp}
use Rattle.zl_ast.specs.declared.expr.Expr.{Expr}
use Rattle.zl_ast.specs.declared.expr.Expr.TheVariants as tree
use Rattle.zl_ast.specs.declared.expr.Expr.TheOpen as open_expr
use Rattle.zl_ast.specs.declared.expr.Expr.TheFolds.{fold-roll-Link}
use Rattle.zl_ast.specs.declared.expr.Link.{Link}
use Rattle.zl_ast.specs.declared.eqn.Eqn.{Eqn}
use Rattle.zl_ast.specs.declared.eqn.Eqn.TheVariants as eqn
use Rattle.zl_ast.specs.declared.eqn.Eqn.TheOpen as open_eqn
use Rattle.zl_ast.specs.declared.eqn.Eqn.TheFolds.{fold-roll-Arm, fold-roll-Body, fold-roll-State}
use Rattle.zl_ast.specs.declared.eqn.Cond.{Cond}
use Rattle.zl_ast.specs.declared.eqn.ResetArm.{ResetArm}
use Rattle.zl_ast.specs.declared.eqn.Move.{Move}
use Rattle.zl_ast.specs.declared.eqn.Arm.{Arm}
use Rattle.zl_ast.specs.declared.eqn.Body.{Body}
use Rattle.zl_ast.specs.declared.eqn.State.{State}
use Rattle.zl_ast.specs.Expressions.{link}
use Rattle.zl_ast.specs.Equations.{body, arm, state}
use Rattle.zl_ast.specs.Kinds as context
use Rattle.zl_ast.specs.Kinds.{Context, Declared, Misplaced, expr_misplaced, link_misplaced, eqn_misplaced, arm_misplaced, body_misplaced, state_misplaced}
use Rattle.zl_flat.proofs.TreeFolds.{fold-lit, fold-var, fold-last, fold-call, fold-prefix, fold-chain, fold-flow, fold-if, fold-plain, fold-der, fold-start, fold-automaton, fold-reset, fold-present, fold-present_else}

module _ (k : Declared) where
  pub context-lit : (v : Value) (at : Pos) (c : Context) → expr_misplaced k (tree.Lit v at) c ≡ context.expr_step k (open_expr.Lit v at) c
  unfolding expr_misplaced link_misplaced
  context-lit v at c = ap (λ u. u c) (fold-lit (Misplaced) (Misplaced) (context.expr_step k) (context.link_step k) v at)

  pub context-var : (x : Name) (c : Context) → expr_misplaced k (tree.Var x) c ≡ context.expr_step k (open_expr.Var x) c
  unfolding expr_misplaced link_misplaced
  context-var x c = ap (λ u. u c) (fold-var (Misplaced) (Misplaced) (context.expr_step k) (context.link_step k) x)

  pub context-last : (x : Name) (at : Pos) (c : Context) → expr_misplaced k (tree.Last x at) c ≡ context.expr_step k (open_expr.Last x at) c
  unfolding expr_misplaced link_misplaced
  context-last x at c = ap (λ u. u c) (fold-last (Misplaced) (Misplaced) (context.expr_step k) (context.link_step k) x at)

  pub context-call : (f : Name) (args : List Expr) (c : Context) → expr_misplaced k (tree.Call f args) c ≡ context.expr_step k (open_expr.Call f (map (expr_misplaced k) args)) c
  unfolding expr_misplaced link_misplaced
  context-call f args c = ap (λ u. u c) (fold-call (Misplaced) (Misplaced) (context.expr_step k) (context.link_step k) f args)

  pub context-prefix : (op : Prefix) (at : Pos) (x : Expr) (c : Context) → expr_misplaced k (tree.Prefix op at x) c ≡ context.expr_step k (open_expr.Prefix op at (expr_misplaced k x)) c
  unfolding expr_misplaced link_misplaced
  context-prefix op at x c = ap (λ u. u c) (fold-prefix (Misplaced) (Misplaced) (context.expr_step k) (context.link_step k) op at x)

  pub context-chain : (x : Expr) (ls : List Link) (c : Context) → expr_misplaced k (tree.Chain x ls) c ≡ context.expr_step k (open_expr.Chain (expr_misplaced k x) (map (link_misplaced k) ls)) c
  unfolding expr_misplaced link_misplaced
  context-chain x ls c = ap (λ u. u c) (fold-chain (Misplaced) (Misplaced) (context.expr_step k) (context.link_step k) x ls)

  pub context-flow : (op : FlowOp) (at : Pos) (x y : Expr) (c : Context) → expr_misplaced k (tree.Flow op at x y) c ≡ context.expr_step k (open_expr.Flow op at (expr_misplaced k x) (expr_misplaced k y)) c
  unfolding expr_misplaced link_misplaced
  context-flow op at x y c = ap (λ u. u c) (fold-flow (Misplaced) (Misplaced) (context.expr_step k) (context.link_step k) op at x y)

  pub context-if : (at : Pos) (b x y : Expr) (c : Context) → expr_misplaced k (tree.If at b x y) c ≡ context.expr_step k (open_expr.If at (expr_misplaced k b) (expr_misplaced k x) (expr_misplaced k y)) c
  unfolding expr_misplaced link_misplaced
  context-if at b x y c = ap (λ u. u c) (fold-if (Misplaced) (Misplaced) (context.expr_step k) (context.link_step k) at b x y)

  pub context-link : (op : Infix) (at : Pos) (x : Expr) (c : Context) → link_misplaced k (link op at x) c ≡ context.link_step k (record { op = op; at = at; arg = expr_misplaced k x }) c
  unfolding expr_misplaced link_misplaced
  context-link op at x c = ap (λ u. u c) (fold-roll-Link (Misplaced) (Misplaced) (context.expr_step k) (context.link_step k) (record { op = op; at = at; arg = x }))

  pub context-plain : (left : List Name) (right : Expr) (c : Context) → eqn_misplaced k (eqn.Plain left right) c ≡ context.eqn_step k (open_eqn.Plain left right) c
  unfolding eqn_misplaced arm_misplaced body_misplaced state_misplaced
  context-plain left right c = ap (λ u. u c) (fold-plain Misplaced Misplaced Misplaced Misplaced (context.eqn_step k) (context.arm_step k) (context.body_step k) (context.state_step k) left right)

  pub context-der : (at : Pos) (x : Name) (slope : Expr) (start : Option Expr) (resets : List ResetArm) (c : Context) → eqn_misplaced k (eqn.Der at x slope start resets) c ≡ context.eqn_step k (open_eqn.Der at x slope start resets) c
  unfolding eqn_misplaced arm_misplaced body_misplaced state_misplaced
  context-der at x slope start resets c = ap (λ u. u c) (fold-der Misplaced Misplaced Misplaced Misplaced (context.eqn_step k) (context.arm_step k) (context.body_step k) (context.state_step k) at x slope start resets)

  pub context-start : (at : Pos) (x : Name) (value : Expr) (c : Context) → eqn_misplaced k (eqn.Start at x value) c ≡ context.eqn_step k (open_eqn.Start at x value) c
  unfolding eqn_misplaced arm_misplaced body_misplaced state_misplaced
  context-start at x value c = ap (λ u. u c) (fold-start Misplaced Misplaced Misplaced Misplaced (context.eqn_step k) (context.arm_step k) (context.body_step k) (context.state_step k) at x value)

  pub context-automaton : (at : Pos) (states : List State) (c : Context) → eqn_misplaced k (eqn.Automaton at states) c ≡ context.eqn_step k (open_eqn.Automaton at (map (state_misplaced k) states)) c
  unfolding eqn_misplaced arm_misplaced body_misplaced state_misplaced
  context-automaton at states c = ap (λ u. u c) (fold-automaton Misplaced Misplaced Misplaced Misplaced (context.eqn_step k) (context.arm_step k) (context.body_step k) (context.state_step k) at states)

  pub context-reset : (at : Pos) (eqs : List Eqn) (test : Cond) (c : Context) → eqn_misplaced k (eqn.Reset at eqs test) c ≡ context.eqn_step k (open_eqn.Reset at (map (eqn_misplaced k) eqs) test) c
  unfolding eqn_misplaced arm_misplaced body_misplaced state_misplaced
  context-reset at eqs test c = ap (λ u. u c) (fold-reset Misplaced Misplaced Misplaced Misplaced (context.eqn_step k) (context.arm_step k) (context.body_step k) (context.state_step k) at eqs test)

  pub context-present : (at : Pos) (arms : List Arm) (c : Context) → eqn_misplaced k (eqn.Present at arms None) c ≡ context.eqn_step k (open_eqn.Present at (map (arm_misplaced k) arms) None) c
  unfolding eqn_misplaced arm_misplaced body_misplaced state_misplaced
  context-present at arms c = ap (λ u. u c) (fold-present Misplaced Misplaced Misplaced Misplaced (context.eqn_step k) (context.arm_step k) (context.body_step k) (context.state_step k) at arms)

  pub context-present_else : (at : Pos) (arms : List Arm) (b : Body) (c : Context) → eqn_misplaced k (eqn.Present at arms (Some b)) c ≡ context.eqn_step k (open_eqn.Present at (map (arm_misplaced k) arms) (Some (body_misplaced k b))) c
  unfolding eqn_misplaced arm_misplaced body_misplaced state_misplaced
  context-present_else at arms b c = ap (λ u. u c) (fold-present_else Misplaced Misplaced Misplaced Misplaced (context.eqn_step k) (context.arm_step k) (context.body_step k) (context.state_step k) at arms b)

  pub context-arm : (test : Cond) (b : Body) (c : Context) → arm_misplaced k (arm test b) c ≡ context.arm_step k (record { cond = test; body = body_misplaced k b }) c
  unfolding eqn_misplaced arm_misplaced body_misplaced state_misplaced
  context-arm test b c = ap (λ u. u c) (fold-roll-Arm Misplaced Misplaced Misplaced Misplaced (context.eqn_step k) (context.arm_step k) (context.body_step k) (context.state_step k) (record { cond = test; body = b }))

  pub context-body : (locals : List Name) (eqs : List Eqn) (c : Context) → body_misplaced k (body locals eqs) c ≡ context.body_step k (record { locals = locals; eqs = map (eqn_misplaced k) eqs }) c
  unfolding eqn_misplaced arm_misplaced body_misplaced state_misplaced
  context-body locals eqs c = ap (λ u. u c) (fold-roll-Body Misplaced Misplaced Misplaced Misplaced (context.eqn_step k) (context.arm_step k) (context.body_step k) (context.state_step k) (record { locals = locals; eqs = eqs }))

  pub context-state : (name : Name) (b : Body) (moves : List Move) (c : Context) → state_misplaced k (state name b moves) c ≡ context.state_step k (record { name = name; body = body_misplaced k b; moves = moves }) c
  unfolding eqn_misplaced arm_misplaced body_misplaced state_misplaced
  context-state name b moves c = ap (λ u. u c) (fold-roll-State Misplaced Misplaced Misplaced Misplaced (context.eqn_step k) (context.arm_step k) (context.body_step k) (context.state_step k) (record { name = name; body = b; moves = moves }))

pub ruleset context_steps = (context-lit, context-var, context-last, context-call, context-prefix, context-chain, context-flow, context-if, context-link, context-plain, context-der, context-start, context-automaton, context-reset, context-present, context-present_else, context-arm, context-body, context-state)
