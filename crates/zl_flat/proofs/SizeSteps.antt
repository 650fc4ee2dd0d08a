-- The size of an expression and of an equation, by its form.
use Rattle.std.proofs.Common.{◌≡◌, ℕ, List, map, Option, Some, None, sym, ap, ◌∙◌}
use Rattle.zl_flat.specs.declared.size.Size.{Size}
use Rattle.zl_value.specs.declared.position.Pos.{Pos}
use Rattle.zl_value.specs.declared.value.Value.{Value}
use Rattle.zl_ast.specs.declared.name.Name.{Name}
use Rattle.zl_ast.specs.declared.operator.Prefix.{Prefix}
use Rattle.zl_ast.specs.declared.operator.FlowOp.{FlowOp}
use Rattle.zl_ast.specs.declared.scope.VarInfo.{VarInfo}
use Rattle.zl_ast.specs.declared.expr.Expr.{Expr}
use Rattle.zl_ast.specs.declared.expr.Expr.TheVariants as tree
use Rattle.zl_ast.specs.declared.expr.Expr.TheOpen as open_expr
use Rattle.zl_ast.specs.declared.expr.Expr.TheFolds.{fold-roll-Expr, fold_out-Link}
use Rattle.zl_ast.specs.declared.expr.Link.{Link, out-Link}
use Rattle.zl_ast.specs.declared.eqn.Eqn.{Eqn}
use Rattle.zl_ast.specs.declared.eqn.Eqn.TheVariants as eqn
use Rattle.zl_ast.specs.declared.eqn.Eqn.TheOpen as open_eqn
use Rattle.zl_ast.specs.declared.eqn.Eqn.TheFolds.{fold-roll-Eqn, fold_out-Arm, fold_out-Body, fold_out-State}
use Rattle.zl_ast.specs.declared.eqn.Cond.{Cond}
use Rattle.zl_ast.specs.declared.eqn.ResetArm.{ResetArm}
use Rattle.zl_ast.specs.declared.eqn.Arm.{Arm, out-Arm}
use Rattle.zl_ast.specs.declared.eqn.Body.{Body, out-Body}
use Rattle.zl_ast.specs.declared.eqn.State.{State, out-State}
use Rattle.zl_flat.specs.Sizes.{none, plus, total, an_occ, a_block, called_size, read_size, expr_step, link_step, expr_size, link_size, start_size, reset_arm_size, cond_size, move_size, name_size, names_size, eqn_step, arm_step, body_step, state_step, eqn_size, arm_size, body_size, state_size}

module _ (vars : List VarInfo) (known : ℕ → Option Size) where
  pub size-lit : (v : Value) (at : Pos) → expr_size vars known (tree.Lit v at) ≡ an_occ
  unfolding expr_size link_size
  size-lit v at = ap (λ x. expr_size vars known x) (sym (tree.rolls-Lit v at)) ∙ ap (λ u. u) (fold-roll-Expr Size Size (expr_step vars known) (link_step vars known) (open_expr.Lit v at))

  pub size-var : (x : Name) → expr_size vars known (tree.Var x) ≡ read_size vars known x
  unfolding expr_size link_size
  size-var x = ap (λ x. expr_size vars known x) (sym (tree.rolls-Var x)) ∙ ap (λ u. u) (fold-roll-Expr Size Size (expr_step vars known) (link_step vars known) (open_expr.Var x))

  pub size-last : (x : Name) (at : Pos) → expr_size vars known (tree.Last x at) ≡ an_occ
  unfolding expr_size link_size
  size-last x at = ap (λ x. expr_size vars known x) (sym (tree.rolls-Last x at)) ∙ ap (λ u. u) (fold-roll-Expr Size Size (expr_step vars known) (link_step vars known) (open_expr.Last x at))

  pub size-call : (f : Name) (args : List Expr) → expr_size vars known (tree.Call f args) ≡ plus an_occ (plus (total (map (expr_size vars known) args)) (called_size (known f.id)))
  unfolding expr_size link_size
  size-call f args = ap (λ x. expr_size vars known x) (sym (tree.rolls-Call f args)) ∙ ap (λ u. u) (fold-roll-Expr Size Size (expr_step vars known) (link_step vars known) (open_expr.Call f args))

  pub size-prefix : (op : Prefix) (at : Pos) (x : Expr) → expr_size vars known (tree.Prefix op at x) ≡ plus an_occ (expr_size vars known x)
  unfolding expr_size link_size
  size-prefix op at x = ap (λ x. expr_size vars known x) (sym (tree.rolls-Prefix op at x)) ∙ ap (λ u. u) (fold-roll-Expr Size Size (expr_step vars known) (link_step vars known) (open_expr.Prefix op at x))

  pub size-chain : (x : Expr) (ls : List Link) → expr_size vars known (tree.Chain x ls) ≡ plus (expr_size vars known x) (total (map (link_size vars known) ls))
  unfolding expr_size link_size
  size-chain x ls = ap (λ x. expr_size vars known x) (sym (tree.rolls-Chain x ls)) ∙ ap (λ u. u) (fold-roll-Expr Size Size (expr_step vars known) (link_step vars known) (open_expr.Chain x ls))

  pub size-flow : (op : FlowOp) (at : Pos) (x y : Expr) → expr_size vars known (tree.Flow op at x y) ≡ plus an_occ (plus (expr_size vars known x) (expr_size vars known y))
  unfolding expr_size link_size
  size-flow op at x y = ap (λ x. expr_size vars known x) (sym (tree.rolls-Flow op at x y)) ∙ ap (λ u. u) (fold-roll-Expr Size Size (expr_step vars known) (link_step vars known) (open_expr.Flow op at x y))

  pub size-if : (at : Pos) (c x y : Expr) → expr_size vars known (tree.If at c x y) ≡ plus an_occ (plus (expr_size vars known c) (plus (expr_size vars known x) (expr_size vars known y)))
  unfolding expr_size link_size
  size-if at c x y = ap (λ x. expr_size vars known x) (sym (tree.rolls-If at c x y)) ∙ ap (λ u. u) (fold-roll-Expr Size Size (expr_step vars known) (link_step vars known) (open_expr.If at c x y))

  pub size-link : (l : Link) → link_size vars known l ≡ plus an_occ (expr_size vars known (out-Link l).arg)
  unfolding expr_size link_size
  size-link l = fold_out-Link Size Size (expr_step vars known) (link_step vars known) l

  pub size-plain : (left : List Name) (right : Expr) → eqn_size vars known (eqn.Plain left right) ≡ plus (names_size vars known left) (expr_size vars known right)
  unfolding eqn_size arm_size body_size state_size
  size-plain left right = ap (λ x. eqn_size vars known x) (sym (eqn.rolls-Plain left right)) ∙ ap (λ u. u) (fold-roll-Eqn Size Size Size Size (eqn_step vars known) (arm_step vars known) (body_step vars known) (state_step vars known) (open_eqn.Plain left right))

  pub size-der : (at : Pos) (x : Name) (slope : Expr) (start : Option Expr) (resets : List ResetArm) → eqn_size vars known (eqn.Der at x slope start resets) ≡ plus (name_size vars known x) (plus (expr_size vars known slope) (plus (start_size vars known start) (total (map (reset_arm_size vars known) resets))))
  unfolding eqn_size arm_size body_size state_size
  size-der at x slope start resets = ap (λ x. eqn_size vars known x) (sym (eqn.rolls-Der at x slope start resets)) ∙ ap (λ u. u) (fold-roll-Eqn Size Size Size Size (eqn_step vars known) (arm_step vars known) (body_step vars known) (state_step vars known) (open_eqn.Der at x slope start resets))

  pub size-start : (at : Pos) (x : Name) (value : Expr) → eqn_size vars known (eqn.Start at x value) ≡ plus (name_size vars known x) (expr_size vars known value)
  unfolding eqn_size arm_size body_size state_size
  size-start at x value = ap (λ x. eqn_size vars known x) (sym (eqn.rolls-Start at x value)) ∙ ap (λ u. u) (fold-roll-Eqn Size Size Size Size (eqn_step vars known) (arm_step vars known) (body_step vars known) (state_step vars known) (open_eqn.Start at x value))

  pub size-automaton : (at : Pos) (states : List State) → eqn_size vars known (eqn.Automaton at states) ≡ total (map (state_size vars known) states)
  unfolding eqn_size arm_size body_size state_size
  size-automaton at states = ap (λ x. eqn_size vars known x) (sym (eqn.rolls-Automaton at states)) ∙ ap (λ u. u) (fold-roll-Eqn Size Size Size Size (eqn_step vars known) (arm_step vars known) (body_step vars known) (state_step vars known) (open_eqn.Automaton at states))

  pub size-reset : (at : Pos) (eqs : List Eqn) (c : Cond) → eqn_size vars known (eqn.Reset at eqs c) ≡ plus a_block (plus (total (map (eqn_size vars known) eqs)) (cond_size vars known c))
  unfolding eqn_size arm_size body_size state_size
  size-reset at eqs c = ap (λ x. eqn_size vars known x) (sym (eqn.rolls-Reset at eqs c)) ∙ ap (λ u. u) (fold-roll-Eqn Size Size Size Size (eqn_step vars known) (arm_step vars known) (body_step vars known) (state_step vars known) (open_eqn.Reset at eqs c))

  pub size-present : (at : Pos) (arms : List Arm) → eqn_size vars known (eqn.Present at arms None) ≡ plus (total (map (arm_size vars known) arms)) none
  unfolding eqn_size arm_size body_size state_size
  size-present at arms = ap (λ x. eqn_size vars known x) (sym (eqn.rolls-Present at arms None)) ∙ ap (λ u. u) (fold-roll-Eqn Size Size Size Size (eqn_step vars known) (arm_step vars known) (body_step vars known) (state_step vars known) (open_eqn.Present at arms None))

  pub size-present_else : (at : Pos) (arms : List Arm) (b : Body) → eqn_size vars known (eqn.Present at arms (Some b)) ≡ plus (total (map (arm_size vars known) arms)) (plus a_block (body_size vars known b))
  unfolding eqn_size arm_size body_size state_size
  size-present_else at arms b = ap (λ x. eqn_size vars known x) (sym (eqn.rolls-Present at arms (Some b))) ∙ ap (λ u. u) (fold-roll-Eqn Size Size Size Size (eqn_step vars known) (arm_step vars known) (body_step vars known) (state_step vars known) (open_eqn.Present at arms (Some b)))

  pub size-arm : (a : Arm) → arm_size vars known a ≡ plus (cond_size vars known (out-Arm a).cond) (plus a_block (body_size vars known (out-Arm a).body))
  unfolding eqn_size arm_size body_size state_size
  size-arm a = fold_out-Arm Size Size Size Size (eqn_step vars known) (arm_step vars known) (body_step vars known) (state_step vars known) a

  pub size-body : (b : Body) → body_size vars known b ≡ plus (names_size vars known (out-Body b).locals) (total (map (eqn_size vars known) (out-Body b).eqs))
  unfolding eqn_size arm_size body_size state_size
  size-body b = fold_out-Body Size Size Size Size (eqn_step vars known) (arm_step vars known) (body_step vars known) (state_step vars known) b

  pub size-state : (s : State) → state_size vars known s ≡ plus a_block (plus a_block (plus (body_size vars known (out-State s).body) (total (map (move_size vars known) (out-State s).moves))))
  unfolding eqn_size arm_size body_size state_size
  size-state s = fold_out-State Size Size Size Size (eqn_step vars known) (arm_step vars known) (body_step vars known) (state_step vars known) s

pub ruleset size_steps = (size-lit, size-var, size-last, size-call, size-prefix, size-chain, size-flow, size-if, size-link, size-plain, size-der, size-start, size-automaton, size-reset, size-present, size-present_else, size-arm, size-body, size-state)
