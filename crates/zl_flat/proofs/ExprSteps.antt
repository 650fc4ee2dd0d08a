-- The walk of an expression, by its form.
use Rattle.std.proofs.Common.{◌≡◌, ℕ, List, map, sym, ap, ◌∙◌}
use Rattle.zl_flat.specs.declared.here.Here.{Here}
use Rattle.zl_flat.specs.declared.here.Root.{Root}
use Rattle.zl_value.specs.declared.position.Pos.{Pos}
use Rattle.zl_value.specs.declared.value.Value.{Value}
use Rattle.zl_ast.specs.declared.name.Name.{Name}
use Rattle.zl_ast.specs.declared.operator.Prefix.{Prefix}
use Rattle.zl_ast.specs.declared.operator.FlowOp.{FlowOp}
use Rattle.zl_ast.specs.declared.expr.Expr.{Expr}
use Rattle.zl_ast.specs.declared.expr.Expr.TheVariants as tree
use Rattle.zl_ast.specs.declared.expr.Expr.TheOpen as open_expr
use Rattle.zl_ast.specs.declared.expr.Expr.TheFolds.{fold-roll-Expr, fold_out-Link}
use Rattle.zl_ast.specs.declared.expr.Link.{Link, out-Link}
use Rattle.zl_meaning.specs.declared.occurrence.Form.TheVariants.{Lit}
use Rattle.zl_flat.specs.Parts.{Counters}
use Rattle.zl_flat.specs.Variables.{variable_of}
use Rattle.zl_flat.specs.Instances.{Instance}
use Rattle.zl_flat.specs.Operators.{value_type, built_in_op}
use Rattle.zl_flat.specs.Expressions.{Walk, LinkWalk, leaf, chain, last_of, call_or_built_in, read, prefixed, flow_walk, conditional, expr_step, link_step, expr_walk, link_walk}

module _ (base : ℕ) (names : List (List ℕ)) (i : Instance) (here : Here) (s : Counters) where
  pub walk-lit : (v : Value) (at : Pos) → expr_walk base names i (tree.Lit v at) here s ≡ leaf here (value_type v) at (Lit v) s
  unfolding expr_walk link_walk
  walk-lit v at = ap (λ x. expr_walk base names i x here s) (sym (tree.rolls-Lit v at)) ∙ ap (λ u. u here s) (fold-roll-Expr Walk LinkWalk (expr_step base names i) (link_step base names i) (open_expr.Lit v at))

  pub walk-var : (x : Name) → expr_walk base names i (tree.Var x) here s ≡ read base names i (variable_of i.variables x.id) x here s
  unfolding expr_walk link_walk
  walk-var x = ap (λ x. expr_walk base names i x here s) (sym (tree.rolls-Var x)) ∙ ap (λ u. u here s) (fold-roll-Expr Walk LinkWalk (expr_step base names i) (link_step base names i) (open_expr.Var x))

  pub walk-last : (x : Name) (at : Pos) → expr_walk base names i (tree.Last x at) here s ≡ last_of (variable_of i.variables x.id) here at s
  unfolding expr_walk link_walk
  walk-last x at = ap (λ x. expr_walk base names i x here s) (sym (tree.rolls-Last x at)) ∙ ap (λ u. u here s) (fold-roll-Expr Walk LinkWalk (expr_step base names i) (link_step base names i) (open_expr.Last x at))

  pub walk-call : (f : Name) (args : List Expr) → expr_walk base names i (tree.Call f args) here s ≡ call_or_built_in base names i (built_in_op names f.id) f (map (expr_walk base names i) args) here s
  unfolding expr_walk link_walk
  walk-call f args = ap (λ x. expr_walk base names i x here s) (sym (tree.rolls-Call f args)) ∙ ap (λ u. u here s) (fold-roll-Expr Walk LinkWalk (expr_step base names i) (link_step base names i) (open_expr.Call f args))

  pub walk-prefix : (op : Prefix) (at : Pos) (x : Expr) → expr_walk base names i (tree.Prefix op at x) here s ≡ prefixed base names i op at (expr_walk base names i x) here s
  unfolding expr_walk link_walk
  walk-prefix op at x = ap (λ x. expr_walk base names i x here s) (sym (tree.rolls-Prefix op at x)) ∙ ap (λ u. u here s) (fold-roll-Expr Walk LinkWalk (expr_step base names i) (link_step base names i) (open_expr.Prefix op at x))

  pub walk-chain : (x : Expr) (ls : List Link) → expr_walk base names i (tree.Chain x ls) here s ≡ chain (expr_walk base names i x) (map (link_walk base names i) ls) here s
  unfolding expr_walk link_walk
  walk-chain x ls = ap (λ x. expr_walk base names i x here s) (sym (tree.rolls-Chain x ls)) ∙ ap (λ u. u here s) (fold-roll-Expr Walk LinkWalk (expr_step base names i) (link_step base names i) (open_expr.Chain x ls))

  pub walk-flow : (op : FlowOp) (at : Pos) (x y : Expr) → expr_walk base names i (tree.Flow op at x y) here s ≡ flow_walk base names i op at (expr_walk base names i x) (expr_walk base names i y) here s
  unfolding expr_walk link_walk
  walk-flow op at x y = ap (λ x. expr_walk base names i x here s) (sym (tree.rolls-Flow op at x y)) ∙ ap (λ u. u here s) (fold-roll-Expr Walk LinkWalk (expr_step base names i) (link_step base names i) (open_expr.Flow op at x y))

  pub walk-if : (at : Pos) (c x y : Expr) → expr_walk base names i (tree.If at c x y) here s ≡ conditional base names i at (expr_walk base names i c) (expr_walk base names i x) (expr_walk base names i y) here s
  unfolding expr_walk link_walk
  walk-if at c x y = ap (λ x. expr_walk base names i x here s) (sym (tree.rolls-If at c x y)) ∙ ap (λ u. u here s) (fold-roll-Expr Walk LinkWalk (expr_step base names i) (link_step base names i) (open_expr.If at c x y))

  pub walk-link : (l : Link) (left : Root) → link_walk base names i l here left s ≡ link_step base names i (record { op = (out-Link l).op; at = (out-Link l).at; arg = expr_walk base names i (out-Link l).arg }) here left s
  unfolding expr_walk link_walk
  walk-link l left = ap (λ u. u here left s) (fold_out-Link Walk LinkWalk (expr_step base names i) (link_step base names i) l)

pub ruleset walk_steps = (walk-lit, walk-var, walk-last, walk-call, walk-prefix, walk-chain, walk-flow, walk-if, walk-link)
