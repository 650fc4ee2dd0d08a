-- The misplaced constructs in an expression, by its form.
use Rattle.std.proofs.Common.{◌≡◌, List, [], ◌++◌, map, sym, ap, ◌∙◌}
use Rattle.zl_value.specs.declared.position.Pos.{Pos}
use Rattle.zl_value.specs.declared.value.Value.{Value}
use Rattle.zl_ast.specs.declared.name.Name.{Name}
use Rattle.zl_ast.specs.declared.operator.Prefix.{Prefix}
use Rattle.zl_ast.specs.declared.operator.FlowOp.{FlowOp}
use Rattle.zl_ast.specs.declared.expr.Expr.{Expr}
use Rattle.zl_ast.specs.declared.expr.Expr.TheVariants as tree
use Rattle.zl_ast.specs.declared.expr.Expr.TheOpen as open_expr
use Rattle.zl_ast.specs.declared.expr.Expr.TheFolds.{fold-roll-Expr, fold_out-Link}
use Rattle.zl_ast.specs.declared.expr.Link.{Link, out-Link}
use Rattle.zl_ast.specs.Kinds.{Context, discrete, Declared, Misplaced, is_discrete, allows_last, allows_call, argument_context, allows_prefix, operand_context, branch_context, unless_allowed, all_misplaced, expr_step, link_step, expr_misplaced, link_misplaced, exprs_misplaced}
use Rattle.zl_types.proofs.KindFirstLemmas.{noting}

module _ (d : Declared) (c : Context) where
  pub misplaced-lit : (v : Value) (at : Pos) → expr_misplaced d (tree.Lit v at) c ≡ []
  unfolding expr_misplaced link_misplaced
  misplaced-lit v at = ap (λ x. expr_misplaced d x c) (sym (tree.rolls-Lit v at)) ∙ ap (λ m. m c) (fold-roll-Expr Misplaced Misplaced (expr_step d) (link_step d) (open_expr.Lit v at))

  pub misplaced-var : (x : Name) → expr_misplaced d (tree.Var x) c ≡ []
  unfolding expr_misplaced link_misplaced
  misplaced-var x = ap (λ x. expr_misplaced d x c) (sym (tree.rolls-Var x)) ∙ ap (λ m. m c) (fold-roll-Expr Misplaced Misplaced (expr_step d) (link_step d) (open_expr.Var x))

  pub misplaced-last : (x : Name) (at : Pos) → expr_misplaced d (tree.Last x at) c ≡ unless_allowed (allows_last c) at
  unfolding expr_misplaced link_misplaced
  misplaced-last x at = ap (λ x. expr_misplaced d x c) (sym (tree.rolls-Last x at)) ∙ ap (λ m. m c) (fold-roll-Expr Misplaced Misplaced (expr_step d) (link_step d) (open_expr.Last x at))

  pub misplaced-call : (f : Name) (args : List Expr) → expr_misplaced d (tree.Call f args) c ≡ unless_allowed (allows_call (d f.id) c) f.at ++ exprs_misplaced d args (argument_context (d f.id) c)
  unfolding expr_misplaced link_misplaced
  misplaced-call f args = ap (λ x. expr_misplaced d x c) (sym (tree.rolls-Call f args)) ∙ ap (λ m. m c) (fold-roll-Expr Misplaced Misplaced (expr_step d) (link_step d) (open_expr.Call f args))

  pub misplaced-prefix : (op : Prefix) (at : Pos) (x : Expr) → expr_misplaced d (tree.Prefix op at x) c ≡ unless_allowed (allows_prefix op c) at ++ expr_misplaced d x (operand_context op c)
  unfolding expr_misplaced link_misplaced
  misplaced-prefix op at x = ap (λ x. expr_misplaced d x c) (sym (tree.rolls-Prefix op at x)) ∙ ap (λ m. m c) (fold-roll-Expr Misplaced Misplaced (expr_step d) (link_step d) (open_expr.Prefix op at x))

  pub misplaced-chain : (x : Expr) (ls : List Link) → expr_misplaced d (tree.Chain x ls) c ≡ expr_misplaced d x c ++ all_misplaced (map (link_misplaced d) ls) c
  unfolding expr_misplaced link_misplaced
  misplaced-chain x ls = ap (λ x. expr_misplaced d x c) (sym (tree.rolls-Chain x ls)) ∙ ap (λ m. m c) (fold-roll-Expr Misplaced Misplaced (expr_step d) (link_step d) (open_expr.Chain x ls))

  pub misplaced-flow : (op : FlowOp) (at : Pos) (x y : Expr) → expr_misplaced d (tree.Flow op at x y) c ≡ expr_misplaced d x discrete ++ (unless_allowed (is_discrete c) at ++ expr_misplaced d y discrete)
  unfolding expr_misplaced link_misplaced
  misplaced-flow op at x y = ap (λ x. expr_misplaced d x c) (sym (tree.rolls-Flow op at x y)) ∙ ap (λ m. m c) (fold-roll-Expr Misplaced Misplaced (expr_step d) (link_step d) (open_expr.Flow op at x y))

  pub misplaced-if : (at : Pos) (b x y : Expr) → expr_misplaced d (tree.If at b x y) c ≡ expr_misplaced d b c ++ (expr_misplaced d x (branch_context c) ++ expr_misplaced d y (branch_context c))
  unfolding expr_misplaced link_misplaced
  misplaced-if at b x y = ap (λ x. expr_misplaced d x c) (sym (tree.rolls-If at b x y)) ∙ ap (λ m. m c) (fold-roll-Expr Misplaced Misplaced (expr_step d) (link_step d) (open_expr.If at b x y))

  pub misplaced-link : (l : Link) → link_misplaced d l c ≡ expr_misplaced d (out-Link l).arg c
  unfolding expr_misplaced link_misplaced
  misplaced-link l = ap (λ m. m c) (fold_out-Link Misplaced Misplaced (expr_step d) (link_step d) l)

pub ruleset expr_steps = (noting, misplaced-lit, misplaced-var, misplaced-last, misplaced-call, misplaced-prefix, misplaced-chain, misplaced-flow, misplaced-if, misplaced-link)
