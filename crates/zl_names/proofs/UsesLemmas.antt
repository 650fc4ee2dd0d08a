-- The violations in an expression, by its form.
use Rattle.std.proofs.Common.{◌≡◌, ℕ, List, [], ◌++◌, map, length, sym, ap, ◌∙◌}
use Rattle.std.proofs.lemmas.Grind.{common_steps}
use Rattle.std.proofs.lemmas.List.{length-map}
use Rattle.zl_value.specs.declared.position.Pos.{Pos}
use Rattle.zl_value.specs.declared.value.Value.{Value}
use Rattle.zl_ast.specs.declared.name.Name.{Name}
use Rattle.zl_ast.specs.declared.operator.Prefix.{Prefix}
use Rattle.zl_ast.specs.declared.operator.FlowOp.{FlowOp}
use Rattle.zl_ast.specs.declared.expr.Expr.{Expr}
use Rattle.zl_ast.specs.declared.expr.Expr.TheVariants as tree
use Rattle.zl_ast.specs.declared.expr.Expr.TheOpen as open_expr
use Rattle.zl_ast.specs.declared.expr.Expr.TheFolds.{fold-roll-Expr, fold_out-Link}
use Rattle.zl_ast.specs.declared.expr.Link.{Link, out-Link}
use Rattle.zl_ast.specs.NamesUsed.{Known, Uses, all_uses, read_broken, last_broken, call_broken, expr_step, link_step, expr_uses, link_uses, values_uses}
use Rattle.zl_names.proofs.EarliestLemmas.{earliest-append, earliest-none}

module _ (k : Known) (results : ℕ) (visible : List ℕ) where
  pub uses-lit : (v : Value) (at : Pos) → expr_uses k (tree.Lit v at) results visible ≡ []
  unfolding expr_uses link_uses
  uses-lit v at = ap (λ x. expr_uses k x results visible) (sym (tree.rolls-Lit v at)) ∙ ap (λ u. u results visible) (fold-roll-Expr (ℕ → Uses) Uses (expr_step k) (link_step k) (open_expr.Lit v at))

  pub uses-var : (x : Name) → expr_uses k (tree.Var x) results visible ≡ read_broken visible k.constants x
  unfolding expr_uses link_uses
  uses-var x = ap (λ x. expr_uses k x results visible) (sym (tree.rolls-Var x)) ∙ ap (λ u. u results visible) (fold-roll-Expr (ℕ → Uses) Uses (expr_step k) (link_step k) (open_expr.Var x))

  pub uses-last : (x : Name) (at : Pos) → expr_uses k (tree.Last x at) results visible ≡ last_broken visible k.parameters x at
  unfolding expr_uses link_uses
  uses-last x at = ap (λ x. expr_uses k x results visible) (sym (tree.rolls-Last x at)) ∙ ap (λ u. u results visible) (fold-roll-Expr (ℕ → Uses) Uses (expr_step k) (link_step k) (open_expr.Last x at))

  pub uses-call : (f : Name) (args : List Expr) → expr_uses k (tree.Call f args) results visible ≡ call_broken (k.signature f.id) f (length args) results ++ values_uses k args visible
  unfolding expr_uses link_uses
  uses-call f args = ap (λ x. expr_uses k x results visible) (sym (tree.rolls-Call f args)) ∙ ap (λ u. u results visible) (fold-roll-Expr (ℕ → Uses) Uses (expr_step k) (link_step k) (open_expr.Call f args)) ∙ ap (λ n. call_broken (k.signature f.id) f n results ++ values_uses k args visible) (length-map args (expr_uses k))

  pub uses-prefix : (op : Prefix) (at : Pos) (x : Expr) → expr_uses k (tree.Prefix op at x) results visible ≡ expr_uses k x 1 visible
  unfolding expr_uses link_uses
  uses-prefix op at x = ap (λ x. expr_uses k x results visible) (sym (tree.rolls-Prefix op at x)) ∙ ap (λ u. u results visible) (fold-roll-Expr (ℕ → Uses) Uses (expr_step k) (link_step k) (open_expr.Prefix op at x))

  pub uses-chain : (x : Expr) (ls : List Link) → expr_uses k (tree.Chain x ls) results visible ≡ expr_uses k x 1 visible ++ all_uses (map (link_uses k) ls) visible
  unfolding expr_uses link_uses
  uses-chain x ls = ap (λ x. expr_uses k x results visible) (sym (tree.rolls-Chain x ls)) ∙ ap (λ u. u results visible) (fold-roll-Expr (ℕ → Uses) Uses (expr_step k) (link_step k) (open_expr.Chain x ls))

  pub uses-flow : (op : FlowOp) (at : Pos) (x y : Expr) → expr_uses k (tree.Flow op at x y) results visible ≡ expr_uses k x 1 visible ++ expr_uses k y 1 visible
  unfolding expr_uses link_uses
  uses-flow op at x y = ap (λ x. expr_uses k x results visible) (sym (tree.rolls-Flow op at x y)) ∙ ap (λ u. u results visible) (fold-roll-Expr (ℕ → Uses) Uses (expr_step k) (link_step k) (open_expr.Flow op at x y))

  pub uses-if : (at : Pos) (c x y : Expr) → expr_uses k (tree.If at c x y) results visible ≡ expr_uses k c 1 visible ++ (expr_uses k x 1 visible ++ expr_uses k y 1 visible)
  unfolding expr_uses link_uses
  uses-if at c x y = ap (λ x. expr_uses k x results visible) (sym (tree.rolls-If at c x y)) ∙ ap (λ u. u results visible) (fold-roll-Expr (ℕ → Uses) Uses (expr_step k) (link_step k) (open_expr.If at c x y))

pub uses-link : (k : Known) (l : Link) (visible : List ℕ) → link_uses k l visible ≡ expr_uses k (out-Link l).arg 1 visible
unfolding expr_uses link_uses
uses-link k l visible = ap (λ u. u visible) (fold_out-Link (ℕ → Uses) Uses (expr_step k) (link_step k) l)

pub ruleset uses = (common_steps, earliest-append, earliest-none, uses-lit, uses-var, uses-last, uses-call, uses-prefix, uses-chain, uses-flow, uses-if, uses-link)
