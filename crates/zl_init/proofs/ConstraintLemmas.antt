-- The constraints in an expression, by its form.
use Rattle.std.proofs.Common.{◌≡◌, ℕ, Bool, List, [], ◌∷◌, ◌++◌, map, refl, sym, ap, ◌∙◌}
use Rattle.std.proofs.lemmas.Grind.{common_steps}
use Rattle.std.proofs.lemmas.List.{append-nil}
use Rattle.zl_value.specs.declared.position.Pos.{Pos}
use Rattle.zl_value.specs.declared.value.Value.{Value}
use Rattle.zl_ast.specs.declared.name.Name.{Name}
use Rattle.zl_ast.specs.declared.operator.Prefix.{Prefix}
use Rattle.zl_ast.specs.declared.operator.FlowOp.{FlowOp}
use Rattle.zl_ast.specs.declared.constraint.Asked.TheVariants as asked
use Rattle.zl_ast.specs.declared.expr.Expr.{Expr}
use Rattle.zl_ast.specs.declared.expr.Expr.TheVariants as tree
use Rattle.zl_ast.specs.declared.expr.Expr.TheOpen as open_expr
use Rattle.zl_ast.specs.declared.expr.Expr.TheFolds.{para-Expr, para-Link, para-roll-Expr, para-roll-Link}
use Rattle.zl_ast.specs.declared.expr.Link.{Link, out-Link}
use Rattle.zl_ast.specs.declared.expr.Expr.TheViews.{roll-out-Link}
use Rattle.zl_ast.specs.Names.{is_built_in}
use Rattle.zl_ast.specs.NamesRules.{place_of}
use Rattle.zl_ast.specs.Initialised.{Known, Constraints, node, ask, late_where_each, read_constraint, last_constraints, call_constraints, prefix_constraints, flow_constraints, each_constraints, links_constraints, expr_step, link_step, expr_constraints, link_constraints, links_of, exprs_constraints}

module _ (k : Known) (free : ℕ → Bool) where
  nodes_of : (xs : List Expr) → map node (map (λ x. (x, para-Expr Constraints (Pos → Constraints) (expr_step k) (link_step k) x)) xs) ≡ map place_of xs
  nodes_of [] = refl
  nodes_of (x ∷ xs) = ap (λ ps. place_of x ∷ ps) (nodes_of xs)

  each_of : (xs : List Expr) → each_constraints (map (λ x. (x, para-Expr Constraints (Pos → Constraints) (expr_step k) (link_step k) x)) xs) free ≡ exprs_constraints k xs free
  unfolding expr_constraints link_constraints
  each_of [] = refl
  each_of (x ∷ xs) = ap (λ rs. expr_constraints k x free ++ rs) (each_of xs)

  all_links_of : (left : Pos) (ls : List Link) → links_constraints left (map (λ l. (l, para-Link Constraints (Pos → Constraints) (expr_step k) (link_step k) l)) ls) free ≡ links_of k left ls free
  unfolding expr_constraints link_constraints
  all_links_of left [] = refl
  all_links_of left (l ∷ ls) = ap (λ rs. link_constraints k l left free ++ rs) (all_links_of (out-Link l).at ls)

  pub constraints-lit : (v : Value) (at : Pos) → expr_constraints k (tree.Lit v at) free ≡ ask at at asked.Early ∷ []
  unfolding expr_constraints link_constraints
  constraints-lit v at = ap (λ x. expr_constraints k x free) (sym (tree.rolls-Lit v at)) ∙ ap (λ u. u free) (para-roll-Expr Constraints (Pos → Constraints) (expr_step k) (link_step k) (open_expr.Lit v at))

  pub constraints-var : (x : Name) → expr_constraints k (tree.Var x) free ≡ read_constraint (k.place x.id) x.at ∷ []
  unfolding expr_constraints link_constraints
  constraints-var x = ap (λ x. expr_constraints k x free) (sym (tree.rolls-Var x)) ∙ ap (λ u. u free) (para-roll-Expr Constraints (Pos → Constraints) (expr_step k) (link_step k) (open_expr.Var x))

  pub constraints-last : (x : Name) (at : Pos) → expr_constraints k (tree.Last x at) free ≡ last_constraints k x at free
  unfolding expr_constraints link_constraints
  constraints-last x at = ap (λ x. expr_constraints k x free) (sym (tree.rolls-Last x at)) ∙ ap (λ u. u free) (para-roll-Expr Constraints (Pos → Constraints) (expr_step k) (link_step k) (open_expr.Last x at))

  pub constraints-call : (f : Name) (args : List Expr) → expr_constraints k (tree.Call f args) free ≡ call_constraints (is_built_in k.names f.id) f.at (map place_of args) ++ exprs_constraints k args free
  unfolding expr_constraints link_constraints
  constraints-call f args = ap (λ x. expr_constraints k x free) (sym (tree.rolls-Call f args)) ∙ ap (λ u. u free) (para-roll-Expr Constraints (Pos → Constraints) (expr_step k) (link_step k) (open_expr.Call f args)) ∙ ap (λ ps. call_constraints (is_built_in k.names f.id) f.at ps ++ each_constraints (map (λ x. (x, expr_constraints k x)) args) free) (nodes_of args) ∙ ap (λ rs. call_constraints (is_built_in k.names f.id) f.at (map place_of args) ++ rs) (each_of args)

  pub constraints-prefix : (op : Prefix) (at : Pos) (x : Expr) → expr_constraints k (tree.Prefix op at x) free ≡ prefix_constraints op at (place_of x) ++ expr_constraints k x free
  unfolding expr_constraints link_constraints
  constraints-prefix op at x = ap (λ x. expr_constraints k x free) (sym (tree.rolls-Prefix op at x)) ∙ ap (λ u. u free) (para-roll-Expr Constraints (Pos → Constraints) (expr_step k) (link_step k) (open_expr.Prefix op at x))

  pub constraints-chain : (x : Expr) (ls : List Link) → expr_constraints k (tree.Chain x ls) free ≡ expr_constraints k x free ++ links_of k (place_of x) ls free
  unfolding expr_constraints link_constraints
  constraints-chain x ls = ap (λ x. expr_constraints k x free) (sym (tree.rolls-Chain x ls)) ∙ ap (λ u. u free) (para-roll-Expr Constraints (Pos → Constraints) (expr_step k) (link_step k) (open_expr.Chain x ls)) ∙ ap (λ rs. expr_constraints k x free ++ rs) (all_links_of (place_of x) ls)

  pub constraints-flow : (op : FlowOp) (at : Pos) (x y : Expr) → expr_constraints k (tree.Flow op at x y) free ≡ expr_constraints k x free ++ (flow_constraints op at (place_of x) (place_of y) ++ expr_constraints k y free)
  unfolding expr_constraints link_constraints
  constraints-flow op at x y = ap (λ x. expr_constraints k x free) (sym (tree.rolls-Flow op at x y)) ∙ ap (λ u. u free) (para-roll-Expr Constraints (Pos → Constraints) (expr_step k) (link_step k) (open_expr.Flow op at x y))

  pub constraints-if : (at : Pos) (c x y : Expr) → expr_constraints k (tree.If at c x y) free ≡ late_where_each at (place_of c ∷ place_of x ∷ place_of y ∷ []) ++ (expr_constraints k c free ++ (expr_constraints k x free ++ expr_constraints k y free))
  unfolding expr_constraints link_constraints
  constraints-if at c x y = ap (λ x. expr_constraints k x free) (sym (tree.rolls-If at c x y)) ∙ ap (λ u. u free) (para-roll-Expr Constraints (Pos → Constraints) (expr_step k) (link_step k) (open_expr.If at c x y))

pub constraints-link : (k : Known) (l : Link) (left : Pos) (free : ℕ → Bool) → link_constraints k l left free ≡ late_where_each (out-Link l).at (left ∷ place_of (out-Link l).arg ∷ []) ++ expr_constraints k (out-Link l).arg free
unfolding expr_constraints link_constraints
constraints-link k l left free = ap (λ m. link_constraints k m left free) (sym (roll-out-Link l)) ∙ ap (λ u. u left free) (para-roll-Link Constraints (Pos → Constraints) (expr_step k) (link_step k) (out-Link l))

pub ruleset constraint_steps = (common_steps, append-nil, constraints-link, constraints-lit, constraints-var, constraints-last, constraints-call, constraints-prefix, constraints-chain, constraints-flow, constraints-if)
