-- The place of an expression, by its form.
use Rattle.std.proofs.Common.{◌≡◌, List, [], ◌∷◌, map, refl, sym, ap, ◌∙◌}
use Rattle.std.proofs.lemmas.Grind.{common_steps}
use Rattle.zl_value.specs.declared.position.Pos.{Pos}
use Rattle.zl_value.specs.declared.value.Value.{Value}
use Rattle.zl_ast.specs.declared.name.Name.{Name}
use Rattle.zl_ast.specs.declared.operator.Prefix.{Prefix}
use Rattle.zl_ast.specs.declared.operator.FlowOp.{FlowOp}
use Rattle.zl_ast.specs.declared.expr.Expr.{Expr}
use Rattle.zl_ast.specs.declared.expr.Expr.TheVariants as tree
use Rattle.zl_ast.specs.declared.expr.Expr.TheOpen as open_expr
use Rattle.zl_ast.specs.declared.expr.Expr.TheFolds.{fold-Link, fold-roll-Expr, fold_out-Link}
use Rattle.zl_ast.specs.declared.expr.Link.{Link, out-Link}
use Rattle.zl_ast.specs.NamesRules.{place_of, place_step, last_place}

pub place-lit : (v : Value) (at : Pos) → place_of (tree.Lit v at) ≡ at
unfolding place_of
place-lit v at = ap place_of (sym (tree.rolls-Lit v at)) ∙ fold-roll-Expr Pos Pos place_step (λ l. l.at) (open_expr.Lit v at)

pub place-var : (x : Name) → place_of (tree.Var x) ≡ x.at
unfolding place_of
place-var x = ap place_of (sym (tree.rolls-Var x)) ∙ fold-roll-Expr Pos Pos place_step (λ l. l.at) (open_expr.Var x)

pub place-last : (x : Name) (at : Pos) → place_of (tree.Last x at) ≡ at
unfolding place_of
place-last x at = ap place_of (sym (tree.rolls-Last x at)) ∙ fold-roll-Expr Pos Pos place_step (λ l. l.at) (open_expr.Last x at)

pub place-call : (f : Name) (args : List Expr) → place_of (tree.Call f args) ≡ f.at
unfolding place_of
place-call f args = ap place_of (sym (tree.rolls-Call f args)) ∙ fold-roll-Expr Pos Pos place_step (λ l. l.at) (open_expr.Call f args)

pub place-prefix : (op : Prefix) (at : Pos) (x : Expr) → place_of (tree.Prefix op at x) ≡ at
unfolding place_of
place-prefix op at x = ap place_of (sym (tree.rolls-Prefix op at x)) ∙ fold-roll-Expr Pos Pos place_step (λ l. l.at) (open_expr.Prefix op at x)

pub place-flow : (op : FlowOp) (at : Pos) (x y : Expr) → place_of (tree.Flow op at x y) ≡ at
unfolding place_of
place-flow op at x y = ap place_of (sym (tree.rolls-Flow op at x y)) ∙ fold-roll-Expr Pos Pos place_step (λ l. l.at) (open_expr.Flow op at x y)

pub place-if : (at : Pos) (c x y : Expr) → place_of (tree.If at c x y) ≡ at
unfolding place_of
place-if at c x y = ap place_of (sym (tree.rolls-If at c x y)) ∙ fold-roll-Expr Pos Pos place_step (λ l. l.at) (open_expr.If at c x y)

last_places : (at : Pos) (ls : List Link) → last_place at (map (fold-Link Pos Pos place_step (λ l. l.at)) ls) ≡ last_place at (map (λ l. (out-Link l).at) ls)
last_places at [] = refl
last_places at (l ∷ ls) =
    ap (λ p. last_place p (map (fold-Link Pos Pos place_step (λ l. l.at)) ls)) (fold_out-Link Pos Pos place_step (λ l. l.at) l) ∙ last_places (out-Link l).at ls

pub place-chain : (x : Expr) (ls : List Link) → place_of (tree.Chain x ls) ≡ last_place (place_of x) (map (λ l. (out-Link l).at) ls)
unfolding place_of
place-chain x ls =
    ap place_of (sym (tree.rolls-Chain x ls)) ∙ fold-roll-Expr Pos Pos place_step (λ l. l.at) (open_expr.Chain x ls) ∙ last_places (place_of x) ls

pub ruleset place_steps = (common_steps, place-lit, place-var, place-last, place-call, place-prefix, place-chain, place-flow, place-if)
