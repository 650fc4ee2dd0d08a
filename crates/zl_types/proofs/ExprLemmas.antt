-- The equalities of an expression, by its form.
use Rattle.std.proofs.Common.{◌≡◌, List, [], ◌∷◌, ◌++◌, map, Option, Some, None, refl, sym, ap, ◌∙◌, append_assoc}
use Rattle.std.proofs.lemmas.Grind.{common_steps}
use Rattle.std.proofs.lemmas.List.{append-nil}
use Rattle.zl_value.specs.declared.position.Pos.{Pos}
use Rattle.zl_value.specs.declared.value.Value.{Value}
use Rattle.zl_ast.specs.declared.name.Name.{Name}
use Rattle.zl_ast.specs.declared.operator.Prefix.{Prefix}
use Rattle.zl_ast.specs.declared.operator.FlowOp.{FlowOp}
use Rattle.zl_ast.specs.declared.expr.Expr.{Expr}
use Rattle.zl_ast.specs.declared.expr.Expr.TheVariants as tree
use Rattle.zl_ast.specs.declared.expr.Expr.TheOpen as open_expr
use Rattle.zl_ast.specs.declared.expr.Link.{Link, out-Link}
use Rattle.zl_ast.specs.NamesRules.{place_of}
use Rattle.zl_ast.specs.TypeEqualities.{Environment, fixed, type_of, same_as_found, both_same, if_equalities, prefix_equalities, call_equalities, links_equalities, read_place, places, all_equalities, expr_part, link_part, expr_equalities, exprs_equalities}
use Rattle.zl_types.proofs.PartLemmas.{part, part_at, link-part}

module _ (e : Environment) where
  pub equalities-lit : (v : Value) (at : Pos) → expr_equalities e (tree.Lit v at) ≡ fixed at (type_of v) at ∷ []
  equalities-lit v at = ap (expr_equalities e) (sym (tree.rolls-Lit v at)) ∙ ap (λ p. p.equalities) (part e (open_expr.Lit v at))

  pub equalities-var : (x : Name) → expr_equalities e (tree.Var x) ≡ same_as_found x.at x.at (read_place e x)
  equalities-var x = ap (expr_equalities e) (sym (tree.rolls-Var x)) ∙ ap (λ p. p.equalities) (part e (open_expr.Var x))

  pub equalities-last : (x : Name) (at : Pos) → expr_equalities e (tree.Last x at) ≡ same_as_found at at (e.variables x.id)
  equalities-last x at = ap (expr_equalities e) (sym (tree.rolls-Last x at)) ∙ ap (λ p. p.equalities) (part e (open_expr.Last x at))

  places_of_parts : (xs : List Expr) → places (map (expr_part e) xs) ≡ map place_of xs
  places_of_parts [] = refl
  places_of_parts (x ∷ xs) = ap (λ p. p ∷ places (map (expr_part e) xs)) (part_at e x) ∙ ap (λ ps. place_of x ∷ ps) (places_of_parts xs)

  equalities_of_parts : (xs : List Expr) → all_equalities (map (expr_part e) xs) ≡ exprs_equalities e xs
  equalities_of_parts [] = refl
  equalities_of_parts (x ∷ xs) = ap (λ es. expr_equalities e x ++ es) (equalities_of_parts xs)

  pub equalities-call : (f : Name) (args : List Expr) → expr_equalities e (tree.Call f args) ≡ call_equalities e f (map place_of args) (e.declared f.id) ++ exprs_equalities e args
  equalities-call f args =
      ap (expr_equalities e) (sym (tree.rolls-Call f args)) ∙ ap (λ p. p.equalities) (part e (open_expr.Call f args))
      ∙ ap (λ ps. call_equalities e f ps (e.declared f.id) ++ all_equalities (map (expr_part e) args)) (places_of_parts args)
      ∙ ap (λ es. call_equalities e f (map place_of args) (e.declared f.id) ++ es) (equalities_of_parts args)

  pub equalities-prefix : (op : Prefix) (at : Pos) (x : Expr) → expr_equalities e (tree.Prefix op at x) ≡ prefix_equalities op at (place_of x) ++ expr_equalities e x
  equalities-prefix op at x =
      ap (expr_equalities e) (sym (tree.rolls-Prefix op at x)) ∙ ap (λ p. p.equalities) (part e (open_expr.Prefix op at x))
      ∙ ap (λ p. prefix_equalities op at p ++ expr_equalities e x) (part_at e x)

  pub equalities-chain : (x : Expr) (ls : List Link) → expr_equalities e (tree.Chain x ls) ≡ expr_equalities e x ++ links_equalities (place_of x) (map (link_part e) ls)
  equalities-chain x ls =
      ap (expr_equalities e) (sym (tree.rolls-Chain x ls)) ∙ ap (λ p. p.equalities) (part e (open_expr.Chain x ls))
      ∙ ap (λ p. expr_equalities e x ++ links_equalities p (map (link_part e) ls)) (part_at e x)

  pub equalities-flow : (op : FlowOp) (at : Pos) (x y : Expr) →
      expr_equalities e (tree.Flow op at x y) ≡ expr_equalities e x ++ (both_same at (place_of x) (place_of y) ++ expr_equalities e y)
  equalities-flow op at x y =
      ap (expr_equalities e) (sym (tree.rolls-Flow op at x y)) ∙ ap (λ p. p.equalities) (part e (open_expr.Flow op at x y))
      ∙ ap (λ p. expr_equalities e x ++ (both_same at p (expr_part e y).at ++ expr_equalities e y)) (part_at e x)
      ∙ ap (λ p. expr_equalities e x ++ (both_same at (place_of x) p ++ expr_equalities e y)) (part_at e y)

  pub equalities-if : (at : Pos) (c x y : Expr) → expr_equalities e (tree.If at c x y)
      ≡ if_equalities at (place_of c) (place_of x) (place_of y) ++ (expr_equalities e c ++ (expr_equalities e x ++ expr_equalities e y))
  equalities-if at c x y =
      ap (expr_equalities e) (sym (tree.rolls-If at c x y)) ∙ ap (λ p. p.equalities) (part e (open_expr.If at c x y))
      ∙ ap (λ p. if_equalities at p (expr_part e x).at (expr_part e y).at ++ (expr_equalities e c ++ (expr_equalities e x ++ expr_equalities e y))) (part_at e c)
      ∙ ap (λ p. if_equalities at (place_of c) p (expr_part e y).at ++ (expr_equalities e c ++ (expr_equalities e x ++ expr_equalities e y))) (part_at e x)
      ∙ ap (λ p. if_equalities at (place_of c) (place_of x) p ++ (expr_equalities e c ++ (expr_equalities e x ++ expr_equalities e y))) (part_at e y)

  pub link-op : (l : Link) → (link_part e l).op ≡ (out-Link l).op
  link-op l = ap (λ p. p.op) (link-part e l)

  pub link-at : (l : Link) → (link_part e l).at ≡ (out-Link l).at
  link-at l = ap (λ p. p.at) (link-part e l)

  pub link-right_at : (l : Link) → (link_part e l).right.at ≡ place_of (out-Link l).arg
  link-right_at l = ap (λ p. p.right.at) (link-part e l) ∙ part_at e (out-Link l).arg

  pub link-right_equalities : (l : Link) → (link_part e l).right.equalities ≡ expr_equalities e (out-Link l).arg
  link-right_equalities l = ap (λ p. p.right.equalities) (link-part e l)

pub ruleset expr_steps = (common_steps, append_assoc, append-nil, equalities-lit, equalities-var, equalities-last, equalities-call, equalities-prefix, equalities-chain, equalities-flow, equalities-if, link-op, link-at, link-right_at, link-right_equalities)
