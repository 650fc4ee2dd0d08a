-- The place by which the equalities of types name an expression is the expression's place.
use Rattle.std.proofs.Common.{◌≡◌, List, [], ◌∷◌, map, refl, sym, ap, subst, ◌∙◌}
use Rattle.zl_value.specs.declared.position.Pos.{Pos}
use Rattle.zl_ast.specs.declared.expr.Expr.{Expr, roll-Expr}
use Rattle.zl_ast.specs.declared.expr.Expr.TheOpen as open_expr
use Rattle.zl_ast.specs.declared.expr.Expr.TheOpen.{Expr-F, Link-F}
use Rattle.zl_ast.specs.declared.expr.Expr.TheFolds.{map-Expr, fold-Link, fold-roll-Expr, fold_out-Link, ind-Expr}
use Rattle.zl_ast.specs.declared.expr.Link.{Link, out-Link}
use Rattle.zl_ast.specs.NamesRules.{place_of, place_step, last_place}
use Rattle.zl_ast.specs.TypeEqualities.{Environment, Part, LinkPart, expr_step, link_step, expr_part, link_part}

module _ (e : Environment) where
  -- what is said of a form of an expression
  part : (x : Expr-F Expr Link) → expr_part e (roll-Expr x) ≡ expr_step e (map-Expr Expr Link Part LinkPart (expr_part e) (link_part e) x)
  unfolding expr_part link_part
  part x = fold-roll-Expr Part LinkPart (expr_step e) (link_step e) x

  -- the place of a form of an expression
  place : (x : Expr-F Expr Link) → place_of (roll-Expr x) ≡ place_step (map-Expr Expr Link Pos Pos place_of (fold-Link Pos Pos place_step (λ l. l.at)) x)
  unfolding place_of
  place x = fold-roll-Expr Pos Pos place_step (λ l. l.at) x

  -- what is said of an operator with its right operand
  link-part : (l : Link) → link_part e l ≡ record { op = (out-Link l).op; at = (out-Link l).at; right = expr_part e (out-Link l).arg }
  unfolding expr_part link_part
  link-part l = fold_out-Link Part LinkPart (expr_step e) (link_step e) l

  -- the places of operators are the same in both
  links_at : (ls : List Link) → map (λ l. l.at) (map (link_part e) ls) ≡ map (fold-Link Pos Pos place_step (λ l. l.at)) ls
  links_at [] = refl
  links_at (l ∷ ls) = ap (λ p. p.at ∷ map (λ l. l.at) (map (link_part e) ls)) (link-part l) ∙ ap (λ p. p ∷ map (λ l. l.at) (map (link_part e) ls)) (sym (fold_out-Link Pos Pos place_step (λ l. l.at) l)) ∙ ap (λ ps. fold-Link Pos Pos place_step (λ l. l.at) l ∷ ps) (links_at ls)

  abbrev IsAtPlace : Expr → Type 0
  IsAtPlace x = (expr_part e x).at ≡ place_of x

  abbrev Placed : Type 0
  Placed = (x : Expr) × IsAtPlace x

  abbrev Linked : Type 0
  Linked = (l : Link) × Unit {0}

  -- the layer without its facts
  abbrev bare : Expr-F Placed Linked → Expr-F Expr Link
  bare = map-Expr Placed Linked Expr Link (λ x. x.0) (λ l. l.0)

  -- one form of an expression
  at_step : (y : Expr-F Placed Linked) → IsAtPlace (roll-Expr (bare y))
  at_step (open_expr.Lit v at) = ap (λ p. p.at) (part (open_expr.Lit v at)) ∙ sym (place (open_expr.Lit v at))
  at_step (open_expr.Var x) = ap (λ p. p.at) (part (open_expr.Var x)) ∙ sym (place (open_expr.Var x))
  at_step (open_expr.Last x at) = ap (λ p. p.at) (part (open_expr.Last x at)) ∙ sym (place (open_expr.Last x at))
  at_step (open_expr.Call f args) = ap (λ p. p.at) (part (bare (open_expr.Call f args))) ∙ sym (place (bare (open_expr.Call f args)))
  at_step (open_expr.Prefix op at x) = ap (λ p. p.at) (part (bare (open_expr.Prefix op at x))) ∙ sym (place (bare (open_expr.Prefix op at x)))
  at_step (open_expr.Chain x ls) =
      ap (λ p. p.at) (part (bare (open_expr.Chain x ls)))
      ∙ ap (λ p. last_place p (map (λ l. l.at) (map (link_part e) (map (λ l. l.0) ls)))) x.1
      ∙ ap (last_place (place_of x.0)) (links_at (map (λ l. l.0) ls))
      ∙ sym (place (bare (open_expr.Chain x ls)))
  at_step (open_expr.Flow op at x y) = ap (λ p. p.at) (part (bare (open_expr.Flow op at x y))) ∙ sym (place (bare (open_expr.Flow op at x y)))
  at_step (open_expr.If at c x y) = ap (λ p. p.at) (part (bare (open_expr.If at c x y))) ∙ sym (place (bare (open_expr.If at c x y)))

  -- an expression is named by its place
  pub part-at : (x : Expr) → (expr_part e x).at ≡ place_of x
  part-at = ind-Expr IsAtPlace (λ l. Unit {0}) (λ x y is. subst (λ z. IsAtPlace (roll-Expr z)) is (at_step y)) (λ x y is. tt)
