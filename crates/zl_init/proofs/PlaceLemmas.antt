-- The place of an expression, by its form.
use Rattle.std.proofs.Common.{◌≡◌, ℕ, ◌+◌, ◌<◌, length, drop, get_or, Option, List, [], ◌∷◌, map, refl, sym, ap, ◌∙◌}
use Rattle.std.proofs.lemmas.Grind.{common_steps}
use Rattle.zl_value.specs.declared.position.Pos.{Pos}
use Rattle.zl_value.specs.declared.value.Value.{Value}
use Rattle.zl_ast.specs.declared.name.Name.{Name}
use Rattle.zl_ast.specs.declared.operator.Prefix.{Prefix}
use Rattle.zl_ast.specs.declared.operator.FlowOp.{FlowOp}
use Rattle.zl_ast.specs.declared.expr.Expr.{Expr}
use Rattle.zl_ast.specs.declared.expr.Expr.TheVariants as tree
use Rattle.zl_ast.specs.declared.expr.Expr.TheOpen as open_expr
use Rattle.zl_ast.specs.declared.expr.Expr.TheFolds.{fold-Link, fold-roll-Expr, fold_out-Link}
use Rattle.zl_ast.specs.declared.expr.Link.{Link, out-Link}
use Rattle.std.proofs.lemmas.List.{at_drop_more}
use Rattle.zl_ast.specs.declared.scope.VarInfo.{VarInfo}
use Rattle.zl_ast.specs.Initialised.{with_place, with_places}
use Rattle.zl_ast.specs.NamesRules.{place_of, place_step, last_place}

-- one variable more has its place
pub placed_more : (f g : ℕ → Option Pos) (vs : List VarInfo) (i : ℕ) (d : VarInfo) → i < length vs → f ≡ with_place g (get_or vs i d)
    → with_places f (drop (i + 1) vs) ≡ with_places g (drop i vs)
placed_more f g vs i d h e = ap (λ p. with_places p (drop (i + 1) vs)) e ∙ sym (at_drop_more (λ ys. with_places g ys) vs i d h)
