-- Chains of no operator, which are what their first operand is.
use Rattle.std.specs.Prelude.{◌≡◌, ℕ, Bool, true, false, List, [], ◌∷◌}
use Rattle.zl_ast.specs.declared.expr.Expr.{Expr}
use Rattle.zl_ast.specs.declared.expr.Expr.TheOpen.{Expr-F, Link-F}
use Rattle.zl_ast.specs.declared.expr.Expr.TheOpen as open_expr
use Rattle.zl_ast.specs.declared.expr.Expr.TheFolds.{fold-Expr}
use Rattle.zl_flat.specs.declared.here.Here.{Here}
use Rattle.zl_flat.specs.Parts.{Counters}
use Rattle.zl_flat.specs.Instances.{Instance}
use Rattle.zl_flat.specs.Expressions.{expr_walk}

abbrev pub some_link : List Bool → Bool
some_link [] = false
some_link (b ∷ bs) = true

abbrev pub linked_step : Expr-F Bool Bool → Bool
linked_step (open_expr.Chain x ls) = some_link ls
linked_step _ = true

-- it is no chain of no operator
unfoldable pub is_linked : Expr → Bool
is_linked = fold-Expr Bool Bool linked_step (λ l. true)

-- the walks of both make the same, and are the same
pub record AreSame (x y : Expr) : Type 0 where
  pub parts : (base : ℕ) (names : List (List ℕ)) (i : Instance) (here : Here) (s : Counters) → (expr_walk base names i x here s).parts ≡ (expr_walk base names i y here s).parts
  pub root : (base : ℕ) (names : List (List ℕ)) (i : Instance) (here : Here) (s : Counters) → (expr_walk base names i x here s).root ≡ (expr_walk base names i y here s).root
