-- The words in which the trees of worked texts are written down.
use Rattle.std.proofs.Common.{ℕ, Bool, false, if◌then◌else◌, List, [], ◌∷◌}
use Rattle.std.specs.Prelude.{pos}
use Rattle.std.specs.List.{list_any}
use Rattle.zl_value.specs.Fraction.{over}
use Rattle.zl_value.specs.declared.position.Pos.{Pos}
use Rattle.zl_value.specs.declared.value.Value.TheVariants.{I, F}
use Rattle.zl_value.specs.declared.value.Ty.TheVariants.{Int, Float}
use Rattle.zl_ast.specs.declared.name.Name.{Name}
use Rattle.zl_ast.specs.declared.operator.Infix.TheVariants as infix_op
use Rattle.zl_ast.specs.declared.expr.Expr.{Expr}
use Rattle.zl_ast.specs.declared.expr.Expr.TheVariants as tree
use Rattle.zl_ast.specs.declared.eqn.Cond.{Cond}
use Rattle.zl_ast.specs.declared.eqn.Cond.TheVariants as cond
use Rattle.zl_ast.specs.declared.eqn.Move.{Move}
use Rattle.zl_ast.specs.declared.eqn.ResetArm.{ResetArm}
use Rattle.zl_ast.specs.Assignments.{Assignment}
use Rattle.zl_ast.specs.Expressions.{link}
use Rattle.zl_meaning.specs.Worked.{at}
use Rattle.zl_flat.specs.FirstPlaces.{same_pos}

-- ---- trees: each word is followed by the line and the columns at which its tokens stand

abbrev pub int : ℕ → ℕ → ℕ → Expr
int n line column = tree.Lit (I (pos n)) (at line column)

-- a number that is no whole one
abbrev pub part : ℕ → ℕ → ℕ → ℕ → Expr
part n d line column = tree.Lit (F (over (pos n) d)) (at line column)

-- the difference of two floats
abbrev pub minus : Expr → ℕ → ℕ → Expr → Expr
minus x line column y = tree.Chain x (link infix_op.MinusDot (at line column) y ∷ [])

-- `up` of an expression
abbrev pub up_of : ℕ → ℕ → Expr → Cond
up_of line column x = cond.Event (record { at = at line column; arg = x } ∷ [])

-- a reset of a derivative by an `up`
abbrev pub resets_at : ℕ → ℕ → Expr → Expr → ResetArm
resets_at line column x value = record { event = record { at = at line column; arg = x } ∷ []; value = value }

-- a move by `until` and an `up`, and by `then` or by `continue`
abbrev pub until_up : Bool → ℕ → ℕ → ℕ → Expr → Name → Move
until_up again line column up x target = record { strong = false; reset = again; at = at line column; cond = up_of line up x; target = target }

-- ---- types

-- int at these places, and float elsewhere
abbrev pub ints_at : List Pos → Assignment
ints_at ps p = if list_any (same_pos p) ps then Int else Float
