-- Trees of one variable whose derivative is a number: `let hybrid main() = x where rec der x = slope init start`. This
-- project's own.
use Rattle.std.specs.Prelude.{ℕ, Bool, false, ◌==◌, ◌&&◌, if◌then◌else◌, List, [], ◌∷◌, codes, Option, Some, None, slice_get}
use Rattle.std.specs.Str.{bytes_eq}
use Rattle.zl_value.specs.Fraction.{Fraction}
use Rattle.zl_value.specs.declared.thin.Thin.{Thin}
use Rattle.zl_value.specs.declared.value.Value.TheVariants.{F}
use Rattle.zl_cli.specs.declared.thin.Motion.{Motion}
use Rattle.zl_ast.specs.declared.name.Name.{Name}
use Rattle.zl_ast.specs.declared.program.Decl.{Decl}
use Rattle.zl_ast.specs.declared.program.DeclKind.{DeclKind}
use Rattle.zl_ast.specs.declared.program.DeclKind.TheVariants.{Hybrid}
use Rattle.zl_ast.specs.declared.program.Param.{Param}
use Rattle.zl_ast.specs.declared.program.Program.{Program}
use Rattle.zl_ast.specs.declared.expr.Expr.{Expr}
use Rattle.zl_ast.specs.declared.expr.Expr.TheOpen.{Expr-F, Link-F}
use Rattle.zl_ast.specs.declared.expr.Expr.TheOpen as open_expr
use Rattle.zl_ast.specs.declared.expr.Expr.TheFolds.{fold-Expr}
use Rattle.zl_ast.specs.declared.eqn.Eqn.{Eqn}
use Rattle.zl_ast.specs.declared.eqn.Eqn.TheOpen.{Eqn-F, Arm-F, Body-F, State-F}
use Rattle.zl_ast.specs.declared.eqn.Eqn.TheOpen as open_eqn
use Rattle.zl_ast.specs.declared.eqn.Eqn.TheFolds.{fold-Eqn}

-- the number that an expression is
abbrev pub number_step : Expr-F (Option Fraction) (Option Fraction) → Option Fraction
number_step (open_expr.Lit (F f) at) = Some f
number_step _ = None

unfoldable pub number_of : Expr → Option Fraction
number_of = fold-Expr (Option Fraction) (Option Fraction) number_step (λ l. None)

-- the variable that an expression is
abbrev pub variable_step : Expr-F (Option Name) (Option Name) → Option Name
variable_step (open_expr.Var x) = Some x
variable_step _ = None

unfoldable pub variable_of : Expr → Option Name
variable_of = fold-Expr (Option Name) (Option Name) variable_step (λ l. None)

-- the equation `der name = slope init start`
abbrev pub with_numbers : Name → Option Fraction → Option Fraction → Option Motion
with_numbers x (Some slope) (Some start) = Some (record { name = x; slope = slope; start = start })
with_numbers x _ _ = None

abbrev pub motion_step : Eqn-F (Option Motion) (Option Motion) (Option Motion) (Option Motion) → Option Motion
motion_step (open_eqn.Der at x slope (Some start) []) = with_numbers x (number_of slope) (number_of start)
motion_step _ = None

unfoldable pub motion_of : Eqn → Option Motion
motion_of = fold-Eqn (Option Motion) (Option Motion) (Option Motion) (Option Motion) motion_step (λ a. None) (λ b. None) (λ s. None)

-- the name of this number is `main`
abbrev pub is_main : Option (List ℕ) → Bool
is_main None = false
is_main (Some text) = bytes_eq text (codes "main")

abbrev pub named_motion : Motion → Option (List ℕ) → Option Thin
named_motion m None = None
named_motion m (Some text) = Some (record { name = text; at = m.name.at; slope = m.slope; start = m.start })

-- the motion `m`, if it is that of the result `x` of a `main`
abbrev pub thin_from : List (List ℕ) → Name → Option Name → Option Motion → Option Thin
thin_from names main (Some x) (Some m) =
    if is_main (slice_get names main.id) && x.id == m.name.id then named_motion m (slice_get names m.name.id) else None
thin_from names main _ _ = None

-- one hybrid declaration without parameters, with one result and one equation
abbrev pub thin_declaration : List (List ℕ) → Name → DeclKind → List Param → List Expr → List Eqn → Option Thin
thin_declaration names main Hybrid [] (r ∷ []) (e ∷ []) = thin_from names main (variable_of r) (motion_of e)
thin_declaration names main _ _ _ _ = None

abbrev pub thin_declarations : List (List ℕ) → List Decl → Option Thin
thin_declarations names (d ∷ []) = thin_declaration names d.name d.kind d.params d.results d.eqs
thin_declarations names _ = None

-- what a tree says, if it is of this form
abbrev pub thin_tree : Program → Option Thin
thin_tree program = thin_declarations program.names program.decls
