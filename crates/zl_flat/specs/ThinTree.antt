-- Trees of one variable whose derivative is a number: `let hybrid main() = x where rec der x = SLOPE init START`.
use Rattle.std.specs.Prelude.{◌≡◌, ℕ, true, List, [], ◌∷◌, Some}
use Rattle.zl_value.specs.declared.position.Pos.{Pos}
use Rattle.zl_value.specs.declared.thin.Thin.{Thin}
use Rattle.zl_value.specs.declared.value.Ty.{Ty}
use Rattle.zl_value.specs.declared.value.Value.TheVariants.{F}
use Rattle.zl_ast.specs.declared.name.Name.{Name}
use Rattle.zl_ast.specs.declared.expr.Expr.TheVariants as tree
use Rattle.zl_ast.specs.declared.eqn.Eqn.{Eqn}
use Rattle.zl_ast.specs.declared.eqn.Eqn.TheVariants as eqn
use Rattle.zl_ast.specs.declared.program.Decl.{Decl}
use Rattle.zl_ast.specs.declared.program.DeclKind.TheVariants.{Hybrid}
use Rattle.zl_ast.specs.declared.program.Program.{Program}
use Rattle.zl_ast.specs.Assignments.{IsTyping}
use Rattle.zl_ast.specs.Names.{is_main}
use Rattle.zl_ast.specs.Scopes.{scopes}
use Rattle.zl_ast.specs.TypeEqualities.{equalities}
use Rattle.zl_meaning.specs.ThinForm.{ThinText, thin_form}
use Rattle.zl_flat.specs.Flat.{IsFlatOf}

-- the variable, where its equation names it
abbrev pub thin_variable : Thin → ThinText → Name
thin_variable thin text = record { id = text.name; at = thin.at }

-- the variable as the result
abbrev pub thin_result : ThinText → Name
thin_result text = record { id = text.name; at = text.result }

-- the equation, which stands at this place
abbrev pub thin_equation : Pos → Thin → ThinText → Eqn
thin_equation at thin text = eqn.Der at (thin_variable thin text) (tree.Lit (F thin.slope) text.slope) (Some (tree.Lit (F thin.start) text.start)) []

-- the declaration, which has this name
abbrev pub thin_declaration : Name → Pos → Thin → ThinText → Decl
thin_declaration main at thin text = record { kind = Hybrid; name = main; params = []; results = tree.Var (thin_result text) ∷ []; eqs = thin_equation at thin text ∷ [] }

-- the program, whose names have these texts
abbrev pub thin_program : List (List ℕ) → Name → Pos → Thin → ThinText → Program
thin_program names main at thin text = record { decls = thin_declaration main at thin text ∷ []; names = names }

-- The flat form of such a program is that of one variable whose derivative is a number, and it keeps the limits.
abbrev pub ThinExpands : Type 0
ThinExpands =
    (names : List (List ℕ)) (main : Name) (at : Pos) (thin : Thin) (text : ThinText) (types : List (List Ty)) → is_main names main.id ≡ true →
    IsTyping (equalities (thin_program names main at thin text)) (scopes (thin_program names main at thin text)) types →
    IsFlatOf (thin_program names main at thin text) (scopes (thin_program names main at thin text)) types (thin_form thin text)
