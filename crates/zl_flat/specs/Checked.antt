-- What expansion is given.
use Rattle.std.specs.Prelude.{◌≡◌, List, []}
use Rattle.zl_value.specs.declared.value.Ty.{Ty}
use Rattle.zl_ast.specs.declared.program.Program.{Program}
use Rattle.zl_ast.specs.Parsed.{IsParsed}
use Rattle.zl_ast.specs.NamesRules.{violations}
use Rattle.zl_ast.specs.Scopes.{scopes}
use Rattle.zl_ast.specs.TypeEqualities.{equalities}
use Rattle.zl_ast.specs.Assignments.{IsTyping}
use Rattle.zl_ast.specs.Kinds.{misplaced}

-- A program that was parsed, and that keeps the rules of names, of types and of contexts; its variables have these types.
pub record IsChecked (p : Program) (types : List (List Ty)) : Type 0 where
  pub parsed : IsParsed p
  pub names : violations p ≡ []
  pub typing : IsTyping (equalities p) (scopes p) types
  pub placed : misplaced p ≡ []
