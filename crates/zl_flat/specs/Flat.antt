-- What `expand` answers of a program that keeps the limits.
use Rattle.std.specs.Prelude.{◌≡◌, List, Some}
use Rattle.zl_value.specs.declared.value.Ty.{Ty}
use Rattle.zl_ast.specs.declared.scope.VarInfo.{VarInfo}
use Rattle.zl_ast.specs.declared.program.Program.{Program}
use Rattle.zl_meaning.specs.FlatForm.{FlatForm}
use Rattle.zl_flat.specs.Expansion.{MainOf, main_size, main_form, program_main}
use Rattle.zl_flat.specs.Limits.{Fits}

-- The flat form of a program with these scopes and types, which has a `main` whose counts keep their limits.
pub record IsFlatOf (p : Program) (scopes : List (List VarInfo)) (types : List (List Ty)) (form : FlatForm) : Type 0 where
  pub main : MainOf
  pub is_main : program_main p scopes types ≡ Some main
  pub fits : Fits (main_size main)
  pub is : form ≡ main_form p.names main
