-- The rules of types and kinds: what a refusal by them says of a program.
use Rattle.std.specs.Prelude.{List}
use Rattle.zl_value.specs.declared.position.Pos.{Pos}
use Rattle.zl_value.specs.declared.value.Ty.{Ty}
use Rattle.zl_value.specs.declared.rule.Refusal.{Refusal}
use Rattle.zl_value.specs.declared.rule.Refusal.TheVariants.{Broken, Memory}
use Rattle.zl_value.specs.declared.rule.Rule.{Rule}
use Rattle.zl_value.specs.declared.rule.Rule.TheVariants as rule
use Rattle.zl_ast.specs.declared.program.Program.{Program}
use Rattle.zl_ast.specs.Scopes.{scopes}
use Rattle.zl_ast.specs.Assignments.{IsTyping, IsUntyped}
use Rattle.zl_ast.specs.TypeEqualities.{equalities}
use Rattle.zl_ast.specs.Kinds.{IsMisplacedAt}

-- The program has types, and the construct at this place is the first that stands where it may not.
pub record IsOfWrongKind (p : Program) (at : Pos) : Type 0 where
  pub types : List (List Ty)
  pub typing : IsTyping (equalities p) (scopes p) types
  pub misplaced : IsMisplacedAt p at

-- a broken rule of types or kinds, and its place
abbrev pub IsTypesRefusedAt : Program → Rule → Pos → Type 0
IsTypesRefusedAt p rule.Kind at = IsOfWrongKind p at
IsTypesRefusedAt p r at = IsUntyped (equalities p) (scopes p) r at

-- What a refusal says of a program: nothing where memory ran out.
abbrev pub IsTypesRefusedBy : Program → Refusal → Type 0
IsTypesRefusedBy p (Broken r at) = IsTypesRefusedAt p r at
IsTypesRefusedBy p Memory = Unit {0}
