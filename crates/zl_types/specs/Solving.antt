-- What equalities and variables do to classes, and what they refuse.
use Rattle.std.specs.Prelude.{◌≡◌, List}
use Rattle.zl_value.specs.declared.position.Pos.{Pos}
use Rattle.zl_value.specs.declared.value.Ty.{Ty}
use Rattle.zl_value.specs.declared.rule.Refusal.{Refusal}
use Rattle.zl_value.specs.declared.rule.Refusal.TheVariants.{Broken, Memory}
use Rattle.zl_value.specs.declared.rule.Rule.TheVariants as rule
use Rattle.zl_ast.specs.declared.scope.VarInfo.{VarInfo}
use Rattle.zl_ast.specs.declared.constraint.Equality.{Equality}
use Rattle.zl_ast.specs.Assignments.{Assignment, IsOpen, HaveTypes, HaveTypesInEach}
use Rattle.zl_types.specs.declared.classes.Classes.{Classes}
use Rattle.zl_types.specs.Classes.{IsSound, Fits, Represents, Clashes, CanBe}

-- a refusal of an equality that no assignment which fits meets
abbrev pub IsUnmetBy : Equality → Classes → Refusal → Type 0
IsUnmetBy e c (Broken r at) = (r ≡ rule.TypeClash) × (at ≡ e.at) × Clashes e c
IsUnmetBy e c Memory = Unit {0}

-- what stands at the place has this type in each assignment that fits
pub record IsTyped (place : Pos) (old new : Classes) (type : Ty) : Type 0 where
  pub sound : IsSound new
  pub fits : (a : Assignment) → Fits old a → Fits new a
  pub fits_back : (a : Assignment) → Fits new a → Fits old a
  pub closed : (a : Assignment) → Fits new a → a place ≡ type

-- a refusal of a place at which any type can stand
abbrev pub IsUntypedAt : Pos → Classes → Refusal → Type 0
IsUntypedAt place c (Broken r at) = (r ≡ rule.TypeOpen) × (at ≡ place) × ((t : Ty) → CanBe c place t)
IsUntypedAt place c Memory = Unit {0}

-- The classes still represent the equalities that they represented, and the variables have these types under them.
pub record TypesVariables (vars : List VarInfo) (old new : Classes) (types : List Ty) : Type 0 where
  pub sound : IsSound new
  pub represents : (es : List Equality) → Represents es old → Represents es new
  pub have : (es : List Equality) → Represents es old → HaveTypes es vars types

-- the same of the variables of each declaration
pub record TypesEach (vars : List (List VarInfo)) (old new : Classes) (types : List (List Ty)) : Type 0 where
  pub sound : IsSound new
  pub represents : (es : List Equality) → Represents es old → Represents es new
  pub have : (es : List Equality) → Represents es old → HaveTypesInEach es vars types

-- a refusal of the first of these places that has two types
abbrev pub IsOpenBy : List Equality → List Pos → Refusal → Type 0
IsOpenBy es nodes (Broken r at) = (r ≡ rule.TypeOpen) × IsOpen es nodes at
IsOpenBy es nodes Memory = Unit {0}
