-- Levels of the variables and occurrences of a program, each named by its place, and what constraints say of them.
use Rattle.std.specs.Prelude.{◌≡◌, List}
use Rattle.zl_value.specs.declared.position.Pos.{Pos}
use Rattle.zl_value.specs.declared.rule.Refusal.{Refusal}
use Rattle.zl_value.specs.declared.rule.Refusal.TheVariants.{Broken, Memory}
use Rattle.zl_value.specs.declared.rule.Rule.{Rule}
use Rattle.zl_value.specs.declared.rule.Rule.TheVariants as rule
use Rattle.zl_ast.specs.declared.constraint.Asked.{Asked}
use Rattle.zl_ast.specs.declared.constraint.Asked.TheVariants as asked
use Rattle.zl_ast.specs.declared.constraint.Requirement.{Requirement}
use Rattle.zl_ast.specs.Unsolved.{MeetsAll, IsFirstUnsolved}

-- Early: there is a value from the first instant on. Late: there may be none at the first instant.
pub data Level : Type 0 where
  early : Level
  late : Level

abbrev pub Levels : Type 0
Levels = Pos → Level

abbrev pub Grants : Levels → Pos → Asked → Type 0
Grants levels p asked.Early = levels p ≡ early
Grants levels p asked.Late = levels p ≡ late
Grants levels p (asked.LateWhere q) = levels q ≡ late → levels p ≡ late
Grants levels p asked.Never = ⊥

abbrev pub Meets : Levels → Requirement → Type 0
Meets levels r = Grants levels r.node r.asked

-- the levels meet all the constraints
abbrev pub Allow : List Requirement → Levels → Type 0
Allow rs levels = MeetsAll Meets rs levels

-- no levels meet the constraints up to this place
abbrev pub IsUnmet : List Requirement → Pos → Type 0
IsUnmet rs at = IsFirstUnsolved Meets (λ r. r.at) rs at

pub record HasLevels (rs : List Requirement) : Type 0 where
  pub levels : Levels
  pub allow : Allow rs levels

-- what a refusal by the rule of initialisation says
abbrev pub IsUninitialised : List Requirement → Rule → Pos → Type 0
IsUninitialised rs rule.Init at = IsUnmet rs at
IsUninitialised rs _ at = ⊥

abbrev pub IsUninitialisedBy : List Requirement → Refusal → Type 0
IsUninitialisedBy rs (Broken r at) = IsUninitialised rs r at
IsUninitialisedBy rs Memory = Unit {0}
