-- The limits of expansion, and what `expand` answers.
use Rattle.std.specs.Prelude.{◌≡◌, ◌<◌, ◌≤◌, List, Some}
use Rattle.zl_value.specs.declared.position.Pos.{Pos}
use Rattle.zl_value.specs.declared.value.Ty.{Ty}
use Rattle.zl_value.specs.declared.rule.Rule.{Rule}
use Rattle.zl_value.specs.declared.rule.Rule.TheVariants as rule
use Rattle.zl_value.specs.declared.rule.Refusal.{Refusal}
use Rattle.zl_value.specs.declared.rule.Refusal.TheVariants.{Broken, Memory}
use Rattle.zl_ast.specs.declared.scope.VarInfo.{VarInfo}
use Rattle.zl_ast.specs.declared.program.Program.{Program}
use Rattle.zl_flat.specs.declared.size.Size.{Size}
use Rattle.zl_flat.specs.ScopedDecls.{MainOf, main_size, program_main}

-- the greatest counts that are allowed
abbrev pub limit : Size
limit = record { places = 8192; occs = 262144; sites = 1024; blocks = 65536; calls = 64 }

pub record Fits (s : Size) : Type 0 where
  pub places : s.places ≤ limit.places
  pub occs : s.occs ≤ limit.occs
  pub sites : s.sites ≤ limit.sites
  pub blocks : s.blocks ≤ limit.blocks
  pub calls : s.calls ≤ limit.calls

-- a count passes its limit
pub data Passes (s : Size) : Type 0 where
  OfPlaces : limit.places < s.places → Passes s
  OfOccs : limit.occs < s.occs → Passes s
  OfSites : limit.sites < s.sites → Passes s
  OfBlocks : limit.blocks < s.blocks → Passes s
  OfCalls : limit.calls < s.calls → Passes s

-- A program with these scopes and types has a `main` whose counts keep their limits.
pub record FitsIn (p : Program) (scopes : List (List VarInfo)) (types : List (List Ty)) : Type 0 where
  pub main : MainOf
  pub is_main : program_main p scopes types ≡ Some main
  pub fits : Fits (main_size main)

-- Expansion is refused where a count passes its limit, at the name of `main`.
pub record IsTooLarge (p : Program) (scopes : List (List VarInfo)) (types : List (List Ty)) (at : Pos) : Type 0 where
  pub main : MainOf
  pub is_main : program_main p scopes types ≡ Some main
  pub passes : Passes (main_size main)
  pub is : at ≡ main.main.decl.name.at

abbrev pub IsExpandRefusal : Program → List (List VarInfo) → List (List Ty) → Rule → Pos → Type 0
IsExpandRefusal p scopes types rule.ExpandSize at = IsTooLarge p scopes types at
IsExpandRefusal p scopes types _ at = ⊥

-- What a refusal says: nothing where memory ran out.
abbrev pub IsExpandRefusedBy : Program → List (List VarInfo) → List (List Ty) → Refusal → Type 0
IsExpandRefusedBy p scopes types (Broken r at) = IsExpandRefusal p scopes types r at
IsExpandRefusedBy p scopes types Memory = Unit {0}
