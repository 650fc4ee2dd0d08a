-- What the laws of worked programs say of a program.
use Rattle.std.specs.Prelude.{◌≡◌, List, [], ◌∷◌}
use Rattle.zl_value.specs.declared.position.Pos.{Pos}
use Rattle.zl_value.specs.declared.value.Ty.{Ty}
use Rattle.zl_value.specs.declared.rule.Rule.{Rule}
use Rattle.zl_value.specs.declared.rule.Rule.TheVariants.{Init, TypeClash, TypeOpen}
use Rattle.zl_ast.specs.declared.program.Program.{Program}
use Rattle.zl_ast.specs.NamesRules.{violations, IsRefusedAt}
use Rattle.zl_ast.specs.Scopes.{scopes}
use Rattle.zl_ast.specs.Assignments.{IsTyping}
use Rattle.zl_ast.specs.TypeEqualities.{equalities}
use Rattle.zl_ast.specs.TypesRules.{IsTypesRefusedAt}
use Rattle.zl_ast.specs.Kinds.{misplaced}
use Rattle.zl_ast.specs.Levels.{HasLevels, IsUninitialised}
use Rattle.zl_ast.specs.Initialised.{requirements}

-- ---- names

-- it breaks no rule of names
abbrev pub KeepsNames : Program → Type 0
KeepsNames p = violations p ≡ []

-- it breaks this rule at this place, and no rule elsewhere
abbrev pub BreaksNames : Rule → Pos → Program → Type 0
BreaksNames r at p = violations p ≡ (r, at) ∷ []

-- a program that does so is refused by the rule at the place
abbrev pub OneIsRefused : Type 0
OneIsRefused = (p : Program) (r : Rule) (at : Pos) → BreaksNames r at p → IsRefusedAt p r at

-- ---- types and contexts

-- its variables have these types, declaration by declaration, and no others
abbrev pub KeepsTypes : List (List Ty) → Program → Type 0
KeepsTypes types p = IsTyping (equalities p) (scopes p) types

-- its types clash at this place
abbrev pub Clashes : Pos → Program → Type 0
Clashes at p = IsTypesRefusedAt p TypeClash at

-- types are no clash in it, and this place is that of the first variable with two types
abbrev pub StaysOpen : Pos → Program → Type 0
StaysOpen at p = IsTypesRefusedAt p TypeOpen at

-- each construct stands in its context
abbrev pub KeepsContexts : Program → Type 0
KeepsContexts p = misplaced p ≡ []

-- the constructs at these places stand in contexts where they may not, and no others do
abbrev pub BreaksContexts : List Pos → Program → Type 0
BreaksContexts places p = misplaced p ≡ places

-- ---- initialisation

-- some levels meet its constraints
abbrev pub KeepsInit : Program → Type 0
KeepsInit p = HasLevels (requirements p)

-- its constraints can be met up to this place, and not with that of this place
abbrev pub BreaksInit : Pos → Program → Type 0
BreaksInit at p = IsUninitialised (requirements p) Init at
