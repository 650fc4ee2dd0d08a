-- The constraints on types and those on levels stand in the order of the text.
use Rattle.std.specs.Prelude.{◌≡◌, ◌⊎◌, List, [], ◌∷◌, map}
use Rattle.std.specs.List.{AllByRecursion}
use Rattle.zl_value.specs.declared.position.Pos.{Pos}
use Rattle.zl_ast.specs.declared.program.Program.{Program}
use Rattle.zl_ast.specs.Parsed.{Before, IsParsed}
use Rattle.zl_ast.specs.TypeEqualities.{equalities}
use Rattle.zl_ast.specs.Initialised.{requirements}

-- the one place is the other, or stands before it in the text
abbrev pub NotBehind : Pos → Pos → Type 0
NotBehind p q = Before p q ⊎ (p ≡ q)

-- no place stands behind one that follows in the list
abbrev pub Rise : List Pos → Type 0
Rise [] = Unit {0}
Rise (p ∷ ps) = AllByRecursion (NotBehind p) ps × Rise ps

-- The equalities of types of a parsed tree are in the order of their places.
abbrev pub EqualitiesRise : Type 0
EqualitiesRise = (p : Program) → IsParsed p → Rise (map (λ e. e.at) (equalities p))

-- The constraints on levels of a parsed tree are in the order of their places.
abbrev pub RequirementsRise : Type 0
RequirementsRise = (p : Program) → IsParsed p → Rise (map (λ r. r.at) (requirements p))
