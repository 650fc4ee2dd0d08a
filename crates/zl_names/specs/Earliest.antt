-- The first of the violations: by the rule whose turn comes first, and there at the least place.
use Rattle.std.specs.Prelude.{Bool, ◌&&◌, ◌||◌, if◌then◌else◌, nat_eq, nat_lt, List, [], ◌∷◌, Option, Some, None}
use Rattle.zl_value.specs.declared.position.Pos.{Pos}
use Rattle.zl_ast.specs.Names.{Violation}
use Rattle.zl_ast.specs.NamesRules.{turn}

-- the one place stands before the other
abbrev pub stands_before : Pos → Pos → Bool
stands_before p q = nat_lt p.line q.line || (nat_eq p.line q.line && nat_lt p.column q.column)

-- the violation comes before the other
abbrev pub precedes : Violation → Violation → Bool
precedes v w = nat_lt (turn v.0) (turn w.0) || (nat_eq (turn v.0) (turn w.0) && stands_before v.1 w.1)

abbrev pub sooner : Option Violation → Violation → Violation
sooner None v = v
sooner (Some w) v = if precedes v w then v else w

-- the first of these violations, with one that was found before
unfoldable pub earliest : Option Violation → List Violation → Option Violation
earliest found [] = found
earliest found (v ∷ vs) = earliest (Some (sooner found v)) vs
