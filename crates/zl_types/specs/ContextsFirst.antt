-- The first of several places in the text.
use Rattle.std.specs.Prelude.{Bool, ◌&&◌, ◌||◌, if◌then◌else◌, nat_eq, nat_lt, List, [], ◌∷◌, Option, Some, None}
use Rattle.zl_value.specs.declared.position.Pos.{Pos}

-- the one place stands before the other
abbrev pub stands_before : Pos → Pos → Bool
stands_before p q = nat_lt p.line q.line || (nat_eq p.line q.line && nat_lt p.column q.column)

-- the one of two places that stands first
abbrev pub sooner : Option Pos → Pos → Pos
sooner None p = p
sooner (Some q) p = if stands_before p q then p else q

-- the first of these places, with one that was found before
unfoldable pub earliest : Option Pos → List Pos → Option Pos
earliest found [] = found
earliest found (p ∷ ps) = earliest (Some (sooner found p)) ps
