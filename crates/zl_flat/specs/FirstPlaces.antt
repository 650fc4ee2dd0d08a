-- Where the variables of a declaration first stand in the text.
use Rattle.std.specs.Prelude.{ℕ, Bool, false, ◌&&◌, if◌then◌else◌, nat_eq, List, [], ◌∷◌, Option, Some, None}
use Rattle.zl_value.specs.declared.position.Pos.{Pos}
use Rattle.zl_ast.specs.declared.name.Name.{Name}
use Rattle.zl_ast.specs.declared.scope.VarInfo.{VarInfo}

-- where the variable with this name number stands in the text
abbrev pub place_in_text : List VarInfo → ℕ → Option Pos
place_in_text [] id = None
place_in_text (v ∷ vs) id = if nat_eq v.name id then Some v.at else place_in_text vs id

abbrev pub same_pos : Pos → Pos → Bool
same_pos p q = nat_eq p.line q.line && nat_eq p.column q.column

abbrev pub is_there : Option Pos → Pos → Bool
is_there None at = false
is_there (Some p) at = same_pos p at

-- the name is that of a variable, where the variable first stands in the text: here it gets its place
abbrev pub is_first : List VarInfo → Name → Bool
is_first vars x = is_there (place_in_text vars x.id) x.at
