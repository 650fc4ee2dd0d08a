-- The variables of a declaration, and the places that they have in one copy of its body.
use Rattle.std.specs.Prelude.{ℕ, if◌then◌else◌, nat_eq, List, [], ◌∷◌, Option, Some, None}
use Rattle.zl_value.specs.declared.value.Ty.{Ty}
use Rattle.zl_ast.specs.declared.scope.VarInfo.{VarInfo}
use Rattle.zl_flat.specs.declared.variable.Variable.{Variable}
pub use Rattle.zl_flat.specs.FirstPlaces.{place_in_text, same_pos, is_there, is_first}

-- variables with their types, and their places in the copy
abbrev pub variables : List VarInfo → List Ty → List ℕ → List Variable
variables (v ∷ vs) (t ∷ ts) (p ∷ ps) = record { name = v.name; ty = t; place = p } ∷ variables vs ts ps
variables _ _ _ = []

-- the variable with this name number
abbrev pub variable_of : List Variable → ℕ → Option Variable
variable_of [] id = None
variable_of (v ∷ vs) id = if nat_eq v.name id then Some v else variable_of vs id
