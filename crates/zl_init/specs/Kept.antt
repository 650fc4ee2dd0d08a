-- What the tables keep of the definitions.
use Rattle.std.specs.Prelude.{ℕ, Bool, not, ◌&&◌, ◌||◌, nat_eq, List, [], ◌∷◌, ◌++◌, filter, Option, Some, None}
use Rattle.zl_value.specs.declared.position.Pos.{Pos}
use Rattle.zl_ast.specs.declared.constraint.Requirement.{Requirement}
use Rattle.zl_ast.specs.declared.eqn.Body.{Body, out-Body}
use Rattle.zl_ast.specs.declared.eqn.Move.{Move}
use Rattle.zl_ast.specs.Names.{among}
use Rattle.zl_ast.specs.Anchored.{Given, in_each}
use Rattle.zl_ast.specs.Initialised as spec
use Rattle.indexmap.specs.IndexMap.{get}
use Rattle.zl_init.specs.declared.anchored.Defined.{Defined}
use Rattle.zl_init.specs.declared.anchored.Locals.{Locals}
use Rattle.zl_init.specs.declared.known.Known.{Known}
use Rattle.zl_init.specs.declared.known.Free.{Free}
use Rattle.zl_init.specs.declared.known.Places.{Places}
use Rattle.zl_init.specs.declared.known.Setting.{Setting}

-- a list of equations with one more, or with more
abbrev pub with_defined : Defined → Given → Defined
with_defined l g = record { defined = l.defined ++ g.defined; started = l.started ++ g.started }

-- the locals of bodies, and those of more bodies
abbrev pub with_locals : Locals → Given → Locals
with_locals l g = record { anchored = l.anchored ++ g.anchored; settled = l.settled ++ g.settled }

-- those of the numbers that are in the list too
unfoldable pub shared_with : List ℕ → List ℕ → List ℕ
shared_with ids found = filter (among ids) found

-- those of the numbers that are in each of the lists too
unfoldable pub shared_with_each : List (List ℕ) → List ℕ → List ℕ
shared_with_each lists found = filter (in_each lists) found

-- what is in the list and was found before, where something was
abbrev pub narrowed_by : Option (List ℕ) → List ℕ → List ℕ
narrowed_by None ids = ids
narrowed_by (Some found) ids = shared_with ids found

-- what is found in each of these lists too
abbrev pub common_after : Option (List ℕ) → List (List ℕ) → List ℕ
common_after None [] = []
common_after None (ids ∷ lists) = shared_with_each lists ids
common_after (Some found) lists = shared_with_each lists found

-- the place of the variable with this number
abbrev pub place_in : Places → ℕ → Option Pos
place_in p id = get nat_eq p.of_names id

abbrev pub known_of : Known → spec.Known
known_of k = record { names = k.names.now; place = place_in k.places; anchored = k.anchored; settled = k.settled }

-- the variables of which `last` is early
abbrev pub free_of : Free → ℕ → Bool
free_of f id = f.all || (f.handler && not (among f.inside.now id))

-- the setting, with the locals around it and the variables of its body
abbrev pub setting_of : Setting → List ℕ → List ℕ → spec.Setting
setting_of s inside own = record { hybrid = s.hybrid; handler = s.handler; inside = inside; own = own }

-- a body in a setting with these locals around it, and the conditions of moves inside it
abbrev pub body_and_moves : spec.Known → Body → List Move → Setting → List ℕ → List Requirement
body_and_moves k b moves s inside =
    let stands = setting_of s inside [] in
    spec.in_body k b stands ++ spec.moves_constraints k moves (spec.free_in (spec.within (out-Body b).locals stands))
