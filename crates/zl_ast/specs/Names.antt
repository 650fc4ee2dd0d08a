-- The words of the rules of names: violations, lists of name numbers, and the names that have a meaning of their own.
use Rattle.std.specs.Prelude.{ℕ, Bool, true, false, not, ◌||◌, if◌then◌else◌, nat_eq, List, [], ◌∷◌, ◌++◌, map, codes}
use Rattle.std.specs.List.{list_any, slice_get}
use Rattle.std.specs.Option.{option_map_or}
use Rattle.std.specs.Str.{bytes_eq}
use Rattle.zl_value.specs.declared.position.Pos.{Pos}
use Rattle.zl_value.specs.declared.rule.Rule.{Rule}
use Rattle.zl_ast.specs.declared.name.Name.{Name}

-- a rule that is broken, and the place where it is
abbrev pub Violation : Type 0
Violation = Rule × Pos

-- the violation, if there is one
abbrev pub broken_if : Bool → Rule → Pos → List Violation
broken_if true r at = (r, at) ∷ []
broken_if false r at = []

-- ---- lists of name numbers

-- the number is in the list
abbrev pub among : List ℕ → ℕ → Bool
among ids id = list_any (nat_eq id) ids

-- the list with this number at its end, unless it has it
abbrev pub with_id : List ℕ → ℕ → List ℕ
with_id ids id = if among ids id then ids else ids ++ id ∷ []

-- the list with each of these numbers that it doesn't have
abbrev pub with_ids : List ℕ → List ℕ → List ℕ
with_ids ids [] = ids
with_ids ids (id ∷ more) = with_ids (with_id ids id) more

abbrev pub ids_of : List Name → List ℕ
ids_of names = map (λ x. x.id) names

-- ---- names one after the other

-- the names whose number came before, in this list of numbers or in the names
abbrev pub repeats : Rule → List ℕ → List Name → List Violation
repeats r seen [] = []
repeats r seen (x ∷ names) = broken_if (among seen x.id) r x.at ++ repeats r (with_id seen x.id) names

-- the names whose number isn't in the list
abbrev pub strangers : Rule → List ℕ → List Name → List Violation
strangers r ids [] = []
strangers r ids (x ∷ names) = broken_if (not (among ids x.id)) r x.at ++ strangers r ids names

-- ---- names with a meaning of their own

-- the name of this number has this text
abbrev pub has_text : List (List ℕ) → ℕ → List ℕ → Bool
has_text names id text = option_map_or (bytes_eq text) (slice_get names id) false

abbrev pub is_main : List (List ℕ) → ℕ → Bool
is_main names id = has_text names id (codes "main")

-- one of the two functions that every program has: from int to float, and back
abbrev pub is_built_in : List (List ℕ) → ℕ → Bool
is_built_in names id = has_text names id (codes "float_of_int") || has_text names id (codes "truncate")
