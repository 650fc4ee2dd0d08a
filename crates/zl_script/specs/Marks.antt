-- For each input, the number of the last line that set it.
use Rattle.std.specs.Prelude.{ℕ, Bool, true, false, not, ◌==◌, List, [], ◌∷◌, ◌++◌, Option, Some, None, slice_index, slice_set}
use Rattle.zl_value.specs.declared.script.Set.{Set}

-- there is a set, and this line didn't set its input before
abbrev pub is_first : List ℕ → Option Set → ℕ → Bool
is_first last None line = false
is_first last (Some set) line = not (slice_index last set.input == line)

-- the numbers once the line has the set
abbrev pub marked : List ℕ → Option Set → ℕ → List ℕ
marked last None line = last
marked last (Some set) line = slice_set last set.input line

-- the sets of the line, with one more
abbrev pub with_set : Bool → List Set → Option Set → List Set
with_set true sets (Some set) = sets ++ set ∷ []
with_set added sets set = sets
