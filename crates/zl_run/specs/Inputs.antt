-- The inputs after a script line.
use Rattle.std.specs.Prelude.{ℕ, ◌<◌, List, [], ◌∷◌, set}
use Rattle.std.specs.List.{AllByRecursion}
use Rattle.zl_value.specs.declared.value.Value.{Value}
use Rattle.zl_value.specs.declared.script.Set.{Set}
use Rattle.zl_value.specs.declared.script.ScriptLine.{ScriptLine}

-- of several sets of one input the first counts
abbrev pub set_all : List Set → List Value → List Value
set_all [] inputs = inputs
set_all (s ∷ sets) inputs = set (set_all sets inputs) s.input s.value

-- the sets of a line are of inputs, of which there are `count`
abbrev pub AreWithin : ℕ → ScriptLine → Type 0
AreWithin count line = AllByRecursion (λ (s : Set). s.input < count) line.sets
