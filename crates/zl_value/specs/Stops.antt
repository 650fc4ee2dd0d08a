-- What a script asks of a run: its stops, its lines and the inputs. This project's own.
use Rattle.std.specs.Prelude.{ℕ, nat_eq, Bool, not, ◌&&◌, if◌then◌else◌, List, [], ◌∷◌, map, get_or, Option, Some, None}
use Rattle.std.specs.List.{list_any, list_all, find}
use Rattle.zl_value.specs.Fraction.{Fraction}
use Rattle.zl_value.specs.Lists.{listed}
use Rattle.zl_value.specs.Times.{is_same}
use Rattle.zl_value.specs.Order.{below}
use Rattle.zl_value.specs.declared.value.Value.{Value}
use Rattle.zl_value.specs.declared.script.Script.{Script}
use Rattle.zl_value.specs.declared.script.ScriptLine.{ScriptLine}
use Rattle.zl_value.specs.declared.script.Set.{Set}

-- the times at which no flow goes on: the horizon and those of the lines
abbrev pub stops : Script → List Fraction
stops script = script.horizon ∷ map (λ (line : ScriptLine). line.time) script.lines

abbrev pub is_stop : Script → Fraction → Bool
is_stop script time = list_any (is_same time) (stops script)

-- no stop lies between the two times
abbrev pub is_clear : Script → Fraction → Fraction → Bool
is_clear script from to = list_all (λ stop. not (below from stop && below stop to)) (stops script)

-- the line of this time
abbrev pub line_at : Script → Fraction → Option ScriptLine
line_at script time = find (λ (line : ScriptLine). is_same line.time time) script.lines

-- the line of this time, unless a step took it: the first of the `steps` that were made at this time did
abbrev pub line_for : Script → Fraction → ℕ → Option ScriptLine
line_for script time steps = if nat_eq steps 0 then line_at script time else None

-- the value that the sets give to an input, else the one that it had
abbrev pub set_by : ℕ → List Set → Option Value → Option Value
set_by input [] had = had
set_by input (set ∷ sets) had = if nat_eq set.input input then Some set.value else set_by input sets had

abbrev pub sets_of : Option ScriptLine → List Set
sets_of None = []
sets_of (Some line) = line.sets

-- the values of the inputs after a line, of which there are `count`: an input keeps its value until a line sets it
abbrev pub inputs_after : ℕ → Option ScriptLine → List (Option Value) → List (Option Value)
inputs_after count line had = listed count 0 (λ n. set_by n (sets_of line) (get_or had n None))
