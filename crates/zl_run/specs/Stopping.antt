-- What the script asks for next, by its lines that aren't passed.
use Rattle.std.specs.Prelude.{ℕ, ◌+◌, Bool, if◌then◌else◌, List, [], ◌∷◌, Option, Some, None}
use Rattle.zl_value.specs.Fraction.{Fraction}
use Rattle.zl_value.specs.Times.{is_same}
use Rattle.zl_value.specs.Loop.{Next, Ends, Steps, Flows, step_or_bound, flow_or_horizon}
use Rattle.zl_value.specs.declared.script.Script.{Script}
use Rattle.zl_value.specs.declared.script.ScriptLine.{ScriptLine}
use Rattle.zl_value.specs.declared.script.Set.{Set}
use Rattle.zl_run.specs.declared.stop.Move.{Move}
use Rattle.zl_run.specs.declared.stop.Move.TheVariants as move

-- the line of this time, if the first is
abbrev pub due_in : List ScriptLine → Fraction → Option ScriptLine
due_in [] time = None
due_in (line ∷ lines) time = if is_same line.time time then Some line else None

-- the time of the first, else the horizon
abbrev pub stop_in : Script → List ScriptLine → Fraction
stop_in script [] = script.horizon
stop_in script (line ∷ lines) = line.time

-- what follows an instant without a fault
abbrev pub next_by : Script → Fraction → Bool → ℕ → Next
next_by script time demanded made = if demanded then step_or_bound script made else flow_or_horizon script time

abbrev pub as_next : Move → Next
as_next (move.End ending) = Ends ending
as_next move.Step = Steps
as_next move.Flow = Flows

-- how many lines are passed behind a step
abbrev pub one_more_if : ℕ → Option ScriptLine → ℕ
one_more_if n None = n
one_more_if n (Some line) = n + 1

-- the sets of a line
abbrev pub sets_in : Option ScriptLine → List Set
sets_in None = []
sets_in (Some line) = line.sets
