-- Which history a machine and what a run keeps beside it stand for.
use Rattle.std.specs.Prelude.{◌≡◌, ℕ, ◌<◌, ◌≤◌, true, false, [], ◌∷◌, length, map, take, drop, Some}
use Rattle.std.specs.List.{AllByRecursion}
use Rattle.zl_value.specs.Fraction.{Fraction, IsReduced}
use Rattle.zl_value.specs.Order.{below}
use Rattle.zl_value.specs.Script.{IsTime}
use Rattle.zl_value.specs.Stops.{line_for, inputs_after}
use Rattle.zl_value.specs.Instants.{Step, Instant, History, time_of, latest_inputs, steps_in, steps_at, mark_of}
use Rattle.zl_value.specs.Loop.{Steps}
use Rattle.zl_value.specs.System.{fired_after, next}
use Rattle.zl_value.specs.Runs.{IsPrefix}
use Rattle.zl_value.specs.declared.script.Script.{Script}
use Rattle.zl_value.specs.declared.script.ScriptLine.{ScriptLine}
use Rattle.zl_code.specs.CodeForm.{CodeForm}
use Rattle.zl_code.specs.Method.{Cells, Doing}
use Rattle.zl_code.specs.System.{system_of, events_of, instant_of, mems_after}
use Rattle.zl_machine.specs.Calls.{outcome, mode_after}
use Rattle.zl_machine.specs.MachineForm.{MachineForm, goes_on}
use Rattle.zl_run.specs.Firing.{belows_after}
use Rattle.zl_run.specs.declared.clock.Clock.{Clock}
use Rattle.zl_run.specs.declared.track.Track.{Track}

-- a script line is passed at a time at which `here` steps were made: it is earlier, or one of them took it
pub record IsPassed (time : Fraction) (here : ℕ) (line : ScriptLine) : Type 0 where
  pub earlier : below time line.time ≡ false
  pub untaken : here ≡ 0 → below line.time time ≡ true

-- it isn't passed: it is later, or of this time and no step was made
pub record IsAhead (time : Fraction) (here : ℕ) (line : ScriptLine) : Type 0 where
  pub later : below line.time time ≡ false
  pub taken : 0 < here → below time line.time ≡ true

-- the clock after a history, and the first line that isn't passed
pub record IsClockAfter (script : Script) (h : History Doing) (k : Clock) (n : ℕ) : Type 0 where
  pub time : k.time ≡ time_of h
  pub start : IsTime (time_of h)
  pub within : below script.horizon (time_of h) ≡ false
  pub made : k.made ≡ steps_in h
  pub few : steps_in h ≤ script.steps
  pub here : k.here ≡ steps_at (time_of h) h
  pub fewer : steps_at (time_of h) h ≤ steps_in h
  pub passed : AllByRecursion (IsPassed (time_of h) (steps_at (time_of h) h)) (take n script.lines)
  pub ahead : AllByRecursion (IsAhead (time_of h) (steps_at (time_of h) h)) (drop n script.lines)
  pub index : n ≤ length script.lines
  -- no instant is later
  pub later : (s : Fraction) → IsReduced s → below (time_of h) s ≡ true → steps_at s h ≡ 0

-- the machine after instant `i`
pub record IsAfter (c : CodeForm) (i : Instant Doing) (m : MachineForm) : Type 0 where
  pub code : m.code ≡ c
  pub mode : m.mode ≡ mode_after (outcome c i.kind i.table)
  pub mems : m.mems ≡ i.table.mems
  pub regs : m.regs ≡ i.table.regs
  pub inputs : m.inputs ≡ i.inputs

-- the rooms have their lengths
pub record HaveRooms (c : CodeForm) (t : Track) : Type 0 where
  pub inputs : length t.inputs.items ≡ length c.ins
  pub below : length t.below.items ≡ length c.sites
  pub events : length t.events.items ≡ length c.sites
  pub lines : length t.lines.items ≡ length c.sites

-- nothing was made yet, or this is the beginning of a run
abbrev pub IsBegun : CodeForm → Script → History Doing → Type 0
IsBegun c script [] = Unit {0}
IsBegun c script (i ∷ h) = IsPrefix (system_of c) script (i ∷ h)

-- the step after a history, with these inputs
abbrev pub the_step : CodeForm → History Doing → Cells → Instant Doing
the_step c h inputs = record {
  kind = Step;
  time = time_of h;
  inputs = inputs;
  fired = fired_after (system_of c) h;
  table = instant_of c Step (mems_after c h) inputs (events_of c (fired_after (system_of c) h));
}

-- a step is due after the history
pub record StepIsDue (c : CodeForm) (script : Script) (h : History Doing) (t : Track) (m : MachineForm) : Type 0 where
  pub begun : IsBegun c script h
  pub due : next (system_of c) script h ≡ Steps
  pub more : steps_in h < script.steps
  pub clock : IsClockAfter script h t.clock t.next
  pub rooms : HaveRooms c t
  pub inputs : inputs_after (length c.ins) (line_for script (time_of h) (steps_at (time_of h) h)) (map Some t.inputs.items) ≡ inputs_after (length c.ins) (line_for script (time_of h) (steps_at (time_of h) h)) (latest_inputs h)
  pub below : t.below.items ≡ belows_after c h
  pub events : t.events.items ≡ events_of c (fired_after (system_of c) h)
  pub code : m.code ≡ c
  pub goes : goes_on m.mode ≡ true
  pub mems : m.mems ≡ mems_after c h

-- instant `i` was made after `h`, and its sites aren't noted
pub record Stands (c : CodeForm) (script : Script) (h : History Doing) (i : Instant Doing) (t : Track) (m : MachineForm) : Type 0 where
  pub prefix : IsPrefix (system_of c) script (i ∷ h)
  pub machine : IsAfter c i m
  pub clock : IsClockAfter script (i ∷ h) t.clock t.next
  pub mark : t.clock.mark ≡ mark_of h i
  pub rooms : HaveRooms c t
  pub inputs : map Some t.inputs.items ≡ i.inputs
  pub below : t.below.items ≡ belows_after c h
