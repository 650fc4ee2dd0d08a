-- What is proved of the definitions. Each statement is the contract of a function that does nothing.
use Rattle.std.specs.Prelude.{◌≡◌, ℕ, ◌<◌, false, ◌∷◌, drop, length, None}
use Rattle.std.specs.List.{concat, list_any, AllByRecursion}
use Rattle.zl_value.specs.Fraction.{Fraction, IsReduced, sub}
use Rattle.zl_value.specs.Order.{below}
use Rattle.zl_value.specs.Times.{is_same}
use Rattle.zl_value.specs.Script.{AreAscending}
use Rattle.zl_value.specs.Crossings.{Lasts}
use Rattle.zl_value.specs.Instants.{Instant, History, time_of, steps_in}
use Rattle.zl_value.specs.System.{fired_after, is_some_site}
use Rattle.zl_value.specs.declared.script.Script.{Script}
use Rattle.zl_value.specs.declared.script.ScriptLine.{ScriptLine}
use Rattle.zl_value.specs.declared.script.Ending.{Ending}
use Rattle.zl_code.specs.CodeForm.{CodeForm}
use Rattle.zl_code.specs.Method.{Cells, Doing}
use Rattle.zl_code.specs.System.{system_of, events_of, site_value, site_slope, moved_value}
use Rattle.zl_code.specs.Trace.{trace}
use Rattle.zl_machine.specs.MachineForm.{MachineForm}
use Rattle.zl_crossing.specs.FirstCrossing.{IsFirst}
use Rattle.zl_crossing.specs.Courses.{IsNextStop}
use Rattle.zl_crossing.specs.declared.answer.First.{First}
use Rattle.zl_run.specs.Answers.{trace_pieces}
use Rattle.zl_run.specs.Clocks.{stepped}
use Rattle.zl_run.specs.Standing.{IsClockAfter, the_step}
use Rattle.zl_run.specs.Stopping.{due_in, stop_in, one_more_if}
use Rattle.zl_run.specs.declared.clock.Clock.{Clock}
use Rattle.zl_run.specs.Firing.{belows_after, firings}
use Rattle.zl_run.specs.Flowing.{lines_of, AreLines}

-- what is noted of the sites after an instant says which fired, and whether one did
pub record FiringsAreEvents (c : CodeForm) (h : History Doing) (i : Instant Doing) : Type 0 where
  pub events : firings c (belows_after c h) i.table.regs ≡ events_of c (fired_after (system_of c) (i ∷ h))
  pub any : list_any (λ event. event) (firings c (belows_after c h) i.table.regs) ≡ is_some_site (fired_after (system_of c) (i ∷ h))

-- a flow of the machine, along the lines of its sites, lasts until their first crossing
abbrev pub FlowLasts : Type 0
FlowLasts = (script : Script) (m : MachineForm) (t stop : Fraction) (first : First) → IsReduced t → IsNextStop script t stop → AreLines m (length m.code.sites)
    → IsFirst (lines_of m) (sub stop t) first
    → Lasts script (λ s n. moved_value s (site_value m.code m.regs n) (site_slope m.code m.rates n)) (length m.code.sites) t first.duration

-- what a script keeps, of all that its lines are asked
pub record IsOrdered (script : Script) : Type 0 where
  pub horizon : IsReduced script.horizon
  pub lines : AllByRecursion (λ (line : ScriptLine). IsReduced line.time × (below script.horizon line.time ≡ false)) script.lines
  pub ascending : AreAscending script.lines

-- after a step the clock is that of the longer history
abbrev pub ClockSteps : Type 0
ClockSteps = (c : CodeForm) (script : Script) (h : History Doing) (inputs : Cells) (k : Clock) (n : ℕ) → IsOrdered script → steps_in h < script.steps
    → IsClockAfter script h k n → IsClockAfter script (the_step c h inputs ∷ h) (stepped k) (one_more_if n (due_in (drop n script.lines) (time_of h)))

-- where no line is due and the time isn't the horizon, the next stop is that of the first line that isn't passed, else the horizon
abbrev pub StopIsNext : Type 0
StopIsNext = (script : Script) (h : History Doing) (k : Clock) (n : ℕ) → IsOrdered script → IsClockAfter script h k n → due_in (drop n script.lines) (time_of h) ≡ None
    → is_same (time_of h) script.horizon ≡ false → IsNextStop script (time_of h) (stop_in script (drop n script.lines))

-- the pieces that are put are the trace
abbrev pub PiecesAreTrace : Type 0
PiecesAreTrace = (c : CodeForm) (h : History Doing) (ending : Ending) → concat (trace_pieces c h ending) ≡ trace c h ending
