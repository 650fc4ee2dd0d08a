-- What a step of a run does to its machine and to what it keeps beside it.
use Rattle.std.specs.Prelude.{◌≡◌, drop, map, Option, Some}
use Rattle.zl_value.specs.Instants.{Step}
use Rattle.zl_value.specs.declared.script.Script.{Script}
use Rattle.zl_value.specs.declared.script.ScriptLine.{ScriptLine}
use Rattle.zl_code.specs.Method.{Doing}
use Rattle.zl_code.specs.System.{instant_of}
use Rattle.zl_machine.specs.Calls.{outcome, after_instant}
use Rattle.zl_machine.specs.MachineForm.{MachineForm}
use Rattle.zl_machine.specs.declared.outcome.Outcome.{Outcome}
use Rattle.zl_run.specs.Clocks.{stepped}
use Rattle.zl_run.specs.Inputs.{set_all}
use Rattle.zl_run.specs.Stopping.{due_in, one_more_if, sets_in}
use Rattle.zl_run.specs.declared.track.Track.{Track}

-- the line that the step takes
abbrev pub taken : Script → Track → Option ScriptLine
taken script t = due_in (drop t.next script.lines) t.clock.time

-- what the machine's method does
abbrev pub step_done : Track → MachineForm → Doing
step_done t m = instant_of m.code Step m.mems (map Some t.inputs.items) t.events.items

pub record HasStepped (script : Script) (t new : Track) (m after : MachineForm) (result : Outcome) : Type 0 where
  pub next : new.next ≡ one_more_if t.next (taken script t)
  pub clock : new.clock ≡ stepped t.clock
  pub inputs : new.inputs.items ≡ set_all (sets_in (taken script t)) t.inputs.items
  pub below : new.below.items ≡ t.below.items
  pub events : new.events.items ≡ t.events.items
  pub lines : new.lines.items ≡ t.lines.items
  pub machine : after ≡ after_instant m Step (map Some new.inputs.items) (step_done new m)
  pub answer : result ≡ outcome m.code Step (step_done new m)
