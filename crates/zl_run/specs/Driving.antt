-- How an instant is taken, and what follows one that is ready.
use Rattle.std.specs.Prelude.{◌≡◌, ◌≤◌, Bool, true, false, ◌||◌, is_some, length, drop, None, Result, Ok, Err}
use Rattle.std.specs.List.{AllByRecursion, list_any}
use Rattle.zl_value.specs.Order.{below}
use Rattle.zl_value.specs.Times.{is_same}
use Rattle.zl_value.specs.Loop.{Next, Ends, Steps, Flows}
use Rattle.zl_value.specs.declared.script.Script.{Script}
use Rattle.zl_value.specs.declared.script.Ending.{Ending}
use Rattle.zl_value.specs.declared.script.Ending.TheVariants.{Empty, Fault as EndsInFault}
use Rattle.zl_machine.specs.Calls.{after_flow, flow_outcome}
use Rattle.zl_machine.specs.MachineForm.{MachineForm}
use Rattle.zl_machine.specs.declared.outcome.Outcome.{Outcome}
use Rattle.zl_machine.specs.declared.outcome.Outcome.TheVariants.{Ready, Fault as Faulty, Empty as NoValue}
use Rattle.zl_machine.specs.declared.outcome.FlowOutcome.TheVariants.{Ready as FlowReady}
use Rattle.zl_run.specs.Firing.{belows, firings}
use Rattle.zl_run.specs.Inputs.{AreWithin}
use Rattle.zl_run.specs.Stopping.{due_in, next_by}
use Rattle.zl_run.specs.Standing.{HaveRooms}
use Rattle.zl_run.specs.Stepping.{HasStepped}
use Rattle.zl_run.specs.Flowing.{stop_of, HasFlowed, FlowStops}
use Rattle.zl_run.specs.declared.clock.Clock.{Clock}
use Rattle.zl_run.specs.declared.track.Track.{Track}

-- an instant that is ready demands a further step or not; one that isn't ends the run
abbrev pub answered : Outcome → Clock → Result Bool Ending
answered (Ready again) k = Ok again
answered (Faulty fault) k = Err (EndsInFault fault k.time k.mark)
answered NoValue k = Err Empty

abbrev pub IsAnswered : Outcome → Clock → Result Bool Ending → Type 0
IsAnswered o k result = result ≡ answered o k

-- the sites after an instant are noted, and nothing else changed
pub record HasNoted (t mid : Track) (m : MachineForm) : Type 0 where
  pub events : mid.events.items ≡ firings m.code t.below.items m.regs
  pub below : mid.below.items ≡ belows m.code m.regs
  pub clock : mid.clock ≡ t.clock
  pub next : mid.next ≡ t.next
  pub inputs : mid.inputs.items ≡ t.inputs.items
  pub lines : mid.lines.items ≡ t.lines.items

-- a further step is demanded: by a site that fired, by the step itself, or by a line of the script
abbrev pub is_demanded : Script → Track → Bool → MachineForm → Bool
is_demanded script t again m =
    list_any (λ event. event) (firings m.code t.below.items m.regs) || (again || is_some (due_in (drop t.next script.lines) t.clock.time))

-- what follows an instant can be made
pub record CanFollow (script : Script) (t : Track) (m : MachineForm) : Type 0 where
  pub few : t.clock.made ≤ script.steps
  pub bound : script.steps ≤ 1000000
  pub here : t.clock.here ≤ t.clock.made
  pub rooms : HaveRooms m.code t
  pub sets : AllByRecursion (AreWithin (length t.inputs.items)) script.lines
  pub later : due_in (drop t.next script.lines) t.clock.time ≡ None → is_same t.clock.time script.horizon ≡ false → below t.clock.time (stop_of script t) ≡ true

-- what was done, by what follows: nothing, a step, or a flow with its left end
abbrev pub Went : Next → Script → Track → Track → MachineForm → MachineForm → Result Outcome Ending → Type 0
Went (Ends ending) script t new m after result = (result ≡ Err ending) × (after ≡ m)
Went Steps script t new m after (Ok o) = HasStepped script t new m after o
Went Steps script t new m after (Err ending) = ⊥
Went Flows script t new m after (Ok o) = (flow_outcome m ≡ FlowReady) × HasFlowed script t new (after_flow m) after o
Went Flows script t new m after (Err ending) = FlowStops script t m ending

-- the sites are noted, and what follows is done
pub record Followed (script : Script) (t new : Track) (m after : MachineForm) (again : Bool) (result : Result Outcome Ending) : Type 0 where
  pub mid : Track
  pub noted : HasNoted t mid m
  pub went : Went (next_by script t.clock.time (is_demanded script t again m) t.clock.made) script mid new m after result
