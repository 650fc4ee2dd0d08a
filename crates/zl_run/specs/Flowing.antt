-- What a flow of a run does to its machine and to what it keeps beside it.
use Rattle.std.specs.Prelude.{◌≡◌, ℕ, ◌<◌, List, [], drop, length, Option, Some, None}
use Rattle.zl_value.specs.Fraction.{Fraction, IsFrac, add, sub}
use Rattle.zl_value.specs.Lists.{listed}
use Rattle.zl_value.specs.Widths.{first_wide}
use Rattle.zl_value.specs.Instants.{Left}
use Rattle.zl_value.specs.System.{move_tests}
use Rattle.zl_value.specs.declared.line.Line.{Line}
use Rattle.zl_value.specs.declared.value.Fault.{Fault}
use Rattle.zl_value.specs.declared.script.Script.{Script}
use Rattle.zl_value.specs.declared.script.Ending.{Ending}
use Rattle.zl_value.specs.declared.script.Ending.TheVariants.{Empty, Fault as EndsInFault}
use Rattle.zl_value.specs.declared.script.Mark.TheVariants.{Flow as FlowMark}
use Rattle.zl_code.specs.Method.{Doing}
use Rattle.zl_code.specs.System.{instant_of, motions}
use Rattle.zl_machine.specs.Calls.{outcome, after_instant, after_flow, after_move, flow_outcome, site_line}
use Rattle.zl_machine.specs.MachineForm.{MachineForm}
use Rattle.zl_machine.specs.declared.outcome.Outcome.{Outcome}
use Rattle.zl_machine.specs.declared.outcome.FlowOutcome.{FlowOutcome}
use Rattle.zl_machine.specs.declared.outcome.FlowOutcome.TheVariants.{Ready as FlowReady, Fault as FlowFaulty, Empty as FlowEmpty}
use Rattle.zl_crossing.specs.FirstCrossing.{IsFirst}
use Rattle.zl_crossing.specs.Courses.{IsLine}
use Rattle.zl_crossing.specs.declared.answer.First.{First}
use Rattle.zl_run.specs.Clocks.{moved_to}
use Rattle.zl_run.specs.Stopping.{stop_in}
use Rattle.zl_run.specs.declared.track.Track.{Track}

-- of each site the line along which it moves
abbrev pub lines_of : MachineForm → List (Option Line)
lines_of m = listed (length m.code.sites) 0 (λ n. site_line m n)

-- the numbers of the lines are in lowest terms
abbrev pub AreLines : MachineForm → ℕ → Type 0
AreLines m k = (n : ℕ) → n < k → IsLine (site_line m n)

-- the first number of the move that isn't in the width
abbrev pub move_test : MachineForm → Fraction → Fraction → Option Fault
move_test m t d = first_wide (move_tests t d (motions m.rates m.code.mems m.mems))

-- the machine moved for `d` from time `t`
pub record HasGone (t d : Fraction) (m after : MachineForm) (late : Fraction) : Type 0 where
  pub fits : move_test m t d ≡ None
  pub time : late ≡ add t d
  pub kept : IsFrac late
  pub machine : after ≡ after_move m d None

-- the time of the next stop of the script
abbrev pub stop_of : Script → Track → Fraction
stop_of script t = stop_in script (drop t.next script.lines)

-- what the left end's method does
abbrev pub left_done : MachineForm → Doing
left_done m = instant_of m.code Left m.mems m.inputs []

-- the flow of the machine `m` lasts until the first crossing, and its left end is made
pub record HasFlowed (script : Script) (t new : Track) (m after : MachineForm) (result : Outcome) : Type 0 where
  pub first : First
  pub lines : AreLines m (length m.code.sites)
  pub is_first : IsFirst (lines_of m) (sub (stop_of script t) t.clock.time) first
  pub fits : move_test m t.clock.time first.duration ≡ None
  pub kept : IsFrac (add t.clock.time first.duration)
  pub clock : new.clock ≡ moved_to t.clock (add t.clock.time first.duration)
  pub next : new.next ≡ t.next
  pub inputs : new.inputs.items ≡ t.inputs.items
  pub below : new.below.items ≡ t.below.items
  pub events : new.events.items ≡ t.events.items
  pub rooms : length new.lines.items ≡ length m.code.sites
  pub machine : after ≡ after_instant (after_move m first.duration None) Left m.inputs (left_done (after_move m first.duration None))
  pub answer : result ≡ outcome m.code Left (left_done (after_move m first.duration None))

-- the flow is too wide
pub record IsTooWide (script : Script) (t : Track) (m : MachineForm) (ending : Ending) : Type 0 where
  pub first : First
  pub lines : AreLines m (length m.code.sites)
  pub is_first : IsFirst (lines_of m) (sub (stop_of script t) t.clock.time) first
  pub fault : Fault
  pub wide : move_test m t.clock.time first.duration ≡ Some fault
  pub is : ending ≡ EndsInFault fault t.clock.time FlowMark

-- how a flow without a left end ends the run, by what the flow method comes to
abbrev pub StopsBy : FlowOutcome → Script → Track → MachineForm → Ending → Type 0
StopsBy FlowReady script t m ending = IsTooWide script t (after_flow m) ending
StopsBy (FlowFaulty fault) script t m ending = ending ≡ EndsInFault fault t.clock.time FlowMark
StopsBy FlowEmpty script t m ending = ending ≡ Empty

abbrev pub FlowStops : Script → Track → MachineForm → Ending → Type 0
FlowStops script t m ending = StopsBy (flow_outcome m) script t m ending
