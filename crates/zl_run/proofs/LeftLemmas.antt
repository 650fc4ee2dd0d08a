-- The left end of a flow is the next instant of the run; or the flow ends the run.
use Rattle.std.specs.Prelude.{◌≡◌, ℕ, Bool, true, false, [], ◌∷◌, length, drop, Option, Some, None}
use Rattle.std.proofs.Common.{refl, sym, ap, ap₂, ◌∙◌, subst}
use Rattle.zl_value.specs.Fraction.{Fraction, IsFrac, add, sub}
use Rattle.zl_value.specs.Times.{is_same}
use Rattle.zl_value.specs.Crossings.{Lasts}
use Rattle.zl_value.specs.Instants.{Left, Instant, History}
use Rattle.zl_value.specs.Loop.{Flows}
use Rattle.zl_value.specs.System.{Course, fired_after, next}
use Rattle.zl_value.specs.Runs.{FlowAfter, MoveAfter, LeftAfter, EndsInFlow, ByFault, ByLack, ByMove}
use Rattle.zl_value.specs.declared.value.Fault.{Fault}
use Rattle.zl_value.specs.declared.script.Script.{Script}
use Rattle.zl_value.specs.declared.script.Ending.{Ending}
use Rattle.zl_value.specs.declared.script.Ending.TheVariants.{Fault as EndsInFault}
use Rattle.zl_value.specs.declared.script.Mark.TheVariants.{Flow as FlowMark}
use Rattle.zl_code.specs.CodeForm.{CodeForm}
use Rattle.zl_code.specs.Method.{Cells, Doing}
use Rattle.zl_code.specs.System.{system_of, instant_of, flow_of, all_moved, fault_of, flow_lacks}
use Rattle.zl_machine.specs.Calls.{outcome, after_flow, flow_outcome, flow_outcome_by}
use Rattle.zl_machine.specs.MachineForm.{MachineForm}
use Rattle.zl_machine.specs.declared.mode.Mode.{Mode}
use Rattle.zl_machine.specs.declared.outcome.Outcome.{Outcome}
use Rattle.zl_machine.specs.declared.outcome.FlowOutcome.TheVariants.{Ready as FlowReady}
use Rattle.zl_crossing.specs.FirstCrossing.{IsFirst}
use Rattle.zl_crossing.specs.declared.answer.First.{First}
use Rattle.zl_crossing.proofs.FlowDurations.{first_lasts}
use Rattle.zl_run.specs.Clocks.{moved_to}
use Rattle.zl_run.specs.Stopping.{due_in}
use Rattle.zl_run.specs.Flowing.{lines_of, AreLines, move_test, stop_of, HasFlowed, StopsBy, FlowStops}
use Rattle.zl_run.specs.Standing.{IsClockAfter, IsAfter}
use Rattle.zl_run.specs.Laws.{IsOrdered}
use Rattle.zl_run.specs.declared.clock.Clock.{Clock}
use Rattle.zl_run.specs.declared.track.Track.{Track}
use Rattle.zl_run.proofs.ClockLemmas.{stop_is_next}
use Rattle.zl_run.proofs.LastingLemmas.{flow_lasts}
use Rattle.zl_run.proofs.LeftClock.{left_at, clock_after_left}

-- the machine after an instant
abbrev pub machine_at : CodeForm → Instant Doing → Mode → Cells → MachineForm
machine_at c i mode rates = record { code = c; mode = mode; mems = i.table.mems; inputs = i.inputs; regs = i.table.regs; rates = rates }

pub machine_is : (c : CodeForm) (i : Instant Doing) (m : MachineForm) → IsAfter c i m → m ≡ machine_at c i m.mode m.rates
machine_is c i m is = sym (rw (sym is.code, sym is.mems, sym is.inputs, sym is.regs) refl)

-- a flow that is ready has no fault and lacks nothing
record IsRight (fault : Option Fault) (lacking : Bool) : Type 0 where
  pub right : fault ≡ None
  pub whole : lacking ≡ false

right_by : (fault : Option Fault) (lacking : Bool) → flow_outcome_by fault lacking ≡ FlowReady → IsRight fault lacking
right_by (Some fault) lacking e = absurd cc
right_by None true e = absurd cc
right_by None false e = record { right = refl; whole = refl }

module _ (c : CodeForm) (script : Script) (h : History Doing) (i : Instant Doing) (is_ordered : IsOrdered script) (due : next (system_of c) script (i ∷ h) ≡ Flows) where
  -- the flow method does one thing at each moment
  abbrev pub flow : Course Doing
  flow s = flow_of c i.table.mems i.inputs

  flow_after : FlowAfter (system_of c) script h i flow
  flow_after = record { due = due; solves = λ s low from. refl }

  module _ (mode : Mode) (rates : Cells) (t : Track) (clock : IsClockAfter script (i ∷ h) t.clock t.next) (none : due_in (drop t.next script.lines) i.time ≡ None)
      (other : is_same i.time script.horizon ≡ false) where
    abbrev pub before : MachineForm
    before = machine_at c i mode rates

    lasting : (first : First) → AreLines (after_flow before) (length c.sites) → IsFirst (lines_of (after_flow before)) (sub (stop_of script t) t.clock.time) first
        → Lasts script ((system_of c).values i flow) (length c.sites) i.time first.duration
    lasting first lines is =
        flow_lasts first_lasts script (after_flow before) i.time (stop_of script t) first clock.start.number.reduced
        (stop_is_next script (i ∷ h) t.clock t.next is_ordered clock none other) lines
        (subst (λ (x : Fraction). IsFirst (lines_of (after_flow before)) (sub (stop_of script t) x) first) clock.time is)

    move_after : (first : First) → flow_outcome before ≡ FlowReady → AreLines (after_flow before) (length c.sites) → IsFirst (lines_of (after_flow before)) (sub (stop_of script t) t.clock.time) first
        → MoveAfter (system_of c) script h i flow first.duration
    move_after first ready lines is =
        let right = right_by (fault_of (flow_of c i.table.mems i.inputs)) (flow_lacks c i.table.regs i.table.mems (flow_of c i.table.mems i.inputs).regs) ready in
        record { flow = flow_after; right = right.right; whole = right.whole; lasts = lasting first lines is }

    -- how a flow ends the run
    pub ends_in_flow : (ending : Ending) → FlowStops script t before ending → EndsInFlow (system_of c) script h i ending
    ends_in_flow ending stops = go (fault_of (flow_of c i.table.mems i.inputs)) (flow_lacks c i.table.regs i.table.mems (flow_of c i.table.mems i.inputs).regs) refl refl stops
      where
        go : (fault : Option Fault) (lacking : Bool) → fault_of (flow_of c i.table.mems i.inputs) ≡ fault → flow_lacks c i.table.regs i.table.mems (flow_of c i.table.mems i.inputs).regs ≡ lacking
            → StopsBy (flow_outcome_by fault lacking) script t before ending → EndsInFlow (system_of c) script h i ending
        go (Some fault) lacking e f is =
            subst (EndsInFlow (system_of c) script h i) (ap (λ (x : Fraction). EndsInFault fault x FlowMark) (sym clock.time) ∙ sym is) (ByFault flow fault flow_after e)
        go None true e f is = subst (EndsInFlow (system_of c) script h i) (sym is) (ByLack flow flow_after e f)
        go None false e f is =
            subst (EndsInFlow (system_of c) script h i) (ap (λ (x : Fraction). EndsInFault is.fault x FlowMark) (sym clock.time) ∙ sym is.is)
            (ByMove flow is.first.duration is.fault
            (move_after is.first (ap₂ flow_outcome_by e f) is.lines is.is_first)
            (ap (λ (x : Fraction). move_test (after_flow before) x is.first.duration) (sym clock.time) ∙ is.wide))

    module _ (new : Track) (after : MachineForm) (result : Outcome) (ready : flow_outcome before ≡ FlowReady) (is : HasFlowed script t new (after_flow before) after result) where
      abbrev pub late : Fraction
      late = add i.time is.first.duration

      abbrev pub left_end : Instant Doing
      left_end = left_at late i.inputs (fired_after (system_of c) (i ∷ h)) (instant_of c Left (all_moved (flow_of c i.table.mems i.inputs).regs is.first.duration c.mems i.table.mems) i.inputs [])

      move : MoveAfter (system_of c) script h i flow is.first.duration
      move = move_after is.first ready is.lines is.is_first

      pub left_after : LeftAfter (system_of c) script h i left_end
      left_after = record {
        flow = flow;
        duration = is.first.duration;
        move = move;
        fits = ap (λ (x : Fraction). move_test (after_flow before) x is.first.duration) (sym clock.time) ∙ is.fits;
        kind = refl;
        time = refl;
        inputs = refl;
        fired = refl;
        solves = refl;
      }

      pub clock_left : IsClockAfter script (left_end ∷ i ∷ h) new.clock new.next
      clock_left =
          subst (λ (n : ℕ). IsClockAfter script (left_end ∷ i ∷ h) new.clock n) (sym is.next)
          (subst (λ (k : Clock). IsClockAfter script (left_end ∷ i ∷ h) k t.next) (ap (λ (x : Fraction). moved_to t.clock (add x is.first.duration)) (sym clock.time) ∙ sym is.clock)
          (clock_after_left script (i ∷ h) i.inputs (fired_after (system_of c) (i ∷ h)) left_end.table t.clock t.next is.first.duration is_ordered clock none other move.lasts.reduced move.lasts.positive move.lasts.clear
          (subst (λ (x : Fraction). IsFrac (add x is.first.duration)) clock.time is.kept)))

      pub machine_left : IsAfter c left_end after
      machine_left = record {
        code = ap (λ (x : MachineForm). x.code) is.machine;
        mode = ap (λ (x : MachineForm). x.mode) is.machine;
        mems = ap (λ (x : MachineForm). x.mems) is.machine;
        regs = ap (λ (x : MachineForm). x.regs) is.machine;
        inputs = ap (λ (x : MachineForm). x.inputs) is.machine;
      }

      pub left_outcome : result ≡ outcome c Left left_end.table
      left_outcome = is.answer
