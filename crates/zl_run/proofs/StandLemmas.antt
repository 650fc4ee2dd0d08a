-- Where a run stands: before its first step, after a step, and before a further one.
use Rattle.std.specs.Prelude.{◌≡◌, ℕ, zero, suc, ◌<◌, true, false, List, [], ◌∷◌, length, replicate, take, drop, map, Some, pos}
use Rattle.std.specs.List.{AllByRecursion}
use Rattle.std.proofs.Common.{refl, sym, ap, ap₂, ◌∙◌, subst, arith}
use Rattle.std.proofs.lemmas.List.{length-map, length-replicate}
use Rattle.zl_value.specs.Fraction.{fits}
use Rattle.zl_value.specs.Lists.{listed}
use Rattle.zl_value.specs.Times.{nought}
use Rattle.zl_value.specs.Script.{IsScriptFor, IsLineFor, IsTime}
use Rattle.zl_value.specs.Stops.{line_for, inputs_after}
use Rattle.zl_value.specs.Instants.{Step, Instant, History, time_of, latest_inputs, steps_in, steps_at}
use Rattle.zl_value.specs.Loop.{Steps}
use Rattle.zl_value.specs.System.{next}
use Rattle.zl_value.specs.declared.script.Script.{Script}
use Rattle.zl_value.specs.declared.script.ScriptLine.{ScriptLine}
use Rattle.zl_value.specs.declared.script.Mark.TheVariants.{Step as StepMark}
use Rattle.zl_value.proofs.FractionOrder.{below-zero}
use Rattle.zl_value.proofs.FractionLaws.{IsReduced-whole}
use Rattle.zl_code.specs.CodeForm.{CodeForm}
use Rattle.zl_code.specs.Method.{Doing}
use Rattle.zl_code.specs.System.{system_of}
use Rattle.zl_machine.specs.Calls.{made, outcome}
use Rattle.zl_machine.specs.MachineForm.{MachineForm, goes_on}
use Rattle.zl_machine.specs.declared.outcome.Outcome.{Outcome}
use Rattle.zl_run.specs.Firing.{belows, belows_after, firings}
use Rattle.zl_run.specs.Stopping.{due_in, one_more_if, sets_in}
use Rattle.zl_run.specs.Stepping.{taken, HasStepped}
use Rattle.zl_run.specs.Standing.{IsPassed, IsAhead, IsClockAfter, HaveRooms, the_step, StepIsDue, Stands}
use Rattle.zl_run.specs.Tracks.{IsNewTrack}
use Rattle.zl_run.specs.Driving.{HasNoted}
use Rattle.zl_run.specs.Laws.{IsOrdered}
use Rattle.zl_run.specs.declared.clock.Clock.{Clock}
use Rattle.zl_run.specs.declared.track.Track.{Track}
use Rattle.zl_run.proofs.ClockLemmas.{clock_steps, reduced_lines}
use Rattle.zl_run.proofs.FiredLemmas.{firings_are}
use Rattle.zl_run.proofs.InputLemmas.{length-set_all}
use Rattle.zl_run.proofs.ScriptLemmas.{types_of, first_inputs}
use Rattle.zl_run.proofs.StepLemmas.{done, machine_after, step_after, inputs_are}
use Rattle.zl_run.proofs.StopLemmas.{due_is}

-- ---- the first step

replicated : {X : Type 0} (n k : ℕ) (x : X) → replicate n x ≡ listed n k (λ i. x)
replicated zero k x = refl
replicated (suc n) k x = ap (λ xs. x ∷ xs) (replicated n (suc k) x)

fits_nought : fits nought ≡ true
unfolding fits
fits_nought = refl

all_ahead : (script : Script) (lines : List ScriptLine) → AllByRecursion (λ (line : ScriptLine). IsTime line.time) lines → AllByRecursion (IsAhead nought 0) lines
all_ahead script [] all = tt
all_ahead script (line ∷ lines) all =
    (record { later = below-zero line.time ∙ all.0.start; taken = λ some. absurd (omega (arith, some)) }, all_ahead script lines all.1)

pub first_due : (c : CodeForm) (script : Script) (t : Track) (m : MachineForm) → IsScriptFor (types_of c.ins) script → IsNewTrack c t → m ≡ made c → StepIsDue c script [] t m
first_due c script t m is new e = record {
  begun = tt;
  due = refl;
  more = is.some_step;
  clock = record {
    time = new.time;
    start = record { number = record { reduced = IsReduced-whole (pos 0); fits = fits_nought }; start = refl };
    within = below-zero script.horizon ∙ is.horizon.start;
    made = new.made;
    few = omega arith;
    here = new.here;
    fewer = omega arith;
    passed = subst (λ n. AllByRecursion (IsPassed nought 0) (take n script.lines)) (sym new.next) tt;
    ahead = subst (λ n. AllByRecursion (IsAhead nought 0) (drop n script.lines)) (sym new.next) (all_ahead script script.lines (times script.lines is.lines));
    index = omega (arith, new.next);
    later = λ s low later. refl;
  };
  rooms = record {
    inputs = ap length new.inputs ∙ length-replicate _ _;
    below = ap length new.below ∙ length-replicate _ _;
    events = ap length new.events ∙ length-replicate _ _;
    lines = ap length new.lines ∙ length-replicate _ _;
  };
  inputs = first_inputs (types_of c.ins) script (length c.ins) (map Some t.inputs.items) [] is (sym (length-map c.ins _));
  below = new.below ∙ replicated (length c.sites) 0 false;
  events = new.events ∙ replicated (length c.sites) 0 false;
  code = ap (λ (x : MachineForm). x.code) e;
  goes = ap (λ (x : MachineForm). goes_on x.mode) e;
  mems = ap (λ (x : MachineForm). x.mems) e;
}
  where
    times : (lines : List ScriptLine) → AllByRecursion (IsLineFor (types_of c.ins) script.horizon) lines → AllByRecursion (λ (line : ScriptLine). IsTime line.time) lines
    times [] all = tt
    times (line ∷ lines) all = (all.0.time, times lines all.1)

-- ---- after a step

module _ (c : CodeForm) (script : Script) (h : History Doing) (t new : Track) (m after : MachineForm) (result : Outcome) (is_ordered : IsOrdered script) (is : StepIsDue c script h t m) (st : HasStepped script t new m after result) where
  abbrev pub made_step : Instant Doing
  made_step = the_step c h (map Some new.inputs.items)

  line_is : line_for script (time_of h) (steps_at (time_of h) h) ≡ taken script t
  line_is =
      due_is (time_of h) (steps_at (time_of h) h) t.next script.lines is.clock.start.number.reduced.above (reduced_lines script.horizon script.lines is_ordered.lines) is_ordered.ascending is.clock.passed is.clock.ahead
      ∙ ap (due_in (drop t.next script.lines)) (sym is.clock.time)

  step_inputs : map Some new.inputs.items ≡ inputs_after (length c.ins) (line_for script (time_of h) (steps_at (time_of h) h)) (latest_inputs h)
  step_inputs = ap (map Some) st.inputs ∙ inputs_are c script h 0 t.inputs.items (taken script t) is.rooms.inputs line_is is.inputs

  clock_after : IsClockAfter script (made_step ∷ h) new.clock new.next
  clock_after =
      subst (λ (n : ℕ). IsClockAfter script (made_step ∷ h) new.clock n) (ap (λ x. one_more_if t.next (due_in (drop t.next script.lines) x)) (sym is.clock.time) ∙ sym st.next)
      (subst (λ (k : Clock). IsClockAfter script (made_step ∷ h) k (one_more_if t.next (due_in (drop t.next script.lines) (time_of h)))) (sym st.clock)
      (clock_steps c script h (map Some new.inputs.items) t.clock t.next is_ordered is.more is.clock))

  pub stands_after_step : Stands c script h made_step new after
  stands_after_step = record {
    prefix = step_after c script h 0 new.inputs.items is.begun (record { due = is.due; kind = refl; time = refl; inputs = step_inputs; fired = refl; solves = refl });
    machine = machine_after c h m after (map Some new.inputs.items) new.events.items is.code is.mems (st.events ∙ is.events) st.machine;
    clock = clock_after;
    mark = ap (λ (k : Clock). k.mark) st.clock ∙ ap StepMark is.clock.here;
    rooms = record {
      inputs = ap length st.inputs ∙ length-set_all (sets_in (taken script t)) t.inputs.items ∙ is.rooms.inputs;
      below = ap length st.below ∙ is.rooms.below;
      events = ap length st.events ∙ is.rooms.events;
      lines = ap length st.lines ∙ is.rooms.lines;
    };
    inputs = refl;
    below = st.below ∙ is.below;
  }

  pub step_outcome : result ≡ outcome c Step made_step.table
  step_outcome = st.answer ∙ ap₂ (λ (k : CodeForm) (d : Doing). outcome k Step d) is.code (done c h m (map Some new.inputs.items) new.events.items is.code is.mems (st.events ∙ is.events))

-- ---- before a further step

module _ (c : CodeForm) (script : Script) (h : History Doing) (i : Instant Doing) (t mid : Track) (m : MachineForm) (st : Stands c script h i t m) (noted : HasNoted t mid m) where
  pub fired_noted : firings m.code t.below.items m.regs ≡ firings c (belows_after c h) i.table.regs
  fired_noted = rw (st.machine.code, st.below, st.machine.regs) refl

  pub clock_noted : IsClockAfter script (i ∷ h) mid.clock mid.next
  clock_noted = rw (noted.clock, noted.next) st.clock

  pub rooms_noted : HaveRooms c mid
  rooms_noted = record {
    inputs = ap length noted.inputs ∙ st.rooms.inputs;
    below = ap length below_is ∙ length_listed (length c.sites) 0 _;
    events = ap length (noted.events ∙ fired_noted) ∙ length_listed (length c.sites) 0 _;
    lines = ap length noted.lines ∙ st.rooms.lines;
  }
    where
      below_is : mid.below.items ≡ belows c i.table.regs
      below_is = noted.below ∙ ap₂ belows st.machine.code st.machine.regs

      length_listed : {X : Type 0} (n k : ℕ) (f : ℕ → X) → length (listed n k f) ≡ n
      length_listed zero k f = refl
      length_listed (suc n) k f = ap suc (length_listed n (suc k) f)

  pub next_due : next (system_of c) script (i ∷ h) ≡ Steps → steps_in (i ∷ h) < script.steps → goes_on m.mode ≡ true → StepIsDue c script (i ∷ h) mid m
  next_due due more goes = record {
    begun = st.prefix;
    due = due;
    more = more;
    clock = clock_noted;
    rooms = rooms_noted;
    inputs = ap (inputs_after (length c.ins) (line_for script (time_of (i ∷ h)) (steps_at (time_of (i ∷ h)) (i ∷ h)))) (ap (map Some) noted.inputs ∙ st.inputs);
    below = noted.below ∙ ap₂ belows st.machine.code st.machine.regs;
    events = noted.events ∙ fired_noted ∙ (firings_are c h i).events;
    code = st.machine.code;
    goes = goes;
    mems = st.machine.mems;
  }
