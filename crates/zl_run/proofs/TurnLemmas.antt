-- From an instant of a run to the next, or to its end.
use Rattle.std.specs.Prelude.{◌≡◌, ℕ, ◌+◌, ◌<◌, Bool, false, ◌∷◌, length, drop, map, Some, None, Result, Ok, Err}
use Rattle.std.proofs.Common.{refl, sym, ap, ap₂, ◌∙◌, subst, inl, inr, arith}
use Rattle.zl_value.specs.Fraction.{Fraction}
use Rattle.zl_value.specs.Order.{below}
use Rattle.zl_value.specs.Times.{is_same}
use Rattle.zl_value.specs.Script.{IsScriptFor, IsTime}
use Rattle.zl_value.specs.Instants.{Instant, History}
use Rattle.zl_value.specs.Loop.{Next, Ends, Steps, Flows}
use Rattle.zl_value.specs.System.{next}
use Rattle.zl_value.specs.Runs.{EndsInFlow, ByFault, ByLack, ByMove, IsEnd}
use Rattle.zl_value.specs.declared.script.Script.{Script}
use Rattle.zl_value.specs.declared.script.Ending.{Ending}
use Rattle.zl_value.proofs.FractionOrder.{below-add_self}
use Rattle.zl_code.specs.CodeForm.{CodeForm}
use Rattle.zl_code.specs.Method.{Doing}
use Rattle.zl_code.specs.System.{system_of}
use Rattle.zl_machine.specs.Calls.{outcome, after_flow, flow_outcome}
use Rattle.zl_machine.specs.MachineForm.{MachineForm}
use Rattle.zl_machine.specs.declared.outcome.Outcome.{Outcome}
use Rattle.zl_machine.specs.declared.outcome.Outcome.TheVariants.{Ready}
use Rattle.zl_machine.specs.declared.outcome.FlowOutcome.TheVariants.{Ready as FlowReady}
use Rattle.zl_run.specs.Answers.{StandsAfter, StandsAtEnd}
use Rattle.zl_run.specs.Firing.{belows}
use Rattle.zl_run.specs.Stopping.{due_in, next_by}
use Rattle.zl_run.specs.Stepping.{HasStepped}
use Rattle.zl_run.specs.Flowing.{HasFlowed, FlowStops}
use Rattle.zl_run.specs.Standing.{IsClockAfter, HaveRooms, StepIsDue, Stands, the_step}
use Rattle.zl_run.specs.Driving.{HasNoted, is_demanded, Went, Followed}
use Rattle.zl_run.specs.Laws.{IsOrdered}
use Rattle.zl_run.specs.declared.clock.Clock.{Clock}
use Rattle.zl_run.specs.declared.track.Track.{Track}
use Rattle.zl_run.proofs.FollowLemmas.{steps_when, flows_when, not_due, ready_goes}
use Rattle.zl_run.proofs.LeftLemmas.{machine_at, machine_is, ends_in_flow, left_end, left_after, clock_left, machine_left, left_outcome}
use Rattle.zl_run.proofs.Measure.{left_to_run, less_after_step, less_after_flow}
use Rattle.zl_run.proofs.NextLemmas.{stands_at_end, can_follow, stands_here, is_there, next_is}
use Rattle.zl_run.proofs.ScriptLemmas.{types_of, ordered}
use Rattle.zl_run.proofs.StandLemmas.{stands_after_step, step_outcome, clock_noted, rooms_noted, next_due}

-- the next instant stands, and less is left to run
pub record GoesOn (c : CodeForm) (script : Script) (h : History Doing) (t new : Track) (after : MachineForm) (o : Outcome) : Type 0 where
  pub instant : Instant Doing
  pub stands : Stands c script h instant new after
  pub answer : o ≡ outcome c instant.kind instant.table
  pub less : left_to_run script new < left_to_run script t

-- the run ends with the latest instant, or in the flow after it
pub record IsEnded (c : CodeForm) (script : Script) (h : History Doing) (after : MachineForm) (ending : Ending) : Type 0 where
  pub ends : IsEnd (system_of c) script h ending
  pub machine : StandsAtEnd ending h after

same_ending : (result : Result Outcome Ending) (a b : Ending) → result ≡ Err a → result ≡ Err b → b ≡ a
same_ending result a b e f = cc

-- the end in a flow is none of those at which the machine stands
in_flow : (c : CodeForm) (script : Script) (h : History Doing) (i : Instant Doing) (g : History Doing) (m : MachineForm) (ending : Ending) → EndsInFlow (system_of c) script h i ending → StandsAtEnd ending g m
in_flow c script h i g m _ (ByFault y fault f e) = tt
in_flow c script h i g m _ (ByLack y f e l) = tt
in_flow c script h i g m _ (ByMove y d fault f e) = tt

module _ (c : CodeForm) (script : Script) (is : IsScriptFor (types_of c.ins) script) (h : History Doing) (i : Instant Doing) (t : Track) (m : MachineForm) (st : Stands c script h i t m)
    (again : Bool) (ready : Ready again ≡ outcome c i.kind i.table) (new : Track) (after : MachineForm) where
  abbrev asked : Bool
  asked = is_demanded script t again m

  -- what is decided is what follows
  decided : (n : Next) → next_by script t.clock.time asked t.clock.made ≡ n → next (system_of c) script (i ∷ h) ≡ n
  decided n e = next_is c script is h i t m st again ready ∙ e

  module _ (mid : Track) (noted : HasNoted t mid m) where
    -- a step
    to_step : next_by script t.clock.time asked t.clock.made ≡ Steps → (o : Outcome) → HasStepped script mid new m after o → GoesOn c script (i ∷ h) t new after o
    to_step e o stepped =
        let more = steps_when script t.clock.time asked t.clock.made (sym e) (can_follow c script is h i t m st).few in
        let due : StepIsDue c script (i ∷ h) mid m = next_due c script h i t mid m st noted (decided Steps e) (omega (arith, more, st.clock.made)) (ready_goes m.mode (is_there c script is h i t m st again ready)) in
        let low = ordered (types_of c.ins) script is in
        record {
          instant = the_step c (i ∷ h) (map Some new.inputs.items);
          stands = stands_after_step c script (i ∷ h) mid new m after o low due stepped;
          answer = step_outcome c script (i ∷ h) mid new m after o low due stepped;
          less = less_after_step script t new more
              (ap (λ (k : Clock). k.made) stepped.clock ∙ ap (λ (k : Clock). k.made + 1) noted.clock)
              (ap (λ (k : Clock). k.time) stepped.clock ∙ ap (λ (k : Clock). k.time) noted.clock);
        }

    -- a flow
    module _ (e : next_by script t.clock.time asked t.clock.made ≡ Flows) where
      none : due_in (drop mid.next script.lines) i.time ≡ None
      none =
          ap₂ (λ (n : ℕ) (x : Fraction). due_in (drop n script.lines) x) noted.next (sym st.clock.time)
          ∙ not_due script t again m (flows_when script t.clock.time asked t.clock.made (sym e)).0

      other : is_same i.time script.horizon ≡ false
      other = ap (λ (x : Fraction). is_same x script.horizon) (sym st.clock.time) ∙ (flows_when script t.clock.time asked t.clock.made (sym e)).1

      to_end : (ending : Ending) → FlowStops script mid m ending → IsEnded c script (i ∷ h) after ending
      to_end ending stops =
          let in_it = ends_in_flow c script h i (ordered (types_of c.ins) script is) (decided Flows e) m.mode m.rates mid (clock_noted c script h i t mid m st noted) none other ending
          (subst (λ (x : MachineForm). FlowStops script mid x ending) (machine_is c i m st.machine) stops) in
          record { ends = inr in_it; machine = in_flow c script h i (i ∷ h) after ending in_it }

      module _ (o : Outcome) (right : flow_outcome m ≡ FlowReady) (flowed : HasFlowed script mid new (after_flow m) after o) where
        low : IsOrdered script
        low = ordered (types_of c.ins) script is

        due : next (system_of c) script (i ∷ h) ≡ Flows
        due = decided Flows e

        clock : IsClockAfter script (i ∷ h) mid.clock mid.next
        clock = clock_noted c script h i t mid m st noted

        rooms : HaveRooms c mid
        rooms = rooms_noted c script h i t mid m st noted

        right_at : flow_outcome (machine_at c i m.mode m.rates) ≡ FlowReady
        right_at = subst (λ (x : MachineForm). flow_outcome x ≡ FlowReady) (machine_is c i m st.machine) right

        flowed_at : HasFlowed script mid new (after_flow (machine_at c i m.mode m.rates)) after o
        flowed_at = subst (λ (x : MachineForm). HasFlowed script mid new (after_flow x) after o) (machine_is c i m st.machine) flowed

        abbrev left : Instant Doing
        left = left_end c script h i low due m.mode m.rates mid clock none other new after o right_at flowed_at

        late : IsClockAfter script (left ∷ i ∷ h) new.clock new.next
        late = clock_left c script h i low due m.mode m.rates mid clock none other new after o right_at flowed_at

        to_left : GoesOn c script (i ∷ h) t new after o
        to_left = record {
          instant = left;
          stands = record {
            prefix = (st.prefix, inr (left_after c script h i low due m.mode m.rates mid clock none other new after o right_at flowed_at));
            machine = machine_left c script h i low due m.mode m.rates mid clock none other new after o right_at flowed_at;
            clock = late;
            mark = ap (λ (k : Clock). k.mark) flowed.clock;
            rooms = record {
              inputs = ap length flowed.inputs ∙ rooms.inputs;
              below = ap length flowed.below ∙ rooms.below;
              events = ap length flowed.events ∙ rooms.events;
              lines = flowed.rooms ∙ ap (λ (x : CodeForm). length x.sites) st.machine.code;
            };
            inputs = ap (map Some) (flowed.inputs ∙ noted.inputs) ∙ st.inputs;
            below = flowed.below ∙ noted.below ∙ ap₂ belows st.machine.code st.machine.regs;
          };
          answer = left_outcome c script h i low due m.mode m.rates mid clock none other new after o right_at flowed_at;
          less = less_after_flow script t new
              (subst IsTime (sym st.clock.time) st.clock.start)
              (subst IsTime (sym late.time) late.start)
              (ap₂ below st.clock.time late.time ∙ below-add_self i.time flowed_at.first.duration st.clock.start.number.reduced flowed_at.is_first.lowest.above ∙ flowed_at.is_first.positive)
              (ap (λ (k : Clock). k.made) flowed.clock ∙ ap (λ (k : Clock). k.made) noted.clock);
        }

  pub goes_on : (o : Outcome) → Followed script t new m after again (Ok o) → GoesOn c script (i ∷ h) t new after o
  goes_on o followed = go (next_by script t.clock.time asked t.clock.made) refl followed.went
    where
      go : (n : Next) → next_by script t.clock.time asked t.clock.made ≡ n → Went n script followed.mid new m after (Ok o) → GoesOn c script (i ∷ h) t new after o
      go (Ends ending) e went = absurd (never went.0)
        where
          never : Ok o ≡ Err ending → ⊥
          never f = cc
      go Steps e went = to_step followed.mid followed.noted e o went
      go Flows e went = to_left followed.mid followed.noted e o went.0 went.1

  pub is_ended : (ending : Ending) → Followed script t new m after again (Err ending) → IsEnded c script (i ∷ h) after ending
  is_ended ending followed = go (next_by script t.clock.time asked t.clock.made) refl followed.went
    where
      go : (n : Next) → next_by script t.clock.time asked t.clock.made ≡ n → Went n script followed.mid new m after (Err ending) → IsEnded c script (i ∷ h) after ending
      go (Ends decision) e went =
          let same : decision ≡ ending = same_ending (Err ending) ending decision refl went.0 in
          record {
            ends = inl (decided (Ends decision) e ∙ ap Ends same);
            machine = stands_at_end ending (i ∷ h) after (subst (StandsAfter (i ∷ h)) (sym went.1) (stands_here c script is h i t m st));
          }
      go Steps e went = absurd went
      go Flows e went = to_end followed.mid followed.noted e ending went
