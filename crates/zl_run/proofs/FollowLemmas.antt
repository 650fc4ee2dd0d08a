-- Which call follows an instant that is ready, and what stands before it.
use Rattle.std.specs.Prelude.{◌≡◌, ℕ, ◌<◌, ◌≤◌, Bool, true, false, ◌||◌, nat_eq, is_some, if◌then◌else◌, length, drop, Option, Some, None, Result, Ok, Err, IfOk, IfErr, IsOk}
use Rattle.std.specs.List.{AllByRecursion}
use Rattle.std.proofs.Common.{refl, ⊎_elim, arith}
use Rattle.std.proofs.lemmas.Bool.{both_ways}
use Rattle.std.proofs.lemmas.Bool.Decides.{eqb_tells}
use Rattle.zl_value.specs.Fraction.{Fraction}
use Rattle.zl_value.specs.Order.{below}
use Rattle.zl_value.specs.Times.{is_same}
use Rattle.zl_value.specs.Loop.{Ends, Steps, Flows}
use Rattle.zl_value.specs.declared.script.Script.{Script}
use Rattle.zl_value.specs.declared.script.Ending.{Ending}
use Rattle.zl_value.specs.declared.script.Ending.TheVariants.{Horizon, Bound}
use Rattle.zl_machine.specs.Calls.{after_flow, flow_outcome}
use Rattle.zl_machine.specs.declared.outcome.Outcome.{Outcome}
use Rattle.zl_machine.specs.declared.outcome.FlowOutcome.TheVariants.{Ready as FlowReady}
use Rattle.zl_machine.specs.MachineForm.{MachineForm, has_instant, goes_on}
use Rattle.zl_machine.specs.declared.mode.Mode.{Mode}
use Rattle.zl_machine.specs.declared.mode.Mode.TheVariants as mode
use Rattle.zl_run.specs.Inputs.{AreWithin}
use Rattle.zl_run.specs.Stopping.{due_in, next_by}
use Rattle.zl_run.specs.Driving.{HasNoted, is_demanded, CanFollow, Went}
use Rattle.zl_run.specs.Flowing.{stop_of, HasFlowed, FlowStops}
use Rattle.zl_run.specs.declared.track.Track.{Track}

pub steps_when : (script : Script) (time : Fraction) (d : Bool) (made : ℕ) → Steps ≡ next_by script time d made → made ≤ script.steps → made < script.steps
steps_when script time true made e few = go (nat_eq made script.steps) refl e
  where
    go : (b : Bool) → nat_eq made script.steps ≡ b → Steps ≡ (if b then Ends Bound else Steps) → made < script.steps
    go true f e = absurd cc
    go false f e = ⊎_elim (λ p. absurd (both_ways (nat_eq made script.steps) f p.0)) (λ p. omega (arith, few, p.1)) (eqb_tells made script.steps)
steps_when script time false made e few = go (is_same time script.horizon) e
  where
    go : (b : Bool) → Steps ≡ (if b then Ends Horizon else Flows) → made < script.steps
    go true e = absurd cc
    go false e = absurd cc

pub flows_when : (script : Script) (time : Fraction) (d : Bool) (made : ℕ) → Flows ≡ next_by script time d made → (d ≡ false) × (is_same time script.horizon ≡ false)
flows_when script time true made e = go (nat_eq made script.steps) e
  where
    go : (b : Bool) → Flows ≡ (if b then Ends Bound else Steps) → (true ≡ false) × (is_same time script.horizon ≡ false)
    go true e = absurd cc
    go false e = absurd cc
flows_when script time false made e = (refl, go (is_same time script.horizon) e)
  where
    go : (b : Bool) → Flows ≡ (if b then Ends Horizon else Flows) → b ≡ false
    go true e = absurd cc
    go false e = refl

neither : (a b c : Bool) → (a || (b || c)) ≡ false → c ≡ false
neither true b c e = absurd cc
neither false true c e = absurd cc
neither false false c e = e

none_from : {X : Type 0} (x : Option X) → is_some x ≡ false → x ≡ None
none_from None e = refl
none_from (Some x) e = absurd cc

-- nothing is demanded: no line is due
pub not_due : (script : Script) (t : Track) (again : Bool) (m : MachineForm) → is_demanded script t again m ≡ false → due_in (drop t.next script.lines) t.clock.time ≡ None
not_due script t again m e = none_from (due_in (drop t.next script.lines) t.clock.time) (neither _ again _ e)

pub ready_goes : (x : Mode) → has_instant x ≡ true → goes_on x ≡ true
ready_goes mode.Fresh e = absurd cc
ready_goes mode.Stands e = refl
ready_goes mode.Flows e = refl
ready_goes mode.Over e = absurd cc

-- the stop is later
pub stop_later : (script : Script) (t mid : Track) (again : Bool) (m : MachineForm) → CanFollow script t m → HasNoted t mid m
    → Flows ≡ next_by script t.clock.time (is_demanded script t again m) t.clock.made → below mid.clock.time (stop_of script mid) ≡ true
stop_later script t mid again m can noted e =
    let so = flows_when script t.clock.time (is_demanded script t again m) t.clock.made e in
    let later : below t.clock.time (stop_of script t) ≡ true = can.later (not_due script t again m so.0) so.1 in
    rw (noted.clock, noted.next) later

-- the sets of the script's lines are of inputs
pub sets_for : (script : Script) (t mid : Track) (m : MachineForm) → CanFollow script t m → HasNoted t mid m → AllByRecursion (AreWithin (length mid.inputs.items)) script.lines
sets_for script t mid m can noted = rw noted.inputs can.sets

-- a flow, with its left end or with what ends the run
pub went_flow : (script : Script) (t new : Track) (m after : MachineForm) (result : Result Outcome Ending) → IfOk result (λ o. HasFlowed script t new (after_flow m) after o)
    → (IsOk result → flow_outcome m ≡ FlowReady) → IfErr result (FlowStops script t m) → Went Flows script t new m after result
went_flow script t new m after (Ok o) flowed ready stops = (ready refl, flowed)
went_flow script t new m after (Err ending) flowed ready stops = stops
