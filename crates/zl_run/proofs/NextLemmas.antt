-- What follows the latest instant, by what is kept beside the machine.
use Rattle.std.specs.Prelude.{◌≡◌, ℕ, Bool, true, false, ◌&&◌, ◌||◌, is_some, List, [], ◌∷◌, ◌++◌, length, drop, Option, Some, None, Err}
use Rattle.std.specs.List.{list_any}
use Rattle.std.proofs.Common.{refl, sym, ap, ap₂, ◌∙◌, subst, arith}
use Rattle.std.proofs.lemmas.List.{append-nil, length-map}
use Rattle.zl_value.specs.Fraction.{Fraction}
use Rattle.zl_value.specs.Order.{below}
use Rattle.zl_value.specs.Times.{is_same, holds}
use Rattle.zl_value.specs.Script.{IsScriptFor}
use Rattle.zl_value.specs.Stops.{line_for}
use Rattle.zl_value.specs.Lines.{instant_line}
use Rattle.zl_value.specs.Instants.{Kind, Step, Left, is_step, Instant, History, steps_in, steps_at, mark_of}
use Rattle.zl_value.specs.Loop.{Next, Ends, next_after}
use Rattle.zl_value.specs.System.{unless_lacking, fired_after, is_some_site, is_demanded as is_asked, next}
use Rattle.zl_value.specs.Traces.{line_of}
use Rattle.zl_value.specs.declared.value.Value.{Value}
use Rattle.zl_value.specs.declared.value.Fault.{Fault}
use Rattle.zl_value.specs.declared.script.Script.{Script}
use Rattle.zl_value.specs.declared.script.Mark.{Mark}
use Rattle.zl_value.specs.declared.script.Ending.{Ending}
use Rattle.zl_value.specs.declared.script.Ending.TheVariants.{Horizon, Bound, Empty, Fault as EndsInFault}
use Rattle.zl_code.specs.CodeForm.{CodeForm}
use Rattle.zl_code.specs.Method.{Cells, cell, Doing}
use Rattle.zl_code.specs.System.{system_of, fault_of, lacks}
use Rattle.zl_code.specs.Trace.{outputs}
use Rattle.zl_machine.specs.Calls.{outcome, outcome_by, mode_after, demanded}
use Rattle.zl_machine.specs.MachineForm.{MachineForm, has_instant}
use Rattle.zl_machine.specs.declared.outcome.Outcome.TheVariants.{Ready}
use Rattle.zl_lines.specs.RoomForm.{shown_by}
use Rattle.zl_run.specs.Answers.{piece_if_right, pieces, StandsAfter, StandsAtEnd}
use Rattle.zl_run.specs.Firing.{firings}
use Rattle.zl_run.specs.Stopping.{due_in, next_by}
use Rattle.zl_run.specs.Standing.{HaveRooms, Stands}
use Rattle.zl_run.specs.Flowing.{stop_of}
use Rattle.zl_run.specs.Driving.{answered, is_demanded, CanFollow}
use Rattle.zl_run.specs.declared.clock.Clock.{Clock}
use Rattle.zl_run.specs.declared.track.Track.{Track}
use Rattle.zl_run.proofs.ClockLemmas.{reduced_lines, stop_is_next}
use Rattle.zl_run.proofs.FiredLemmas.{firings_are}
use Rattle.zl_run.proofs.ScriptLemmas.{types_of, ordered, are_within}
use Rattle.zl_run.proofs.StopLemmas.{due_is}

-- an instant that is ready has no fault and lacks nothing
ready_by : (c : CodeForm) (kind : Kind) (regs : Cells) (fault : Option Fault) (lacking again : Bool) → Ready again ≡ outcome_by c kind regs fault lacking
    → (fault ≡ None) × (lacking ≡ false) × (again ≡ demanded kind (cell regs c.again))
ready_by c kind regs (Some fault) lacking again e = absurd cc
ready_by c kind regs None true again e = absurd cc
ready_by c kind regs None false again e = (refl, refl, cc)

demands : (kind : Kind) (v : Option Value) → (is_step kind && holds v) ≡ demanded kind v
demands Step v = refl
demands Left v = refl

three : (a b c x y z : Bool) → a ≡ x → b ≡ y → c ≡ z → ((a || b) || c) ≡ (x || (y || z))
three true b c x y z e f g = rw (sym e) refl
three false b c x y z e f g = rw (sym e, sym f, sym g) refl

next_ready : (script : Script) (time : Fraction) (mark : Mark) (lacking : Bool) (fault : Option Fault) (asked : Bool) (steps : ℕ) → fault ≡ None → lacking ≡ false
    → unless_lacking lacking fault (next_after script time mark fault asked steps) ≡ next_by script time asked steps
next_ready script time mark true fault asked steps e f = absurd cc
next_ready script time mark false (Some fault) asked steps e f = absurd cc
next_ready script time mark false None asked steps e f = refl

-- an instant that isn't ready ends the run, and has no line
record IsOver (n : Next) (piece : List (List ℕ)) (ending : Ending) : Type 0 where
  pub ends : n ≡ Ends ending
  pub nothing : piece ≡ []

over_by : (c : CodeForm) (script : Script) (kind : Kind) (regs : Cells) (time : Fraction) (mark : Mark) (lacking : Bool) (fault : Option Fault) (asked : Bool) (steps : ℕ) (line : List ℕ) (k : Clock) (ending : Ending)
    → k.time ≡ time → k.mark ≡ mark → Err ending ≡ answered (outcome_by c kind regs fault lacking) k
    → IsOver (unless_lacking lacking fault (next_after script time mark fault asked steps)) (piece_if_right fault lacking line) ending
over_by c script kind regs time mark true (Some fault) asked steps line k ending e f g =
    let is : ending ≡ EndsInFault fault k.time k.mark = cc in
    record { ends = ap Ends (sym (is ∙ ap₂ (λ (t : Fraction) (x : Mark). EndsInFault fault t x) e f)); nothing = refl }
over_by c script kind regs time mark false (Some fault) asked steps line k ending e f g =
    let is : ending ≡ EndsInFault fault k.time k.mark = cc in
    record { ends = ap Ends (sym (is ∙ ap₂ (λ (t : Fraction) (x : Mark). EndsInFault fault t x) e f)); nothing = refl }
over_by c script kind regs time mark true None asked steps line k ending e f g =
    let is : ending ≡ Empty = cc in
    record { ends = ap Ends (sym is); nothing = refl }
over_by c script kind regs time mark false None asked steps line k ending e f g = absurd cc

pub stands_at_end : (ending : Ending) (h : History Doing) (m : MachineForm) → StandsAfter h m → StandsAtEnd ending h m
stands_at_end Horizon h m is = is
stands_at_end Bound h m is = is
stands_at_end Empty h m is = tt
stands_at_end (EndsInFault fault time mark) h m is = tt

module _ (c : CodeForm) (script : Script) (is : IsScriptFor (types_of c.ins) script) (h : History Doing) (i : Instant Doing) (t : Track) (m : MachineForm) (st : Stands c script h i t m) where
  due_kept : line_for script i.time (steps_at i.time (i ∷ h)) ≡ due_in (drop t.next script.lines) t.clock.time
  due_kept =
      let low = ordered (types_of c.ins) script is in
      due_is i.time (steps_at i.time (i ∷ h)) t.next script.lines st.clock.start.number.reduced.above (reduced_lines script.horizon script.lines low.lines) low.ascending st.clock.passed st.clock.ahead
      ∙ ap (due_in (drop t.next script.lines)) (sym st.clock.time)

  any_kept : is_some_site (fired_after (system_of c) (i ∷ h)) ≡ list_any (λ event. event) (firings m.code t.below.items m.regs)
  any_kept =
      sym (firings_are c h i).any
      ∙ sym (rw (st.machine.code, st.below, st.machine.regs) refl)

  -- the clock that follows, and the machine that can follow
  pub can_follow : CanFollow script t m
  can_follow = record {
    few = omega (arith, st.clock.made, st.clock.few);
    bound = is.few_steps;
    here = omega (arith, st.clock.made, st.clock.here, st.clock.fewer);
    rooms = subst (λ (k : CodeForm). HaveRooms k t) (sym st.machine.code) st.rooms;
    sets = are_within (types_of c.ins) script.horizon script.lines (length t.inputs.items) (st.rooms.inputs ∙ sym (length-map c.ins _)) is.lines;
    later = λ none other.
        let stop = stop_is_next script (i ∷ h) t.clock t.next (ordered (types_of c.ins) script is) st.clock
        (subst (λ (x : Fraction). due_in (drop t.next script.lines) x ≡ None) st.clock.time none)
        (subst (λ (x : Fraction). is_same x script.horizon ≡ false) st.clock.time other) in
        subst (λ (x : Fraction). below x (stop_of script t) ≡ true) (sym st.clock.time) stop.later;
  }

  pub stands_here : StandsAfter (i ∷ h) m
  stands_here = (st.machine.mems, st.machine.regs)

  module _ (again : Bool) (ready : Ready again ≡ outcome c i.kind i.table) where
    is_ready : (fault_of i.table ≡ None) × (lacks c i.kind i.table.regs ≡ false) × (again ≡ demanded i.kind (cell i.table.regs c.again))
    is_ready = ready_by c i.kind i.table.regs (fault_of i.table) (lacks c i.kind i.table.regs) again ready

    pub is_there : has_instant m.mode ≡ true
    is_there = ap has_instant (st.machine.mode ∙ ap mode_after (sym ready))

    asked : is_asked (system_of c) script (i ∷ h) ≡ is_demanded script t again m
    asked = three _ _ _ _ _ _ any_kept (demands i.kind (cell i.table.regs c.again) ∙ sym is_ready.2) (ap is_some due_kept)

    pub next_is : next (system_of c) script (i ∷ h) ≡ next_by script t.clock.time (is_demanded script t again m) t.clock.made
    next_is =
        next_ready script i.time (mark_of h i) (lacks c i.kind i.table.regs) (fault_of i.table) (is_asked (system_of c) script (i ∷ h)) (steps_in (i ∷ h)) is_ready.0 is_ready.1
        ∙ ap (λ (b : Bool). next_by script i.time b (steps_in (i ∷ h))) asked
        ∙ ap₂ (λ (x : Fraction) (n : ℕ). next_by script x (is_demanded script t again m) n) (sym st.clock.time) (sym st.clock.made)

    line_put : line_of (outputs c) h i ≡ instant_line t.clock.time t.clock.mark (shown_by m)
    line_put =
        ap₂ (λ (x : Fraction) (mark : Mark). instant_line x mark (outputs c i.table)) (sym st.clock.time) (sym st.mark)
        ∙ ap (instant_line t.clock.time t.clock.mark) (rw (st.machine.regs, st.machine.code) refl)

    pub one_more_piece : pieces c (i ∷ h) ≡ pieces c h ++ instant_line t.clock.time t.clock.mark (shown_by m) ∷ []
    one_more_piece =
        ap (λ (more : List (List ℕ)). pieces c h ++ more)
        (ap₂ (λ (f : Option Fault) (b : Bool). piece_if_right f b (line_of (outputs c) h i)) is_ready.0 is_ready.1 ∙ ap (λ (line : List ℕ). line ∷ []) line_put)

  -- or it is over
  module _ (ending : Ending) (not_ready : Err ending ≡ answered (outcome c i.kind i.table) t.clock) where
    is_over : IsOver (next (system_of c) script (i ∷ h)) (piece_if_right (fault_of i.table) (lacks c i.kind i.table.regs) (line_of (outputs c) h i)) ending
    is_over =
        over_by c script i.kind i.table.regs i.time (mark_of h i) (lacks c i.kind i.table.regs) (fault_of i.table) (is_asked (system_of c) script (i ∷ h)) (steps_in (i ∷ h)) (line_of (outputs c) h i) t.clock ending
        st.clock.time st.mark not_ready

    pub over_here : next (system_of c) script (i ∷ h) ≡ Ends ending
    over_here = is_over.ends

    pub no_more_piece : pieces c (i ∷ h) ≡ pieces c h
    no_more_piece = ap (λ (more : List (List ℕ)). pieces c h ++ more) is_over.nothing ∙ append-nil (pieces c h)
