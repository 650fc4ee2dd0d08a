-- What stands after a step.
use Rattle.std.specs.Prelude.{◌≡◌, ℕ, Bool, List, [], ◌∷◌, length, map, Option, Some}
use Rattle.std.proofs.Common.{refl, sym, ap, ap₂, ◌∙◌, inl}
use Rattle.zl_value.specs.Stops.{line_for, inputs_after}
use Rattle.zl_value.specs.Instants.{Step, History, time_of, latest_inputs, steps_at}
use Rattle.zl_value.specs.System.{fired_after}
use Rattle.zl_value.specs.Runs.{IsPrefix, StepAfter}
use Rattle.zl_value.specs.declared.value.Value.{Value}
use Rattle.zl_value.specs.declared.script.Script.{Script}
use Rattle.zl_value.specs.declared.script.ScriptLine.{ScriptLine}
use Rattle.zl_code.specs.CodeForm.{CodeForm}
use Rattle.zl_code.specs.Method.{Cells, Doing}
use Rattle.zl_code.specs.System.{system_of, events_of, instant_of, mems_after}
use Rattle.zl_machine.specs.Calls.{outcome, mode_after, after_instant}
use Rattle.zl_machine.specs.MachineForm.{MachineForm}
use Rattle.zl_run.specs.Inputs.{set_all}
use Rattle.zl_run.specs.Stopping.{sets_in}
use Rattle.zl_run.specs.Standing.{IsAfter, IsBegun, the_step}
use Rattle.zl_run.proofs.InputLemmas.{after_line}

-- the machine's method is that of the step
pub done : (c : CodeForm) (h : History Doing) (m : MachineForm) (inputs : Cells) (events : List Bool) → m.code ≡ c → m.mems ≡ mems_after c h
    → events ≡ events_of c (fired_after (system_of c) h)
    → instant_of m.code Step m.mems inputs events ≡ instant_of c Step (mems_after c h) inputs (events_of c (fired_after (system_of c) h))
done c h m inputs events code mems fired = rw (code, mems, fired) refl

-- the machine after it
pub machine_after : (c : CodeForm) (h : History Doing) (m new : MachineForm) (inputs : Cells) (events : List Bool) → m.code ≡ c → m.mems ≡ mems_after c h
    → events ≡ events_of c (fired_after (system_of c) h) → new ≡ after_instant m Step inputs (instant_of m.code Step m.mems inputs events)
    → IsAfter c (the_step c h inputs) new
machine_after c h m new inputs events code mems fired e =
    let same = done c h m inputs events code mems fired in
    record {
      code = ap (λ (x : MachineForm). x.code) e ∙ code;
      mode = ap (λ (x : MachineForm). x.mode) e ∙ ap₂ (λ (k : CodeForm) (d : Doing). mode_after (outcome k Step d)) code same;
      mems = ap (λ (x : MachineForm). x.mems) e ∙ ap (λ (d : Doing). d.mems) same;
      regs = ap (λ (x : MachineForm). x.regs) e ∙ ap (λ (d : Doing). d.regs) same;
      inputs = ap (λ (x : MachineForm). x.inputs) e;
    }

-- the step is the next instant of the run
pub step_after : (c : CodeForm) (script : Script) (h : History Doing) (n : ℕ) (inputs : List Value)
    → IsBegun c script h → StepAfter (system_of c) script h (the_step c h (map Some inputs)) → IsPrefix (system_of c) script (the_step c h (map Some inputs) ∷ h)
step_after c script [] n inputs begun step = step
step_after c script (j ∷ h) n inputs begun step = (begun, inl step)

-- the inputs are those that the run says
pub inputs_are : (c : CodeForm) (script : Script) (h : History Doing) (n : ℕ) (inputs : List Value) (line : Option ScriptLine)
    → length inputs ≡ length c.ins → line_for script (time_of h) (steps_at (time_of h) h) ≡ line
    → inputs_after (length c.ins) (line_for script (time_of h) (steps_at (time_of h) h)) (map Some inputs) ≡ inputs_after (length c.ins) (line_for script (time_of h) (steps_at (time_of h) h)) (latest_inputs h)
    → map Some (set_all (sets_in line) inputs) ≡ inputs_after (length c.ins) (line_for script (time_of h) (steps_at (time_of h) h)) (latest_inputs h)
inputs_are c script h n inputs line size is same =
    after_line (length c.ins) line inputs size ∙ ap (λ l. inputs_after (length c.ins) l (map Some inputs)) (sym is) ∙ same
