-- Instants of a written code, computed: an equation between them then holds by itself.
use Rattle.std.specs.Prelude.{ℕ, List, [], ◌∷◌, length, Option}
use Rattle.std.specs.Fmt.{digits}
use Rattle.zl_value.specs.Fraction.{Fraction, gcd_in, gcd, reduced, add, sub, mul, neg, ratio, div, compare, fits}
use Rattle.zl_value.specs.Stops.{line_for, inputs_after}
use Rattle.zl_value.specs.Instants.{Step, Left, Instant, History, latest_inputs, time_of, steps_at}
use Rattle.zl_value.specs.System.{fired_after}
use Rattle.zl_value.specs.declared.script.Script.{Script}
use Rattle.zl_value.specs.declared.value.Value.{Value}
use Rattle.zl_code.specs.CodeForm.{CodeForm}
use Rattle.zl_code.specs.Method.{Doing}
use Rattle.zl_code.specs.System.{events_of, instant_of, flow_of, mems_after, all_moved, system_of}

-- a proof that unfolds it unfolds all that has to be computed
unfoldable pub computing : ℕ
unfolding gcd_in gcd reduced add sub mul neg ratio div compare fits digits
computing = 0

-- the inputs of the step after `h`
abbrev pub inputs_on : CodeForm → Script → History Doing → List (Option Value)
inputs_on c script h = inputs_after (length c.ins) (line_for script (time_of h) (steps_at (time_of h) h)) (latest_inputs h)

-- the step after `h`
abbrev pub step_on : CodeForm → Script → History Doing → Instant Doing
step_on c script h = record {
  kind = Step;
  time = time_of h;
  inputs = inputs_on c script h;
  fired = fired_after (system_of c) h;
  table = instant_of c Step (mems_after c h) (inputs_on c script h) (events_of c (fired_after (system_of c) h));
}

-- what the flow after instant `i` does
abbrev pub flow_on : CodeForm → Instant Doing → Doing
flow_on c i = flow_of c i.table.mems i.inputs

-- the left end of the flow after `i`, which lasts `d`
abbrev pub left_on : CodeForm → History Doing → Instant Doing → Fraction → Instant Doing
left_on c h i d = record {
  kind = Left;
  time = add i.time d;
  inputs = i.inputs;
  fired = fired_after (system_of c) (i ∷ h);
  table = instant_of c Left (all_moved (flow_on c i).regs d c.mems i.table.mems) i.inputs [];
}
