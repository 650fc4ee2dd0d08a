-- Instants and flows of a written kernel, computed: an equation between them then holds by itself.
use Rattle.std.specs.Prelude.{ℕ, zero, suc, [], length}
use Rattle.std.specs.Fmt.{digits}
use Rattle.zl_value.specs.Fraction.{Fraction, gcd_in, gcd, reduced, add, sub, mul, neg, ratio, div, compare, fits}
use Rattle.zl_value.specs.Stops.{line_for, inputs_after}
use Rattle.zl_value.specs.Instants.{Step, Left, Instant, History, latest_inputs, time_of, steps_at}
use Rattle.zl_value.specs.System.{fired_after}
use Rattle.zl_value.specs.declared.script.Script.{Script}
use Rattle.zl_kernel.specs.KernelForm.{KernelForm}
use Rattle.zl_kernel.specs.FlowWires.{is_of_flows}
use Rattle.zl_kernel.specs.Wires.{Registers, Moment, turn}
use Rattle.zl_kernel.specs.Memories.{memories_of, memories_after}
use Rattle.zl_kernel.specs.System.{moment_of, flow_moment, system_of_kernel}

-- a proof that unfolds it unfolds all that has to be computed
unfoldable pub computing : ℕ
unfolding gcd_in gcd reduced add sub mul neg ratio div compare fits digits turn is_of_flows
computing = 0

-- `n` turns from registers: what the wires hold, once a turn changes nothing more
abbrev pub turns : KernelForm → Moment → ℕ → Registers → Registers
turns k m zero r = r
turns k m (suc n) r = turns k m n (turn k m r)

abbrev pub settled : KernelForm → Registers → ℕ → Instant Registers → Instant Registers
settled k memories n i = record i { table = turns k (moment_of memories i) n [] }

-- the step after `h`
abbrev pub step_on : KernelForm → Script → History Registers → ℕ → Instant Registers
step_on k script h n = settled k (memories_of k h) n (record {
  kind = Step;
  time = time_of h;
  inputs = inputs_after (length k.ins) (line_for script (time_of h) (steps_at (time_of h) h)) (latest_inputs h);
  fired = fired_after (system_of_kernel k) h;
  table = [];
})

-- what the wires hold in the flow after instant `i`
abbrev pub flow_on : KernelForm → Instant Registers → ℕ → Registers
flow_on k i n = turns k (flow_moment k i) n []

-- the left end of the flow after `h`, in which the wires hold `y` and which lasts `d`
abbrev pub left_on : KernelForm → History Registers → Registers → Fraction → ℕ → Instant Registers
left_on k h y d n = settled k (memories_after k h y d) n (record {
  kind = Left;
  time = add (time_of h) d;
  inputs = latest_inputs h;
  fired = fired_after (system_of_kernel k) h;
  table = [];
})
