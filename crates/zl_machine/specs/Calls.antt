-- What the calls of a machine answer and leave behind.
use Rattle.std.specs.Prelude.{ℕ, Bool, true, false, ◌++◌, length, replicate, slice_get, Option, Some, None, Result, Ok, Err}
use Rattle.std.specs.Option.{option_and_then}
use Rattle.zl_value.specs.Fraction.{Fraction}
use Rattle.zl_value.specs.Times.{holds}
use Rattle.zl_value.specs.Widths.{first_wide}
use Rattle.zl_value.specs.Instants.{Kind, Step, Left}
use Rattle.zl_value.specs.System.{increments, arrivals}
use Rattle.zl_value.specs.declared.value.Value.{Value}
use Rattle.zl_value.specs.declared.value.Fault.{Fault}
use Rattle.zl_value.specs.declared.line.Line.{Line}
use Rattle.zl_value.specs.declared.script.Output.{Output}
use Rattle.zl_code.specs.CodeForm.{CodeForm}
use Rattle.zl_code.specs.Method.{Cells, cell, Doing}
use Rattle.zl_code.specs.System.{flow_of, starts, all_moved, site_value, site_fresh, site_slope, lacks, flow_lacks, fault_of, motions}
use Rattle.zl_machine.specs.declared.mode.Mode.{Mode}
use Rattle.zl_machine.specs.declared.mode.Mode.TheVariants.{Fresh, Stands, Flows, Over}
use Rattle.zl_machine.specs.declared.outcome.Outcome.{Outcome}
use Rattle.zl_machine.specs.declared.outcome.Outcome.TheVariants.{Ready, Fault as Faulty, Empty}
use Rattle.zl_machine.specs.declared.outcome.FlowOutcome.{FlowOutcome}
use Rattle.zl_machine.specs.declared.outcome.FlowOutcome.TheVariants.{Ready as FlowReady, Fault as FlowFaulty, Empty as FlowEmpty}
use Rattle.zl_machine.specs.declared.outcome.SiteView.{SiteView}
use Rattle.zl_machine.specs.Answers.{float_of, slope_of}
use Rattle.zl_machine.specs.MachineForm.{MachineForm}

-- a machine that is just made: its memories are at their start values, and all else is empty
abbrev pub made : CodeForm → MachineForm
made c = record {
  code = c;
  mode = Fresh;
  mems = starts c;
  inputs = replicate (length c.ins) None;
  regs = replicate (length c.regs) None;
  rates = replicate (length c.regs) None;
}

-- a further step is demanded by a step; no left end demands one
abbrev pub demanded : Kind → Option Value → Bool
demanded Step v = holds v
demanded Left v = false

abbrev pub outcome_by : CodeForm → Kind → Cells → Option Fault → Bool → Outcome
outcome_by c kind regs (Some fault) lacking = Faulty fault
outcome_by c kind regs None true = Empty
outcome_by c kind regs None false = Ready (demanded kind (cell regs c.again))

-- the answer of an instant: its fault, a value that is missing, or that it is ready
abbrev pub outcome : CodeForm → Kind → Doing → Outcome
outcome c kind d = outcome_by c kind d.regs (fault_of d) (lacks c kind d.regs)

abbrev pub mode_after : Outcome → Mode
mode_after (Ready again) = Stands
mode_after _ = Over

-- the machine after what an instant's method did, with these inputs
abbrev pub after_instant : MachineForm → Kind → Cells → Doing → MachineForm
after_instant m kind inputs d = record {
  code = m.code;
  mode = mode_after (outcome m.code kind d);
  mems = d.mems;
  inputs = inputs;
  regs = d.regs;
  rates = m.rates;
}

-- what the flow method does on a machine's memories
abbrev pub flow_on : MachineForm → Doing
flow_on m = flow_of m.code m.mems m.inputs

abbrev pub flow_outcome_by : Option Fault → Bool → FlowOutcome
flow_outcome_by (Some fault) lacking = FlowFaulty fault
flow_outcome_by None true = FlowEmpty
flow_outcome_by None false = FlowReady

abbrev pub flow_outcome : MachineForm → FlowOutcome
flow_outcome m = flow_outcome_by (fault_of (flow_on m)) (flow_lacks m.code m.regs m.mems (flow_on m).regs)

abbrev pub flow_mode_after : FlowOutcome → Mode
flow_mode_after FlowReady = Flows
flow_mode_after _ = Over

abbrev pub after_flow : MachineForm → MachineForm
after_flow m = record {
  code = m.code;
  mode = flow_mode_after (flow_outcome m);
  mems = m.mems;
  inputs = m.inputs;
  regs = m.regs;
  rates = (flow_on m).regs;
}

-- the first number of a move by `by` that isn't in the width: of how far each memory moves, and then of where each comes to
abbrev pub move_fault : MachineForm → Fraction → Option Fault
move_fault m by =
    let ms = motions m.rates m.code.mems m.mems in
    first_wide (increments by ms ++ arrivals by ms)

abbrev pub move_answer : Option Fault → Result (Unit {0}) Fault
move_answer None = Ok tt
move_answer (Some fault) = Err fault

abbrev pub after_move : MachineForm → Fraction → Option Fault → MachineForm
after_move m by None = record m { mems = all_moved m.rates by m.code.mems m.mems }
after_move m by (Some fault) = record m { mode = Over }

-- what an output shows
abbrev pub output_value : MachineForm → ℕ → Option Value
output_value m k = option_and_then (λ (output : Output). cell m.regs output.from) (slice_get m.code.outs k)

-- a site's value, and whether it is fresh, where it has one
abbrev pub fresh_if : Option Fraction → Option Value → Bool
fresh_if None fresh = false
fresh_if (Some value) fresh = holds fresh

abbrev pub site_view : MachineForm → ℕ → SiteView
site_view m k = record { value = float_of (site_value m.code m.regs k); fresh = fresh_if (float_of (site_value m.code m.regs k)) (site_fresh m.code m.regs k) }

-- the line along which a site moves in the last flow, from its value with its slope; a site without a value has none
abbrev pub line_from : Option Fraction → Fraction → Option Line
line_from None slope = None
line_from (Some value) slope = Some (record { value = value; slope = slope })

abbrev pub site_line : MachineForm → ℕ → Option Line
site_line m k = line_from (float_of (site_value m.code m.regs k)) (slope_of (site_slope m.code m.rates k))
