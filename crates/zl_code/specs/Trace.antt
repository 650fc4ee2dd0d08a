-- What is printed of a code's run.
use Rattle.std.specs.Prelude.{ℕ, List, Option}
use Rattle.std.specs.List.{filter_map}
use Rattle.std.specs.Option.{option_map}
use Rattle.zl_value.specs.Lines.{Shown}
use Rattle.zl_value.specs.Instants.{History}
use Rattle.zl_value.specs.Traces.{trace as trace_of}
use Rattle.zl_value.specs.declared.script.Output.{Output}
use Rattle.zl_value.specs.declared.script.Ending.{Ending}
use Rattle.zl_code.specs.CodeForm.{CodeForm}
use Rattle.zl_code.specs.Method.{Cells, cell, Doing}
use Rattle.zl_code.specs.System.{system_of}

-- an output with its name and value
abbrev pub shown : Cells → Output → Option Shown
shown regs output = option_map (λ v. record { name = output.name; value = v }) (cell regs output.from)

-- the outputs that have a value
abbrev pub outputs : CodeForm → Doing → List Shown
outputs c d = filter_map (shown d.regs) c.outs

-- all that is printed of a run
abbrev pub trace : CodeForm → History Doing → Ending → List ℕ
trace c h ending = trace_of (system_of c) (outputs c) h ending
