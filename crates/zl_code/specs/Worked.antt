-- Worked codes and methods: what is said of their runs, and of what they do. This project's own.
pub mod SawTooth
pub mod Statements
use Rattle.std.specs.Prelude.{ℕ, List}
use Rattle.zl_value.specs.Traces.{HasTrace as HasTraceOf}
use Rattle.zl_value.specs.declared.position.Pos.{Pos}
use Rattle.zl_value.specs.declared.script.Script.{Script}
use Rattle.zl_code.specs.CodeForm.{CodeForm}
use Rattle.zl_code.specs.System.{system_of}
use Rattle.zl_code.specs.Trace.{outputs}

abbrev pub at : ℕ → ℕ → Pos
at line column = record { line = line; column = column }

-- the code has a run with the script, and this is printed of it
abbrev pub HasTrace : CodeForm → Script → List ℕ → Type 0
HasTrace c script text = HasTraceOf (system_of c) (outputs c) script text
