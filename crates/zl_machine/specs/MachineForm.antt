-- A machine, as contracts see it: what it holds between two calls.
use Rattle.std.specs.Prelude.{Bool, true, false}
use Rattle.zl_code.specs.CodeForm.{CodeForm}
use Rattle.zl_code.specs.Method.{Cells}
use Rattle.zl_machine.specs.declared.mode.Mode.{Mode}
use Rattle.zl_machine.specs.declared.mode.Mode.TheVariants.{Stands, Flows, Over}

pub record MachineForm : Type 0 where
  pub code : CodeForm
  -- which calls may come next
  pub mode : Mode
  -- the memories, which the last call left
  pub mems : Cells
  -- the inputs of the last step, and the registers of the last step or left end
  pub inputs : Cells
  pub regs : Cells
  -- the registers of the last flow
  pub rates : Cells

-- it wasn't left by a fault or for want of a value
abbrev pub goes_on : Mode → Bool
goes_on Over = false
goes_on _ = true

-- an instant was made, and it is ready
abbrev pub has_instant : Mode → Bool
has_instant Stands = true
has_instant Flows = true
has_instant _ = false

-- a flow was made after it, and it is ready
abbrev pub has_flow : Mode → Bool
has_flow Flows = true
has_flow _ = false
