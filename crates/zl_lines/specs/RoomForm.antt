-- A room for lines, as contracts see it, and which lines are written into it.
use Rattle.std.specs.Prelude.{◌≡◌, ℕ, List, map}
use Rattle.std.specs.List.{filter_map}
use Rattle.zl_value.specs.Lines.{Shown}
use Rattle.zl_value.specs.declared.script.Output.{Output}
use Rattle.zl_code.specs.CodeForm.{CodeForm}
use Rattle.zl_code.specs.Trace.{shown}
use Rattle.zl_machine.specs.MachineForm.{MachineForm}

-- the names of the outputs for which it was made, and the line that it holds
pub record RoomForm : Type 0 where
  pub names : List (List ℕ)
  pub line : List ℕ

-- the names of a code's outputs
abbrev pub output_names : List Output → List (List ℕ)
output_names outs = map (λ (output : Output). output.name) outs

-- the room was made for this code
abbrev pub IsRoomFor : CodeForm → RoomForm → Type 0
IsRoomFor c room = room.names ≡ output_names c.outs

-- what a machine shows after its last instant: the outputs that have a value
abbrev pub shown_by : MachineForm → List Shown
shown_by m = filter_map (shown m.regs) m.code.outs
