-- The names of the outputs that were looked at.
use Rattle.std.specs.Prelude.{◌≡◌, take}
use Rattle.zl_lines.specs.RoomForm.{output_names}
use Rattle.zl_lines.proofs.names.copy_names.Given as goal

abbrev pub invariant-loop-output : goal.invariant-loop-output
invariant-loop-output l = l.names.items ≡ output_names (take l.output-index l.outs)
