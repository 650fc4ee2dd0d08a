-- The outputs that were looked at are appended.
use Rattle.std.specs.Prelude.{◌≡◌, ◌++◌, take}
use Rattle.std.specs.List.{flat_map, filter_map}
use Rattle.zl_value.specs.Lines.{shown_text}
use Rattle.zl_code.specs.Trace.{shown}
use Rattle.zl_lines.proofs.pieces.append_outputs.Given as goal

abbrev pub invariant-loop-k : goal.invariant-loop-k
invariant-loop-k l =
    l.line.items ≡ l.fn.line.items ++ flat_map shown_text (filter_map (shown l.machine.regs) (take l.k l.machine.code.outs))
