-- The marks of what is left lead to all.
use Rattle.std.specs.Prelude.{◌≡◌, drop}
use Rattle.std.specs.List.{flat_map}
use Rattle.zl_kernel.specs.FlowWires.{reads}
use Rattle.zl_codegen.specs.Needs.{marked}
use Rattle.zl_codegen.proofs.flow_wires.mark_all_reads.Given as goal

abbrev pub invariant-loop-i : goal.invariant-loop-i
invariant-loop-i l =
    marked (flat_map reads (drop l.i l.wires)) l.marks ≡ marked (flat_map reads l.wires) l.initial.marks
