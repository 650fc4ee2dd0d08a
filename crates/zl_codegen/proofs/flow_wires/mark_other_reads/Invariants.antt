-- The marks of what is left lead to all.
use Rattle.std.specs.Prelude.{◌≡◌, drop}
use Rattle.zl_codegen.specs.FlowTables.{read_from}
use Rattle.zl_codegen.specs.Needs.{marked}
use Rattle.zl_codegen.proofs.flow_wires.mark_other_reads.Given as goal

abbrev pub invariant-loop-i : goal.invariant-loop-i
invariant-loop-i l =
    marked (read_from l.slopes l.i (drop l.i l.wires)) l.marks ≡ marked (read_from l.slopes 0 l.wires) l.initial.marks
