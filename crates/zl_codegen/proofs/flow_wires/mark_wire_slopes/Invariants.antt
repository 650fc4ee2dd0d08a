-- The marks of what is left lead to all.
use Rattle.std.specs.Prelude.{◌≡◌, drop}
use Rattle.std.specs.List.{flat_map}
use Rattle.zl_kernel.specs.FlowWires.{listed_in}
use Rattle.zl_kernel.specs.declared.wire.Wire.{Wire}
use Rattle.zl_codegen.specs.Needs.{marked}
use Rattle.zl_codegen.proofs.flow_wires.mark_wire_slopes.Given as goal

abbrev pub invariant-loop-i : goal.invariant-loop-i
invariant-loop-i l =
    marked (flat_map (λ (wire : Wire). listed_in wire.slope) (drop l.i l.wires)) l.marks ≡ marked (flat_map (λ (wire : Wire). listed_in wire.slope) l.wires) l.initial.marks
