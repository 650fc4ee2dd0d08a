-- The marks of what is left lead to all.
use Rattle.std.specs.Prelude.{◌≡◌, drop}
use Rattle.std.specs.List.{flat_map}
use Rattle.zl_kernel.specs.FlowWires.{listed_in}
use Rattle.zl_kernel.specs.declared.memory.KMem.{KMem}
use Rattle.zl_codegen.specs.Needs.{marked}
use Rattle.zl_codegen.proofs.needs.mark_rates.Given as goal

abbrev pub invariant-loop-i : goal.invariant-loop-i
invariant-loop-i l =
    marked (flat_map (λ (mem : KMem). listed_in mem.slope) (drop l.i l.mems)) l.marks ≡ marked (flat_map (λ (mem : KMem). listed_in mem.slope) l.mems) l.initial.marks
