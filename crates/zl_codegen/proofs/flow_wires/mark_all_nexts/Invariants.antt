-- The marks of what is left lead to all.
use Rattle.std.specs.Prelude.{◌≡◌, drop, map}
use Rattle.zl_kernel.specs.declared.memory.KMem.{KMem}
use Rattle.zl_codegen.specs.Needs.{marked}
use Rattle.zl_codegen.proofs.flow_wires.mark_all_nexts.Given as goal

abbrev pub invariant-loop-i : goal.invariant-loop-i
invariant-loop-i l =
    marked (map (λ (mem : KMem). mem.next) (drop l.i l.mems)) l.marks ≡ marked (map (λ (mem : KMem). mem.next) l.mems) l.initial.marks
