-- What the memories of a kernel hold: before a run, after an instant, and at the end of the flow after it.
use Rattle.std.specs.Prelude.{ℕ, [], ◌∷◌, map, Option, Some, None}
use Rattle.zl_value.specs.Fraction.{Fraction, add, mul}
use Rattle.zl_value.specs.Instants.{History}
use Rattle.zl_value.specs.declared.value.Value.{Value}
use Rattle.zl_value.specs.declared.value.Value.TheVariants.{F}
use Rattle.zl_kernel.specs.KernelForm.{KernelForm}
use Rattle.zl_kernel.specs.Wires.{Registers, held}
use Rattle.zl_kernel.specs.declared.memory.KMem.{KMem}

abbrev pub starts : KernelForm → Registers
starts k = map (λ (mem : KMem). mem.start) k.mems

-- each memory takes what its next wire holds, and is empty where that is
abbrev pub after : KernelForm → Registers → Registers
after k r = map (λ (mem : KMem). held r mem.next) k.mems

-- the memories that a step after these instants reads
abbrev pub memories_of : KernelForm → History Registers → Registers
memories_of k [] = starts k
memories_of k (i ∷ h) = after k i.table

-- a value that has moved for this long with this slope
abbrev pub moved : Option Value → Option Value → Fraction → Option Value
moved (Some (F «from»)) (Some (F slope)) passed = Some (F (add «from» (mul passed slope)))
moved _ _ passed = None

-- a memory with a slope has moved; `y` is what the wires hold in the flow
abbrev pub moved_if : Option ℕ → Registers → Fraction → Option Value → Option Value
moved_if None y d «from» = «from»
moved_if (Some slope) y d «from» = moved «from» (held y slope) d

abbrev pub moved_memory : Registers → Registers → Fraction → KMem → Option Value
moved_memory r y d mem = moved_if mem.slope y d (held r mem.next)

-- the memories that the left end reads of a flow that lasted `d`
abbrev pub memories_after : KernelForm → History Registers → Registers → Fraction → Registers
memories_after k [] y d = starts k
memories_after k (i ∷ h) y d = map (moved_memory i.table y d) k.mems
