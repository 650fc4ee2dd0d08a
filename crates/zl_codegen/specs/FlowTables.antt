-- How the wires of flows alone are found: by marks, each made once.
use Rattle.std.specs.Prelude.{ℕ, suc, Bool, false, not, ◌&&◌, ◌||◌, if◌then◌else◌, List, [], ◌∷◌, ◌++◌, length, map, replicate}
use Rattle.std.specs.List.{flat_map}
use Rattle.zl_value.specs.Lists.{listed}
use Rattle.zl_value.specs.declared.script.Output.{Output}
use Rattle.zl_kernel.specs.KernelForm.{KernelForm}
use Rattle.zl_kernel.specs.FlowWires.{reads, listed_in}
use Rattle.zl_kernel.specs.declared.wire.Wire.{Wire}
use Rattle.zl_kernel.specs.declared.memory.KMem.{KMem}
use Rattle.zl_kernel.specs.declared.site.KSite.{KSite}
use Rattle.zl_codegen.specs.Needs.{marked, is_marked}

-- no wire is marked
abbrev pub none : KernelForm → List Bool
none k = replicate (length k.wires) false

-- the wires that are named as slopes
abbrev pub slopes : KernelForm → List Bool
slopes k =
    marked (flat_map (λ (wire : Wire). listed_in wire.slope) k.wires) (marked (flat_map (λ (mem : KMem). listed_in mem.slope) k.mems) (marked (map (λ (site : KSite). site.slope) k.sites) (none k)))

-- the wires that something but a wire names otherwise
abbrev pub kept : KernelForm → List Bool
kept k =
    marked (map (λ (out : Output). out.«from») k.outs) (marked (map (λ (site : KSite). site.value) k.sites) (marked (map (λ (site : KSite). site.fresh) k.sites) (marked (k.again ∷ []) (marked (map (λ (mem : KMem). mem.next) k.mems) (none k)))))

-- the wires that some wire reads
abbrev pub read : KernelForm → List Bool
read k = marked (flat_map reads k.wires) (none k)

-- what those of these wires read that aren't marked; the first is wire `n`
abbrev pub read_from : List Bool → ℕ → List Wire → List ℕ
read_from marks n [] = []
read_from marks n (wire ∷ wires) = (if is_marked marks n then [] else reads wire) ++ read_from marks (suc n) wires

-- the wires that a wire reads that isn't named as a slope
abbrev pub read_otherwise : KernelForm → List Bool
read_otherwise k = marked (read_from (slopes k) 0 k.wires) (none k)

abbrev pub is_found : List Bool → List Bool → List Bool → List Bool → ℕ → Bool
is_found slopes kept read otherwise n = is_marked slopes n || (not (is_marked kept n) && (is_marked read n && not (is_marked otherwise n)))

-- the wires of flows alone by these marks
abbrev pub found : KernelForm → List Bool
found k = listed (length k.wires) 0 (is_found (slopes k) (kept k) (read k) (read_otherwise k))
