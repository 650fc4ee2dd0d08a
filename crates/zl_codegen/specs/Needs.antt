-- Which wires a method of the code solves: those that are looked at after it, those that can fault, and all that these read.
use Rattle.std.specs.Prelude.{ℕ, suc, Bool, true, false, not, ◌&&◌, ◌||◌, if◌then◌else◌, is_some, List, [], ◌∷◌, length, map, get_or, set, slice_get, replicate, Option, Some, None}
use Rattle.std.specs.List.{flat_map}
use Rattle.zl_value.specs.Lists.{listed}
use Rattle.zl_value.specs.declared.script.Output.{Output}
use Rattle.zl_kernel.specs.KernelForm.{KernelForm}
use Rattle.zl_kernel.specs.FlowWires.{reads, listed_in, is_of_flows}
use Rattle.zl_kernel.specs.WellFormed.{can_fail}
use Rattle.zl_kernel.specs.Wires.{Mode, AtStep, AtLeft, InFlow}
use Rattle.zl_kernel.specs.declared.wire.Def.{Def}
use Rattle.zl_kernel.specs.declared.wire.Def.TheVariants.{Mem}
use Rattle.zl_kernel.specs.declared.wire.Wire.{Wire}
use Rattle.zl_kernel.specs.declared.memory.KMem.{KMem}
use Rattle.zl_kernel.specs.declared.site.KSite.{KSite}

-- the marks with those of these numbers set
abbrev pub marked : List ℕ → List Bool → List Bool
marked [] marks = marks
marked (n ∷ ns) marks = marked ns (set marks n true)

-- wire `n` is marked
abbrev pub is_marked : List Bool → ℕ → Bool
is_marked marks n = get_or marks n false

-- the memory that a wire holds
abbrev pub memory_in : Def → List ℕ
memory_in (Mem m) = m ∷ []
memory_in _ = []

-- the memories that some wire holds
abbrev pub held_memories : KernelForm → List Bool
held_memories k = marked (flat_map (λ (wire : Wire). memory_in wire.def) k.wires) (replicate (length k.mems) false)

-- something needs memory `m`: it moves in flows, or a wire holds it
abbrev pub is_needed_memory : List Bool → ℕ → KMem → Bool
is_needed_memory held m mem = is_some mem.slope || is_marked held m

-- what those of these memories take that something needs; the first is memory `m`
abbrev pub nexts_from : List Bool → ℕ → List KMem → List ℕ
nexts_from held m [] = []
nexts_from held m (mem ∷ mems) = if is_needed_memory held m mem then mem.next ∷ nexts_from held (suc m) mems else nexts_from held (suc m) mems

-- the wires whose operators can fault; the first is wire `n`
abbrev pub failing_from : ℕ → List Wire → List ℕ
failing_from n [] = []
failing_from n (wire ∷ wires) = if can_fail wire.def then n ∷ failing_from (suc n) wires else failing_from (suc n) wires

-- the wires that can fault, which each method solves, so that no fault is lost
abbrev pub faults_marked : KernelForm → List Bool
faults_marked k = marked (failing_from 0 k.wires) (replicate (length k.wires) false)

-- and those that are looked at after an instant: of outputs, of sites their value and whether they are fresh, and what memories take
abbrev pub instant_marked : KernelForm → List Bool
instant_marked k =
    marked (map (λ (out : Output). out.«from») k.outs) (marked (map (λ (site : KSite). site.value) k.sites) (marked (map (λ (site : KSite). site.fresh) k.sites) (marked (nexts_from (held_memories k) 0 k.mems) (faults_marked k))))

-- and those that are looked at in a flow: the slopes of sites and of memories
abbrev pub flow_marked : KernelForm → List Bool
flow_marked k = marked (map (λ (site : KSite). site.slope) k.sites) (marked (flat_map (λ (mem : KMem). listed_in mem.slope) k.mems) (faults_marked k))

-- what is needed of a method for itself; after a step it is looked at whether a further one is demanded
abbrev pub roots : KernelForm → Mode → List Bool
roots k AtStep = marked (k.again ∷ []) (instant_marked k)
roots k AtLeft = instant_marked k
roots k InFlow = flow_marked k

-- the wires of flows alone, which no instant solves
abbrev pub flow_wires : KernelForm → List Bool
flow_wires k = listed (length k.wires) 0 (λ n. is_of_flows k n)

-- the wires that a method leaves out, whatever reads them; a flow leaves out none
abbrev pub left_out : KernelForm → Mode → List Bool
left_out k AtStep = flow_wires k
left_out k AtLeft = flow_wires k
left_out k InFlow = []

-- the wires that a wire reads, by its number
abbrev pub reads_of : Option Wire → List ℕ
reads_of None = []
reads_of (Some wire) = reads wire

-- a method solves a wire that is marked, unless it leaves it out
abbrev pub is_taken : List Bool → List Bool → ℕ → Bool
is_taken marks out n = is_marked marks n && not (is_marked out n)

-- a wire that a method solves marks all that it reads
abbrev pub spread : List Wire → List Bool → ℕ → List Bool → List Bool
spread wires out n marks = if is_taken marks out n then marked (reads_of (slice_get wires n)) marks else marks

-- from the last of the wires back to the first: each is read by those behind it alone
abbrev pub needed : List Wire → List Bool → List ℕ → List Bool → List Bool
needed wires out [] marks = marks
needed wires out (n ∷ behind) marks = spread wires out n (needed wires out behind marks)

-- the wires that are marked for a method
abbrev pub needs : KernelForm → Mode → List ℕ → List Bool
needs k mode list = needed k.wires (left_out k mode) list (roots k mode)
