-- What is proved of runs: each run of a code is one of its kernel.
use Rattle.std.specs.Prelude.{◌≡◌, ℕ, ◌<◌, true, List, ◌∷◌, length, map, slice_get, Option, Some, None}
use Rattle.zl_value.specs.Instants.{Kind, Instant, History}
use Rattle.zl_value.specs.Runs.{IsPrefix, IsRun}
use Rattle.zl_value.specs.Traces.{trace as trace_of}
use Rattle.zl_value.specs.Correspondence.{KeepsRuns}
use Rattle.zl_value.specs.Script.{IsOfType, IsScriptFor}
use Rattle.zl_value.specs.declared.value.Ty.{Ty}
use Rattle.zl_value.specs.declared.value.Value.{Value}
use Rattle.zl_value.specs.declared.script.Script.{Script}
use Rattle.zl_value.specs.declared.script.Input.{Input}
use Rattle.zl_value.specs.declared.script.Ending.{Ending}
use Rattle.zl_kernel.specs.KernelForm.{KernelForm}
use Rattle.zl_kernel.specs.WellFormed.{IsWellFormed}
use Rattle.zl_kernel.specs.Wires.{Registers, held}
use Rattle.zl_kernel.specs.Faults.{fault_of as kernel_fault}
use Rattle.zl_kernel.specs.Memories.{memories_of}
use Rattle.zl_kernel.specs.Shown.{outputs}
use Rattle.zl_kernel.specs.System.{mode_of, moment_of, system_of_kernel}
use Rattle.zl_kernel.specs.WireRanks.{AreWireRanks}
use Rattle.zl_kernel.specs.declared.wire.Wire.{Wire}
use Rattle.zl_kernel.specs.declared.memory.KMem.{KMem}
use Rattle.zl_code.specs.Method.{cell, Doing}
use Rattle.zl_code.specs.System.{fault_of as code_fault, system_of}
use Rattle.zl_code.specs.Trace.{trace}
use Rattle.zl_codegen.specs.CodeOf.{code_of}
use Rattle.zl_codegen.specs.Needs.{is_marked, is_needed_memory, held_memories, needs}
use Rattle.zl_codegen.specs.Orders.{IsOrder}

-- nothing, or a value of this type, in the width
abbrev pub IsHeld : Ty → Option Value → Type 0
IsHeld ty None = Unit {0}
IsHeld ty (Some v) = IsOfType ty v

-- each wire holds nothing, or a value of its type
abbrev pub HoldTypes : KernelForm → Registers → Type 0
HoldTypes k r = (n : ℕ) (wire : Wire) → slice_get k.wires n ≡ Some wire → IsHeld wire.ty (held r n)

-- the types of the inputs
abbrev pub input_types : KernelForm → List Ty
input_types k = map (λ (input : Input). input.ty) k.ins

-- at each instant of each run with a script for the inputs each wire holds nothing, or a value of its type in the width
abbrev pub WiresKeepTypes : Type 0
WiresKeepTypes = (k : KernelForm) (ranks : List ℕ) → IsWellFormed k → AreWireRanks k ranks → (script : Script) → IsScriptFor (input_types k) script → (h : History Registers) (i : Instant Registers) → IsPrefix (system_of_kernel k) script (i ∷ h) → HoldTypes k i.table

-- after an instant's method its registers hold what the wires hold that it needs, and its memories what those of the kernel take
-- that something needs
pub record HoldsSame (k : KernelForm) (list : List ℕ) (kind : Kind) (d : Doing) (r : Registers) : Type 0 where
  pub regs : (n : ℕ) → n < length k.wires → is_marked (needs k (mode_of kind) list) n ≡ true → cell d.regs n ≡ held r n
  pub mems : (n : ℕ) (mem : KMem) → slice_get k.mems n ≡ Some mem → is_needed_memory (held_memories k) n mem ≡ true → cell d.mems n ≡ held r mem.next
  pub count : length d.mems ≡ length k.mems

-- so it is at the latest instants of a run of the code and of one of the kernel, and both have the same fault there
abbrev pub SaysSame : KernelForm → List ℕ → History Doing → History Registers → Type 0
SaysSame k list (i ∷ h) (j ∷ g) = HoldsSame k list i.kind i.table j.table × (kernel_fault k (moment_of (memories_of k g) j) j.table ≡ code_fault i.table)
SaysSame k list _ _ = ⊥

-- a site has one number in the code and in the kernel
abbrev pub same_sites : List ℕ → List ℕ
same_sites ns = ns

-- each beginning of a run of the code has one of the kernel beside it; so has each run, with the same end, and the same is printed
-- of both
pub record KeepsRunsOf (k : KernelForm) (list : List ℕ) (script : Script) : Type 0 where
  pub runs : KeepsRuns (system_of (code_of k list)) (system_of_kernel k) script same_sites (SaysSame k list)
  pub traces : (h : History Doing) (ending : Ending) → IsRun (system_of (code_of k list)) script h ending → (history : History Registers) × IsRun (system_of_kernel k) script history ending × (trace_of (system_of_kernel k) (outputs k) history ending ≡ trace (code_of k list) h ending)

-- the code of each order of a well-formed kernel that has ranks keeps the runs of the kernel, with each script for its inputs
abbrev pub CodeKeepsRuns : Type 0
CodeKeepsRuns = (k : KernelForm) (ranks list : List ℕ) → IsWellFormed k → AreWireRanks k ranks → IsOrder k list → (script : Script) → IsScriptFor (input_types k) script → KeepsRunsOf k list script

-- each beginning of a run of the kernel has one of the code beside it; so has each run, with the same end, and the same is printed
-- of both
pub record HasRunsOf (k : KernelForm) (list : List ℕ) (script : Script) : Type 0 where
  pub runs : KeepsRuns (system_of_kernel k) (system_of (code_of k list)) script same_sites (λ g h. SaysSame k list h g)
  pub traces : (g : History Registers) (ending : Ending) → IsRun (system_of_kernel k) script g ending → (history : History Doing) × IsRun (system_of (code_of k list)) script history ending × (trace (code_of k list) history ending ≡ trace_of (system_of_kernel k) (outputs k) g ending)

-- and no run of the kernel is lost
abbrev pub CodeHasRuns : Type 0
CodeHasRuns = (k : KernelForm) (ranks list : List ℕ) → IsWellFormed k → AreWireRanks k ranks → IsOrder k list → (script : Script) → IsScriptFor (input_types k) script → HasRunsOf k list script
