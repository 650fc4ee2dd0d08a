-- Worked kernels: the words in which they are written down, and what is said of their runs.
pub mod SawTooth
pub mod Counter
pub mod Forgotten
pub mod WideSlope
pub mod NoSlope
pub mod WideMove
use Rattle.std.specs.Prelude.{ℕ, List, pos, Option, Some, None}
use Rattle.zl_value.specs.Fraction.{whole}
use Rattle.zl_value.specs.Traces.{HasTrace as HasTraceOf}
use Rattle.zl_value.specs.declared.position.Pos.{Pos}
use Rattle.zl_value.specs.declared.value.Ty.{Ty}
use Rattle.zl_value.specs.declared.value.Value.{Value}
use Rattle.zl_value.specs.declared.value.Value.TheVariants.{F}
use Rattle.zl_value.specs.declared.op.Op.{Op}
use Rattle.zl_value.specs.declared.script.Script.{Script}
use Rattle.zl_value.specs.declared.script.Output.{Output}
use Rattle.zl_kernel.specs.KernelForm.{KernelForm}
use Rattle.zl_kernel.specs.Shown.{outputs}
use Rattle.zl_kernel.specs.System.{system_of_kernel}
use Rattle.zl_kernel.specs.declared.wire.Def.{Def}
use Rattle.zl_kernel.specs.declared.wire.Def.TheVariants.{Op as Apply}
use Rattle.zl_kernel.specs.declared.wire.Wire.{Wire}
use Rattle.zl_kernel.specs.declared.memory.KMem.{KMem}
use Rattle.zl_kernel.specs.declared.site.KSite.{KSite}

abbrev pub at : ℕ → ℕ → Pos
at line column = record { line = line; column = column }

-- a whole number as a fraction
abbrev pub number : ℕ → Value
number n = F (whole (pos n))

-- a wire that can't fault, and an operator that can
abbrev pub wire : Ty → Def → Option ℕ → Wire
wire ty def guard = record { ty = ty; def = def; guard = guard; slope = None; ord = 0; at = at 0 0 }

abbrev pub operator : Ty → Op → List ℕ → ℕ → Pos → Wire
operator ty op ns ord at = record { ty = ty; def = Apply op ns; guard = None; slope = None; ord = ord; at = at }

-- a memory that keeps what it has, and one that moves
abbrev pub memory : Ty → Option Value → ℕ → KMem
memory ty start next = record { ty = ty; start = start; next = next; slope = None; at = at 0 0 }

abbrev pub moving : Ty → Option Value → ℕ → ℕ → Pos → KMem
moving ty start next slope at = record { ty = ty; start = start; next = next; slope = Some slope; at = at }

abbrev pub site : ℕ → ℕ → ℕ → KSite
site value fresh slope = record { value = value; fresh = fresh; slope = slope }

abbrev pub output : List ℕ → ℕ → Output
output name wire = record { name = name; «from» = wire }

-- the kernel has a run with the script, and this is printed of it
abbrev pub HasTrace : KernelForm → Script → List ℕ → Type 0
HasTrace k script text = HasTraceOf (system_of_kernel k) (outputs k) script text
