-- Where a value is missing, without which a run of a kernel can't go on.
use Rattle.std.specs.Prelude.{ℕ, Bool, false, ◌&&◌, ◌||◌, is_some, is_none, Option, Some, None}
use Rattle.std.specs.List.{list_any}
use Rattle.zl_value.specs.Instants.{is_step, Instant}
use Rattle.zl_value.specs.declared.script.Output.{Output}
use Rattle.zl_kernel.specs.KernelForm.{KernelForm}
use Rattle.zl_kernel.specs.Wires.{Registers, held}
use Rattle.zl_kernel.specs.declared.memory.KMem.{KMem}
use Rattle.zl_kernel.specs.declared.site.KSite.{KSite}

-- the site has a value; such a site is active
abbrev pub is_active : Registers → KSite → Bool
is_active r site = is_some (held r site.value)

-- at an instant: an output, at a step `again`, or whether an active site is fresh
abbrev pub lacks : KernelForm → Instant Registers → Bool
lacks k i =
    list_any (λ (out : Output). is_none (held i.table out.«from»)) k.outs || (is_step i.kind && is_none (held i.table k.again)) || list_any (λ (site : KSite). is_active i.table site && is_none (held i.table site.fresh)) k.sites

-- the memory holds a value after the instant, and the wire of its slope is empty in the flow
abbrev pub stands_still : Registers → Registers → KMem → Option ℕ → Bool
stands_still r y mem None = false
stands_still r y mem (Some slope) = is_some (held r mem.next) && is_none (held y slope)

-- in the flow after an instant: the slope of an active site, or of a memory that holds a value
abbrev pub flow_lacks : KernelForm → Instant Registers → Registers → Bool
flow_lacks k i y =
    list_any (λ (site : KSite). is_active i.table site && is_none (held y site.slope)) k.sites || list_any (λ (mem : KMem). stands_still i.table y mem mem.slope) k.mems
