-- A kernel is a system: runs are said of it as of any other.
use Rattle.std.specs.Prelude.{ℕ, [], length, slice_get, Option, Some, None}
use Rattle.zl_value.specs.Times.{nought, holds}
use Rattle.zl_value.specs.Instants.{Kind, Step, Left, Instant}
use Rattle.zl_value.specs.System.{System}
use Rattle.zl_value.specs.declared.value.Value.{Value}
use Rattle.zl_kernel.specs.KernelForm.{KernelForm}
use Rattle.zl_kernel.specs.Wires.{Registers, held, Mode, AtStep, AtLeft, InFlow, Moment, turn}
use Rattle.zl_kernel.specs.Faults.{fault_of}
use Rattle.zl_kernel.specs.Memories.{after, memories_of, memories_after, moved}
use Rattle.zl_kernel.specs.Missing.{lacks, flow_lacks}
use Rattle.zl_kernel.specs.Motions.{motions}
use Rattle.zl_kernel.specs.declared.site.KSite.{KSite}

abbrev pub mode_of : Kind → Mode
mode_of Step = AtStep
mode_of Left = AtLeft

-- what the wires read at an instant, over these memories
abbrev pub moment_of : Registers → Instant Registers → Moment
moment_of memories i = record { mode = mode_of i.kind; inputs = i.inputs; fired = i.fired; memories = memories }

-- what they read in the flow after an instant
abbrev pub flow_moment : KernelForm → Instant Registers → Moment
flow_moment k i = record { mode = InFlow; inputs = i.inputs; fired = []; memories = after k i.table }

-- what a wire of a site holds
abbrev pub in_site : (KSite → ℕ) → Registers → Option KSite → Option Value
in_site wire r None = None
in_site wire r (Some site) = held r (wire site)

abbrev pub site_wire : (KSite → ℕ) → KernelForm → Registers → ℕ → Option Value
site_wire wire k r n = in_site wire r (slice_get k.sites n)

abbrev pub site_value : KernelForm → Registers → ℕ → Option Value
site_value = site_wire (λ (site : KSite). site.value)

abbrev pub site_fresh : KernelForm → Registers → ℕ → Option Value
site_fresh = site_wire (λ (site : KSite). site.fresh)

abbrev pub site_slope : KernelForm → Registers → ℕ → Option Value
site_slope = site_wire (λ (site : KSite). site.slope)

-- at an instant, and at each moment of a flow, stands what the wires hold. The wires of a flow are over the memories after the
-- instant, and so they are the same at all its moments: what moves is said by slopes. No fault is read off a memory
abbrev pub system_of_kernel : KernelForm → System Registers Registers
system_of_kernel k = record {
  inputs = length k.ins;
  sites = length k.sites;
  step = λ h i. turn k (moment_of (memories_of k h) i) i.table;
  flow = λ h i y s. turn k (flow_moment k i) (y s);
  left = λ h y d i. turn k (moment_of (memories_after k h (y nought) d) i) i.table;
  fault = λ h i. fault_of k (moment_of (memories_of k h) i) i.table;
  flow_fault = λ h i y. fault_of k (flow_moment k i) (y nought);
  lacks = λ i. lacks k i;
  flow_lacks = λ i y. flow_lacks k i (y nought);
  demands = λ r. holds (held r k.again);
  value = λ r n. site_value k r n;
  fresh = λ h i n. holds (site_fresh k i.table n);
  values = λ i y s n. moved (site_value k i.table n) (site_slope k (y nought) n) s;
  motions = λ i y. motions i.table (y nought) k.mems;
}
