-- Numbers of a kernel's wires that grow along all that wires read.
use Rattle.std.specs.Prelude.{◌≡◌, ℕ, ◌<◌, List, length, slice_get, get_or, Some}
use Rattle.zl_value.specs.Lists.{Has}
use Rattle.zl_kernel.specs.KernelForm.{KernelForm}
use Rattle.zl_kernel.specs.FlowWires.{reads}
use Rattle.zl_kernel.specs.declared.wire.Wire.{Wire}

-- each wire has a number, which is greater than those of all wires that it reads
pub record AreWireRanks (k : KernelForm) (ranks : List ℕ) : Type 0 where
  pub one_each : length ranks ≡ length k.wires
  pub lower : (n j : ℕ) (wire : Wire) → slice_get k.wires n ≡ Some wire → Has (reads wire) j → get_or ranks j 0 < get_or ranks n 0
