-- Single wires and memories of a kernel.
use Rattle.std.specs.Prelude.{◌≡◌, ℕ, false, slice_get, Option, Some, None}
use Rattle.zl_value.specs.declared.value.Value.{Value}
use Rattle.zl_kernel.specs.KernelForm.{KernelForm}
use Rattle.zl_kernel.specs.FlowWires.{is_of_flows}
use Rattle.zl_kernel.specs.declared.wire.Def.{Def}
use Rattle.zl_kernel.specs.declared.wire.Def.TheVariants.{Lit as LitWire}
use Rattle.zl_kernel.specs.declared.wire.Wire.{Wire}
use Rattle.zl_kernel.specs.declared.memory.KMem.{KMem}

-- wire number `n` has this definition and guard, and is solved at instants
pub record IsWire (k : KernelForm) (n : ℕ) (def : Def) (guard : Option ℕ) : Type 0 where
  pub wire : Wire
  pub is : slice_get k.wires n ≡ Some wire
  pub def_is : wire.def ≡ def
  pub guard_is : wire.guard ≡ guard
  pub kept : is_of_flows k n ≡ false

-- it has, and may be one of flows alone
pub record IsFlowWire (k : KernelForm) (n : ℕ) (def : Def) (guard : Option ℕ) : Type 0 where
  pub wire : Wire
  pub is : slice_get k.wires n ≡ Some wire
  pub def_is : wire.def ≡ def
  pub guard_is : wire.guard ≡ guard

abbrev pub IsLit : KernelForm → ℕ → Value → Type 0
IsLit k n v = IsWire k n (LitWire v) None

-- memory number `m`: what it begins with, the wire that it takes, and the wire of its slope
pub record IsMemory (k : KernelForm) (m : ℕ) (start : Option Value) (next : ℕ) (slope : Option ℕ) : Type 0 where
  pub mem : KMem
  pub is : slice_get k.mems m ≡ Some mem
  pub start_is : mem.start ≡ start
  pub next_is : mem.next ≡ next
  pub slope_is : mem.slope ≡ slope
