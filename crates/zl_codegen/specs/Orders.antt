-- The orders in which the wires of a kernel can be solved.
use Rattle.std.specs.Prelude.{◌≡◌, ℕ, ◌<◌, List, length, slice_get, Some}
use Rattle.std.specs.List.Sorted.{IsPermutation}
use Rattle.zl_value.specs.Lists.{Has, listed}
use Rattle.zl_kernel.specs.KernelForm.{KernelForm}
use Rattle.zl_kernel.specs.FlowWires.{reads}
use Rattle.zl_kernel.specs.declared.wire.Wire.{Wire}

-- the numbers of the wires, each once
abbrev pub numbers : KernelForm → List ℕ
numbers k = listed (length k.wires) 0 (λ n. n)

-- wire `j` stands before place `i`
pub record StandsBefore (list : List ℕ) (i j : ℕ) : Type 0 where
  pub place : ℕ
  pub before : place < i
  pub is : slice_get list place ≡ Some j

-- a permutation of the wires in which each stands behind those that it reads: its guard, and those that its value is made from
pub record IsOrder (k : KernelForm) (list : List ℕ) : Type 0 where
  pub permutation : IsPermutation (numbers k) list
  pub behind : (i n j : ℕ) (wire : Wire) → slice_get list i ≡ Some n → slice_get k.wires n ≡ Some wire → Has (reads wire) j → StandsBefore list i j
