-- What `normalise` gives.
use Rattle.std.specs.Prelude.{ℕ, List}
use Rattle.zl_meaning.specs.FlatForm.{FlatForm}
use Rattle.zl_kernel.specs.KernelForm.{KernelForm}
use Rattle.zl_kernel.specs.WireRanks.{AreWireRanks}
use Rattle.zl_normal.specs.Wiring.{Wiring}
use Rattle.zl_normal.specs.Normal.{IsNormal}

-- the kernel is a normal form, and its wires have these ranks. `names` are the names of the file
pub record IsNormalised (f : FlatForm) (grades : List ℕ) (names : List (List ℕ)) (k : KernelForm) (ranks : List ℕ) : Type 0 where
  pub wiring : Wiring
  pub normal : IsNormal f grades names k wiring
  pub ranked : AreWireRanks k ranks
