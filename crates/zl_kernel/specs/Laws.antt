-- What is proved of the definitions, for all kernels.
use Rattle.std.specs.Prelude.{◌≡◌, ℕ, List}
use Rattle.zl_value.specs.OneRun.{HasOneRun as HasOneRunOf}
use Rattle.zl_value.specs.declared.script.Script.{Script}
use Rattle.zl_kernel.specs.KernelForm.{KernelForm}
use Rattle.zl_kernel.specs.Wires.{Registers, Moment, turn}
use Rattle.zl_kernel.specs.System.{system_of_kernel}
use Rattle.zl_kernel.specs.WireRanks.{AreWireRanks}

-- the wires have exactly one solution
pub record IsOneSolution (k : KernelForm) (m : Moment) : Type 0 where
  pub registers : Registers
  pub solves : registers ≡ turn k m registers
  pub only : (r : Registers) → r ≡ turn k m r → r ≡ registers

-- with ranks they have, at an instant and in a flow alike
abbrev pub HasOneSolution : Type 0
HasOneSolution = (k : KernelForm) (ranks : List ℕ) → AreWireRanks k ranks → (m : Moment) → IsOneSolution k m

-- with ranks a kernel has at most one run with a script
abbrev pub HasOneRun : Type 0
HasOneRun = (k : KernelForm) (ranks : List ℕ) → AreWireRanks k ranks → (script : Script) → HasOneRunOf (system_of_kernel k) script
