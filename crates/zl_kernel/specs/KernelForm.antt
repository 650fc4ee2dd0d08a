-- The kernel of a program, as lists: what a contract sees of a `Kernel`.
use Rattle.std.specs.Prelude.{ℕ, List}
use Rattle.zl_value.specs.declared.script.Input.{Input}
use Rattle.zl_value.specs.declared.script.Output.{Output}
use Rattle.zl_kernel.specs.declared.wire.Wire.{Wire}
use Rattle.zl_kernel.specs.declared.memory.KMem.{KMem}
use Rattle.zl_kernel.specs.declared.site.KSite.{KSite}

pub record KernelForm : Type 0 where
  pub wires : List Wire
  pub mems : List KMem
  pub ins : List Input
  pub outs : List Output
  pub sites : List KSite
  pub again : ℕ
