-- Kernels small enough for a code: all that they list has numbers.
use Rattle.std.specs.Prelude.{◌≤◌, length}
use Rattle.zl_kernel.specs.KernelForm.{KernelForm}

pub record AreCounted (k : KernelForm) : Type 0 where
  pub wires : length k.wires ≤ 4294967296
  pub mems : length k.mems ≤ 4294967296
  pub ins : length k.ins ≤ 4294967296
  pub sites : length k.sites ≤ 4294967296
