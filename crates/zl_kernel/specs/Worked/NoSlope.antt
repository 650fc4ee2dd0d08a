-- A kernel with a memory that holds a value and whose slope is empty in the flow: the run ends for want of it.
use Rattle.std.specs.Prelude.{◌∷◌, [], ◌++◌, ℕ, false, List, pos, codes, Some, None}
use Rattle.zl_value.specs.Fraction.{whole}
use Rattle.zl_value.specs.declared.value.Value.TheVariants.{B}
use Rattle.zl_value.specs.declared.value.Ty.TheVariants.{Bool as BoolTy, Float}
use Rattle.zl_value.specs.declared.script.Script.{Script}
use Rattle.zl_kernel.specs.KernelForm.{KernelForm}
use Rattle.zl_kernel.specs.Worked.{at, number, wire, moving, output, HasTrace}
use Rattle.zl_kernel.specs.declared.wire.Def.TheVariants.{Lit, Mem}

abbrev pub kernel : KernelForm
kernel = record {
  wires =
      wire BoolTy (Lit (B false)) None
      ∷ wire Float (Mem 0) None
      ∷ wire Float (Lit (number 1)) (Some 0)
      ∷ [];
  mems =
      moving Float (Some (number 0)) 1 2 (at 1 30)
      ∷ [];
  ins = [];
  outs = output (codes "x") 1 ∷ [];
  sites = [];
  again = 0;
}

abbrev pub script : Script
script = record { horizon = whole (pos 1); steps = 100; lines = [] }

abbrev pub text : List ℕ
text =
    codes "0 #0 x=0\n"
    ++ codes "end empty\n"

abbrev pub NoSlopeRuns : Type 0
NoSlopeRuns = HasTrace kernel script text
