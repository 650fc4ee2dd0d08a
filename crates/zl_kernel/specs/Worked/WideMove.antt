-- A kernel whose memories would leave the width in a flow. The first that would is the fault, at the position of that memory.
use Rattle.std.specs.Prelude.{◌∷◌, [], ◌++◌, ℕ, false, List, pos, codes, Some, None}
use Rattle.zl_value.specs.Fraction.{whole}
use Rattle.zl_value.specs.declared.value.Value.TheVariants.{B}
use Rattle.zl_value.specs.declared.value.Ty.TheVariants.{Bool as BoolTy, Float}
use Rattle.zl_value.specs.declared.script.Script.{Script}
use Rattle.zl_kernel.specs.KernelForm.{KernelForm}
use Rattle.zl_kernel.specs.Worked.{at, number, wire, moving, output, HasTrace}
use Rattle.zl_kernel.specs.declared.wire.Def.TheVariants.{Lit, Mem}

abbrev pub kernel : KernelForm
kernel = record {
  wires =
      wire BoolTy (Lit (B false)) None
      ∷ wire Float (Mem 0) None
      ∷ wire Float (Mem 1) None
      ∷ wire Float (Mem 2) None
      ∷ wire Float (Lit (number 1)) None
      ∷ [];
  mems =
      moving Float (Some (number 0)) 1 4 (at 1 10)
      ∷ moving Float (Some (number 9223372036854775807)) 2 4 (at 1 20)
      ∷ moving Float (Some (number 9223372036854775807)) 3 4 (at 1 30)
      ∷ [];
  ins = [];
  outs = output (codes "x") 1 ∷ [];
  sites = [];
  again = 0;
}

abbrev pub script : Script
script = record { horizon = whole (pos 1); steps = 100; lines = [] }

abbrev pub text : List ℕ
text =
    codes "0 #0 x=0\n"
    ++ codes "fault range 0 ~ 1:20\n"

abbrev pub WideMoveRuns : Type 0
WideMoveRuns = HasTrace kernel script text
