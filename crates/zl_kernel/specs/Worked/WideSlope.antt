-- A kernel whose slope is read from a product that isn't in the width. Only the slope reads it, so both are solved in flows
-- alone: the fault is in the flow and not at the instant before it.
use Rattle.std.specs.Prelude.{◌∷◌, [], ◌++◌, ℕ, false, List, pos, codes, Some, None}
use Rattle.zl_value.specs.Fraction.{whole}
use Rattle.zl_value.specs.declared.value.Value.TheVariants.{B}
use Rattle.zl_value.specs.declared.value.Ty.TheVariants.{Bool as BoolTy, Float}
use Rattle.zl_value.specs.declared.op.Op.TheVariants.{MulFloat}
use Rattle.zl_value.specs.declared.script.Script.{Script}
use Rattle.zl_kernel.specs.KernelForm.{KernelForm}
use Rattle.zl_kernel.specs.Worked.{at, number, wire, operator, moving, output, HasTrace}
use Rattle.zl_kernel.specs.declared.wire.Def.TheVariants.{Lit, Copy, Mem}

abbrev pub kernel : KernelForm
kernel = record {
  wires =
      wire BoolTy (Lit (B false)) None
      ∷ wire Float (Mem 0) None
      ∷ wire Float (Lit (number 9223372036854775807)) None
      ∷ operator Float MulFloat (2 ∷ 2 ∷ []) 1 (at 1 40)
      ∷ wire Float (Copy 3) None
      ∷ [];
  mems =
      moving Float (Some (number 0)) 1 4 (at 1 30)
      ∷ [];
  ins = [];
  outs = output (codes "x") 1 ∷ [];
  sites = [];
  again = 0;
}

abbrev pub script : Script
script = record { horizon = whole (pos 1); steps = 100; lines = [] }

abbrev pub text : List ℕ
text =
    codes "0 #0 x=0\n"
    ++ codes "fault range 0 ~ 1:40\n"

abbrev pub WideSlopeRuns : Type 0
WideSlopeRuns = HasTrace kernel script text
