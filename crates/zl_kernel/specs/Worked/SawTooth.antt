-- The kernel of a variable that is reset where it reaches one, and its run.
--     let hybrid main() = x where rec der x = 1.0 init 0.0 reset up(x -. 1.0) -> 0.0
use Rattle.std.specs.Prelude.{◌∷◌, [], ◌++◌, ℕ, true, false, List, pos, codes, Some, None}
use Rattle.zl_value.specs.Fraction.{over}
use Rattle.zl_value.specs.declared.value.Value.TheVariants.{B}
use Rattle.zl_value.specs.declared.value.Ty.TheVariants.{Bool as BoolTy, Float}
use Rattle.zl_value.specs.declared.op.Op.TheVariants.{SubFloat, Not}
use Rattle.zl_value.specs.declared.script.Script.{Script}
use Rattle.zl_kernel.specs.KernelForm.{KernelForm}
use Rattle.zl_kernel.specs.Worked.{at, number, wire, operator, memory, moving, site, output, HasTrace}
use Rattle.zl_kernel.specs.declared.wire.Def.TheVariants.{Lit, Copy, Mem, Event, Step, Op as Apply, If}

abbrev pub kernel : KernelForm
kernel = record {
  wires =
      wire BoolTy Step None
      ∷ wire BoolTy (Mem 0) None
      ∷ wire BoolTy (Lit (B false)) None
      ∷ wire Float (Lit (number 1)) None
      ∷ wire Float (Lit (number 0)) None
      ∷ wire BoolTy (Event 0) None
      ∷ wire BoolTy (Copy 5) (Some 0)
      ∷ wire BoolTy (Apply Not (5 ∷ [])) (Some 0)
      ∷ wire Float (Mem 1) None
      ∷ wire Float (Mem 2) None
      ∷ wire Float (If 6 4 9) None
      ∷ wire Float (If 0 10 8) None
      ∷ operator Float SubFloat (11 ∷ 3 ∷ []) 5 (at 1 65)
      ∷ wire Float (Mem 3) None
      ∷ [];
  mems =
      memory BoolTy (Some (B true)) 2
      ∷ moving Float None 11 13 (at 1 37)
      ∷ memory Float (Some (number 0)) 11
      ∷ memory Float None 3
      ∷ [];
  ins = [];
  outs = output (codes "x") 11 ∷ [];
  sites = site 12 1 13 ∷ [];
  again = 2;
}

abbrev pub script : Script
script = record { horizon = over (pos 5) 2; steps = 1000000; lines = [] }

abbrev pub text : List ℕ
text =
    codes "0 #0 x=0\n"
    ++ codes "1 - x=1\n"
    ++ codes "1 #0 x=0\n"
    ++ codes "2 - x=1\n"
    ++ codes "2 #0 x=0\n"
    ++ codes "5/2 - x=1/2\n"
    ++ codes "end horizon\n"

abbrev pub SawToothRuns : Type 0
SawToothRuns = HasTrace kernel script text
