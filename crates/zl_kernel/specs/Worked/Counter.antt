-- A kernel that counts the crossings of a number, which a crossing takes back to -1, and says which instants are steps. A
-- second site has the same number but is always fresh, so it never fires. At the second crossing two operators, which nothing
-- reads, divide by zero. The fault is that of the lesser number, whose wire comes last.
use Rattle.std.specs.Prelude.{◌∷◌, [], ◌++◌, ℕ, true, false, List, pos, negsuc, codes, Some, None}
use Rattle.zl_value.specs.Fraction.{whole}
use Rattle.zl_value.specs.declared.value.Value.TheVariants.{B, I, F}
use Rattle.zl_value.specs.declared.value.Ty.TheVariants.{Bool as BoolTy, Int, Float}
use Rattle.zl_value.specs.declared.op.Op.TheVariants.{AddInt, SubInt, DivInt, ModInt}
use Rattle.zl_value.specs.declared.script.Script.{Script}
use Rattle.zl_kernel.specs.KernelForm.{KernelForm}
use Rattle.zl_kernel.specs.Worked.{at, number, wire, operator, memory, moving, site, output, HasTrace}
use Rattle.zl_kernel.specs.declared.wire.Def.TheVariants.{Lit, Mem, Event, Step, If}

abbrev pub kernel : KernelForm
kernel = record {
  wires =
      wire BoolTy Step None
      ∷ wire BoolTy (Mem 0) None
      ∷ wire BoolTy (Lit (B false)) None
      ∷ wire BoolTy (Event 0) None
      ∷ wire Float (Lit (F (whole (negsuc 0)))) None
      ∷ wire Float (Mem 1) None
      ∷ wire Float (If 3 4 5) None
      ∷ wire Float (Lit (number 1)) None
      ∷ wire Int (Mem 2) None
      ∷ wire Int (Lit (I (pos 1))) None
      ∷ operator Int AddInt (8 ∷ 9 ∷ []) 1 (at 1 10)
      ∷ wire Int (If 3 10 8) None
      ∷ wire Int (Lit (I (pos 2))) None
      ∷ operator Int SubInt (12 ∷ 11 ∷ []) 2 (at 1 20)
      ∷ operator Int DivInt (9 ∷ 13 ∷ []) 4 (at 1 40)
      ∷ operator Int ModInt (9 ∷ 13 ∷ []) 3 (at 1 30)
      ∷ wire BoolTy (Lit (B true)) None
      ∷ wire BoolTy (Event 1) None
      ∷ [];
  mems =
      memory BoolTy (Some (B true)) 2
      ∷ moving Float (Some (F (whole (negsuc 0)))) 6 7 (at 1 1)
      ∷ memory Int (Some (I (pos 0))) 11
      ∷ [];
  ins = [];
  outs = output (codes "n") 11 ∷ output (codes "step") 0 ∷ output (codes "other") 17 ∷ [];
  sites = site 6 1 7 ∷ site 6 16 7 ∷ [];
  again = 2;
}

abbrev pub script : Script
script = record { horizon = whole (pos 9); steps = 100; lines = [] }

abbrev pub text : List ℕ
text =
    codes "0 #0 n=0 step=true other=false\n"
    ++ codes "1 - n=0 step=false other=false\n"
    ++ codes "1 #0 n=1 step=true other=false\n"
    ++ codes "2 - n=1 step=false other=false\n"
    ++ codes "fault division 2 #0 1:30\n"

abbrev pub CounterRuns : Type 0
CounterRuns = HasTrace kernel script text
