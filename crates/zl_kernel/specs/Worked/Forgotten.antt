-- A kernel whose memory takes an input at steps alone, by a wire that is empty at left ends. So after a left end the memory is
-- empty, and with it the output that is read from it: the run ends for want of a value.
use Rattle.std.specs.Prelude.{◌∷◌, [], ◌++◌, ℕ, ◌+◌, false, List, pos, codes, Some, None}
use Rattle.zl_value.specs.Fraction.{whole}
use Rattle.zl_value.specs.declared.value.Value.TheVariants.{B, I}
use Rattle.zl_value.specs.declared.value.Ty.TheVariants.{Bool as BoolTy, Int}
use Rattle.zl_value.specs.declared.script.Script.{Script}
use Rattle.zl_value.specs.declared.script.ScriptLine.{ScriptLine}
use Rattle.zl_kernel.specs.KernelForm.{KernelForm}
use Rattle.zl_kernel.specs.Worked.{wire, memory, output, HasTrace}
use Rattle.zl_kernel.specs.declared.wire.Def.TheVariants.{Lit, Copy, Mem, In, Step}

abbrev pub kernel : KernelForm
kernel = record {
  wires =
      wire BoolTy Step None
      ∷ wire BoolTy (Lit (B false)) None
      ∷ wire Int (In 0) None
      ∷ wire Int (Copy 2) (Some 0)
      ∷ wire Int (Mem 0) None
      ∷ [];
  mems =
      memory Int (Some (I (pos 1))) 3
      ∷ [];
  ins = record { name = codes "u"; ty = Int } ∷ [];
  outs = output (codes "v") 2 ∷ output (codes "y") 4 ∷ [];
  sites = [];
  again = 1;
}

-- the input is 5, and from time 1 on 7
abbrev pub set : ℕ → ScriptLine
set n = record { time = whole (pos n); sets = record { input = 0; value = I (pos (5 + n + n)) } ∷ [] }

abbrev pub script : Script
script = record { horizon = whole (pos 1); steps = 100; lines = set 0 ∷ set 1 ∷ [] }

abbrev pub text : List ℕ
text =
    codes "0 #0 v=5 y=1\n"
    ++ codes "1 - v=5 y=5\n"
    ++ codes "end empty\n"

abbrev pub ForgottenRuns : Type 0
ForgottenRuns = HasTrace kernel script text
