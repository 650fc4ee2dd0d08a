-- The code of a variable that is reset where it reaches one.
use Rattle.std.specs.Prelude.{◌∷◌, [], ◌++◌, ℕ, false, List, pos, codes, Some}
use Rattle.zl_value.specs.Fraction.{whole, over}
use Rattle.zl_value.specs.declared.value.Value.TheVariants.{B, F}
use Rattle.zl_value.specs.declared.value.Ty.TheVariants.{Bool as BoolTy, Float}
use Rattle.zl_value.specs.declared.op.Op.TheVariants.{SubFloat}
use Rattle.zl_value.specs.declared.script.Script.{Script}
use Rattle.zl_code.specs.declared.stmt.Stmt.{Stmt}
use Rattle.zl_code.specs.declared.stmt.Stmt.TheVariants.{Lit, Mem, Event, Op as Apply, Set, If, Else, Fi}
use Rattle.zl_code.specs.CodeForm.{CodeForm}
use Rattle.zl_code.specs.Worked.{at, HasTrace}

-- the site's value, x less one, and that it is never fresh
abbrev pub site_stmts : List Stmt
site_stmts =
    Lit 5 (F (whole (pos 1)))
    ∷ Apply 1 SubFloat (0 ∷ 5 ∷ []) (Some (record { ord = 0; at = at 1 65 }))
    ∷ Lit 2 (B false)
    ∷ []

abbrev pub code : CodeForm
code = record {
  regs = Float ∷ Float ∷ BoolTy ∷ Float ∷ BoolTy ∷ Float ∷ [];
  mems = record { ty = Float; start = Some (F (whole (pos 0))); slope = Some 3; at = at 1 37 } ∷ [];
  ins = [];
  outs = record { name = codes "x"; from = 0 } ∷ [];
  sites = record { value = 1; fresh = 2; slope = 3 } ∷ [];
  again = 2;
  step =
      Event 4 0
      ∷ If 4
      ∷ Lit 0 (F (whole (pos 0)))
      ∷ Else
      ∷ Mem 0 0
      ∷ Fi
      ∷ Set 0 0
      ∷ site_stmts;
  left = Mem 0 0 ∷ site_stmts;
  flow = Lit 3 (F (whole (pos 1))) ∷ [];
}

abbrev pub script : Script
script = record { horizon = over (pos 5) 2; steps = 1000000; lines = [] }

abbrev pub text : List ℕ
text =
    codes "0 #0 x=0\n"
    ++ codes "1 - x=1\n"
    ++ codes "1 #0 x=0\n"
    ++ codes "2 - x=1\n"
    ++ codes "2 #0 x=0\n"
    ++ codes "5/2 - x=1/2\n"
    ++ codes "end horizon\n"

abbrev pub SawToothRuns : Type 0
SawToothRuns = HasTrace code script text
