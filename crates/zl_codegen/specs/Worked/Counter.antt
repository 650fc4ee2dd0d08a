-- The code of a kernel that counts crossings, by an order of its wires. Two operators that nothing reads can fault, and so each
-- method solves them: each notes its own place among all faults, which isn't its place in the code.
use Rattle.std.specs.Prelude.{◌≡◌, ◌∷◌, [], ◌++◌, ℕ, true, false, List, codes, pos, negsuc, Some, None}
use Rattle.zl_value.specs.Fraction.{whole}
use Rattle.zl_value.specs.Widths.{nowhere}
use Rattle.zl_value.specs.declared.value.Value.TheVariants.{B, I, F}
use Rattle.zl_value.specs.declared.value.Ty.TheVariants.{Bool as BoolTy, Int, Float}
use Rattle.zl_value.specs.declared.op.Op.TheVariants.{AddInt, SubInt, DivInt, ModInt}
use Rattle.zl_kernel.specs.Worked.{at, number, output}
use Rattle.zl_kernel.specs.Worked.Counter.{kernel}
use Rattle.zl_code.specs.CodeForm.{CodeForm}
use Rattle.zl_code.specs.declared.stmt.Stmt.{Stmt}
use Rattle.zl_code.specs.declared.stmt.Stmt.TheVariants.{Lit, Get, Mem, Event, Op as Apply, Set, If, Else, Fi}
use Rattle.zl_codegen.specs.CodeOf.{code_of}

-- wire 7 is one of flows alone
abbrev pub list : List ℕ
list = 0 ∷ 1 ∷ 2 ∷ 3 ∷ 4 ∷ 5 ∷ 6 ∷ 7 ∷ 8 ∷ 9 ∷ 10 ∷ 11 ∷ 12 ∷ 13 ∷ 14 ∷ 15 ∷ 16 ∷ 17 ∷ []

-- the count, and the operators behind it
abbrev pub counts : List Stmt
counts =
    Mem 8 2
    ∷ Lit 9 (I (pos 1))
    ∷ Apply 10 AddInt (8 ∷ 9 ∷ []) (Some (record { ord = 1; at = at 1 10 }))
    ∷ If 3
    ∷ Get 11 10
    ∷ Else
    ∷ Get 11 8
    ∷ Fi
    ∷ Lit 12 (I (pos 2))
    ∷ Apply 13 SubInt (12 ∷ 11 ∷ []) (Some (record { ord = 2; at = at 1 20 }))
    ∷ Apply 14 DivInt (9 ∷ 13 ∷ []) (Some (record { ord = 4; at = at 1 40 }))
    ∷ Apply 15 ModInt (9 ∷ 13 ∷ []) (Some (record { ord = 3; at = at 1 30 }))
    ∷ []

-- the number, which a crossing takes back
abbrev pub taken_back : List Stmt
taken_back = Lit 4 (F (whole (negsuc 0))) ∷ Mem 5 1 ∷ If 3 ∷ Get 6 4 ∷ Else ∷ Get 6 5 ∷ Fi ∷ []

abbrev pub sets : List Stmt
sets = Set 0 2 ∷ Set 1 6 ∷ Set 2 11 ∷ []

abbrev pub code : CodeForm
code = record {
  regs = BoolTy ∷ BoolTy ∷ BoolTy ∷ BoolTy ∷ Float ∷ Float ∷ Float ∷ Float ∷ Int ∷ Int ∷ Int ∷ Int ∷ Int ∷ Int ∷ Int ∷ Int ∷ BoolTy ∷ BoolTy ∷ [];
  mems =
      record { ty = BoolTy; start = Some (B true); slope = None; at = nowhere }
      ∷ record { ty = Float; start = Some (F (whole (negsuc 0))); slope = Some 7; at = at 1 1 }
      ∷ record { ty = Int; start = Some (I (pos 0)); slope = None; at = nowhere }
      ∷ [];
  ins = [];
  outs = output (codes "n") 11 ∷ output (codes "step") 0 ∷ output (codes "other") 17 ∷ [];
  sites = record { value = 6; fresh = 1; slope = 7 } ∷ record { value = 6; fresh = 16; slope = 7 } ∷ [];
  again = 2;
  step = Lit 0 (B true) ∷ Mem 1 0 ∷ Lit 2 (B false) ∷ Event 3 0 ∷ (taken_back ++ counts ++ Lit 16 (B true) ∷ Event 17 1 ∷ sets);
  left = Lit 0 (B false) ∷ Mem 1 0 ∷ Lit 2 (B false) ∷ Lit 3 (B false) ∷ (taken_back ++ counts ++ Lit 16 (B true) ∷ Lit 17 (B false) ∷ sets);
  flow = Lit 3 (B false) ∷ Lit 7 (number 1) ∷ counts;
}

abbrev pub CounterHasCode : Type 0
CounterHasCode = code_of kernel list ≡ code
