-- The code of a variable that is reset where it reaches one, by an order of its kernel.
use Rattle.std.specs.Prelude.{◌≡◌, ◌∷◌, [], ◌++◌, ℕ, true, false, List, codes, Some, None}
use Rattle.zl_value.specs.Widths.{nowhere}
use Rattle.zl_value.specs.declared.value.Value.TheVariants.{B}
use Rattle.zl_value.specs.declared.value.Ty.TheVariants.{Bool as BoolTy, Float}
use Rattle.zl_value.specs.declared.op.Op.TheVariants.{SubFloat}
use Rattle.zl_kernel.specs.Worked.{at, number, output}
use Rattle.zl_kernel.specs.Worked.SawTooth.{kernel}
use Rattle.zl_code.specs.CodeForm.{CodeForm}
use Rattle.zl_code.specs.declared.stmt.Stmt.{Stmt}
use Rattle.zl_code.specs.declared.stmt.Stmt.TheVariants.{Lit, Get, Mem, Event, Op as Apply, Set, If, Else, Fi}
use Rattle.zl_codegen.specs.CodeOf.{code_of}

-- wires 6 and 7 have one guard. Nothing needs wire 7, and wire 13 is one of flows alone
abbrev pub list : List ℕ
list = 0 ∷ 1 ∷ 2 ∷ 3 ∷ 4 ∷ 5 ∷ 6 ∷ 7 ∷ 8 ∷ 9 ∷ 10 ∷ 11 ∷ 12 ∷ 13 ∷ []

-- what both methods of instants do with the event, where the variable is reset, and where it moved
abbrev pub reset : List Stmt
reset =
    If 0
    ∷ Get 6 5
    ∷ Else
    ∷ Fi
    ∷ Mem 8 1
    ∷ Mem 9 2
    ∷ If 6
    ∷ Get 10 4
    ∷ Else
    ∷ Get 10 9
    ∷ Fi
    ∷ If 0
    ∷ Get 11 10
    ∷ Else
    ∷ Get 11 8
    ∷ Fi
    ∷ Apply 12 SubFloat (11 ∷ 3 ∷ []) (Some (record { ord = 5; at = at 1 65 }))
    ∷ []

abbrev pub sets : List Stmt
sets = Set 0 2 ∷ Set 1 11 ∷ Set 2 11 ∷ Set 3 3 ∷ []

abbrev pub code : CodeForm
code = record {
  regs = BoolTy ∷ BoolTy ∷ BoolTy ∷ Float ∷ Float ∷ BoolTy ∷ BoolTy ∷ BoolTy ∷ Float ∷ Float ∷ Float ∷ Float ∷ Float ∷ Float ∷ [];
  mems =
      record { ty = BoolTy; start = Some (B true); slope = None; at = nowhere }
      ∷ record { ty = Float; start = None; slope = Some 13; at = at 1 37 }
      ∷ record { ty = Float; start = Some (number 0); slope = None; at = nowhere }
      ∷ record { ty = Float; start = None; slope = None; at = nowhere }
      ∷ [];
  ins = [];
  outs = output (codes "x") 11 ∷ [];
  sites = record { value = 12; fresh = 1; slope = 13 } ∷ [];
  again = 2;
  step = Lit 0 (B true) ∷ Mem 1 0 ∷ Lit 2 (B false) ∷ Lit 3 (number 1) ∷ Lit 4 (number 0) ∷ Event 5 0 ∷ (reset ++ sets);
  left = Lit 0 (B false) ∷ Mem 1 0 ∷ Lit 2 (B false) ∷ Lit 3 (number 1) ∷ Lit 4 (number 0) ∷ Lit 5 (B false) ∷ (reset ++ sets);
  flow = Lit 0 (B false) ∷ Lit 3 (number 1) ∷ Lit 4 (number 0) ∷ Lit 5 (B false) ∷ (reset ++ Mem 13 3 ∷ []);
}

abbrev pub SawToothHasCode : Type 0
SawToothHasCode = code_of kernel list ≡ code
