-- A number that is twice another while an input says so, and else what is missing of it to 3, with its kernel. Both move in
-- flows, and each of their operators has a slope of its own.
--     let hybrid main(b) = y where rec der x = 1.0 init 0.0 and y = if b then 2.0 *. x else 3.0 -. x
use Rattle.std.specs.Prelude.{◌∷◌, [], ℕ, true, false, List, get_or, codes, Option, Some, None}
use Rattle.zl_value.specs.declared.value.Value.TheVariants.{B}
use Rattle.zl_value.specs.declared.value.Ty.TheVariants.{Bool as BoolTy, Float}
use Rattle.zl_value.specs.declared.op.Op.{Op}
use Rattle.zl_value.specs.declared.op.Op.TheVariants.{SubFloat, MulFloat, NegFloat, EqFloat, Not}
use Rattle.zl_value.specs.declared.position.Pos.{Pos}
use Rattle.zl_meaning.specs.FlatForm.{FlatForm}
use Rattle.zl_meaning.specs.Worked.{at, block, place, occ}
use Rattle.zl_meaning.specs.declared.block.BlockKind.TheVariants.{Main}
use Rattle.zl_meaning.specs.declared.place.Definer.TheVariants.{Input, Plain, Der, Start}
use Rattle.zl_meaning.specs.declared.occurrence.Form.TheVariants.{Lit, Read, Op as Apply, If}
use Rattle.zl_kernel.specs.KernelForm.{KernelForm}
use Rattle.zl_kernel.specs.Worked.{number, wire, memory, moving, output}
use Rattle.zl_kernel.specs.declared.wire.Def.{Def}
use Rattle.zl_kernel.specs.declared.wire.Def.TheVariants.{Lit as LitWire, Mem, In, Step, Op as OpWire, If as IfWire}
use Rattle.zl_kernel.specs.declared.wire.Wire.{Wire}
use Rattle.zl_normal.specs.Wiring.{Wiring}
use Rattle.zl_normal.specs.Normal.{IsNormal}

abbrev pub form : FlatForm
form = record {
  blocks =
      block None Main true
      ∷ [];
  places =
      place 0 None BoolTy 0 (at 1 17) (Input 0 ∷ [])
      ∷ place 0 None Float 1 (at 1 38) (Der 0 1 [] ∷ Start 0 2 ∷ [])
      ∷ place 0 None Float 2 (at 1 59) (Plain 0 3 ∷ [])
      ∷ [];
  occs =
      occ 0 None Float (at 1 22) (Read 2)
      ∷ occ 0 None Float (at 1 42) (Lit (number 1))
      ∷ occ 0 None Float (at 1 51) (Lit (number 0))
      ∷ occ 0 None Float (at 1 63) (If 4 6 9)
      ∷ occ 0 None BoolTy (at 1 66) (Read 0)
      ∷ occ 0 None Float (at 1 73) (Lit (number 2))
      ∷ occ 0 None Float (at 1 77) (Apply MulFloat (5 ∷ 7 ∷ []))
      ∷ occ 0 None Float (at 1 80) (Read 1)
      ∷ occ 0 None Float (at 1 87) (Lit (number 3))
      ∷ occ 0 None Float (at 1 91) (Apply SubFloat (8 ∷ 10 ∷ []))
      ∷ occ 0 None Float (at 1 94) (Read 1)
      ∷ [];
  sites = [];
  choices = [];
  automata = [];
  again = [];
  ins = 0 ∷ [];
  outs = 2 ∷ [];
}

abbrev pub grades : List ℕ
grades = 1 ∷ 0 ∷ 3 ∷ 1 ∷ 0 ∷ 0 ∷ 1 ∷ 1 ∷ 0 ∷ 1 ∷ 1 ∷ []

abbrev pub names : List (List ℕ)
names = codes "b" ∷ codes "x" ∷ codes "y" ∷ []

-- a float's wire with a slope; an operator's with a guard
abbrev moves : Def → ℕ → Wire
moves def slope = record { ty = Float; def = def; guard = None; slope = Some slope; ord = 0; at = at 0 0 }

abbrev guarded : Op → List ℕ → ℕ → Option ℕ → ℕ → Pos → Wire
guarded op ns guard slope ord at = record { ty = Float; def = OpWire op ns; guard = Some guard; slope = slope; ord = ord; at = at }

abbrev pub kernel : KernelForm
kernel = record {
  wires =
      wire BoolTy Step None
      ∷ wire BoolTy (Mem 0) None
      ∷ wire BoolTy (LitWire (B false)) None
      ∷ wire Float (LitWire (number 1)) None
      ∷ wire Float (LitWire (number 0)) None
      ∷ wire BoolTy (In 0) None
      ∷ wire BoolTy (OpWire Not (5 ∷ [])) None
      ∷ wire Float (Mem 1) None
      ∷ wire Float (Mem 2) None
      ∷ moves (IfWire 0 8 7) 15
      ∷ wire Float (LitWire (number 2)) None
      ∷ guarded MulFloat (10 ∷ 9 ∷ []) 5 (Some 17) 6 (at 1 77)
      ∷ wire Float (LitWire (number 3)) None
      ∷ guarded SubFloat (12 ∷ 9 ∷ []) 6 (Some 19) 9 (at 1 91)
      ∷ moves (IfWire 5 11 13) 20
      ∷ wire Float (Mem 3) None
      ∷ wire BoolTy (OpWire EqFloat (11 ∷ 11 ∷ [])) None
      ∷ guarded MulFloat (10 ∷ 15 ∷ []) 16 None 17 (at 1 77)
      ∷ wire BoolTy (OpWire EqFloat (13 ∷ 13 ∷ [])) None
      ∷ guarded NegFloat (15 ∷ []) 18 None 20 (at 1 91)
      ∷ wire Float (IfWire 5 17 19) None
      ∷ [];
  mems =
      memory BoolTy (Some (B true)) 2
      ∷ moving Float None 9 15 (at 1 38)
      ∷ memory Float (Some (number 0)) 9
      ∷ memory Float None 3
      ∷ [];
  ins = record { name = codes "b"; ty = BoolTy } ∷ [];
  outs = output (codes "y") 14 ∷ [];
  sites = [];
  again = 2;
}

abbrev pub wiring : Wiring
wiring = record {
  w = λ n. get_or (14 ∷ 3 ∷ 4 ∷ 14 ∷ 5 ∷ 10 ∷ 11 ∷ 9 ∷ 12 ∷ 13 ∷ 9 ∷ []) n 0;
  G = λ n. get_or (None ∷ None ∷ Some 1 ∷ None ∷ None ∷ Some 5 ∷ Some 5 ∷ Some 5 ∷ Some 6 ∷ Some 6 ∷ Some 6 ∷ []) n None;
  P = λ n. get_or (5 ∷ 9 ∷ 14 ∷ []) n 0;
  L = λ n. 8;
  S = λ n. get_or (20 ∷ 4 ∷ 4 ∷ 20 ∷ 4 ∷ 4 ∷ 17 ∷ 15 ∷ 4 ∷ 19 ∷ 15 ∷ []) n 0;
  D = λ n. get_or (4 ∷ 15 ∷ 20 ∷ []) n 0;
  step = 0;
  fresh = 1;
  first = 0;
  zero = 4;
}

abbrev pub SlopesAreNormal : Type 0
SlopesAreNormal = IsNormal form grades names kernel wiring
