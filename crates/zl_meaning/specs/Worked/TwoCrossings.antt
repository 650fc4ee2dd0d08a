-- Two sites that reach zero at one time both fire.
--     let hybrid main() = (a, b) where rec
--       der x = 1.0 init 0.0
--       and init a = 0 and present up(x -. 1.0) -> do a = last a + 1 done
--       and init b = 0 and present up(2.0 *. x -. 2.0) -> do b = last b + 1 done
use Rattle.std.specs.Prelude.{◌∷◌, [], ◌++◌, ℕ, true, false, List, pos, codes, Some, None}
use Rattle.zl_value.specs.Fraction.{whole}
use Rattle.zl_value.specs.declared.value.Value.TheVariants.{I, F}
use Rattle.zl_value.specs.declared.value.Ty.TheVariants.{Bool as BoolTy, Int, Float, Zero}
use Rattle.zl_value.specs.declared.op.Op.TheVariants.{AddInt, MulFloat, SubFloat}
use Rattle.zl_value.specs.declared.script.Script.{Script}
use Rattle.zl_meaning.specs.FlatForm.{FlatForm}
use Rattle.zl_meaning.specs.Worked.{at, block, place, occ, site, HasTrace}
use Rattle.zl_meaning.specs.declared.block.BlockKind.TheVariants.{Main, Arm}
use Rattle.zl_meaning.specs.declared.place.Definer.TheVariants.{Plain, Der, Start}
use Rattle.zl_meaning.specs.declared.occurrence.Form.TheVariants.{Lit, Read, Last, Op as Apply, Up, Fired}

abbrev pub form : FlatForm
form = record {
  blocks =
      block None Main true
      ∷ block (Some 0) (Arm 0 0) false
      ∷ block (Some 0) (Arm 1 0) false
      ∷ [];
  places =
      place 0 None Float 0 (at 2 7) (Der 0 2 [] ∷ Start 0 3 ∷ [])
      ∷ place 0 None Int 1 (at 3 12) (Start 0 4 ∷ Plain 1 10 ∷ [])
      ∷ place 0 None Int 2 (at 4 12) (Start 0 12 ∷ Plain 2 20 ∷ [])
      ∷ [];
  occs =
      occ 0 None Int (at 1 22) (Read 1)
      ∷ occ 0 None Int (at 1 25) (Read 2)
      ∷ occ 0 None Float (at 2 11) (Lit (F (whole (pos 1))))
      ∷ occ 0 None Float (at 2 20) (Lit (F (whole (pos 0))))
      ∷ occ 0 None Int (at 3 16) (Lit (I (pos 0)))
      ∷ occ 0 None Zero (at 3 30) (Up 0)
      ∷ occ 0 None Float (at 3 33) (Read 0)
      ∷ occ 0 None Float (at 3 35) (Apply SubFloat (6 ∷ 8 ∷ []))
      ∷ occ 0 None Float (at 3 38) (Lit (F (whole (pos 1))))
      ∷ occ 1 None Int (at 3 53) (Last 1)
      ∷ occ 1 None Int (at 3 60) (Apply AddInt (9 ∷ 11 ∷ []))
      ∷ occ 1 None Int (at 3 62) (Lit (I (pos 1)))
      ∷ occ 0 None Int (at 4 16) (Lit (I (pos 0)))
      ∷ occ 0 None Zero (at 4 30) (Up 1)
      ∷ occ 0 None Float (at 4 33) (Lit (F (whole (pos 2))))
      ∷ occ 0 None Float (at 4 37) (Apply MulFloat (14 ∷ 16 ∷ []))
      ∷ occ 0 None Float (at 4 40) (Read 0)
      ∷ occ 0 None Float (at 4 42) (Apply SubFloat (15 ∷ 18 ∷ []))
      ∷ occ 0 None Float (at 4 45) (Lit (F (whole (pos 2))))
      ∷ occ 2 None Int (at 4 60) (Last 2)
      ∷ occ 2 None Int (at 4 67) (Apply AddInt (19 ∷ 21 ∷ []))
      ∷ occ 2 None Int (at 4 69) (Lit (I (pos 1)))
      ∷ occ 0 None BoolTy (at 3 30) (Fired (5 ∷ []))
      ∷ occ 0 None BoolTy (at 4 30) (Fired (13 ∷ []))
      ∷ [];
  sites =
      site 0 7 (at 3 30)
      ∷ site 0 17 (at 4 30)
      ∷ [];
  choices =
      record { block = 0; conds = 22 ∷ []; other = false }
      ∷ record { block = 0; conds = 23 ∷ []; other = false }
      ∷ [];
  automata = [];
  again = [];
  ins = [];
  outs = 1 ∷ 2 ∷ [];
}

abbrev pub grades : List ℕ
grades = 0 ∷ 0 ∷ 0 ∷ 3 ∷ 3 ∷ 3 ∷ 1 ∷ 1 ∷ 0 ∷ 3 ∷ 3 ∷ 3 ∷ 3 ∷ 3 ∷ 0 ∷ 1 ∷ 1 ∷ 1 ∷ 0 ∷ 3 ∷ 3 ∷ 3 ∷ 3 ∷ 3 ∷ []

abbrev pub names : List (List ℕ)
names = codes "x" ∷ codes "a" ∷ codes "b" ∷ []

abbrev pub script : Script
script = record { horizon = whole (pos 1); steps = 1000000; lines = [] }

abbrev pub text : List ℕ
text =
    codes "0 #0 a=0 b=0\n"
    ++ codes "1 - a=0 b=0\n"
    ++ codes "1 #0 a=1 b=1\n"
    ++ codes "end horizon\n"

abbrev pub TwoCrossingsRuns : Type 0
TwoCrossingsRuns = HasTrace form grades names script text

-- no run fires one of the two sites alone
abbrev pub BothCrossingsFire : Type 0
BothCrossingsFire =
    HasTrace form grades names script
    (codes "0 #0 a=0 b=0\n"
    ++ codes "1 - a=0 b=0\n"
    ++ codes "1 #0 a=1 b=0\n"
    ++ codes "end horizon\n") → ⊥
