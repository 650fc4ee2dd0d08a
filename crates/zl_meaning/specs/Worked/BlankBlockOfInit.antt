-- Where the block of an `init` is blank, `last` of that variable has no value.
--     let node f(a) = w where rec w = 1 / last y and reset init y = 1 and y = 0 every (z) and z = (1 / a = 1)
--     let hybrid main() = y where rec der t = 1.0 init 0.0 reset up(t -. 1.0) -> 0.0 and init y = 0
--       and init a = 2 and present up(t -. 0.5) -> do a = last a - 1 and y = f(a) done
use Rattle.std.specs.Prelude.{◌∷◌, [], ◌++◌, ℕ, true, false, List, pos, codes, Some, None}
use Rattle.zl_value.specs.Fraction.{whole, over}
use Rattle.zl_value.specs.declared.value.Value.TheVariants.{I, F}
use Rattle.zl_value.specs.declared.value.Ty.TheVariants.{Bool as BoolTy, Int, Float, Zero}
use Rattle.zl_value.specs.declared.op.Op.TheVariants.{DivInt, EqInt, SubFloat, SubInt}
use Rattle.zl_value.specs.declared.script.Script.{Script}
use Rattle.zl_meaning.specs.FlatForm.{FlatForm}
use Rattle.zl_meaning.specs.Worked.{at, block, place, occ, site, reset_arm, HasTrace}
use Rattle.zl_meaning.specs.declared.block.BlockKind.TheVariants.{Main, Arm, Reset}
use Rattle.zl_meaning.specs.declared.place.Definer.TheVariants.{Plain, Der, Start}
use Rattle.zl_meaning.specs.declared.occurrence.Form.TheVariants.{Lit, Read, Last, Op as Apply, Result, Up, Fired}

abbrev pub form : FlatForm
form = record {
  blocks =
      block None Main true
      ∷ block (Some 0) (Arm 0 0) false
      ∷ block (Some 1) (Reset 25) false
      ∷ [];
  places =
      place 0 None Float 6 (at 2 37) (Der 0 1 (reset_arm 31 7 ∷ []) ∷ Start 0 2 ∷ [])
      ∷ place 0 None Int 3 (at 2 89) (Start 0 8 ∷ Plain 1 17 ∷ [])
      ∷ place 0 None Int 1 (at 2 104) (Start 0 9 ∷ Plain 1 15 ∷ [])
      ∷ place 1 (Some 17) Int 1 (at 1 12) (Plain 1 18 ∷ [])
      ∷ place 1 (Some 17) Int 2 (at 1 29) (Plain 1 21 ∷ [])
      ∷ place 1 (Some 17) Int 3 (at 1 59) (Start 2 23 ∷ Plain 2 24 ∷ [])
      ∷ place 1 (Some 17) BoolTy 4 (at 1 89) (Plain 1 29 ∷ [])
      ∷ [];
  occs =
      occ 0 None Int (at 2 21) (Read 1)
      ∷ occ 0 None Float (at 2 41) (Lit (F (whole (pos 1))))
      ∷ occ 0 None Float (at 2 50) (Lit (F (whole (pos 0))))
      ∷ occ 0 None Zero (at 2 60) (Up 0)
      ∷ occ 0 None Float (at 2 63) (Read 0)
      ∷ occ 0 None Float (at 2 65) (Apply SubFloat (4 ∷ 6 ∷ []))
      ∷ occ 0 None Float (at 2 68) (Lit (F (whole (pos 1))))
      ∷ occ 0 None Float (at 2 76) (Lit (F (whole (pos 0))))
      ∷ occ 0 None Int (at 2 93) (Lit (I (pos 0)))
      ∷ occ 0 None Int (at 2 108) (Lit (I (pos 2)))
      ∷ occ 0 None Zero (at 2 122) (Up 1)
      ∷ occ 0 None Float (at 2 125) (Read 0)
      ∷ occ 0 None Float (at 2 127) (Apply SubFloat (11 ∷ 13 ∷ []))
      ∷ occ 0 None Float (at 2 130) (Lit (F (over (pos 1) 2)))
      ∷ occ 1 None Int (at 2 145) (Last 2)
      ∷ occ 1 None Int (at 2 152) (Apply SubInt (14 ∷ 16 ∷ []))
      ∷ occ 1 None Int (at 2 154) (Lit (I (pos 1)))
      ∷ occ 1 None Int (at 2 164) (Result 19)
      ∷ occ 1 (Some 17) Int (at 2 166) (Read 2)
      ∷ occ 1 (Some 17) Int (at 1 17) (Read 4)
      ∷ occ 1 (Some 17) Int (at 1 33) (Lit (I (pos 1)))
      ∷ occ 1 (Some 17) Int (at 1 35) (Apply DivInt (20 ∷ 22 ∷ []))
      ∷ occ 1 (Some 17) Int (at 1 37) (Last 5)
      ∷ occ 2 (Some 17) Int (at 1 63) (Lit (I (pos 1)))
      ∷ occ 2 (Some 17) Int (at 1 73) (Lit (I (pos 0)))
      ∷ occ 1 (Some 17) BoolTy (at 1 82) (Read 6)
      ∷ occ 1 (Some 17) Int (at 1 94) (Lit (I (pos 1)))
      ∷ occ 1 (Some 17) Int (at 1 96) (Apply DivInt (26 ∷ 28 ∷ []))
      ∷ occ 1 (Some 17) Int (at 1 98) (Read 3)
      ∷ occ 1 (Some 17) BoolTy (at 1 100) (Apply EqInt (27 ∷ 30 ∷ []))
      ∷ occ 1 (Some 17) Int (at 1 102) (Lit (I (pos 1)))
      ∷ occ 0 None BoolTy (at 2 60) (Fired (3 ∷ []))
      ∷ occ 0 None BoolTy (at 2 122) (Fired (10 ∷ []))
      ∷ [];
  sites =
      site 0 5 (at 2 60)
      ∷ site 0 12 (at 2 122)
      ∷ [];
  choices =
      record { block = 0; conds = 32 ∷ []; other = false }
      ∷ [];
  automata = [];
  again = [];
  ins = [];
  outs = 1 ∷ [];
}

abbrev pub grades : List ℕ
grades = 0 ∷ 0 ∷ 3 ∷ 3 ∷ 1 ∷ 1 ∷ 0 ∷ 3 ∷ 3 ∷ 3 ∷ 3 ∷ 1 ∷ 1 ∷ 0 ∷ 3 ∷ 3 ∷ 3 ∷ 3 ∷ 3 ∷ 3 ∷ 3 ∷ 3 ∷ 3 ∷ 3 ∷ 3 ∷ 3 ∷ 3 ∷ 3 ∷ 3 ∷ 3 ∷ 3 ∷ 3 ∷ 3 ∷ []

abbrev pub names : List (List ℕ)
names = codes "f" ∷ codes "a" ∷ codes "w" ∷ codes "y" ∷ codes "z" ∷ codes "main" ∷ codes "t" ∷ []

abbrev pub script : Script
script = record { horizon = whole (pos 2); steps = 1000000; lines = [] }

abbrev pub text : List ℕ
text =
    codes "0 #0 y=0\n"
    ++ codes "1/2 - y=0\n"
    ++ codes "1/2 #0 y=1\n"
    ++ codes "1 - y=1\n"
    ++ codes "1 #0 y=1\n"
    ++ codes "3/2 - y=1\n"
    ++ codes "fault division 3/2 #0 1:96\n"

abbrev pub BlankBlockOfInitRuns : Type 0
BlankBlockOfInitRuns = HasTrace form grades names script text
