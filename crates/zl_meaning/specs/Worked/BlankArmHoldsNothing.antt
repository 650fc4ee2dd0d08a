-- An arm whose test has no value is blank, and a variable that it would define has no value: it isn't held.
--     let node f(a) = w where rec init y = 0 and w = 1 / y and present (z) -> do y = 1 done and z = (1 / a = 1)
--     let hybrid main() = y where rec der t = 1.0 init 0.0 reset up(t -. 1.0) -> 0.0 and init y = 0
--       and present up(t -. 0.5) -> do y = f(0) done
use Rattle.std.specs.Prelude.{◌∷◌, [], ◌++◌, ℕ, true, false, List, pos, codes, Some, None}
use Rattle.zl_value.specs.Fraction.{whole, over}
use Rattle.zl_value.specs.declared.value.Value.TheVariants.{I, F}
use Rattle.zl_value.specs.declared.value.Ty.TheVariants.{Bool as BoolTy, Int, Float, Zero}
use Rattle.zl_value.specs.declared.op.Op.TheVariants.{DivInt, EqInt, SubFloat}
use Rattle.zl_value.specs.declared.script.Script.{Script}
use Rattle.zl_meaning.specs.FlatForm.{FlatForm}
use Rattle.zl_meaning.specs.Worked.{at, block, place, occ, site, reset_arm, HasTrace}
use Rattle.zl_meaning.specs.declared.block.BlockKind.TheVariants.{Main, Arm}
use Rattle.zl_meaning.specs.declared.place.Definer.TheVariants.{Plain, Der, Start}
use Rattle.zl_meaning.specs.declared.occurrence.Form.TheVariants.{Lit, Read, Op as Apply, Result, Up, Fired}

abbrev pub form : FlatForm
form = record {
  blocks =
      block None Main true
      ∷ block (Some 0) (Arm 0 0) false
      ∷ block (Some 1) (Arm 1 0) false
      ∷ [];
  places =
      place 0 None Float 6 (at 2 37) (Der 0 1 (reset_arm 27 7 ∷ []) ∷ Start 0 2 ∷ [])
      ∷ place 0 None Int 3 (at 2 89) (Start 0 8 ∷ Plain 1 13 ∷ [])
      ∷ place 1 (Some 13) Int 1 (at 1 12) (Plain 1 14 ∷ [])
      ∷ place 1 (Some 13) Int 3 (at 1 34) (Start 1 16 ∷ Plain 2 21 ∷ [])
      ∷ place 1 (Some 13) Int 2 (at 1 44) (Plain 1 18 ∷ [])
      ∷ place 1 (Some 13) BoolTy 4 (at 1 91) (Plain 1 25 ∷ [])
      ∷ [];
  occs =
      occ 0 None Int (at 2 21) (Read 1)
      ∷ occ 0 None Float (at 2 41) (Lit (F (whole (pos 1))))
      ∷ occ 0 None Float (at 2 50) (Lit (F (whole (pos 0))))
      ∷ occ 0 None Zero (at 2 60) (Up 0)
      ∷ occ 0 None Float (at 2 63) (Read 0)
      ∷ occ 0 None Float (at 2 65) (Apply SubFloat (4 ∷ 6 ∷ []))
      ∷ occ 0 None Float (at 2 68) (Lit (F (whole (pos 1))))
      ∷ occ 0 None Float (at 2 76) (Lit (F (whole (pos 0))))
      ∷ occ 0 None Int (at 2 93) (Lit (I (pos 0)))
      ∷ occ 0 None Zero (at 2 107) (Up 1)
      ∷ occ 0 None Float (at 2 110) (Read 0)
      ∷ occ 0 None Float (at 2 112) (Apply SubFloat (10 ∷ 12 ∷ []))
      ∷ occ 0 None Float (at 2 115) (Lit (F (over (pos 1) 2)))
      ∷ occ 1 None Int (at 2 130) (Result 15)
      ∷ occ 1 (Some 13) Int (at 2 132) (Lit (I (pos 0)))
      ∷ occ 1 (Some 13) Int (at 1 17) (Read 4)
      ∷ occ 1 (Some 13) Int (at 1 38) (Lit (I (pos 0)))
      ∷ occ 1 (Some 13) Int (at 1 48) (Lit (I (pos 1)))
      ∷ occ 1 (Some 13) Int (at 1 50) (Apply DivInt (17 ∷ 19 ∷ []))
      ∷ occ 1 (Some 13) Int (at 1 52) (Read 3)
      ∷ occ 1 (Some 13) BoolTy (at 1 67) (Read 5)
      ∷ occ 2 (Some 13) Int (at 1 80) (Lit (I (pos 1)))
      ∷ occ 1 (Some 13) Int (at 1 96) (Lit (I (pos 1)))
      ∷ occ 1 (Some 13) Int (at 1 98) (Apply DivInt (22 ∷ 24 ∷ []))
      ∷ occ 1 (Some 13) Int (at 1 100) (Read 2)
      ∷ occ 1 (Some 13) BoolTy (at 1 102) (Apply EqInt (23 ∷ 26 ∷ []))
      ∷ occ 1 (Some 13) Int (at 1 104) (Lit (I (pos 1)))
      ∷ occ 0 None BoolTy (at 2 60) (Fired (3 ∷ []))
      ∷ occ 0 None BoolTy (at 2 107) (Fired (9 ∷ []))
      ∷ [];
  sites =
      site 0 5 (at 2 60)
      ∷ site 0 11 (at 2 107)
      ∷ [];
  choices =
      record { block = 0; conds = 28 ∷ []; other = false }
      ∷ record { block = 1; conds = 20 ∷ []; other = false }
      ∷ [];
  automata = [];
  again = [];
  ins = [];
  outs = 1 ∷ [];
}

abbrev pub grades : List ℕ
grades = 0 ∷ 0 ∷ 3 ∷ 3 ∷ 1 ∷ 1 ∷ 0 ∷ 3 ∷ 3 ∷ 3 ∷ 1 ∷ 1 ∷ 0 ∷ 3 ∷ 3 ∷ 3 ∷ 3 ∷ 3 ∷ 3 ∷ 3 ∷ 3 ∷ 3 ∷ 3 ∷ 3 ∷ 3 ∷ 3 ∷ 3 ∷ 3 ∷ 3 ∷ []

abbrev pub names : List (List ℕ)
names = codes "f" ∷ codes "a" ∷ codes "w" ∷ codes "y" ∷ codes "z" ∷ codes "main" ∷ codes "t" ∷ []

abbrev pub script : Script
script = record { horizon = whole (pos 1); steps = 1000000; lines = [] }

abbrev pub text : List ℕ
text =
    codes "0 #0 y=0\n"
    ++ codes "1/2 - y=0\n"
    ++ codes "fault division 1/2 #0 1:98\n"

abbrev pub BlankArmHoldsNothingRuns : Type 0
BlankArmHoldsNothingRuns = HasTrace form grades names script text
