-- A strong transition by `continue`: the target goes on from what it held.
--     let hybrid main() = x where rec der t = 1.0 init 0.0 reset up(t -. 1.0) -> 0.0 and init x = 0 and automaton
--       | A -> do present up(t -. 0.5) -> do x = 1 fby (x + 1) done unless up(t -. 1.0) continue B
--       | B -> do unless up(t -. 1.0) continue A
use Rattle.std.specs.Prelude.{◌∷◌, [], ◌++◌, ℕ, true, false, List, pos, codes, Some, None}
use Rattle.zl_value.specs.Fraction.{whole, over}
use Rattle.zl_value.specs.declared.value.Value.TheVariants.{B, I, F}
use Rattle.zl_value.specs.declared.value.Ty.TheVariants.{Bool as BoolTy, Int, Float, Zero}
use Rattle.zl_value.specs.declared.op.Op.TheVariants.{AddInt, SubFloat}
use Rattle.zl_value.specs.declared.script.Script.{Script}
use Rattle.zl_meaning.specs.FlatForm.{FlatForm}
use Rattle.zl_meaning.specs.Worked.{at, block, place, occ, site, reset_arm, HasTrace}
use Rattle.zl_meaning.specs.declared.block.BlockKind.TheVariants.{Main, Arm, Guard, State as Body}
use Rattle.zl_meaning.specs.declared.place.Definer.TheVariants.{Plain, Der, Start}
use Rattle.zl_meaning.specs.declared.occurrence.Form.TheVariants.{Lit, Read, Op as Apply, Arrow, Pre, Up, Fired}

abbrev pub form : FlatForm
form = record {
  blocks =
      block None Main true
      ∷ block (Some 0) (Guard 0 0) true
      ∷ block (Some 0) (Body 0 0) true
      ∷ block (Some 2) (Arm 0 0) false
      ∷ block (Some 0) (Guard 0 1) true
      ∷ block (Some 0) (Body 0 1) true
      ∷ [];
  places =
      place 0 None Float 2 (at 1 37) (Der 0 1 (reset_arm 26 7 ∷ []) ∷ Start 0 2 ∷ [])
      ∷ place 0 None Int 1 (at 1 89) (Start 0 8 ∷ Plain 3 14 ∷ [])
      ∷ [];
  occs =
      occ 0 None Int (at 1 21) (Read 1)
      ∷ occ 0 None Float (at 1 41) (Lit (F (whole (pos 1))))
      ∷ occ 0 None Float (at 1 50) (Lit (F (whole (pos 0))))
      ∷ occ 0 None Zero (at 1 60) (Up 0)
      ∷ occ 0 None Float (at 1 63) (Read 0)
      ∷ occ 0 None Float (at 1 65) (Apply SubFloat (4 ∷ 6 ∷ []))
      ∷ occ 0 None Float (at 1 68) (Lit (F (whole (pos 1))))
      ∷ occ 0 None Float (at 1 76) (Lit (F (whole (pos 0))))
      ∷ occ 0 None Int (at 1 93) (Lit (I (pos 0)))
      ∷ occ 2 None Zero (at 1 127) (Up 1)
      ∷ occ 2 None Float (at 1 130) (Read 0)
      ∷ occ 2 None Float (at 1 132) (Apply SubFloat (10 ∷ 12 ∷ []))
      ∷ occ 2 None Float (at 1 135) (Lit (F (over (pos 1) 2)))
      ∷ occ 3 None Int (at 1 150) (Lit (I (pos 1)))
      ∷ occ 3 None Int (at 1 152) (Arrow 13 28)
      ∷ occ 3 None Int (at 1 157) (Read 1)
      ∷ occ 3 None Int (at 1 159) (Apply AddInt (15 ∷ 17 ∷ []))
      ∷ occ 3 None Int (at 1 161) (Lit (I (pos 1)))
      ∷ occ 1 None Zero (at 1 176) (Up 2)
      ∷ occ 1 None Float (at 1 179) (Read 0)
      ∷ occ 1 None Float (at 1 181) (Apply SubFloat (19 ∷ 21 ∷ []))
      ∷ occ 1 None Float (at 1 184) (Lit (F (whole (pos 1))))
      ∷ occ 4 None Zero (at 1 217) (Up 3)
      ∷ occ 4 None Float (at 1 220) (Read 0)
      ∷ occ 4 None Float (at 1 222) (Apply SubFloat (23 ∷ 25 ∷ []))
      ∷ occ 4 None Float (at 1 225) (Lit (F (whole (pos 1))))
      ∷ occ 0 None BoolTy (at 1 60) (Fired (3 ∷ []))
      ∷ occ 2 None BoolTy (at 1 127) (Fired (9 ∷ []))
      ∷ occ 3 None Int (at 1 152) (Pre 16)
      ∷ occ 1 None BoolTy (at 1 176) (Fired (18 ∷ []))
      ∷ occ 4 None BoolTy (at 1 217) (Fired (22 ∷ []))
      ∷ [];
  sites =
      site 0 5 (at 1 60)
      ∷ site 2 11 (at 1 127)
      ∷ site 1 20 (at 1 176)
      ∷ site 4 24 (at 1 217)
      ∷ [];
  choices =
      record { block = 2; conds = 27 ∷ []; other = false }
      ∷ [];
  automata =
      record { block = 0; states = (record { strong = true; reset = false; cond = 29; target = 1 } ∷ []) ∷ (record { strong = true; reset = false; cond = 30; target = 0 } ∷ []) ∷ [] }
      ∷ [];
  again = [];
  ins = [];
  outs = 1 ∷ [];
}

abbrev pub grades : List ℕ
grades = 0 ∷ 0 ∷ 3 ∷ 3 ∷ 1 ∷ 1 ∷ 0 ∷ 3 ∷ 3 ∷ 3 ∷ 1 ∷ 1 ∷ 0 ∷ 3 ∷ 3 ∷ 3 ∷ 3 ∷ 3 ∷ 3 ∷ 1 ∷ 1 ∷ 0 ∷ 3 ∷ 1 ∷ 1 ∷ 0 ∷ 3 ∷ 3 ∷ 3 ∷ 3 ∷ 3 ∷ []

abbrev pub names : List (List ℕ)
names = codes "main" ∷ codes "x" ∷ codes "t" ∷ codes "A" ∷ codes "B" ∷ []

abbrev pub script : Script
script = record { horizon = whole (pos 4); steps = 1000000; lines = [] }

abbrev pub text : List ℕ
text =
    codes "0 #0 x=0\n"
    ++ codes "1/2 - x=0\n"
    ++ codes "1/2 #0 x=1\n"
    ++ codes "1 - x=1\n"
    ++ codes "1 #0 x=1\n"
    ++ codes "1 #1 x=1\n"
    ++ codes "2 - x=1\n"
    ++ codes "2 #0 x=1\n"
    ++ codes "2 #1 x=1\n"
    ++ codes "5/2 - x=1\n"
    ++ codes "5/2 #0 x=2\n"
    ++ codes "3 - x=2\n"
    ++ codes "3 #0 x=2\n"
    ++ codes "3 #1 x=2\n"
    ++ codes "4 - x=2\n"
    ++ codes "4 #0 x=2\n"
    ++ codes "4 #1 x=2\n"
    ++ codes "end horizon\n"

abbrev pub StrongContinueRuns : Type 0
StrongContinueRuns = HasTrace form grades names script text
