-- A room with a heater, and a script line that turns the heater down.
--     (* a room with a heater *)
--     let low = 19.0
--     let high = 21.0
--     let hybrid room(gain) = (temp, starts) where rec
--       init temp = 20.0 and init starts = 0
--       and present up(low -. temp) -> do starts = last starts + 1 done
--       and automaton
--       | Off -> do der temp = -0.5 until up(low -. temp) then On
--       | On -> do der temp = gain until up(temp -. high) then Off
--     let hybrid main(gain : float) = (temp, starts) where rec (temp, starts) = room(gain)
use Rattle.std.specs.Prelude.{◌∷◌, [], ◌++◌, ℕ, true, false, List, pos, negsuc, codes, Some, None}
use Rattle.zl_value.specs.Fraction.{whole, over}
use Rattle.zl_value.specs.declared.value.Value.TheVariants.{I, F}
use Rattle.zl_value.specs.declared.value.Ty.TheVariants.{Bool as BoolTy, Int, Float, Zero}
use Rattle.zl_value.specs.declared.op.Op.TheVariants.{AddInt, SubFloat}
use Rattle.zl_value.specs.declared.script.Script.{Script}
use Rattle.zl_meaning.specs.FlatForm.{FlatForm}
use Rattle.zl_meaning.specs.Worked.{at, block, place, occ, site, HasTrace}
use Rattle.zl_meaning.specs.declared.block.BlockKind.TheVariants.{Main, Arm, Guard, State as Body}
use Rattle.zl_meaning.specs.declared.place.Definer.TheVariants.{Input, Plain, Der, Start}
use Rattle.zl_meaning.specs.declared.occurrence.Form.TheVariants.{Lit, Read, Last, Op as Apply, Result, Up, Fired}

abbrev pub form : FlatForm
form = record {
  blocks =
      block None Main true
      ∷ block (Some 0) (Arm 0 0) false
      ∷ block (Some 0) (Guard 0 0) true
      ∷ block (Some 0) (Body 0 0) true
      ∷ block (Some 0) (Guard 0 1) true
      ∷ block (Some 0) (Body 0 1) true
      ∷ [];
  places =
      place 0 None Float 0 (at 10 17) (Input 0 ∷ [])
      ∷ place 0 None Float 1 (at 10 59) (Plain 0 4 ∷ [])
      ∷ place 0 None Int 2 (at 10 65) (Plain 0 5 ∷ [])
      ∷ place 0 (Some 2) Float 0 (at 4 17) (Plain 0 3 ∷ [])
      ∷ place 0 (Some 2) Float 1 (at 5 8) (Start 0 6 ∷ Der 3 16 [] ∷ Der 5 22 [] ∷ [])
      ∷ place 0 (Some 2) Int 2 (at 5 29) (Start 0 7 ∷ Plain 1 14 ∷ [])
      ∷ [];
  occs =
      occ 0 None Float (at 10 34) (Read 1)
      ∷ occ 0 None Int (at 10 40) (Read 2)
      ∷ occ 0 None Float (at 10 75) (Result 4)
      ∷ occ 0 (Some 2) Float (at 10 80) (Read 0)
      ∷ occ 0 (Some 2) Float (at 4 26) (Read 4)
      ∷ occ 0 (Some 2) Int (at 4 32) (Read 5)
      ∷ occ 0 (Some 2) Float (at 5 15) (Lit (F (whole (pos 20))))
      ∷ occ 0 (Some 2) Int (at 5 38) (Lit (I (pos 0)))
      ∷ occ 0 (Some 2) Zero (at 6 15) (Up 0)
      ∷ occ 0 (Some 2) Float (at 6 18) (Result 10)
      ∷ occ 0 (Some 9) Float (at 2 11) (Lit (F (whole (pos 19))))
      ∷ occ 0 (Some 2) Float (at 6 22) (Apply SubFloat (9 ∷ 12 ∷ []))
      ∷ occ 0 (Some 2) Float (at 6 25) (Read 4)
      ∷ occ 1 (Some 2) Int (at 6 46) (Last 5)
      ∷ occ 1 (Some 2) Int (at 6 58) (Apply AddInt (13 ∷ 15 ∷ []))
      ∷ occ 1 (Some 2) Int (at 6 60) (Lit (I (pos 1)))
      ∷ occ 3 (Some 2) Float (at 8 26) (Lit (F (over (negsuc 0) 2)))
      ∷ occ 3 (Some 2) Zero (at 8 37) (Up 1)
      ∷ occ 3 (Some 2) Float (at 8 40) (Result 19)
      ∷ occ 3 (Some 18) Float (at 2 11) (Lit (F (whole (pos 19))))
      ∷ occ 3 (Some 2) Float (at 8 44) (Apply SubFloat (18 ∷ 21 ∷ []))
      ∷ occ 3 (Some 2) Float (at 8 47) (Read 4)
      ∷ occ 5 (Some 2) Float (at 9 25) (Read 3)
      ∷ occ 5 (Some 2) Zero (at 9 36) (Up 2)
      ∷ occ 5 (Some 2) Float (at 9 39) (Read 4)
      ∷ occ 5 (Some 2) Float (at 9 44) (Apply SubFloat (24 ∷ 26 ∷ []))
      ∷ occ 5 (Some 2) Float (at 9 47) (Result 27)
      ∷ occ 5 (Some 26) Float (at 3 12) (Lit (F (whole (pos 21))))
      ∷ occ 0 (Some 2) BoolTy (at 6 15) (Fired (8 ∷ []))
      ∷ occ 3 (Some 2) BoolTy (at 8 37) (Fired (17 ∷ []))
      ∷ occ 5 (Some 2) BoolTy (at 9 36) (Fired (23 ∷ []))
      ∷ [];
  sites =
      site 0 11 (at 6 15)
      ∷ site 3 20 (at 8 37)
      ∷ site 5 25 (at 9 36)
      ∷ [];
  choices =
      record { block = 0; conds = 28 ∷ []; other = false }
      ∷ [];
  automata =
      record { block = 0; states = (record { strong = false; reset = true; cond = 29; target = 1 } ∷ []) ∷ (record { strong = false; reset = true; cond = 30; target = 0 } ∷ []) ∷ [] }
      ∷ [];
  again = [];
  ins = 0 ∷ [];
  outs = 1 ∷ 2 ∷ [];
}

abbrev pub grades : List ℕ
grades = 1 ∷ 0 ∷ 1 ∷ 0 ∷ 1 ∷ 0 ∷ 3 ∷ 3 ∷ 3 ∷ 0 ∷ 0 ∷ 1 ∷ 1 ∷ 3 ∷ 3 ∷ 3 ∷ 0 ∷ 3 ∷ 0 ∷ 0 ∷ 1 ∷ 1 ∷ 0 ∷ 3 ∷ 1 ∷ 1 ∷ 0 ∷ 0 ∷ 3 ∷ 3 ∷ 3 ∷ []

abbrev pub names : List (List ℕ)
names = codes "gain" ∷ codes "temp" ∷ codes "starts" ∷ []

abbrev pub script : Script
script = record { horizon = whole (pos 5); steps = 1000000; lines = record { time = whole (pos 0); sets = (record { input = 0; value = F (whole (pos 2)) } ∷ []) } ∷ record { time = whole (pos 4); sets = (record { input = 0; value = F (whole (pos 1)) } ∷ []) } ∷ [] }

abbrev pub text : List ℕ
text =
    codes "0 #0 temp=20 starts=0\n"
    ++ codes "2 - temp=19 starts=0\n"
    ++ codes "2 #0 temp=19 starts=1\n"
    ++ codes "2 #1 temp=19 starts=1\n"
    ++ codes "3 - temp=21 starts=1\n"
    ++ codes "3 #0 temp=21 starts=1\n"
    ++ codes "3 #1 temp=21 starts=1\n"
    ++ codes "4 - temp=41/2 starts=1\n"
    ++ codes "4 #0 temp=41/2 starts=1\n"
    ++ codes "5 - temp=20 starts=1\n"
    ++ codes "end horizon\n"

abbrev pub RoomRuns : Type 0
RoomRuns = HasTrace form grades names script text
