-- An `else` body, and `last` of a variable inside a handler.
--     let node updown(b) = n where rec init n = 0 and present (b) -> do n = last n + 1 done else do n = last n - 1 done
--     let hybrid main() = m where rec
--       der t = 1.0 init 0.0 reset up(t -. 1.0) -> 0.0
--       and init m = 0 and present up(t -. 1.0) -> do m = updown(last m < 2) done
use Rattle.std.specs.Prelude.{◌∷◌, [], ◌++◌, ℕ, true, false, List, pos, codes, Some, None}
use Rattle.zl_value.specs.Fraction.{whole}
use Rattle.zl_value.specs.declared.value.Value.TheVariants.{I, F}
use Rattle.zl_value.specs.declared.value.Ty.TheVariants.{Bool as BoolTy, Int, Float, Zero}
use Rattle.zl_value.specs.declared.op.Op.TheVariants.{AddInt, LtInt, SubFloat, SubInt}
use Rattle.zl_value.specs.declared.script.Script.{Script}
use Rattle.zl_meaning.specs.FlatForm.{FlatForm}
use Rattle.zl_meaning.specs.Worked.{at, block, place, occ, site, reset_arm, HasTrace}
use Rattle.zl_meaning.specs.declared.block.BlockKind.TheVariants.{Main, Arm}
use Rattle.zl_meaning.specs.declared.place.Definer.TheVariants.{Plain, Der, Start}
use Rattle.zl_meaning.specs.declared.occurrence.Form.TheVariants.{Lit, Read, Last, Op as Apply, Result, Up, Fired}

abbrev pub form : FlatForm
form = record {
  blocks =
      block None Main true
      ∷ block (Some 0) (Arm 0 0) false
      ∷ block (Some 1) (Arm 1 0) false
      ∷ block (Some 1) (Arm 1 1) false
      ∷ [];
  places =
      place 0 None Float 0 (at 3 7) (Der 0 1 (reset_arm 26 7 ∷ []) ∷ Start 0 2 ∷ [])
      ∷ place 0 None Int 1 (at 4 12) (Start 0 8 ∷ Plain 1 13 ∷ [])
      ∷ place 1 (Some 13) BoolTy 2 (at 1 17) (Plain 1 15 ∷ [])
      ∷ place 1 (Some 13) Int 3 (at 1 39) (Start 1 18 ∷ Plain 2 21 ∷ Plain 3 24 ∷ [])
      ∷ [];
  occs =
      occ 0 None Int (at 2 21) (Read 1)
      ∷ occ 0 None Float (at 3 11) (Lit (F (whole (pos 1))))
      ∷ occ 0 None Float (at 3 20) (Lit (F (whole (pos 0))))
      ∷ occ 0 None Zero (at 3 30) (Up 0)
      ∷ occ 0 None Float (at 3 33) (Read 0)
      ∷ occ 0 None Float (at 3 35) (Apply SubFloat (4 ∷ 6 ∷ []))
      ∷ occ 0 None Float (at 3 38) (Lit (F (whole (pos 1))))
      ∷ occ 0 None Float (at 3 46) (Lit (F (whole (pos 0))))
      ∷ occ 0 None Int (at 4 16) (Lit (I (pos 0)))
      ∷ occ 0 None Zero (at 4 30) (Up 1)
      ∷ occ 0 None Float (at 4 33) (Read 0)
      ∷ occ 0 None Float (at 4 35) (Apply SubFloat (10 ∷ 12 ∷ []))
      ∷ occ 0 None Float (at 4 38) (Lit (F (whole (pos 1))))
      ∷ occ 1 None Int (at 4 53) (Result 17)
      ∷ occ 1 (Some 13) Int (at 4 60) (Last 1)
      ∷ occ 1 (Some 13) BoolTy (at 4 67) (Apply LtInt (14 ∷ 16 ∷ []))
      ∷ occ 1 (Some 13) Int (at 4 69) (Lit (I (pos 2)))
      ∷ occ 1 (Some 13) Int (at 1 22) (Read 3)
      ∷ occ 1 (Some 13) Int (at 1 43) (Lit (I (pos 0)))
      ∷ occ 1 (Some 13) BoolTy (at 1 58) (Read 2)
      ∷ occ 2 (Some 13) Int (at 1 71) (Last 3)
      ∷ occ 2 (Some 13) Int (at 1 78) (Apply AddInt (20 ∷ 22 ∷ []))
      ∷ occ 2 (Some 13) Int (at 1 80) (Lit (I (pos 1)))
      ∷ occ 3 (Some 13) Int (at 1 99) (Last 3)
      ∷ occ 3 (Some 13) Int (at 1 106) (Apply SubInt (23 ∷ 25 ∷ []))
      ∷ occ 3 (Some 13) Int (at 1 108) (Lit (I (pos 1)))
      ∷ occ 0 None BoolTy (at 3 30) (Fired (3 ∷ []))
      ∷ occ 0 None BoolTy (at 4 30) (Fired (9 ∷ []))
      ∷ [];
  sites =
      site 0 5 (at 3 30)
      ∷ site 0 11 (at 4 30)
      ∷ [];
  choices =
      record { block = 0; conds = 27 ∷ []; other = false }
      ∷ record { block = 1; conds = 19 ∷ []; other = true }
      ∷ [];
  automata = [];
  again = [];
  ins = [];
  outs = 1 ∷ [];
}

abbrev pub grades : List ℕ
grades = 0 ∷ 0 ∷ 3 ∷ 3 ∷ 1 ∷ 1 ∷ 0 ∷ 3 ∷ 3 ∷ 3 ∷ 1 ∷ 1 ∷ 0 ∷ 3 ∷ 3 ∷ 3 ∷ 3 ∷ 3 ∷ 3 ∷ 3 ∷ 3 ∷ 3 ∷ 3 ∷ 3 ∷ 3 ∷ 3 ∷ 3 ∷ 3 ∷ []

abbrev pub names : List (List ℕ)
names = codes "t" ∷ codes "m" ∷ codes "b" ∷ codes "n" ∷ []

abbrev pub script : Script
script = record { horizon = whole (pos 4); steps = 1000000; lines = [] }

abbrev pub text : List ℕ
text =
    codes "0 #0 m=0\n"
    ++ codes "1 - m=0\n"
    ++ codes "1 #0 m=1\n"
    ++ codes "2 - m=1\n"
    ++ codes "2 #0 m=2\n"
    ++ codes "3 - m=2\n"
    ++ codes "3 #0 m=1\n"
    ++ codes "4 - m=1\n"
    ++ codes "4 #0 m=2\n"
    ++ codes "end horizon\n"

abbrev pub OtherwiseRuns : Type 0
OtherwiseRuns = HasTrace form grades names script text
