-- A reset makes its body fresh, and what is inside it.
--     let node count() = n where rec n = 1 fby (n + 1)
--     let hybrid main() = n where rec
--       der t = 1.0 init 0.0 reset up(t -. 1.0) -> 0.0
--       and init n = 0
--       and reset present up(t -. 0.5) -> do n = count() done every up(t -. 1.0)
use Rattle.std.specs.Prelude.{◌∷◌, [], ◌++◌, ℕ, true, false, List, pos, codes, Some, None}
use Rattle.zl_value.specs.Fraction.{whole, over}
use Rattle.zl_value.specs.declared.value.Value.TheVariants.{I, F}
use Rattle.zl_value.specs.declared.value.Ty.TheVariants.{Bool as BoolTy, Int, Float, Zero}
use Rattle.zl_value.specs.declared.op.Op.TheVariants.{AddInt, SubFloat}
use Rattle.zl_value.specs.declared.script.Script.{Script}
use Rattle.zl_meaning.specs.FlatForm.{FlatForm}
use Rattle.zl_meaning.specs.Worked.{at, block, place, occ, site, reset_arm, HasTrace}
use Rattle.zl_meaning.specs.declared.block.BlockKind.TheVariants.{Main, Arm, Reset}
use Rattle.zl_meaning.specs.declared.place.Definer.TheVariants.{Plain, Der, Start}
use Rattle.zl_meaning.specs.declared.occurrence.Form.TheVariants.{Lit, Read, Op as Apply, Arrow, Pre, Result, Up, Fired}

abbrev pub form : FlatForm
form = record {
  blocks =
      block None Main true
      ∷ block (Some 0) (Reset 27) true
      ∷ block (Some 1) (Arm 0 0) false
      ∷ [];
  places =
      place 0 None Float 3 (at 3 7) (Der 0 1 (reset_arm 24 7 ∷ []) ∷ Start 0 2 ∷ [])
      ∷ place 0 None Int 1 (at 4 12) (Start 0 8 ∷ Plain 2 13 ∷ [])
      ∷ place 2 (Some 13) Int 1 (at 1 32) (Plain 2 16 ∷ [])
      ∷ [];
  occs =
      occ 0 None Int (at 2 21) (Read 1)
      ∷ occ 0 None Float (at 3 11) (Lit (F (whole (pos 1))))
      ∷ occ 0 None Float (at 3 20) (Lit (F (whole (pos 0))))
      ∷ occ 0 None Zero (at 3 30) (Up 0)
      ∷ occ 0 None Float (at 3 33) (Read 0)
      ∷ occ 0 None Float (at 3 35) (Apply SubFloat (4 ∷ 6 ∷ []))
      ∷ occ 0 None Float (at 3 38) (Lit (F (whole (pos 1))))
      ∷ occ 0 None Float (at 3 46) (Lit (F (whole (pos 0))))
      ∷ occ 0 None Int (at 4 16) (Lit (I (pos 0)))
      ∷ occ 1 None Zero (at 5 21) (Up 1)
      ∷ occ 1 None Float (at 5 24) (Read 0)
      ∷ occ 1 None Float (at 5 26) (Apply SubFloat (10 ∷ 12 ∷ []))
      ∷ occ 1 None Float (at 5 29) (Lit (F (over (pos 1) 2)))
      ∷ occ 2 None Int (at 5 44) (Result 14)
      ∷ occ 2 (Some 13) Int (at 1 20) (Read 2)
      ∷ occ 2 (Some 13) Int (at 1 36) (Lit (I (pos 1)))
      ∷ occ 2 (Some 13) Int (at 1 38) (Arrow 15 26)
      ∷ occ 2 (Some 13) Int (at 1 43) (Read 2)
      ∷ occ 2 (Some 13) Int (at 1 45) (Apply AddInt (17 ∷ 19 ∷ []))
      ∷ occ 2 (Some 13) Int (at 1 47) (Lit (I (pos 1)))
      ∷ occ 0 None Zero (at 5 63) (Up 2)
      ∷ occ 0 None Float (at 5 66) (Read 0)
      ∷ occ 0 None Float (at 5 68) (Apply SubFloat (21 ∷ 23 ∷ []))
      ∷ occ 0 None Float (at 5 71) (Lit (F (whole (pos 1))))
      ∷ occ 0 None BoolTy (at 3 30) (Fired (3 ∷ []))
      ∷ occ 1 None BoolTy (at 5 21) (Fired (9 ∷ []))
      ∷ occ 2 (Some 13) Int (at 1 38) (Pre 18)
      ∷ occ 0 None BoolTy (at 5 63) (Fired (20 ∷ []))
      ∷ [];
  sites =
      site 0 5 (at 3 30)
      ∷ site 1 11 (at 5 21)
      ∷ site 0 22 (at 5 63)
      ∷ [];
  choices =
      record { block = 1; conds = 25 ∷ []; other = false }
      ∷ [];
  automata = [];
  again = [];
  ins = [];
  outs = 1 ∷ [];
}

abbrev pub grades : List ℕ
grades = 0 ∷ 0 ∷ 3 ∷ 3 ∷ 1 ∷ 1 ∷ 0 ∷ 3 ∷ 3 ∷ 3 ∷ 1 ∷ 1 ∷ 0 ∷ 3 ∷ 3 ∷ 3 ∷ 3 ∷ 3 ∷ 3 ∷ 3 ∷ 3 ∷ 1 ∷ 1 ∷ 0 ∷ 3 ∷ 3 ∷ 3 ∷ 3 ∷ []

abbrev pub names : List (List ℕ)
names = codes "count" ∷ codes "n" ∷ codes "main" ∷ codes "t" ∷ []

abbrev pub script : Script
script = record { horizon = over (pos 3) 2; steps = 1000000; lines = [] }

abbrev pub text : List ℕ
text =
    codes "0 #0 n=0\n"
    ++ codes "1/2 - n=0\n"
    ++ codes "1/2 #0 n=1\n"
    ++ codes "1 - n=1\n"
    ++ codes "1 #0 n=1\n"
    ++ codes "3/2 - n=1\n"
    ++ codes "3/2 #0 n=1\n"
    ++ codes "end horizon\n"

abbrev pub ResetBlockRuns : Type 0
ResetBlockRuns = HasTrace form grades names script text
