-- A weak transition by `then` resets the guard of its target too.
--     let hybrid main() = (x, y) where rec
--       der t = 1.0 init 0.0 and init y = -1.0 and init x = 0
--       and present up(t -. 1.0) -> do y = 1.0 done
--       and automaton | A -> do until up(t -. 1.0) then A unless up(y) then B | B -> do x = 7 done
use Rattle.std.specs.Prelude.{◌∷◌, [], ◌++◌, ℕ, true, false, List, pos, negsuc, codes, Some, None}
use Rattle.zl_value.specs.Fraction.{whole}
use Rattle.zl_value.specs.declared.value.Value.TheVariants.{B, I, F}
use Rattle.zl_value.specs.declared.value.Ty.TheVariants.{Bool as BoolTy, Int, Float, Zero}
use Rattle.zl_value.specs.declared.op.Op.TheVariants.{SubFloat}
use Rattle.zl_value.specs.declared.script.Script.{Script}
use Rattle.zl_meaning.specs.FlatForm.{FlatForm}
use Rattle.zl_meaning.specs.Worked.{at, block, place, occ, site, HasTrace}
use Rattle.zl_meaning.specs.declared.block.BlockKind.TheVariants.{Main, Arm, Guard, State as Body}
use Rattle.zl_meaning.specs.declared.place.Definer.TheVariants.{Plain, Der, Start}
use Rattle.zl_meaning.specs.declared.occurrence.Form.TheVariants.{Lit, Read, Op as Apply, Up, Fired}

abbrev pub form : FlatForm
form = record {
  blocks =
      block None Main true
      ∷ block (Some 0) (Arm 0 0) false
      ∷ block (Some 0) (Guard 0 0) true
      ∷ block (Some 0) (Body 0 0) true
      ∷ block (Some 0) (Guard 0 1) true
      ∷ block (Some 0) (Body 0 1) true
      ∷ [];
  places =
      place 0 None Float 3 (at 2 7) (Der 0 2 [] ∷ Start 0 3 ∷ [])
      ∷ place 0 None Float 2 (at 2 33) (Start 0 4 ∷ Plain 1 10 ∷ [])
      ∷ place 0 None Int 1 (at 2 51) (Start 0 5 ∷ Plain 5 17 ∷ [])
      ∷ [];
  occs =
      occ 0 None Int (at 1 22) (Read 2)
      ∷ occ 0 None Float (at 1 25) (Read 1)
      ∷ occ 0 None Float (at 2 11) (Lit (F (whole (pos 1))))
      ∷ occ 0 None Float (at 2 20) (Lit (F (whole (pos 0))))
      ∷ occ 0 None Float (at 2 37) (Lit (F (whole (negsuc 0))))
      ∷ occ 0 None Int (at 2 55) (Lit (I (pos 0)))
      ∷ occ 0 None Zero (at 3 15) (Up 0)
      ∷ occ 0 None Float (at 3 18) (Read 0)
      ∷ occ 0 None Float (at 3 20) (Apply SubFloat (7 ∷ 9 ∷ []))
      ∷ occ 0 None Float (at 3 23) (Lit (F (whole (pos 1))))
      ∷ occ 1 None Float (at 3 38) (Lit (F (whole (pos 1))))
      ∷ occ 3 None Zero (at 4 33) (Up 1)
      ∷ occ 3 None Float (at 4 36) (Read 0)
      ∷ occ 3 None Float (at 4 38) (Apply SubFloat (12 ∷ 14 ∷ []))
      ∷ occ 3 None Float (at 4 41) (Lit (F (whole (pos 1))))
      ∷ occ 2 None Zero (at 4 60) (Up 2)
      ∷ occ 2 None Float (at 4 63) (Read 1)
      ∷ occ 5 None Int (at 4 87) (Lit (I (pos 7)))
      ∷ occ 0 None BoolTy (at 3 15) (Fired (6 ∷ []))
      ∷ occ 3 None BoolTy (at 4 33) (Fired (11 ∷ []))
      ∷ occ 2 None BoolTy (at 4 60) (Fired (15 ∷ []))
      ∷ [];
  sites =
      site 0 8 (at 3 15)
      ∷ site 3 13 (at 4 33)
      ∷ site 2 16 (at 4 60)
      ∷ [];
  choices =
      record { block = 0; conds = 18 ∷ []; other = false }
      ∷ [];
  automata =
      record { block = 0; states = (record { strong = false; reset = true; cond = 19; target = 0 } ∷ record { strong = true; reset = true; cond = 20; target = 1 } ∷ []) ∷ [] ∷ [] }
      ∷ [];
  again = [];
  ins = [];
  outs = 2 ∷ 1 ∷ [];
}

abbrev pub grades : List ℕ
grades = 0 ∷ 0 ∷ 0 ∷ 3 ∷ 3 ∷ 3 ∷ 3 ∷ 1 ∷ 1 ∷ 0 ∷ 3 ∷ 3 ∷ 1 ∷ 1 ∷ 0 ∷ 3 ∷ 0 ∷ 0 ∷ 3 ∷ 3 ∷ 3 ∷ []

abbrev pub names : List (List ℕ)
names = codes "main" ∷ codes "x" ∷ codes "y" ∷ codes "t" ∷ codes "A" ∷ codes "B" ∷ []

abbrev pub script : Script
script = record { horizon = whole (pos 2); steps = 1000000; lines = [] }

abbrev pub text : List ℕ
text =
    codes "0 #0 x=0 y=-1\n"
    ++ codes "1 - x=0 y=-1\n"
    ++ codes "1 #0 x=0 y=1\n"
    ++ codes "1 #1 x=0 y=1\n"
    ++ codes "2 - x=0 y=1\n"
    ++ codes "end horizon\n"

abbrev pub GuardResetByAWeakThenRuns : Type 0
GuardResetByAWeakThenRuns = HasTrace form grades names script text
