-- After a strong transition by `then` the guard forgets what it saw.
--     let hybrid main() = (x, y) where rec
--       der t = 1.0 init 0.0 and init y = 1.0
--       and present up(t -. 1.0) -> do y = -1.0 done | up(-. y -. 0.5) -> do y = 1.0 done end
--       and automaton | A -> do der x = 1.0 init 0.0 unless up(t -. 1.0) | up(y) then A
use Rattle.std.specs.Prelude.{◌∷◌, [], ◌++◌, ℕ, true, false, List, pos, negsuc, codes, Some, None}
use Rattle.zl_value.specs.Fraction.{whole, over}
use Rattle.zl_value.specs.declared.value.Value.TheVariants.{F}
use Rattle.zl_value.specs.declared.value.Ty.TheVariants.{Bool as BoolTy, Float, Zero}
use Rattle.zl_value.specs.declared.op.Op.TheVariants.{NegFloat, SubFloat}
use Rattle.zl_value.specs.declared.script.Script.{Script}
use Rattle.zl_meaning.specs.FlatForm.{FlatForm}
use Rattle.zl_meaning.specs.Worked.{at, block, place, occ, site, HasTrace}
use Rattle.zl_meaning.specs.declared.block.BlockKind.TheVariants.{Main, Arm, Guard, State as Body}
use Rattle.zl_meaning.specs.declared.place.Definer.TheVariants.{Plain, Der, Start}
use Rattle.zl_meaning.specs.declared.occurrence.Form.TheVariants.{Lit, Read, Op as Apply, Up, Fired}

abbrev pub form : FlatForm
form = record {
  blocks =
      block None Main true
      ∷ block (Some 0) (Arm 0 0) false
      ∷ block (Some 0) (Arm 0 1) false
      ∷ block (Some 0) (Guard 0 0) true
      ∷ block (Some 0) (Body 0 0) true
      ∷ [];
  places =
      place 0 None Float 0 (at 2 7) (Der 0 2 [] ∷ Start 0 3 ∷ [])
      ∷ place 0 None Float 1 (at 2 33) (Start 0 4 ∷ Plain 1 9 ∷ Plain 2 15 ∷ [])
      ∷ place 0 None Float 2 (at 4 31) (Der 4 16 [] ∷ Start 4 17 ∷ [])
      ∷ [];
  occs =
      occ 0 None Float (at 1 22) (Read 2)
      ∷ occ 0 None Float (at 1 25) (Read 1)
      ∷ occ 0 None Float (at 2 11) (Lit (F (whole (pos 1))))
      ∷ occ 0 None Float (at 2 20) (Lit (F (whole (pos 0))))
      ∷ occ 0 None Float (at 2 37) (Lit (F (whole (pos 1))))
      ∷ occ 0 None Zero (at 3 15) (Up 0)
      ∷ occ 0 None Float (at 3 18) (Read 0)
      ∷ occ 0 None Float (at 3 20) (Apply SubFloat (6 ∷ 8 ∷ []))
      ∷ occ 0 None Float (at 3 23) (Lit (F (whole (pos 1))))
      ∷ occ 1 None Float (at 3 38) (Lit (F (whole (negsuc 0))))
      ∷ occ 0 None Zero (at 3 50) (Up 1)
      ∷ occ 0 None Float (at 3 53) (Apply NegFloat (12 ∷ []))
      ∷ occ 0 None Float (at 3 56) (Read 1)
      ∷ occ 0 None Float (at 3 58) (Apply SubFloat (11 ∷ 14 ∷ []))
      ∷ occ 0 None Float (at 3 61) (Lit (F (over (pos 1) 2)))
      ∷ occ 2 None Float (at 3 76) (Lit (F (whole (pos 1))))
      ∷ occ 4 None Float (at 4 35) (Lit (F (whole (pos 1))))
      ∷ occ 4 None Float (at 4 44) (Lit (F (whole (pos 0))))
      ∷ occ 3 None Zero (at 4 55) (Up 2)
      ∷ occ 3 None Float (at 4 58) (Read 0)
      ∷ occ 3 None Float (at 4 60) (Apply SubFloat (19 ∷ 21 ∷ []))
      ∷ occ 3 None Float (at 4 63) (Lit (F (whole (pos 1))))
      ∷ occ 3 None Zero (at 4 70) (Up 3)
      ∷ occ 3 None Float (at 4 73) (Read 1)
      ∷ occ 0 None BoolTy (at 3 15) (Fired (5 ∷ []))
      ∷ occ 0 None BoolTy (at 3 50) (Fired (10 ∷ []))
      ∷ occ 3 None BoolTy (at 4 55) (Fired (18 ∷ 22 ∷ []))
      ∷ [];
  sites =
      site 0 7 (at 3 15)
      ∷ site 0 13 (at 3 50)
      ∷ site 3 20 (at 4 55)
      ∷ site 3 23 (at 4 70)
      ∷ [];
  choices =
      record { block = 0; conds = 24 ∷ 25 ∷ []; other = false }
      ∷ [];
  automata =
      record { block = 0; states = (record { strong = true; reset = true; cond = 26; target = 0 } ∷ []) ∷ [] }
      ∷ [];
  again = [];
  ins = [];
  outs = 2 ∷ 1 ∷ [];
}

abbrev pub grades : List ℕ
grades = 1 ∷ 0 ∷ 0 ∷ 3 ∷ 3 ∷ 3 ∷ 1 ∷ 1 ∷ 0 ∷ 3 ∷ 3 ∷ 0 ∷ 0 ∷ 0 ∷ 0 ∷ 3 ∷ 0 ∷ 3 ∷ 3 ∷ 1 ∷ 1 ∷ 0 ∷ 3 ∷ 0 ∷ 3 ∷ 3 ∷ 3 ∷ []

abbrev pub names : List (List ℕ)
names = codes "t" ∷ codes "y" ∷ codes "x" ∷ []

abbrev pub script : Script
script = record { horizon = whole (pos 2); steps = 1000000; lines = [] }

abbrev pub text : List ℕ
text =
    codes "0 #0 x=0 y=1\n"
    ++ codes "1 - x=1 y=1\n"
    ++ codes "1 #0 x=0 y=-1\n"
    ++ codes "1 #1 x=0 y=1\n"
    ++ codes "2 - x=1 y=1\n"
    ++ codes "end horizon\n"

abbrev pub GuardAfterAStrongTransitionRuns : Type 0
GuardAfterAStrongTransitionRuns = HasTrace form grades names script text
