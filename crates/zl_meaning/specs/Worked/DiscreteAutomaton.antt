-- An automaton in discrete context moves once at each of its activations, and demands no step.
--     let node f(a) = y where rec automaton | A -> do y = 1 until (a > 0) then B
--       | B -> do y = 2 until (a > 0) continue A end
--     let hybrid main() = y where rec der t = 1.0 init 0.0 reset up(t -. 1.0) -> 0.0 and init y = 0
--       and present up(t -. 0.5) -> do y = f(1) done
use Rattle.std.specs.Prelude.{◌∷◌, [], ◌++◌, ℕ, true, false, List, pos, codes, Some, None}
use Rattle.zl_value.specs.Fraction.{whole, over}
use Rattle.zl_value.specs.declared.value.Value.TheVariants.{B, I, F}
use Rattle.zl_value.specs.declared.value.Ty.TheVariants.{Bool as BoolTy, Int, Float, Zero}
use Rattle.zl_value.specs.declared.op.Op.TheVariants.{GtInt, SubFloat}
use Rattle.zl_value.specs.declared.script.Script.{Script}
use Rattle.zl_meaning.specs.FlatForm.{FlatForm}
use Rattle.zl_meaning.specs.Worked.{at, block, place, occ, site, reset_arm, HasTrace}
use Rattle.zl_meaning.specs.declared.block.BlockKind.TheVariants.{Main, Arm, Guard, State as Body}
use Rattle.zl_meaning.specs.declared.place.Definer.TheVariants.{Plain, Der, Start}
use Rattle.zl_meaning.specs.declared.occurrence.Form.TheVariants.{Lit, Read, Op as Apply, Result, Up, Fired}

abbrev pub form : FlatForm
form = record {
  blocks =
      block None Main true
      ∷ block (Some 0) (Arm 0 0) false
      ∷ block (Some 1) (Guard 0 0) false
      ∷ block (Some 1) (Body 0 0) false
      ∷ block (Some 1) (Guard 0 1) false
      ∷ block (Some 1) (Body 0 1) false
      ∷ [];
  places =
      place 0 None Float 6 (at 2 37) (Der 0 1 (reset_arm 24 7 ∷ []) ∷ Start 0 2 ∷ [])
      ∷ place 0 None Int 2 (at 2 89) (Start 0 8 ∷ Plain 1 13 ∷ [])
      ∷ place 1 (Some 13) Int 1 (at 1 12) (Plain 1 14 ∷ [])
      ∷ place 1 (Some 13) Int 2 (at 1 49) (Plain 3 16 ∷ Plain 5 20 ∷ [])
      ∷ [];
  occs =
      occ 0 None Int (at 2 21) (Read 1)
      ∷ occ 0 None Float (at 2 41) (Lit (F (whole (pos 1))))
      ∷ occ 0 None Float (at 2 50) (Lit (F (whole (pos 0))))
      ∷ occ 0 None Zero (at 2 60) (Up 0)
      ∷ occ 0 None Float (at 2 63) (Read 0)
      ∷ occ 0 None Float (at 2 65) (Apply SubFloat (4 ∷ 6 ∷ []))
      ∷ occ 0 None Float (at 2 68) (Lit (F (whole (pos 1))))
      ∷ occ 0 None Float (at 2 76) (Lit (F (whole (pos 0))))
      ∷ occ 0 None Int (at 2 93) (Lit (I (pos 0)))
      ∷ occ 0 None Zero (at 2 107) (Up 1)
      ∷ occ 0 None Float (at 2 110) (Read 0)
      ∷ occ 0 None Float (at 2 112) (Apply SubFloat (10 ∷ 12 ∷ []))
      ∷ occ 0 None Float (at 2 115) (Lit (F (over (pos 1) 2)))
      ∷ occ 1 None Int (at 2 130) (Result 15)
      ∷ occ 1 (Some 13) Int (at 2 132) (Lit (I (pos 1)))
      ∷ occ 1 (Some 13) Int (at 1 17) (Read 3)
      ∷ occ 3 (Some 13) Int (at 1 53) (Lit (I (pos 1)))
      ∷ occ 3 (Some 13) Int (at 1 62) (Read 2)
      ∷ occ 3 (Some 13) BoolTy (at 1 64) (Apply GtInt (17 ∷ 19 ∷ []))
      ∷ occ 3 (Some 13) Int (at 1 66) (Lit (I (pos 0)))
      ∷ occ 5 (Some 13) Int (at 1 90) (Lit (I (pos 2)))
      ∷ occ 5 (Some 13) Int (at 1 99) (Read 2)
      ∷ occ 5 (Some 13) BoolTy (at 1 101) (Apply GtInt (21 ∷ 23 ∷ []))
      ∷ occ 5 (Some 13) Int (at 1 103) (Lit (I (pos 0)))
      ∷ occ 0 None BoolTy (at 2 60) (Fired (3 ∷ []))
      ∷ occ 0 None BoolTy (at 2 107) (Fired (9 ∷ []))
      ∷ [];
  sites =
      site 0 5 (at 2 60)
      ∷ site 0 11 (at 2 107)
      ∷ [];
  choices =
      record { block = 0; conds = 25 ∷ []; other = false }
      ∷ [];
  automata =
      record { block = 1; states = (record { strong = false; reset = true; cond = 18; target = 1 } ∷ []) ∷ (record { strong = false; reset = false; cond = 22; target = 0 } ∷ []) ∷ [] }
      ∷ [];
  again = [];
  ins = [];
  outs = 1 ∷ [];
}

abbrev pub grades : List ℕ
grades = 0 ∷ 0 ∷ 3 ∷ 3 ∷ 1 ∷ 1 ∷ 0 ∷ 3 ∷ 3 ∷ 3 ∷ 1 ∷ 1 ∷ 0 ∷ 3 ∷ 3 ∷ 3 ∷ 3 ∷ 3 ∷ 3 ∷ 3 ∷ 3 ∷ 3 ∷ 3 ∷ 3 ∷ 3 ∷ 3 ∷ []

abbrev pub names : List (List ℕ)
names = codes "f" ∷ codes "a" ∷ codes "y" ∷ codes "A" ∷ codes "B" ∷ codes "main" ∷ codes "t" ∷ []

abbrev pub script : Script
script = record { horizon = whole (pos 2); steps = 1000000; lines = [] }

abbrev pub text : List ℕ
text =
    codes "0 #0 y=0\n"
    ++ codes "1/2 - y=0\n"
    ++ codes "1/2 #0 y=1\n"
    ++ codes "1 - y=1\n"
    ++ codes "1 #0 y=1\n"
    ++ codes "3/2 - y=1\n"
    ++ codes "3/2 #0 y=2\n"
    ++ codes "2 - y=2\n"
    ++ codes "2 #0 y=2\n"
    ++ codes "end horizon\n"

abbrev pub DiscreteAutomatonRuns : Type 0
DiscreteAutomatonRuns = HasTrace form grades names script text
