-- A state that is entered by `continue` goes on where it was.
--     let hybrid main() = n where rec
--       der t = 1.0 init 0.0 reset up(t -. 1.0) -> 0.0
--       and init n = 0
--       and automaton
--       | A -> do present up(t -. 0.5) -> do n = 1 fby (n + 1) done until up(t -. 1.0) then B
--       | B -> do until up(t -. 1.0) continue A
use Rattle.std.specs.Prelude.{◌∷◌, [], ◌++◌, ℕ, true, false, List, pos, codes, Some, None}
use Rattle.zl_value.specs.Fraction.{whole, over}
use Rattle.zl_value.specs.declared.value.Value.TheVariants.{I, F}
use Rattle.zl_value.specs.declared.value.Ty.TheVariants.{Bool as BoolTy, Int, Float, Zero}
use Rattle.zl_value.specs.declared.op.Op.TheVariants.{AddInt, SubFloat}
use Rattle.zl_value.specs.declared.script.Script.{Script}
use Rattle.zl_meaning.specs.FlatForm.{FlatForm}
use Rattle.zl_meaning.specs.Worked.{at, block, place, occ, site, reset_arm, HasTrace}
use Rattle.zl_meaning.specs.declared.block.BlockKind.TheVariants.{Main, Arm, Guard, State as Body}
use Rattle.zl_meaning.specs.declared.place.Definer.TheVariants.{Plain, Der, Start}
use Rattle.zl_meaning.specs.declared.occurrence.Form.TheVariants.{Lit, Read, Op as Apply, Arrow, Pre, Up, Fired}

abbrev pub form : FlatForm
form = record {
  blocks =
      block None Main true
      ∷ block (Some 0) (Guard 0 0) true
      ∷ block (Some 0) (Body 0 0) true
      ∷ block (Some 2) (Arm 0 0) false
      ∷ block (Some 0) (Guard 0 1) true
      ∷ block (Some 0) (Body 0 1) true
      ∷ [];
  places =
      place 0 None Float 0 (at 2 7) (Der 0 1 (reset_arm 26 7 ∷ []) ∷ Start 0 2 ∷ [])
      ∷ place 0 None Int 1 (at 3 12) (Start 0 8 ∷ Plain 3 14 ∷ [])
      ∷ [];
  occs =
      occ 0 None Int (at 1 21) (Read 1)
      ∷ occ 0 None Float (at 2 11) (Lit (F (whole (pos 1))))
      ∷ occ 0 None Float (at 2 20) (Lit (F (whole (pos 0))))
      ∷ occ 0 None Zero (at 2 30) (Up 0)
      ∷ occ 0 None Float (at 2 33) (Read 0)
      ∷ occ 0 None Float (at 2 35) (Apply SubFloat (4 ∷ 6 ∷ []))
      ∷ occ 0 None Float (at 2 38) (Lit (F (whole (pos 1))))
      ∷ occ 0 None Float (at 2 46) (Lit (F (whole (pos 0))))
      ∷ occ 0 None Int (at 3 16) (Lit (I (pos 0)))
      ∷ occ 2 None Zero (at 5 21) (Up 1)
      ∷ occ 2 None Float (at 5 24) (Read 0)
      ∷ occ 2 None Float (at 5 26) (Apply SubFloat (10 ∷ 12 ∷ []))
      ∷ occ 2 None Float (at 5 29) (Lit (F (over (pos 1) 2)))
      ∷ occ 3 None Int (at 5 44) (Lit (I (pos 1)))
      ∷ occ 3 None Int (at 5 46) (Arrow 13 28)
      ∷ occ 3 None Int (at 5 51) (Read 1)
      ∷ occ 3 None Int (at 5 53) (Apply AddInt (15 ∷ 17 ∷ []))
      ∷ occ 3 None Int (at 5 55) (Lit (I (pos 1)))
      ∷ occ 2 None Zero (at 5 69) (Up 2)
      ∷ occ 2 None Float (at 5 72) (Read 0)
      ∷ occ 2 None Float (at 5 74) (Apply SubFloat (19 ∷ 21 ∷ []))
      ∷ occ 2 None Float (at 5 77) (Lit (F (whole (pos 1))))
      ∷ occ 5 None Zero (at 6 19) (Up 3)
      ∷ occ 5 None Float (at 6 22) (Read 0)
      ∷ occ 5 None Float (at 6 24) (Apply SubFloat (23 ∷ 25 ∷ []))
      ∷ occ 5 None Float (at 6 27) (Lit (F (whole (pos 1))))
      ∷ occ 0 None BoolTy (at 2 30) (Fired (3 ∷ []))
      ∷ occ 2 None BoolTy (at 5 21) (Fired (9 ∷ []))
      ∷ occ 3 None Int (at 5 46) (Pre 16)
      ∷ occ 2 None BoolTy (at 5 69) (Fired (18 ∷ []))
      ∷ occ 5 None BoolTy (at 6 19) (Fired (22 ∷ []))
      ∷ [];
  sites =
      site 0 5 (at 2 30)
      ∷ site 2 11 (at 5 21)
      ∷ site 2 20 (at 5 69)
      ∷ site 5 24 (at 6 19)
      ∷ [];
  choices =
      record { block = 2; conds = 27 ∷ []; other = false }
      ∷ [];
  automata =
      record { block = 0; states = (record { strong = false; reset = true; cond = 29; target = 1 } ∷ []) ∷ (record { strong = false; reset = false; cond = 30; target = 0 } ∷ []) ∷ [] }
      ∷ [];
  again = [];
  ins = [];
  outs = 1 ∷ [];
}

abbrev pub grades : List ℕ
grades = 0 ∷ 0 ∷ 3 ∷ 3 ∷ 1 ∷ 1 ∷ 0 ∷ 3 ∷ 3 ∷ 3 ∷ 1 ∷ 1 ∷ 0 ∷ 3 ∷ 3 ∷ 3 ∷ 3 ∷ 3 ∷ 3 ∷ 1 ∷ 1 ∷ 0 ∷ 3 ∷ 1 ∷ 1 ∷ 0 ∷ 3 ∷ 3 ∷ 3 ∷ 3 ∷ 3 ∷ []

abbrev pub names : List (List ℕ)
names = codes "t" ∷ codes "n" ∷ []

abbrev pub script : Script
script = record { horizon = over (pos 5) 2; steps = 1000000; lines = [] }

abbrev pub text : List ℕ
text =
    codes "0 #0 n=0\n"
    ++ codes "1/2 - n=0\n"
    ++ codes "1/2 #0 n=1\n"
    ++ codes "1 - n=1\n"
    ++ codes "1 #0 n=1\n"
    ++ codes "1 #1 n=1\n"
    ++ codes "2 - n=1\n"
    ++ codes "2 #0 n=1\n"
    ++ codes "2 #1 n=1\n"
    ++ codes "5/2 - n=1\n"
    ++ codes "5/2 #0 n=2\n"
    ++ codes "end horizon\n"

abbrev pub EnteredByContinueRuns : Type 0
EnteredByContinueRuns = HasTrace form grades names script text
