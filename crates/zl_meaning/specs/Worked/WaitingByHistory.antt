-- An inner transition waits while its automaton isn't active.
--     let hybrid main() = x where rec der t = 1.0 init 0.0 reset up(t -. 1.0) -> 0.0 and init x = 0.0 and automaton
--       | A -> do automaton | P -> do der x = 1.0 until up(t -. 1.0) then Q | Q -> do der x = 2.0 done end until up(t -. 1.0) then B
--       | B -> do until up(t -. 1.0) continue A
use Rattle.std.specs.Prelude.{◌∷◌, [], ◌++◌, ℕ, true, false, List, pos, codes, Some, None}
use Rattle.zl_value.specs.Fraction.{whole}
use Rattle.zl_value.specs.declared.value.Value.TheVariants.{F}
use Rattle.zl_value.specs.declared.value.Ty.TheVariants.{Bool as BoolTy, Float, Zero}
use Rattle.zl_value.specs.declared.op.Op.TheVariants.{SubFloat}
use Rattle.zl_value.specs.declared.script.Script.{Script}
use Rattle.zl_meaning.specs.FlatForm.{FlatForm}
use Rattle.zl_meaning.specs.Worked.{at, block, place, occ, site, reset_arm, HasTrace}
use Rattle.zl_meaning.specs.declared.block.BlockKind.TheVariants.{Main, Guard, State as Body}
use Rattle.zl_meaning.specs.declared.place.Definer.TheVariants.{Der, Start}
use Rattle.zl_meaning.specs.declared.occurrence.Form.TheVariants.{Lit, Read, Op as Apply, Up, Fired}

abbrev pub form : FlatForm
form = record {
  blocks =
      block None Main true
      ∷ block (Some 0) (Guard 0 0) true
      ∷ block (Some 0) (Body 0 0) true
      ∷ block (Some 2) (Guard 1 0) true
      ∷ block (Some 2) (Body 1 0) true
      ∷ block (Some 2) (Guard 1 1) true
      ∷ block (Some 2) (Body 1 1) true
      ∷ block (Some 0) (Guard 0 1) true
      ∷ block (Some 0) (Body 0 1) true
      ∷ [];
  places =
      place 0 None Float 2 (at 1 37) (Der 0 1 (reset_arm 23 7 ∷ []) ∷ Start 0 2 ∷ [])
      ∷ place 0 None Float 1 (at 1 89) (Start 0 8 ∷ Der 4 9 [] ∷ Der 6 14 [] ∷ [])
      ∷ [];
  occs =
      occ 0 None Float (at 1 21) (Read 1)
      ∷ occ 0 None Float (at 1 41) (Lit (F (whole (pos 1))))
      ∷ occ 0 None Float (at 1 50) (Lit (F (whole (pos 0))))
      ∷ occ 0 None Zero (at 1 60) (Up 0)
      ∷ occ 0 None Float (at 1 63) (Read 0)
      ∷ occ 0 None Float (at 1 65) (Apply SubFloat (4 ∷ 6 ∷ []))
      ∷ occ 0 None Float (at 1 68) (Lit (F (whole (pos 1))))
      ∷ occ 0 None Float (at 1 76) (Lit (F (whole (pos 0))))
      ∷ occ 0 None Float (at 1 93) (Lit (F (whole (pos 0))))
      ∷ occ 4 None Float (at 2 41) (Lit (F (whole (pos 1))))
      ∷ occ 4 None Zero (at 2 51) (Up 1)
      ∷ occ 4 None Float (at 2 54) (Read 0)
      ∷ occ 4 None Float (at 2 56) (Apply SubFloat (11 ∷ 13 ∷ []))
      ∷ occ 4 None Float (at 2 59) (Lit (F (whole (pos 1))))
      ∷ occ 6 None Float (at 2 89) (Lit (F (whole (pos 2))))
      ∷ occ 2 None Zero (at 2 108) (Up 2)
      ∷ occ 2 None Float (at 2 111) (Read 0)
      ∷ occ 2 None Float (at 2 113) (Apply SubFloat (16 ∷ 18 ∷ []))
      ∷ occ 2 None Float (at 2 116) (Lit (F (whole (pos 1))))
      ∷ occ 8 None Zero (at 3 19) (Up 3)
      ∷ occ 8 None Float (at 3 22) (Read 0)
      ∷ occ 8 None Float (at 3 24) (Apply SubFloat (20 ∷ 22 ∷ []))
      ∷ occ 8 None Float (at 3 27) (Lit (F (whole (pos 1))))
      ∷ occ 0 None BoolTy (at 1 60) (Fired (3 ∷ []))
      ∷ occ 4 None BoolTy (at 2 51) (Fired (10 ∷ []))
      ∷ occ 2 None BoolTy (at 2 108) (Fired (15 ∷ []))
      ∷ occ 8 None BoolTy (at 3 19) (Fired (19 ∷ []))
      ∷ [];
  sites =
      site 0 5 (at 1 60)
      ∷ site 4 12 (at 2 51)
      ∷ site 2 17 (at 2 108)
      ∷ site 8 21 (at 3 19)
      ∷ [];
  choices = [];
  automata =
      record { block = 0; states = (record { strong = false; reset = true; cond = 25; target = 1 } ∷ []) ∷ (record { strong = false; reset = false; cond = 26; target = 0 } ∷ []) ∷ [] }
      ∷ record { block = 2; states = (record { strong = false; reset = true; cond = 24; target = 1 } ∷ []) ∷ [] ∷ [] }
      ∷ [];
  again = [];
  ins = [];
  outs = 1 ∷ [];
}

abbrev pub grades : List ℕ
grades = 1 ∷ 0 ∷ 3 ∷ 3 ∷ 1 ∷ 1 ∷ 0 ∷ 3 ∷ 3 ∷ 0 ∷ 3 ∷ 1 ∷ 1 ∷ 0 ∷ 0 ∷ 3 ∷ 1 ∷ 1 ∷ 0 ∷ 3 ∷ 1 ∷ 1 ∷ 0 ∷ 3 ∷ 3 ∷ 3 ∷ 3 ∷ []

abbrev pub names : List (List ℕ)
names = codes "main" ∷ codes "x" ∷ codes "t" ∷ codes "A" ∷ codes "P" ∷ codes "Q" ∷ codes "B" ∷ []

abbrev pub script : Script
script = record { horizon = whole (pos 3); steps = 1000000; lines = [] }

abbrev pub text : List ℕ
text =
    codes "0 #0 x=0\n"
    ++ codes "1 - x=1\n"
    ++ codes "1 #0 x=1\n"
    ++ codes "1 #1 x=1\n"
    ++ codes "2 - x=1\n"
    ++ codes "2 #0 x=1\n"
    ++ codes "2 #1 x=1\n"
    ++ codes "3 - x=3\n"
    ++ codes "3 #0 x=3\n"
    ++ codes "3 #1 x=3\n"
    ++ codes "end horizon\n"

abbrev pub WaitingByHistoryRuns : Type 0
WaitingByHistoryRuns = HasTrace form grades names script text
