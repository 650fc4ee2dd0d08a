-- Two tanks of which one is filled, up to the bound on steps.
--     let hybrid main() = (x1, x2) where rec
--       init x1 = 0.0 and init x2 = 1.0
--       and automaton
--       | A -> do der x1 = 0.75 -. 0.5 and der x2 = -. 0.5 until up(-. x2) then B
--       | B -> do der x1 = -. 0.5 and der x2 = 0.75 -. 0.5 until up(-. x1) then A
use Rattle.std.specs.Prelude.{◌∷◌, [], ◌++◌, ℕ, true, false, List, pos, codes, Some, None}
use Rattle.zl_value.specs.Fraction.{whole, over}
use Rattle.zl_value.specs.declared.value.Value.TheVariants.{F}
use Rattle.zl_value.specs.declared.value.Ty.TheVariants.{Bool as BoolTy, Float, Zero}
use Rattle.zl_value.specs.declared.op.Op.TheVariants.{NegFloat, SubFloat}
use Rattle.zl_value.specs.declared.script.Script.{Script}
use Rattle.zl_meaning.specs.FlatForm.{FlatForm}
use Rattle.zl_meaning.specs.Worked.{at, block, place, occ, site, HasTrace}
use Rattle.zl_meaning.specs.declared.block.BlockKind.TheVariants.{Main, Guard, State as Body}
use Rattle.zl_meaning.specs.declared.place.Definer.TheVariants.{Der, Start}
use Rattle.zl_meaning.specs.declared.occurrence.Form.TheVariants.{Lit, Read, Op as Apply, Up, Fired}

abbrev pub form : FlatForm
form = record {
  blocks =
      block None Main true
      ∷ block (Some 0) (Guard 0 0) true
      ∷ block (Some 0) (Body 0 0) true
      ∷ block (Some 0) (Guard 0 1) true
      ∷ block (Some 0) (Body 0 1) true
      ∷ [];
  places =
      place 0 None Float 1 (at 2 8) (Start 0 2 ∷ Der 2 5 [] ∷ Der 4 12 [] ∷ [])
      ∷ place 0 None Float 2 (at 2 26) (Start 0 3 ∷ Der 2 7 [] ∷ Der 4 15 [] ∷ [])
      ∷ [];
  occs =
      occ 0 None Float (at 1 22) (Read 0)
      ∷ occ 0 None Float (at 1 26) (Read 1)
      ∷ occ 0 None Float (at 2 13) (Lit (F (whole (pos 0))))
      ∷ occ 0 None Float (at 2 31) (Lit (F (whole (pos 1))))
      ∷ occ 2 None Float (at 4 22) (Lit (F (over (pos 3) 4)))
      ∷ occ 2 None Float (at 4 27) (Apply SubFloat (4 ∷ 6 ∷ []))
      ∷ occ 2 None Float (at 4 30) (Lit (F (over (pos 1) 2)))
      ∷ occ 2 None Float (at 4 47) (Apply NegFloat (8 ∷ []))
      ∷ occ 2 None Float (at 4 50) (Lit (F (over (pos 1) 2)))
      ∷ occ 2 None Zero (at 4 60) (Up 0)
      ∷ occ 2 None Float (at 4 63) (Apply NegFloat (11 ∷ []))
      ∷ occ 2 None Float (at 4 66) (Read 1)
      ∷ occ 4 None Float (at 5 22) (Apply NegFloat (13 ∷ []))
      ∷ occ 4 None Float (at 5 25) (Lit (F (over (pos 1) 2)))
      ∷ occ 4 None Float (at 5 42) (Lit (F (over (pos 3) 4)))
      ∷ occ 4 None Float (at 5 47) (Apply SubFloat (14 ∷ 16 ∷ []))
      ∷ occ 4 None Float (at 5 50) (Lit (F (over (pos 1) 2)))
      ∷ occ 4 None Zero (at 5 60) (Up 1)
      ∷ occ 4 None Float (at 5 63) (Apply NegFloat (19 ∷ []))
      ∷ occ 4 None Float (at 5 66) (Read 0)
      ∷ occ 2 None BoolTy (at 4 60) (Fired (9 ∷ []))
      ∷ occ 4 None BoolTy (at 5 60) (Fired (17 ∷ []))
      ∷ [];
  sites =
      site 2 10 (at 4 60)
      ∷ site 4 18 (at 5 60)
      ∷ [];
  choices = [];
  automata =
      record { block = 0; states = (record { strong = false; reset = true; cond = 20; target = 1 } ∷ []) ∷ (record { strong = false; reset = true; cond = 21; target = 0 } ∷ []) ∷ [] }
      ∷ [];
  again = [];
  ins = [];
  outs = 0 ∷ 1 ∷ [];
}

abbrev pub grades : List ℕ
grades = 1 ∷ 1 ∷ 3 ∷ 3 ∷ 0 ∷ 0 ∷ 0 ∷ 0 ∷ 0 ∷ 3 ∷ 1 ∷ 1 ∷ 0 ∷ 0 ∷ 0 ∷ 0 ∷ 0 ∷ 3 ∷ 1 ∷ 1 ∷ 3 ∷ 3 ∷ []

abbrev pub names : List (List ℕ)
names = codes "main" ∷ codes "x1" ∷ codes "x2" ∷ codes "A" ∷ codes "B" ∷ []

abbrev pub script : Script
script = record { horizon = whole (pos 10); steps = 7; lines = [] }

abbrev pub text : List ℕ
text =
    codes "0 #0 x1=0 x2=1\n"
    ++ codes "2 - x1=1/2 x2=0\n"
    ++ codes "2 #0 x1=1/2 x2=0\n"
    ++ codes "2 #1 x1=1/2 x2=0\n"
    ++ codes "3 - x1=0 x2=1/4\n"
    ++ codes "3 #0 x1=0 x2=1/4\n"
    ++ codes "3 #1 x1=0 x2=1/4\n"
    ++ codes "7/2 - x1=1/8 x2=0\n"
    ++ codes "7/2 #0 x1=1/8 x2=0\n"
    ++ codes "7/2 #1 x1=1/8 x2=0\n"
    ++ codes "15/4 - x1=0 x2=1/16\n"
    ++ codes "end bound\n"

abbrev pub TwoTanksRuns : Type 0
TwoTanksRuns = HasTrace form grades names script text
