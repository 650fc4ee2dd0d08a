-- Feedback through two declarations.
--     let hybrid tank(q) = h where rec der h = q init 0.0
--     let hybrid ctrl(h) = q where rec
--       init q = 1.0
--       and present up(h -. 1.0) -> do q = -1.0 done | up(-. h) -> do q = 1.0 done
--     let hybrid main() = h where rec h = tank(q) and q = ctrl(h)
use Rattle.std.specs.Prelude.{◌∷◌, [], ◌++◌, ℕ, true, false, List, pos, negsuc, codes, Some, None}
use Rattle.zl_value.specs.Fraction.{whole, over}
use Rattle.zl_value.specs.declared.value.Value.TheVariants.{F}
use Rattle.zl_value.specs.declared.value.Ty.TheVariants.{Bool as BoolTy, Float, Zero}
use Rattle.zl_value.specs.declared.op.Op.TheVariants.{NegFloat, SubFloat}
use Rattle.zl_value.specs.declared.script.Script.{Script}
use Rattle.zl_meaning.specs.FlatForm.{FlatForm}
use Rattle.zl_meaning.specs.Worked.{at, block, place, occ, site, HasTrace}
use Rattle.zl_meaning.specs.declared.block.BlockKind.TheVariants.{Main, Arm}
use Rattle.zl_meaning.specs.declared.place.Definer.TheVariants.{Plain, Der, Start}
use Rattle.zl_meaning.specs.declared.occurrence.Form.TheVariants.{Lit, Read, Op as Apply, Result, Up, Fired}

abbrev pub form : FlatForm
form = record {
  blocks =
      block None Main true
      ∷ block (Some 0) (Arm 0 0) false
      ∷ block (Some 0) (Arm 0 1) false
      ∷ [];
  places =
      place 0 None Float 0 (at 5 33) (Plain 0 1 ∷ [])
      ∷ place 0 (Some 1) Float 1 (at 1 17) (Plain 0 2 ∷ [])
      ∷ place 0 (Some 1) Float 0 (at 1 38) (Der 0 4 [] ∷ Start 0 5 ∷ [])
      ∷ place 0 None Float 1 (at 5 49) (Plain 0 6 ∷ [])
      ∷ place 0 (Some 6) Float 0 (at 2 17) (Plain 0 7 ∷ [])
      ∷ place 0 (Some 6) Float 1 (at 3 8) (Start 0 9 ∷ Plain 1 14 ∷ Plain 2 18 ∷ [])
      ∷ [];
  occs =
      occ 0 None Float (at 5 21) (Read 0)
      ∷ occ 0 None Float (at 5 37) (Result 3)
      ∷ occ 0 (Some 1) Float (at 5 42) (Read 3)
      ∷ occ 0 (Some 1) Float (at 1 22) (Read 2)
      ∷ occ 0 (Some 1) Float (at 1 42) (Read 1)
      ∷ occ 0 (Some 1) Float (at 1 49) (Lit (F (whole (pos 0))))
      ∷ occ 0 None Float (at 5 53) (Result 8)
      ∷ occ 0 (Some 6) Float (at 5 58) (Read 0)
      ∷ occ 0 (Some 6) Float (at 2 22) (Read 5)
      ∷ occ 0 (Some 6) Float (at 3 12) (Lit (F (whole (pos 1))))
      ∷ occ 0 (Some 6) Zero (at 4 15) (Up 0)
      ∷ occ 0 (Some 6) Float (at 4 18) (Read 4)
      ∷ occ 0 (Some 6) Float (at 4 20) (Apply SubFloat (11 ∷ 13 ∷ []))
      ∷ occ 0 (Some 6) Float (at 4 23) (Lit (F (whole (pos 1))))
      ∷ occ 1 (Some 6) Float (at 4 38) (Lit (F (whole (negsuc 0))))
      ∷ occ 0 (Some 6) Zero (at 4 50) (Up 1)
      ∷ occ 0 (Some 6) Float (at 4 53) (Apply NegFloat (17 ∷ []))
      ∷ occ 0 (Some 6) Float (at 4 56) (Read 4)
      ∷ occ 2 (Some 6) Float (at 4 69) (Lit (F (whole (pos 1))))
      ∷ occ 0 (Some 6) BoolTy (at 4 15) (Fired (10 ∷ []))
      ∷ occ 0 (Some 6) BoolTy (at 4 50) (Fired (15 ∷ []))
      ∷ [];
  sites =
      site 0 12 (at 4 15)
      ∷ site 0 16 (at 4 50)
      ∷ [];
  choices =
      record { block = 0; conds = 19 ∷ 20 ∷ []; other = false }
      ∷ [];
  automata = [];
  again = [];
  ins = [];
  outs = 0 ∷ [];
}

abbrev pub grades : List ℕ
grades = 1 ∷ 1 ∷ 0 ∷ 1 ∷ 0 ∷ 3 ∷ 0 ∷ 1 ∷ 0 ∷ 3 ∷ 3 ∷ 1 ∷ 1 ∷ 0 ∷ 3 ∷ 3 ∷ 1 ∷ 1 ∷ 3 ∷ 3 ∷ 3 ∷ []

abbrev pub names : List (List ℕ)
names = codes "h" ∷ codes "q" ∷ []

abbrev pub script : Script
script = record { horizon = over (pos 5) 2; steps = 1000000; lines = [] }

abbrev pub text : List ℕ
text =
    codes "0 #0 h=0\n"
    ++ codes "1 - h=1\n"
    ++ codes "1 #0 h=1\n"
    ++ codes "2 - h=0\n"
    ++ codes "2 #0 h=0\n"
    ++ codes "5/2 - h=1/2\n"
    ++ codes "end horizon\n"

abbrev pub FeedbackThroughDeclarationsRuns : Type 0
FeedbackThroughDeclarationsRuns = HasTrace form grades names script text
