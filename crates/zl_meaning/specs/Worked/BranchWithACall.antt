-- A call in a branch: what is called there is evaluated where the branch is taken.
--     let inverse(x) = y where rec y = 1.0 /. x
--     let hybrid main(u) = y where rec y = if u > 0.0 then inverse(u) else 0.0 -. u
use Rattle.std.specs.Prelude.{◌∷◌, [], ◌++◌, ℕ, true, List, pos, codes, Some, None}
use Rattle.zl_value.specs.Fraction.{whole}
use Rattle.zl_value.specs.declared.value.Value.TheVariants.{F}
use Rattle.zl_value.specs.declared.value.Ty.TheVariants.{Bool as BoolTy, Float}
use Rattle.zl_value.specs.declared.op.Op.TheVariants.{DivFloat, GtFloat, SubFloat}
use Rattle.zl_value.specs.declared.script.Script.{Script}
use Rattle.zl_meaning.specs.FlatForm.{FlatForm}
use Rattle.zl_meaning.specs.Worked.{at, block, place, occ, HasTrace}
use Rattle.zl_meaning.specs.declared.block.BlockKind.TheVariants.{Main}
use Rattle.zl_meaning.specs.declared.place.Definer.TheVariants.{Input, Plain}
use Rattle.zl_meaning.specs.declared.occurrence.Form.TheVariants.{Lit, Read, Op as Apply, If, Result}

abbrev pub form : FlatForm
form = record {
  blocks =
      block None Main true
      ∷ [];
  places =
      place 0 None Float 0 (at 2 17) (Input 0 ∷ [])
      ∷ place 0 None Float 1 (at 2 34) (Plain 0 1 ∷ [])
      ∷ place 0 (Some 5) Float 2 (at 1 13) (Plain 0 6 ∷ [])
      ∷ place 0 (Some 5) Float 1 (at 1 30) (Plain 0 9 ∷ [])
      ∷ [];
  occs =
      occ 0 None Float (at 2 22) (Read 1)
      ∷ occ 0 None Float (at 2 38) (If 3 5 12)
      ∷ occ 0 None Float (at 2 41) (Read 0)
      ∷ occ 0 None BoolTy (at 2 43) (Apply GtFloat (2 ∷ 4 ∷ []))
      ∷ occ 0 None Float (at 2 45) (Lit (F (whole (pos 0))))
      ∷ occ 0 None Float (at 2 54) (Result 7)
      ∷ occ 0 (Some 5) Float (at 2 62) (Read 0)
      ∷ occ 0 (Some 5) Float (at 1 18) (Read 3)
      ∷ occ 0 (Some 5) Float (at 1 34) (Lit (F (whole (pos 1))))
      ∷ occ 0 (Some 5) Float (at 1 38) (Apply DivFloat (8 ∷ 10 ∷ []))
      ∷ occ 0 (Some 5) Float (at 1 41) (Read 2)
      ∷ occ 0 None Float (at 2 70) (Lit (F (whole (pos 0))))
      ∷ occ 0 None Float (at 2 74) (Apply SubFloat (11 ∷ 13 ∷ []))
      ∷ occ 0 None Float (at 2 77) (Read 0)
      ∷ [];
  sites = [];
  choices = [];
  automata = [];
  again = [];
  ins = 0 ∷ [];
  outs = 1 ∷ [];
}

abbrev pub grades : List ℕ
grades = 0 ∷ 0 ∷ 0 ∷ 0 ∷ 0 ∷ 0 ∷ 0 ∷ 0 ∷ 0 ∷ 0 ∷ 0 ∷ 0 ∷ 0 ∷ 0 ∷ []

abbrev pub names : List (List ℕ)
names = codes "u" ∷ codes "y" ∷ codes "x" ∷ []

abbrev pub script : Script
script = record { horizon = whole (pos 1); steps = 1000000; lines = record { time = whole (pos 0); sets = (record { input = 0; value = F (whole (pos 0)) } ∷ []) } ∷ record { time = whole (pos 1); sets = (record { input = 0; value = F (whole (pos 4)) } ∷ []) } ∷ [] }

abbrev pub text : List ℕ
text =
    codes "0 #0 y=0\n"
    ++ codes "1 - y=0\n"
    ++ codes "1 #0 y=1/4\n"
    ++ codes "end horizon\n"

abbrev pub BranchWithACallRuns : Type 0
BranchWithACallRuns = HasTrace form grades names script text
