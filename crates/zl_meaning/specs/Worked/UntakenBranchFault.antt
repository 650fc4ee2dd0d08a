-- A branch that isn't taken isn't evaluated, and has no fault.
--     let hybrid main(u) = y where rec y = if u > 0.0 then 1.0 /. u else 0.0
use Rattle.std.specs.Prelude.{◌∷◌, [], ◌++◌, ℕ, true, List, pos, codes, None}
use Rattle.zl_value.specs.Fraction.{whole}
use Rattle.zl_value.specs.declared.value.Value.TheVariants.{F}
use Rattle.zl_value.specs.declared.value.Ty.TheVariants.{Bool as BoolTy, Float}
use Rattle.zl_value.specs.declared.op.Op.TheVariants.{DivFloat, GtFloat}
use Rattle.zl_value.specs.declared.script.Script.{Script}
use Rattle.zl_meaning.specs.FlatForm.{FlatForm}
use Rattle.zl_meaning.specs.Worked.{at, block, place, occ, HasTrace}
use Rattle.zl_meaning.specs.declared.block.BlockKind.TheVariants.{Main}
use Rattle.zl_meaning.specs.declared.place.Definer.TheVariants.{Input, Plain}
use Rattle.zl_meaning.specs.declared.occurrence.Form.TheVariants.{Lit, Read, Op as Apply, If}

abbrev pub form : FlatForm
form = record {
  blocks =
      block None Main true
      ∷ [];
  places =
      place 0 None Float 1 (at 1 17) (Input 0 ∷ [])
      ∷ place 0 None Float 2 (at 1 34) (Plain 0 1 ∷ [])
      ∷ [];
  occs =
      occ 0 None Float (at 1 22) (Read 1)
      ∷ occ 0 None Float (at 1 38) (If 3 6 8)
      ∷ occ 0 None Float (at 1 41) (Read 0)
      ∷ occ 0 None BoolTy (at 1 43) (Apply GtFloat (2 ∷ 4 ∷ []))
      ∷ occ 0 None Float (at 1 45) (Lit (F (whole (pos 0))))
      ∷ occ 0 None Float (at 1 54) (Lit (F (whole (pos 1))))
      ∷ occ 0 None Float (at 1 58) (Apply DivFloat (5 ∷ 7 ∷ []))
      ∷ occ 0 None Float (at 1 61) (Read 0)
      ∷ occ 0 None Float (at 1 68) (Lit (F (whole (pos 0))))
      ∷ [];
  sites = [];
  choices = [];
  automata = [];
  again = [];
  ins = 0 ∷ [];
  outs = 1 ∷ [];
}

abbrev pub grades : List ℕ
grades = 0 ∷ 0 ∷ 0 ∷ 0 ∷ 0 ∷ 0 ∷ 0 ∷ 0 ∷ 0 ∷ []

abbrev pub names : List (List ℕ)
names = codes "main" ∷ codes "u" ∷ codes "y" ∷ []

abbrev pub script : Script
script = record { horizon = whole (pos 1); steps = 1000000; lines = record { time = (whole (pos 0)); sets = (record { input = 0; value = F (whole (pos 0)) } ∷ []) } ∷ [] }

abbrev pub text : List ℕ
text =
    codes "0 #0 y=0\n"
    ++ codes "1 - y=0\n"
    ++ codes "end horizon\n"

abbrev pub UntakenBranchFaultRuns : Type 0
UntakenBranchFaultRuns = HasTrace form grades names script text
