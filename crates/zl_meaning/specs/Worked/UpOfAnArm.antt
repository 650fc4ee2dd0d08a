-- A variable that an arm of a `present` defines, named in an `up` outside: what the arm gives isn't graded, and the variable
-- stands still all the same.
--     let hybrid main() = y where rec init y = -1.0 and present up(y) -> do y = 1.0 done
use Rattle.std.specs.Prelude.{◌∷◌, [], true, false, pos, negsuc, Some, None}
use Rattle.zl_value.specs.Fraction.{whole}
use Rattle.zl_value.specs.declared.value.Value.TheVariants.{F}
use Rattle.zl_value.specs.declared.value.Ty.TheVariants.{Bool as BoolTy, Float, Zero}
use Rattle.zl_meaning.specs.FlatForm.{FlatForm}
use Rattle.zl_meaning.specs.Grades.{AreGrades, Grading}
use Rattle.zl_meaning.specs.KeepsGrades.{KeepsGrades}
use Rattle.zl_meaning.specs.Worked.{at, block, place, occ, site}
use Rattle.zl_meaning.specs.declared.block.BlockKind.TheVariants.{Main, Arm}
use Rattle.zl_meaning.specs.declared.place.Definer.TheVariants.{Plain, Start}
use Rattle.zl_meaning.specs.declared.occurrence.Form.TheVariants.{Lit, Read, Up, Fired}

abbrev pub form : FlatForm
form = record {
  blocks =
      block None Main true
      ∷ block (Some 0) (Arm 0 0) false
      ∷ [];
  places =
      place 0 None Float 0 (at 1 38) (Start 0 1 ∷ Plain 1 4 ∷ [])
      ∷ [];
  occs =
      occ 0 None Float (at 1 21) (Read 0)
      ∷ occ 0 None Float (at 1 42) (Lit (F (whole (negsuc 0))))
      ∷ occ 0 None Zero (at 1 59) (Up 0)
      ∷ occ 0 None Float (at 1 62) (Read 0)
      ∷ occ 1 None Float (at 1 75) (Lit (F (whole (pos 1))))
      ∷ occ 0 None BoolTy (at 1 59) (Fired (2 ∷ []))
      ∷ [];
  sites = site 0 3 (at 1 59) ∷ [];
  choices = record { block = 0; conds = 5 ∷ []; other = false } ∷ [];
  automata = [];
  again = [];
  ins = [];
  outs = 0 ∷ [];
}

abbrev pub grading : Grading
grading = record { occs = 0 ∷ 3 ∷ 3 ∷ 0 ∷ 3 ∷ 3 ∷ []; places = 0 ∷ [] }

abbrev pub UpOfAnArmKeepsGrades : Type 0
UpOfAnArmKeepsGrades = AreGrades form grading × KeepsGrades form grading
