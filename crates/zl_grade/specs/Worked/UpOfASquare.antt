-- The square of a number that moves, as the argument of an `up`: of grade 2, where at most 1 is needed. The reset value,
-- the `up` and its event aren't graded.
--     let hybrid main() = x where rec der x = 1.0 init 0.0 reset up(x *. x) -> 0.0
use Rattle.std.specs.Prelude.{◌∷◌, [], true, pos, None}
use Rattle.zl_value.specs.Fraction.{whole}
use Rattle.zl_value.specs.declared.value.Value.TheVariants.{F}
use Rattle.zl_value.specs.declared.value.Ty.TheVariants.{Bool as BoolTy, Float, Zero}
use Rattle.zl_value.specs.declared.op.Op.TheVariants.{MulFloat}
use Rattle.zl_meaning.specs.FlatForm.{FlatForm}
use Rattle.zl_meaning.specs.Grades.{AreGrades, Grading}
use Rattle.zl_meaning.specs.Worked.{at, block, place, occ, site}
use Rattle.zl_meaning.specs.declared.block.BlockKind.TheVariants.{Main}
use Rattle.zl_meaning.specs.declared.place.Definer.TheVariants.{Der, Start}
use Rattle.zl_meaning.specs.declared.occurrence.Form.TheVariants.{Lit, Read, Op as Apply, Up, Fired}
use Rattle.zl_grade.specs.Refused.{IsFirstOverGraded}

abbrev pub form : FlatForm
form = record {
  blocks = block None Main true ∷ [];
  places = place 0 None Float 0 (at 1 37) (Der 0 1 (record { event = 8; value = 7 } ∷ []) ∷ Start 0 2 ∷ []) ∷ [];
  occs =
      occ 0 None Float (at 1 21) (Read 0)
      ∷ occ 0 None Float (at 1 41) (Lit (F (whole (pos 1))))
      ∷ occ 0 None Float (at 1 50) (Lit (F (whole (pos 0))))
      ∷ occ 0 None Zero (at 1 60) (Up 0)
      ∷ occ 0 None Float (at 1 63) (Read 0)
      ∷ occ 0 None Float (at 1 65) (Apply MulFloat (4 ∷ 6 ∷ []))
      ∷ occ 0 None Float (at 1 68) (Read 0)
      ∷ occ 0 None Float (at 1 74) (Lit (F (whole (pos 0))))
      ∷ occ 0 None BoolTy (at 1 60) (Fired (3 ∷ []))
      ∷ [];
  sites = site 0 5 (at 1 60) ∷ [];
  choices = [];
  automata = [];
  again = [];
  ins = [];
  outs = 0 ∷ [];
}

abbrev pub grading : Grading
grading = record { occs = 1 ∷ 0 ∷ 3 ∷ 3 ∷ 1 ∷ 2 ∷ 1 ∷ 3 ∷ 3 ∷ []; places = 1 ∷ [] }

abbrev pub UpOfASquareIsOver : Type 0
UpOfASquareIsOver = AreGrades form grading × IsFirstOverGraded form grading 5
