-- A number that moves on a straight line times one that stands still: of grade 1.
--     let hybrid main() = w where rec der x = 1.0 init 0.0 and w = x *. 2.0
use Rattle.std.specs.Prelude.{◌∷◌, [], true, pos, None}
use Rattle.zl_value.specs.Fraction.{whole}
use Rattle.zl_value.specs.declared.value.Value.TheVariants.{F}
use Rattle.zl_value.specs.declared.value.Ty.TheVariants.{Float}
use Rattle.zl_value.specs.declared.op.Op.TheVariants.{MulFloat}
use Rattle.zl_meaning.specs.FlatForm.{FlatForm}
use Rattle.zl_meaning.specs.Grades.{Grading}
use Rattle.zl_meaning.specs.GradesLaw.{AreAllowed}
use Rattle.zl_meaning.specs.Worked.{at, block, place, occ}
use Rattle.zl_meaning.specs.declared.block.BlockKind.TheVariants.{Main}
use Rattle.zl_meaning.specs.declared.place.Definer.TheVariants.{Plain, Der, Start}
use Rattle.zl_meaning.specs.declared.occurrence.Form.TheVariants.{Lit, Read, Op as Apply}

abbrev pub form : FlatForm
form = record {
  blocks = block None Main true ∷ [];
  places =
      place 0 None Float 0 (at 1 37) (Der 0 1 [] ∷ Start 0 2 ∷ [])
      ∷ place 0 None Float 1 (at 1 58) (Plain 0 4 ∷ [])
      ∷ [];
  occs =
      occ 0 None Float (at 1 21) (Read 1)
      ∷ occ 0 None Float (at 1 41) (Lit (F (whole (pos 1))))
      ∷ occ 0 None Float (at 1 50) (Lit (F (whole (pos 0))))
      ∷ occ 0 None Float (at 1 62) (Read 0)
      ∷ occ 0 None Float (at 1 64) (Apply MulFloat (3 ∷ 5 ∷ []))
      ∷ occ 0 None Float (at 1 67) (Lit (F (whole (pos 2))))
      ∷ [];
  sites = [];
  choices = [];
  automata = [];
  again = [];
  ins = [];
  outs = 1 ∷ [];
}

abbrev pub grading : Grading
grading = record { occs = 1 ∷ 0 ∷ 3 ∷ 1 ∷ 1 ∷ 0 ∷ []; places = 1 ∷ 1 ∷ [] }

abbrev pub MovingTimesStillIsAllowed : Type 0
MovingTimesStillIsAllowed = AreAllowed form grading
