-- A number that stands still divided by one that moves: of grade 2, even where the number is 0.
--     let hybrid main() = w where rec der x = 1.0 init 1.0 and w = 0.0 /. x
use Rattle.std.specs.Prelude.{◌∷◌, [], true, pos, None}
use Rattle.zl_value.specs.Fraction.{whole}
use Rattle.zl_value.specs.declared.value.Value.TheVariants.{F}
use Rattle.zl_value.specs.declared.value.Ty.TheVariants.{Float}
use Rattle.zl_value.specs.declared.op.Op.TheVariants.{DivFloat}
use Rattle.zl_meaning.specs.FlatForm.{FlatForm}
use Rattle.zl_meaning.specs.Grades.{Grading}
use Rattle.zl_meaning.specs.GradesLaw.{AreAllowed}
use Rattle.zl_meaning.specs.Worked.{at, block, place, occ}
use Rattle.zl_meaning.specs.declared.block.BlockKind.TheVariants.{Main}
use Rattle.zl_meaning.specs.declared.place.Definer.TheVariants.{Plain, Der, Start}
use Rattle.zl_meaning.specs.declared.occurrence.Form.TheVariants.{Lit, Read, Op as Apply}

abbrev pub form : FlatForm
form = record {
  blocks = block None Main true ∷ [];
  places =
      place 0 None Float 0 (at 1 37) (Der 0 1 [] ∷ Start 0 2 ∷ [])
      ∷ place 0 None Float 1 (at 1 58) (Plain 0 4 ∷ [])
      ∷ [];
  occs =
      occ 0 None Float (at 1 21) (Read 1)
      ∷ occ 0 None Float (at 1 41) (Lit (F (whole (pos 1))))
      ∷ occ 0 None Float (at 1 50) (Lit (F (whole (pos 1))))
      ∷ occ 0 None Float (at 1 62) (Lit (F (whole (pos 0))))
      ∷ occ 0 None Float (at 1 66) (Apply DivFloat (3 ∷ 5 ∷ []))
      ∷ occ 0 None Float (at 1 69) (Read 0)
      ∷ [];
  sites = [];
  choices = [];
  automata = [];
  again = [];
  ins = [];
  outs = 1 ∷ [];
}

abbrev pub grading : Grading
grading = record { occs = 2 ∷ 0 ∷ 3 ∷ 0 ∷ 2 ∷ 1 ∷ []; places = 1 ∷ 2 ∷ [] }

abbrev pub StillOverMovingIsAllowed : Type 0
StillOverMovingIsAllowed = AreAllowed form grading
