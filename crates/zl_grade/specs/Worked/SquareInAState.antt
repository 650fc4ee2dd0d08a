-- A variable that has a square in one state and a number that stands still in the other: of grade 2, in both, and so is what
-- names it outside.
--     let hybrid main() = w where rec der x = 1.0 init 0.0 and w = y and automaton
--       | A -> do y = x *. x until up(x -. 1.0) then B
--       | B -> do y = 5.0 done
use Rattle.std.specs.Prelude.{◌∷◌, [], true, false, pos, Some, None}
use Rattle.zl_value.specs.Fraction.{whole}
use Rattle.zl_value.specs.declared.value.Value.TheVariants.{F}
use Rattle.zl_value.specs.declared.value.Ty.TheVariants.{Bool as BoolTy, Float, Zero}
use Rattle.zl_value.specs.declared.op.Op.TheVariants.{MulFloat, SubFloat}
use Rattle.zl_meaning.specs.FlatForm.{FlatForm}
use Rattle.zl_meaning.specs.Grades.{Grading}
use Rattle.zl_meaning.specs.GradesLaw.{AreAllowed}
use Rattle.zl_meaning.specs.Worked.{at, block, place, occ, site}
use Rattle.zl_meaning.specs.declared.block.BlockKind.TheVariants.{Main, Guard, State as Body}
use Rattle.zl_meaning.specs.declared.place.Definer.TheVariants.{Plain, Der, Start}
use Rattle.zl_meaning.specs.declared.occurrence.Form.TheVariants.{Lit, Read, Op as Apply, Up, Fired}

abbrev pub form : FlatForm
form = record {
  blocks =
      block None Main true
      ∷ block (Some 0) (Guard 0 0) true
      ∷ block (Some 0) (Body 0 0) true
      ∷ block (Some 0) (Guard 0 1) true
      ∷ block (Some 0) (Body 0 1) true
      ∷ [];
  places =
      place 0 None Float 0 (at 1 37) (Der 0 1 [] ∷ Start 0 2 ∷ [])
      ∷ place 0 None Float 1 (at 1 58) (Plain 0 3 ∷ [])
      ∷ place 0 None Float 2 (at 2 13) (Plain 2 5 ∷ Plain 4 11 ∷ [])
      ∷ [];
  occs =
      occ 0 None Float (at 1 21) (Read 1)
      ∷ occ 0 None Float (at 1 41) (Lit (F (whole (pos 1))))
      ∷ occ 0 None Float (at 1 50) (Lit (F (whole (pos 0))))
      ∷ occ 0 None Float (at 1 62) (Read 2)
      ∷ occ 2 None Float (at 2 17) (Read 0)
      ∷ occ 2 None Float (at 2 19) (Apply MulFloat (4 ∷ 6 ∷ []))
      ∷ occ 2 None Float (at 2 22) (Read 0)
      ∷ occ 2 None Zero (at 2 30) (Up 0)
      ∷ occ 2 None Float (at 2 33) (Read 0)
      ∷ occ 2 None Float (at 2 35) (Apply SubFloat (8 ∷ 10 ∷ []))
      ∷ occ 2 None Float (at 2 38) (Lit (F (whole (pos 1))))
      ∷ occ 4 None Float (at 3 17) (Lit (F (whole (pos 5))))
      ∷ occ 2 None BoolTy (at 2 30) (Fired (7 ∷ []))
      ∷ [];
  sites = site 2 9 (at 2 30) ∷ [];
  choices = [];
  automata =
      record { block = 0; states = (record { strong = false; reset = true; cond = 12; target = 1 } ∷ []) ∷ [] ∷ [] }
      ∷ [];
  again = [];
  ins = [];
  outs = 1 ∷ [];
}

abbrev pub grading : Grading
grading = record { occs = 2 ∷ 0 ∷ 3 ∷ 2 ∷ 1 ∷ 2 ∷ 1 ∷ 3 ∷ 1 ∷ 1 ∷ 0 ∷ 0 ∷ 3 ∷ []; places = 1 ∷ 2 ∷ 2 ∷ [] }

abbrev pub SquareInAStateIsAllowed : Type 0
SquareInAStateIsAllowed = AreAllowed form grading
