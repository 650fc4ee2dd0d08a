use Rattle.std.proofs.Common.{refl}
use Rattle.zl_grade.specs.Worked.SquareInAState.{form, grading}
use Rattle.zl_grade.proofs.GradeCheck.{none-over}
use Rattle.zl_grade.proofs.worked.square_in_a_state.Goals as goal

pub returns : goal.returns
returns c = none-over form grading (record { occs_length = refl; places_length = refl; plain = refl; occs = refl; places = refl }) refl
