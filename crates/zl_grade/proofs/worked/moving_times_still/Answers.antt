use Rattle.std.proofs.Common.{refl}
use Rattle.zl_grade.specs.Worked.MovingTimesStill.{form, grading}
use Rattle.zl_grade.proofs.GradeCheck.{none-over}
use Rattle.zl_grade.proofs.worked.moving_times_still.Goals as goal

pub returns : goal.returns
returns c = none-over form grading (record { occs_length = refl; places_length = refl; plain = refl; occs = refl; places = refl }) refl
