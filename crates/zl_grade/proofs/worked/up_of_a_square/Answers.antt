use Rattle.std.proofs.Common.{refl}
use Rattle.zl_grade.specs.Worked.UpOfASquare.{form, grading}
use Rattle.zl_grade.proofs.GradeCheck.{IsChecked, grades-checked, first-over}
use Rattle.zl_grade.proofs.worked.up_of_a_square.Goals as goal

checked : IsChecked form grading
checked = record { occs_length = refl; places_length = refl; plain = refl; occs = refl; places = refl }

pub returns : goal.returns
returns c = (grades-checked form grading checked, first-over form grading checked 5 (record { here = refl; before = refl }))
