-- What is found of a form: grades with which it is allowed and keeps them, or the occurrence at which it is refused.
use Rattle.zl_meaning.specs.FlatForm.{FlatForm}
use Rattle.zl_meaning.specs.GradesLaw.{AreAllowed}
use Rattle.zl_grade.specs.Graded.{grading_of, KeepsIfDecided}
use Rattle.zl_grade.specs.Refused.{IsOverGradedAt}
use Rattle.zl_grade.specs.declared.grading.Outcome.{Outcome}
use Rattle.zl_grade.specs.declared.grading.Outcome.TheVariants.{Allowed, Over}

abbrev pub IsOutcome : FlatForm → Outcome → Type 0
IsOutcome f (Allowed g) = AreAllowed f (grading_of g) × KeepsIfDecided f (grading_of g)
IsOutcome f (Over at) = IsOverGradedAt f at
