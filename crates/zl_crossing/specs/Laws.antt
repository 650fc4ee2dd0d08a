-- What is proved of the first crossing. Each statement is the contract of a function that does nothing.
use Rattle.std.specs.Prelude.{◌≡◌, List, length, Option}
use Rattle.zl_value.specs.Fraction.{Fraction, IsReduced, sub}
use Rattle.zl_value.specs.Crossings.{SiteValues, Lasts}
use Rattle.zl_value.specs.declared.line.Line.{Line}
use Rattle.zl_value.specs.declared.script.Script.{Script}
use Rattle.zl_crossing.specs.declared.answer.First.{First}
use Rattle.zl_crossing.specs.FirstCrossing.{IsFirst}
use Rattle.zl_crossing.specs.Courses.{AreCourses, IsNextStop}

-- where the sites move along the lines, and the cap is the time to the next stop, the flow lasts until the first crossing
abbrev pub FirstLasts : Type 0
FirstLasts = (script : Script) (value : SiteValues) (lines : List (Option Line)) (t stop : Fraction) (first : First) → IsReduced t → IsNextStop script t stop → AreCourses lines value → IsFirst lines (sub stop t) first → Lasts script value (length lines) t first.duration

-- lines and a cap have one first crossing
abbrev pub OneFirst : Type 0
OneFirst = (lines : List (Option Line)) (cap : Fraction) (a b : First) → IsFirst lines cap a → IsFirst lines cap b → a ≡ b
