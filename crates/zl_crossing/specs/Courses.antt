-- The lines along which the sites of a flow move, and the time at which the script stops it.
use Rattle.std.specs.Prelude.{◌≡◌, ℕ, ◌<◌, true, false, List, length, get_or, Option, Some, None}
use Rattle.std.specs.List.{AllByRecursion}
use Rattle.zl_value.specs.Fraction.{Fraction, IsReduced}
use Rattle.zl_value.specs.Order.{below}
use Rattle.zl_value.specs.Times.{is_negative}
use Rattle.zl_value.specs.Stops.{stops, is_stop, is_clear}
use Rattle.zl_value.specs.Crossings.{SiteValues}
use Rattle.zl_value.specs.declared.line.Line.{Line}
use Rattle.zl_value.specs.declared.script.Script.{Script}
use Rattle.zl_value.specs.declared.value.Value.{Value}
use Rattle.zl_value.specs.declared.value.Value.TheVariants.{F}
use Rattle.zl_crossing.specs.FirstCrossing.{value_at}

-- the value at moment `s` of a site on this line; a site without a line has no value
abbrev pub value_on : Fraction → Option Line → Option Value
value_on s None = None
value_on s (Some line) = Some (F (value_at line s))

-- the numbers of a line are in lowest terms
abbrev pub IsLine : Option Line → Type 0
IsLine None = Unit {0}
IsLine (Some line) = IsReduced line.value × IsReduced line.slope

-- each site is on its line at each moment of the flow
pub record AreCourses (lines : List (Option Line)) (value : SiteValues) : Type 0 where
  pub line : (n : ℕ) → n < length lines → IsLine (get_or lines n None)
  pub on : (n : ℕ) → n < length lines → (s : Fraction) → IsReduced s → is_negative s ≡ false → value s n ≡ value_on s (get_or lines n None)

-- `stop` is the first time after `t` at which the script stops a flow
pub record IsNextStop (script : Script) (t stop : Fraction) : Type 0 where
  pub reduced : AllByRecursion IsReduced (stops script)
  pub lowest : IsReduced stop
  pub later : below t stop ≡ true
  pub is : is_stop script stop ≡ true
  pub clear : is_clear script t stop ≡ true
