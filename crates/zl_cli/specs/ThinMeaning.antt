-- What the program puts for a run is what the form of one variable with a constant derivative means.
use Rattle.std.specs.Prelude.{◌≡◌, ℕ, List, [], get_or}
use Rattle.std.specs.List.{concat}
use Rattle.zl_value.specs.Fraction.{Fraction, IsFrac}
use Rattle.zl_value.specs.Script.{IsTime}
use Rattle.zl_value.specs.declared.thin.Thin.{Thin}
use Rattle.zl_driver.specs.ThinRun.{thin_lines, thin_end}
use Rattle.zl_meaning.specs.ThinForm.{ThinText, thin_form, thin_grades, horizon_script, HasOneTrace}

-- the form has one run up to the horizon, with the lines that are put and the end that is answered
abbrev pub IsRunAsMeant : Type 0
IsRunAsMeant = (thin : Thin) (text : ThinText) (names : List (List ℕ)) (horizon : Fraction) (steps : ℕ) → IsFrac thin.slope → IsFrac thin.start → IsTime horizon → get_or names text.name [] ≡ thin.name → HasOneTrace (thin_form thin text) thin_grades names (horizon_script horizon steps) (thin_end thin horizon) (concat (thin_lines thin horizon))
