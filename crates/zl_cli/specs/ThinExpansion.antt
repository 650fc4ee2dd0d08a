-- What a tree of one variable whose derivative is a number expands to.
use Rattle.std.specs.Prelude.{◌≡◌, ℕ, List, [], Some, get_or}
use Rattle.std.specs.List.{concat}
use Rattle.zl_value.specs.Fraction.{Fraction, IsFrac}
use Rattle.zl_value.specs.Script.{IsTime}
use Rattle.zl_value.specs.declared.thin.Thin.{Thin}
use Rattle.zl_value.specs.declared.value.Ty.{Ty}
use Rattle.zl_ast.specs.declared.program.Program.{Program}
use Rattle.zl_ast.specs.Assignments.{IsTyping}
use Rattle.zl_ast.specs.Scopes.{scopes}
use Rattle.zl_ast.specs.TypeEqualities.{equalities}
use Rattle.zl_driver.specs.ThinRun.{thin_lines, thin_end}
use Rattle.zl_meaning.specs.FlatForm.{FlatForm}
use Rattle.zl_meaning.specs.ThinForm.{ThinText, thin_form, thin_grades, horizon_script, HasOneTrace}
use Rattle.zl_flat.specs.Flat.{IsFlatOf}
use Rattle.zl_cli.specs.ThinTree.{thin_tree}

-- Its flat form, within the limits, is that of the variable that the tree says, which has this name in the file.
pub record HasThinForm (p : Program) (types : List (List Ty)) (thin : Thin) : Type 0 where
  pub text : ThinText
  pub form : IsFlatOf p (scopes p) types (thin_form thin text)
  pub named : get_or p.names text.name [] ≡ thin.name

-- The program has a flat form within the limits, and that has one run up to the horizon, with the lines that are put and the end
-- that is answered.
pub record IsMeant (p : Program) (types : List (List Ty)) (thin : Thin) (horizon : Fraction) (steps : ℕ) : Type 0 where
  pub form : FlatForm
  pub is_flat : IsFlatOf p (scopes p) types form
  pub trace : HasOneTrace form thin_grades p.names (horizon_script horizon steps) (thin_end thin horizon) (concat (thin_lines thin horizon))

abbrev pub IsTreeAsMeant : Type 0
IsTreeAsMeant = (p : Program) (thin : Thin) (types : List (List Ty)) (horizon : Fraction) (steps : ℕ) → thin_tree p ≡ Some thin → IsTyping (equalities p) (scopes p) types → IsFrac thin.slope → IsFrac thin.start → IsTime horizon → IsMeant p types thin horizon steps
