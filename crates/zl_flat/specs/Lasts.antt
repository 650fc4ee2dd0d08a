-- Where the `last`s of expanded forms stand.
use Rattle.std.specs.Prelude.{◌≡◌, ℕ, List, Some}
use Rattle.zl_value.specs.declared.value.Ty.{Ty}
use Rattle.zl_ast.specs.declared.program.Program.{Program}
use Rattle.zl_ast.specs.Scopes.{scopes}
use Rattle.zl_meaning.specs.FlatForm.{FlatForm, HasForm, CalledIn, place_call}
use Rattle.zl_meaning.specs.declared.occurrence.Form.TheVariants.{Last}
use Rattle.zl_flat.specs.Checked.{IsChecked}
use Rattle.zl_flat.specs.Flat.{IsFlatOf}

-- A `last` of a place in the copy of a call stands in that copy: its call is that one, or a call that stands there, as that of
-- `f` in `f(last x)`, whose arguments have the call of `f` and not that of `x`.
abbrev pub HasLastsInCopies : FlatForm → Type 0
HasLastsInCopies f = (k p call : ℕ) → HasForm f k (Last p) → place_call f p ≡ Some call → CalledIn f call k

-- So it is in the flat form of each program that keeps the rules.
abbrev pub LastsStandInCopies : Type 0
LastsStandInCopies =
    (p : Program) (types : List (List Ty)) (form : FlatForm) → IsChecked p types → IsFlatOf p (scopes p) types form → HasLastsInCopies form
