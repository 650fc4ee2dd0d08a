-- Where `last` of a place that stands in the copy of a call is evaluated.
use Rattle.std.specs.Prelude.{◌≡◌, ℕ, Some}
use Rattle.zl_meaning.specs.FlatForm.{FlatForm, HasForm, CalledIn, place_call}
use Rattle.zl_meaning.specs.Regular.{IsRegular}
use Rattle.zl_meaning.specs.WellFormed.{IsWellFormed}
use Rattle.zl_meaning.specs.declared.occurrence.Form.TheVariants.{Last}
use Rattle.zl_normal.specs.Evaluated.{KeepsLasts}
use Rattle.zl_normal.specs.MainBlock.{IsMain}

-- A `last` of a place in the copy of a call stands in that copy: its call is that one, or a call that stands there, as that of
-- `f` in `f(last x)`, whose arguments have the call of `f` and not that of `x`.
abbrev pub HasLastsInCopies : FlatForm → Type 0
HasLastsInCopies f = (k p call : ℕ) → HasForm f k (Last p) → place_call f p ≡ Some call → CalledIn f call k

-- in a regular form of the main block alone of which this holds, `last` is evaluated only with the call of its place
abbrev pub LastsAreKept : Type 0
LastsAreKept = (f : FlatForm) → IsWellFormed f → IsMain f → IsRegular f → HasLastsInCopies f → KeepsLasts f
