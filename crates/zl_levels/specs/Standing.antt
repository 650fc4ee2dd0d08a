-- Calls that are evaluated at each instant.
use Rattle.std.specs.Prelude.{◌≡◌, ◌⊎◌, ℕ, Some}
use Rattle.zl_value.specs.Lists.{Has}
use Rattle.zl_meaning.specs.FlatForm.{FlatForm, HasForm, CalledIn, place_call}
use Rattle.zl_meaning.specs.Uses.{ArgumentOf, IsUse}
use Rattle.zl_meaning.specs.Regular.{Context, Discrete, Hybrid, IsRegular}
use Rattle.zl_meaning.specs.declared.occurrence.Form.TheVariants.{Last}

-- what stands in a discrete or hybrid context stands in no branch of an `if`, in no `init` value and in no reset value
abbrev pub IsStanding : Context → Type 0
IsStanding c = (c ≡ Discrete) ⊎ (c ≡ Hybrid)

-- the argument of a site, a place that is read by `last` and a result of main stand in no copies but those of such calls
pub record HasStandingCalls (f : FlatForm) (regular : IsRegular f) : Type 0 where
  pub sites : (k call : ℕ) → IsUse f k ArgumentOf → CalledIn f call k → IsStanding (regular.context call)
  pub lasts : (k p call : ℕ) → HasForm f k (Last p) → place_call f p ≡ Some call → IsStanding (regular.context call)
  pub outs : (p call : ℕ) → Has f.outs p → place_call f p ≡ Some call → IsStanding (regular.context call)
