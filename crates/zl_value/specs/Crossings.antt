-- When a zero-crossing fires, and how long a flow lasts. The rule is this project's own, after Zélus' `up`.
use Rattle.std.specs.Prelude.{◌≡◌, ℕ, Bool, true, false, not, ◌&&◌, ◌||◌, Option}
use Rattle.std.specs.List.{list_any, list_all}
use Rattle.zl_value.specs.Fraction.{Fraction, IsReduced, add}
use Rattle.zl_value.specs.Lists.{listed}
use Rattle.zl_value.specs.Times.{nought, is_negative, is_below, is_above}
use Rattle.zl_value.specs.Order.{below}
use Rattle.zl_value.specs.Stops.{is_stop, is_clear}
use Rattle.zl_value.specs.declared.value.Value.{Value}
use Rattle.zl_value.specs.declared.script.Script.{Script}

-- from one instant to the next a site's value came from below zero to zero or above, and its block isn't fresh
abbrev pub fires : Option Value → Option Value → Bool → Bool
fires before now fresh = is_below before && (is_above now && not fresh)

-- what sites have at a moment of a flow: the value of each, by its number
abbrev pub SiteValues : Type 0
SiteValues = Fraction → ℕ → Option Value

-- site `n` is below zero at the start and reaches zero at moment `s`
abbrev pub is_reached : SiteValues → Fraction → ℕ → Bool
is_reached value s n = is_below (value nought n) && is_above (value s n)

-- site `n` isn't below zero at the start, or still is at moment `s`
abbrev pub is_kept : SiteValues → Fraction → ℕ → Bool
is_kept value s n = not (is_below (value nought n)) || is_below (value s n)

-- some of the sites, all of the sites, of which there are `count`
abbrev pub any_reached : SiteValues → ℕ → Fraction → Bool
any_reached value count s = list_any (is_reached value s) (listed count 0 (λ n. n))

abbrev pub all_kept : SiteValues → ℕ → Fraction → Bool
all_kept value count s = list_all (is_kept value s) (listed count 0 (λ n. n))

-- a flow from time `t` lasts `d`: then a stop of the script comes or a site reaches zero, and neither does before
pub record Lasts (script : Script) (value : SiteValues) (count : ℕ) (t d : Fraction) : Type 0 where
  pub reduced : IsReduced d
  pub positive : below nought d ≡ true
  pub reached : (is_stop script (add t d) || any_reached value count d) ≡ true
  pub clear : is_clear script t (add t d) ≡ true
  pub first : (s : Fraction) → IsReduced s → is_negative s ≡ false → below s d ≡ true → all_kept value count s ≡ true
