-- The sites after an instant, by the registers that it left.
use Rattle.std.specs.Prelude.{ℕ, Bool, false, not, ◌&&◌, List, [], ◌∷◌, length, get_or, Option, Some, None}
use Rattle.zl_value.specs.Fraction.{Fraction}
use Rattle.zl_value.specs.Lists.{listed}
use Rattle.zl_value.specs.Times.{is_negative, is_below, is_above, holds}
use Rattle.zl_value.specs.Instants.{History}
use Rattle.zl_code.specs.CodeForm.{CodeForm}
use Rattle.zl_code.specs.Method.{Cells, Doing}
use Rattle.zl_code.specs.System.{site_value, site_fresh}

-- a number that is there is below zero, is from zero on
abbrev pub below_by : Option Fraction → Bool
below_by None = false
below_by (Some value) = is_negative value

abbrev pub above_by : Option Fraction → Bool
above_by None = false
above_by (Some value) = not (is_negative value)

-- of each site whether it is below zero
abbrev pub belows : CodeForm → Cells → List Bool
belows c regs = listed (length c.sites) 0 (λ n. is_below (site_value c regs n))

-- the same of the latest instant; before the first none is
abbrev pub belows_after : CodeForm → History Doing → List Bool
belows_after c [] = listed (length c.sites) 0 (λ n. false)
belows_after c (i ∷ h) = belows c i.table.regs

-- a site that was below zero, or not, fires
abbrev pub fires_at : CodeForm → Bool → Cells → ℕ → Bool
fires_at c was regs n = was && (is_above (site_value c regs n) && not (holds (site_fresh c regs n)))

-- of each site whether it fires
abbrev pub firings : CodeForm → List Bool → Cells → List Bool
firings c below regs = listed (length c.sites) 0 (λ n. fires_at c (get_or below n false) regs n)
