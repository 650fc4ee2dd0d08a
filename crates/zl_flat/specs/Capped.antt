-- Counts as the code keeps them.
use Rattle.std.specs.Prelude.{ℕ, ◌-◌, ◌^◌, min}
use Rattle.zl_flat.specs.declared.size.Size.{Size}

-- counts as numbers of 64 bits: those that are too large stay at the greatest
abbrev pub cap : ℕ → ℕ
cap n = min n (2 ^ 64 - 1)

unfoldable pub capped : Size → Size
capped s = record { places = cap s.places; occs = cap s.occs; sites = cap s.sites; blocks = cap s.blocks; calls = cap s.calls }
