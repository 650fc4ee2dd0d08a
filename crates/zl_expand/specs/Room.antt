-- Room for the numbers of what a walk makes.
use Rattle.std.specs.Prelude.{ℕ, ◌+◌, ◌*◌, ◌^◌, ◌<◌}
use Rattle.zl_flat.specs.Parts.{Parts}
use Rattle.zl_flat.specs.Counted.{count}

-- There are numbers for what was made, for the hidden occurrences behind `base` others and for these parts, and walks this
-- deep may stand in each other. Parts count thrice, so that what stands in one of them has room where that has.
abbrev pub HasRoom : (depth base : ℕ) (out more : Parts) → Type 0
HasRoom depth base out more = depth + (base + (count out + 3 * count more)) < 2 ^ 32
