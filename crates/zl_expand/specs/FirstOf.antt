-- Where a name first stands among others, as they are gone over one by one.
use Rattle.std.specs.Prelude.{ℕ, Bool, if◌then◌else◌, Option, Some, None}

-- where it was found before, else here, if this is the name
abbrev pub or_here : Option ℕ → Bool → ℕ → Option ℕ
or_here (Some n) b place = Some n
or_here None b place = if b then Some place else None
