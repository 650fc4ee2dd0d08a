-- The wires of occurrences and places, each of which has a wire of its own or that of another.
use Rattle.std.specs.Prelude.{◌≡◌, ◌+◌, ℕ, nat_lt, if◌then◌else◌, List, length, slice_get, get_or, Option, Some, None}
use Rattle.zl_normal.specs.declared.joined.Origin.{Origin}
use Rattle.zl_normal.specs.declared.joined.Origin.TheVariants.{Own, OfOcc, OfPlace}

-- the wire of an entry with this origin, by the wires of all
abbrev pub IsFrom : List ℕ → List ℕ → Origin → ℕ → Type 0
IsFrom occs places (Own w) n = n ≡ w
IsFrom occs places (OfOcc j) n = n ≡ get_or occs j 0
IsFrom occs places (OfPlace p) n = n ≡ get_or places p 0

-- the wires of occurrences and places with these origins
pub record AreJoined (occ_origins place_origins : List Origin) (occs places : List ℕ) : Type 0 where
  pub of_occs : (j : ℕ) (origin : Origin) → slice_get occ_origins j ≡ Some origin → IsFrom occs places origin (get_or occs j 0)
  pub of_places : (p : ℕ) (origin : Origin) → slice_get place_origins p ≡ Some origin → IsFrom occs places origin (get_or places p 0)

-- to which entry one with this origin leads, where places stand behind `n` occurrences
abbrev pub link_of : ℕ → Option Origin → Option ℕ
link_of n (Some (OfOcc j)) = if nat_lt j n then Some j else None
link_of n (Some (OfPlace p)) = Some (n + p)
link_of n origin = None

abbrev pub own_number : Option Origin → ℕ
own_number (Some (Own w)) = w
own_number origin = 0

-- the wire of entry `i`: that of its root
abbrev pub number_by : List Origin → List ℕ → ℕ → ℕ
number_by origins roots i = own_number (slice_get origins (get_or roots i i))
