-- What a shelf holds under each name.
use Rattle.std.specs.Prelude.{◌≡◌, ℕ, ◌≤◌, List, length, take, Option, IsSomeAnd, IfSome}

-- the bytes of each file, by its name
abbrev pub FileMap : Type 0
FileMap = List ℕ → Option (List ℕ)

-- The bytes are the first `cap` of the named file, or all if it has fewer. Where the map is told,
-- the file is one of the map's.
pub record HoldsFile (told : Option FileMap) (name : List ℕ) (cap : ℕ) (bytes : List ℕ) : Type 0 where
  pub most : length bytes ≤ cap
  pub content : IfSome told (λ files. IsSomeAnd (files name) (λ file. bytes ≡ take cap file))
