-- A shelf in memory.
use Rattle.std.specs.Prelude.{◌≡◌, ◌⊎◌, ℕ, List, [], ◌∷◌, Option, Some, None, Contains, if◌then◌else◌}
use Rattle.std.specs.Str.{bytes_eq}
use Rattle.zl_outside.specs.Counts.{raised}
use Rattle.zl_outside.specs.FileMap.{FileMap}

-- Its files with their names, the newest first; the numbers of the reads that fail; how many reads
-- there were; the names of those that failed.
pub record ShelfState : Type 0 where
  pub files : List (List ℕ × List ℕ)
  pub failing : List ℕ
  pub calls : ℕ
  pub failed : List (List ℕ)

-- with no file, no planned failure and no call
abbrev pub empty_shelf : ShelfState
empty_shelf = record { files = []; failing = []; calls = 0; failed = [] }

-- the bytes of the newest file of the name
abbrev pub file_named : List (List ℕ × List ℕ) → FileMap
file_named [] name = None
file_named (file ∷ files) name = if bytes_eq file.0 name then Some file.1 else file_named files name

-- it tells its files
abbrev pub shelf_told : ShelfState → Option FileMap
shelf_told shelf = Some (file_named shelf.files)

abbrev pub shelf_failed : ShelfState → List (List ℕ)
shelf_failed shelf = shelf.failed

-- the next read of the name fails: its number was planned, or there is no file of the name
abbrev pub ReadFails : ShelfState → List ℕ → Type 0
ReadFails shelf name = Contains shelf.failing (raised shelf.calls) ⊎ (file_named shelf.files name ≡ None)
