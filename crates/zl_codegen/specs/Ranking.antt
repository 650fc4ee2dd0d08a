-- How wires are put in order: by numbers that grow along all that wires read.
use Rattle.std.specs.Prelude.{◌≡◌, ℕ, ◌<◌, ◌≤◌, ◌+◌, ◌*◌, List, get_or, map}
use Rattle.std.specs.List.{All}
use Rattle.zl_value.specs.Lists.{listed}
use Rattle.zl_codegen.specs.declared.entry.Entry.{Entry}

-- the number lies between those of the wire's rank and of the next one
pub record IsKey (ranks : List ℕ) (entry : Entry) : Type 0 where
  pub low : get_or ranks entry.wire 0 * 4294967296 ≤ entry.key
  pub high : entry.key < (get_or ranks entry.wire 0 + 1) * 4294967296

abbrev pub wire_of : Entry → ℕ
wire_of entry = entry.wire

-- the first `n` wires, each with its number
pub record AreEntries (ranks : List ℕ) (n : ℕ) (entries : List Entry) : Type 0 where
  pub wires : map wire_of entries ≡ listed n 0 (λ j. j)
  pub keys : All (IsKey ranks) entries
