-- The bytes that a call wrote to a sink.
use Rattle.std.specs.Prelude.{ℕ, List, ◌++◌}
use Rattle.std.specs.List.{concat}
use Rattle.zl_outside.specs.Pieces.{StandsFor}

-- Each list grew by pieces whose concatenation is what was to be written.
abbrev pub Writes : StandsFor → StandsFor → (List ℕ → Type 0) → Type 0
Writes before now IsWritten = (pieces : List (List ℕ)) → before pieces →
    (added : List (List ℕ)) × now (pieces ++ added) × IsWritten (concat added)
