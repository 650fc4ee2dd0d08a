-- What stands at the instants of a run is in the width.
use Rattle.std.specs.Prelude.{ℕ, List}
use Rattle.zl_meaning.specs.FlatForm.{FlatForm}
use Rattle.zl_meaning.specs.Decided.{HasDerivatives}
use Rattle.zl_meaning.specs.Reading.{HasNodeRanks}
use Rattle.zl_meaning.specs.WellFormed.{IsWellFormed}
use Rattle.zl_normal.specs.MainBlock.{IsMain}
use Rattle.zl_normal.specs.Starts.{HasNarrowDerivatives}

-- so it is of the derivatives that are evaluated, in a well-formed form of the main block alone with ranks, in whose runs they
-- have values
abbrev pub DerivativesAreNarrow : Type 0
DerivativesAreNarrow = (f : FlatForm) (grades : List ℕ) → IsWellFormed f → IsMain f → HasNodeRanks f → HasDerivatives f grades → HasNarrowDerivatives f grades
