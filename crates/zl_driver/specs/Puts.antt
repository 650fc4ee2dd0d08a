-- Lines that are put one by one.
use Rattle.std.specs.Prelude.{◌≡◌, ℕ, List, ◌++◌, Result, OnOk, OnErr}
use Rattle.std.specs.List.{concat}
use Rattle.zl_outside.specs.Counts.{Rose}
use Rattle.zl_outside.specs.Pieces.{StandsFor, IsFront}
use Rattle.zl_outside.specs.Writes.{Writes}

-- each list of pieces has the lines behind it
abbrev pub GrowsBy : StandsFor → StandsFor → List (List ℕ) → Type 0
GrowsBy before now lines = (pieces : List (List ℕ)) → before pieces → now (pieces ++ lines)

-- all lines are put, or a put failed and what was written is a front of the lines
pub record PutsLines {T E : Type 0} (before now : StandsFor) (faults_before faults_now : ℕ) (lines : List (List ℕ)) (result : Result T E) : Type 0 where
  pub ok : OnOk result (GrowsBy before now lines)
  pub kept : OnOk result (faults_now ≡ faults_before)
  pub failed : OnErr result (Writes before now (λ bytes. IsFront bytes (concat lines)))
  pub cause : OnErr result (Rose faults_before faults_now)
