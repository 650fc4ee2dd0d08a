-- A put of a piece into a sink.
use Rattle.std.specs.Prelude.{◌≡◌, ℕ, ◌≤◌, List, [], Result, IsOk, OnOk, OnErr}
use Rattle.zl_outside.specs.Counts.{Rose}
use Rattle.zl_outside.specs.Pieces.{StandsFor, Grows, GrowsInPart}

-- what a put does to the lists of pieces and to the count of faults
pub record Puts {T E : Type 0} (before now : StandsFor) (faults_before faults_now : ℕ) (piece : List ℕ) (result : Result T E) : Type 0 where
  pub ok : OnOk result (Grows before now piece)
  pub failed : OnErr result (GrowsInPart before now piece)
  pub cause : OnErr result (Rose faults_before faults_now)
  pub kept : OnOk result (faults_now ≡ faults_before)
  pub never_falls : faults_before ≤ faults_now
  pub nothing : piece ≡ [] → IsOk result
