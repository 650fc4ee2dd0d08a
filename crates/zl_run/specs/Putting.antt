-- What is answered where a line is written and put.
use Rattle.std.specs.Prelude.{◌≡◌, ℕ, List, Result, Ok, Err}
use Rattle.zl_outside.specs.Counts.{Rose}
use Rattle.zl_outside.specs.Pieces.{StandsFor, Grows, GrowsInPart}
use Rattle.zl_run.specs.declared.end.RunAnswer.{RunAnswer}
use Rattle.zl_run.specs.declared.end.RunAnswer.TheVariants.{WriteFault, Memory}

-- each list is as it was
abbrev pub Stays : StandsFor → StandsFor → Type 0
Stays before now = (given : List (List ℕ)) → before given → now given

-- the piece is put; or the put failed; or there was no memory for the line, and nothing was put
abbrev pub IsPut : {T : Type 0} → StandsFor → StandsFor → ℕ → ℕ → List ℕ → Result T RunAnswer → Type 0
IsPut before now faults_before faults_now piece (Ok done) = Grows before now piece × (faults_now ≡ faults_before)
IsPut before now faults_before faults_now piece (Err WriteFault) = GrowsInPart before now piece × Rose faults_before faults_now
IsPut before now faults_before faults_now piece (Err Memory) = Stays before now × (faults_now ≡ faults_before)
