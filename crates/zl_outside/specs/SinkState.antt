-- A sink in memory.
use Rattle.std.specs.Prelude.{◌≡◌, ◌≢◌, ◌⊎◌, ℕ, ◌+◌, ◌<◌, List, [], ◌∷◌, ◌++◌, length, Result, Ok, Err, Contains}
use Rattle.std.specs.List.{concat}
use Rattle.zl_outside.specs.Counts.{raised}
use Rattle.zl_outside.specs.Pieces.{StandsFor}

-- Its bytes; how many it has room for; the numbers of the puts that fail; how many puts there were;
-- how many failed.
pub record SinkState : Type 0 where
  pub bytes : List ℕ
  pub room : ℕ
  pub failing : List ℕ
  pub calls : ℕ
  pub faults : ℕ

-- with no byte, no planned failure and no call
abbrev pub empty_sink : ℕ → SinkState
empty_sink room = record { bytes = []; room = room; failing = []; calls = 0; faults = 0 }

-- it stands for the lists whose concatenation is its bytes
abbrev pub sink_stands_for : SinkState → StandsFor
sink_stands_for sink pieces = sink.bytes ≡ concat pieces

abbrev pub sink_faults : SinkState → ℕ
sink_faults sink = sink.faults

-- the next put of the piece fails: its number was planned, or there is no room for the piece
abbrev pub PutFails : SinkState → List ℕ → Type 0
PutFails sink piece = (piece ≢ []) × (Contains sink.failing (raised sink.calls) ⊎ (sink.room < length sink.bytes + length piece))

-- a put of an empty piece isn't counted
abbrev pub calls_after : ℕ → List ℕ → ℕ
calls_after calls [] = calls
calls_after calls (byte ∷ bytes) = raised calls

-- what a put leaves
abbrev pub sink_after : {T E : Type 0} → SinkState → List ℕ → Result T E → SinkState
sink_after sink piece (Ok done) = record sink { bytes = sink.bytes ++ piece; calls = calls_after sink.calls piece }
sink_after sink piece (Err error) = record sink { calls = calls_after sink.calls piece; faults = raised sink.faults }
