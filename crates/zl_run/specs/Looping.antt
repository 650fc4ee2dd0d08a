-- What holds before each instant of a run is taken.
use Rattle.std.specs.Prelude.{◌≡◌, ℕ}
use Rattle.zl_value.specs.Instants.{Instant, History}
use Rattle.zl_value.specs.declared.script.Script.{Script}
use Rattle.zl_outside.specs.Pieces.{StandsFor}
use Rattle.zl_code.specs.CodeForm.{CodeForm}
use Rattle.zl_code.specs.Method.{Doing}
use Rattle.zl_machine.specs.Calls.{outcome}
use Rattle.zl_machine.specs.MachineForm.{MachineForm}
use Rattle.zl_machine.specs.declared.outcome.Outcome.{Outcome}
use Rattle.zl_lines.specs.RoomForm.{RoomForm, IsRoomFor}
use Rattle.zl_run.specs.Answers.{pieces, GrowsBy}
use Rattle.zl_run.specs.Standing.{Stands}
use Rattle.zl_run.specs.declared.track.Track.{Track}

-- an instant was made after a history, the lines of the history are put, and that of the instant isn't
pub record AtInstant (c : CodeForm) (script : Script) (before now : StandsFor) (faults_before faults_now : ℕ) (line : RoomForm) (o : Outcome) (t : Track) (m : MachineForm) : Type 0 where
  pub history : History Doing
  pub instant : Instant Doing
  pub stands : Stands c script history instant t m
  pub answer : o ≡ outcome c instant.kind instant.table
  pub written : GrowsBy before now (pieces c history)
  pub kept : faults_now ≡ faults_before
  pub room : IsRoomFor c line
