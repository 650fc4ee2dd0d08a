-- What a run answers, and the pieces that it puts.
use Rattle.std.specs.Prelude.{◌≡◌, ◌⊎◌, ℕ, Bool, false, List, [], ◌∷◌, ◌++◌, Option, None, Result, Ok, Err}
use Rattle.std.specs.List.{concat}
use Rattle.zl_value.specs.Lines.{ending_line}
use Rattle.zl_value.specs.Instants.{History}
use Rattle.zl_value.specs.Runs.{IsPrefix, IsRun}
use Rattle.zl_value.specs.Traces.{line_of}
use Rattle.zl_value.specs.declared.value.Fault.{Fault}
use Rattle.zl_value.specs.declared.script.Script.{Script}
use Rattle.zl_value.specs.declared.script.Ending.{Ending}
use Rattle.zl_value.specs.declared.script.Ending.TheVariants.{Horizon, Bound, Empty, Fault as EndsInFault}
use Rattle.zl_outside.specs.Counts.{Rose}
use Rattle.zl_outside.specs.Pieces.{StandsFor, IsFront}
use Rattle.zl_outside.specs.Writes.{Writes}
use Rattle.zl_code.specs.CodeForm.{CodeForm}
use Rattle.zl_code.specs.Method.{Doing}
use Rattle.zl_code.specs.System.{system_of, fault_of, lacks}
use Rattle.zl_code.specs.Trace.{outputs}
use Rattle.zl_machine.specs.MachineForm.{MachineForm}
use Rattle.zl_run.specs.declared.end.End.{End}
use Rattle.zl_run.specs.declared.end.End.TheVariants as answer
use Rattle.zl_run.specs.declared.end.RunAnswer.{RunAnswer}
use Rattle.zl_run.specs.declared.end.RunAnswer.TheVariants.{WriteFault, Memory}

-- the answer of a run with this end
abbrev pub end_of : Ending → End
end_of Horizon = answer.Horizon
end_of Bound = answer.Bound
end_of Empty = answer.Empty
end_of (EndsInFault fault time mark) = answer.Fault fault.kind fault.at

-- the line alone of an instant without a fault at which no value is missing
abbrev pub piece_if_right : Option Fault → Bool → List ℕ → List (List ℕ)
piece_if_right None false line = line ∷ []
piece_if_right _ _ line = []

-- the lines of the instants, one piece each
abbrev pub pieces : CodeForm → History Doing → List (List ℕ)
pieces c [] = []
pieces c (i ∷ h) = pieces c h ++ piece_if_right (fault_of i.table) (lacks c i.kind i.table.regs) (line_of (outputs c) h i)

-- those of a run with its end
abbrev pub trace_pieces : CodeForm → History Doing → Ending → List (List ℕ)
trace_pieces c h ending = pieces c h ++ ending_line ending ∷ []

-- each list of pieces has these behind it
abbrev pub GrowsBy : StandsFor → StandsFor → List (List ℕ) → Type 0
GrowsBy before now more = (given : List (List ℕ)) → before given → now (given ++ more)

-- the bytes are a front of the lines of a run, as far as it is made
abbrev pub IsBeginning : CodeForm → Script → List ℕ → Type 0
IsBeginning c script bytes =
    (h : History Doing) × ((IsPrefix (system_of c) script h × IsFront bytes (concat (pieces c h)))
    ⊎ ((ending : Ending) × IsRun (system_of c) script h ending × IsFront bytes (concat (trace_pieces c h ending))))

-- the machine stands after the latest instant
abbrev pub StandsAfter : History Doing → MachineForm → Type 0
StandsAfter [] m = ⊥
StandsAfter (i ∷ h) m = (m.mems ≡ i.table.mems) × (m.regs ≡ i.table.regs)

-- where the end is the horizon or the bound, the machine stands after the last instant
abbrev pub StandsAtEnd : Ending → History Doing → MachineForm → Type 0
StandsAtEnd Horizon h m = StandsAfter h m
StandsAtEnd Bound h m = StandsAfter h m
StandsAtEnd _ h m = Unit {0}

-- the lines of a run are put, one put each, and its end is answered
pub record Ran (c : CodeForm) (script : Script) (before now : StandsFor) (m : MachineForm) (end : End) : Type 0 where
  pub history : History Doing
  pub ending : Ending
  pub run : IsRun (system_of c) script history ending
  pub answer : end ≡ end_of ending
  pub written : GrowsBy before now (trace_pieces c history ending)
  pub machine : StandsAtEnd ending history m

-- what a run answers: its end; or a put failed, or there was no memory, and a front of its lines is written
abbrev pub Runs : CodeForm → Script → StandsFor → StandsFor → ℕ → ℕ → MachineForm → Result End RunAnswer → Type 0
Runs c script before now faults_before faults_now m (Ok end) = Ran c script before now m end × (faults_now ≡ faults_before)
Runs c script before now faults_before faults_now m (Err WriteFault) = Writes before now (IsBeginning c script) × Rose faults_before faults_now
Runs c script before now faults_before faults_now m (Err Memory) = Writes before now (λ bytes. (bytes ≡ []) ⊎ IsBeginning c script bytes) × (faults_now ≡ faults_before)
