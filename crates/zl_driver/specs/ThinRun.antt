-- The run of one variable whose derivative is a constant, up to a horizon. This project's own.
use Rattle.std.specs.Prelude.{◌≡◌, ℕ, ◌==◌, if◌then◌else◌, unsigned_abs, pos, List, [], ◌∷◌, Result, Ok, Err}
use Rattle.std.specs.List.{concat}
use Rattle.zl_value.specs.Fraction.{Fraction, add, mul, fitted, whole}
use Rattle.zl_value.specs.Lines.{Shown, instant_line, ending_line}
use Rattle.zl_value.specs.declared.arith.Arith.{Arith}
use Rattle.zl_value.specs.declared.script.Mark.{Mark}
use Rattle.zl_value.specs.declared.script.Mark.TheVariants.{Step, Left, Flow}
use Rattle.zl_value.specs.declared.script.Ending.{Ending}
use Rattle.zl_value.specs.declared.script.Ending.TheVariants.{Horizon, Fault as EndsInFault}
use Rattle.zl_value.specs.declared.script.Ending.TheVariants.{Bound, Empty}
use Rattle.zl_value.specs.declared.thin.Thin.{Thin}
use Rattle.zl_value.specs.declared.value.Value.TheVariants.{F}
use Rattle.zl_outside.specs.Counts.{Rose}
use Rattle.zl_outside.specs.Pieces.{StandsFor, IsFront}
use Rattle.zl_outside.specs.Writes.{Writes}
use Rattle.zl_driver.specs.Puts.{GrowsBy}
use Rattle.zl_driver.specs.declared.end.End.{End}
use Rattle.zl_driver.specs.declared.end.End.TheVariants as answer
use Rattle.zl_driver.specs.declared.end.RunAnswer.{RunAnswer}
use Rattle.zl_driver.specs.declared.end.RunAnswer.TheVariants.{WriteFault, Memory}

-- the start and the increment, if that is in the width
abbrev pub start_and : Fraction → Result Fraction Arith → Result Fraction Arith
start_and start (Ok increment) = fitted (add start increment)
start_and start (Err kind) = Err kind

-- the value at the horizon, if the increment is in the width and then the value too
abbrev pub value_at : Thin → Fraction → Result Fraction Arith
value_at thin horizon = start_and thin.start (fitted (mul thin.slope horizon))

-- the line of an instant at which the variable has this value
abbrev pub line_at : Thin → Fraction → Mark → Fraction → List ℕ
line_at thin time mark value = instant_line time mark (record { name = thin.name; value = F value } ∷ [])

-- the end of a flow from time 0 to the horizon: at the horizon, or a fault at the variable
abbrev pub flow_end : Thin → Result Fraction Arith → Ending
flow_end thin (Ok value) = Horizon
flow_end thin (Err kind) = EndsInFault (record { kind = kind; at = thin.at }) (whole (pos 0)) Flow

-- the run's end; at horizon 0 nothing flows
abbrev pub thin_end : Thin → Fraction → Ending
thin_end thin horizon = if unsigned_abs horizon.num == 0 then Horizon else flow_end thin (value_at thin horizon)

-- the lines behind that of the initial step
abbrev pub flow_lines : Thin → Fraction → Result Fraction Arith → List (List ℕ)
flow_lines thin horizon (Ok value) = line_at thin horizon Left value ∷ ending_line (flow_end thin (Ok value)) ∷ []
flow_lines thin horizon (Err kind) = ending_line (flow_end thin (Err kind)) ∷ []

abbrev pub lines_behind : Thin → Fraction → List (List ℕ)
lines_behind thin horizon =
    if unsigned_abs horizon.num == 0 then ending_line Horizon ∷ [] else flow_lines thin horizon (value_at thin horizon)

-- the lines of the run: the initial step at time 0 with the initial value, then the end of the flow, then the end
abbrev pub thin_lines : Thin → Fraction → List (List ℕ)
thin_lines thin horizon = line_at thin (whole (pos 0)) (Step 0) thin.start ∷ lines_behind thin horizon

-- the answer of a run with this end
abbrev pub end_of : Ending → End
end_of Horizon = answer.Horizon
end_of Bound = answer.Bound
end_of Empty = answer.Empty
end_of (EndsInFault fault time mark) = answer.Fault fault.kind fault.at

-- the run's lines are put and its end is answered; or a put failed; or nothing was begun for want of memory
abbrev pub ThinAnswer : Thin → Fraction → StandsFor → StandsFor → ℕ → ℕ → Result End RunAnswer → Type 0
ThinAnswer thin horizon before now faults_before faults_now (Ok end) =
    (end ≡ end_of (thin_end thin horizon)) × GrowsBy before now (thin_lines thin horizon) × (faults_now ≡ faults_before)
ThinAnswer thin horizon before now faults_before faults_now (Err WriteFault) =
    Writes before now (λ bytes. IsFront bytes (concat (thin_lines thin horizon))) × Rose faults_before faults_now
ThinAnswer thin horizon before now faults_before faults_now (Err Memory) = GrowsBy before now [] × (faults_now ≡ faults_before)
