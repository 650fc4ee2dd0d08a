-- What the steps of a call answer. The report is made of these.
use Rattle.std.specs.Prelude.{◌⊎◌, ℕ, List}
use Rattle.std.specs.List.{concat}
use Rattle.zl_outside.specs.Pieces.{StandsFor}
use Rattle.zl_value.specs.Fraction.{Fraction}
use Rattle.zl_value.specs.declared.thin.Thin.{Thin}
use Rattle.zl_driver.specs.ThinRun.{thin_lines, thin_end}
use Rattle.zl_cli.specs.declared.load.Stop.{Stop}
use Rattle.zl_cli.specs.declared.load.Stop.TheVariants as stop
use Rattle.zl_cli.specs.declared.status.Status.{Status}
use Rattle.zl_cli.specs.declared.status.Status.TheVariants as status
use Rattle.zl_cli.specs.Report.{Tells, run_status}
use Rattle.zl_cli.specs.Texts.{refusal_line, read_fault_line, no_memory_line}

-- this status and its text, or want of memory
abbrev pub TellsOrRunsOut : StandsFor → StandsFor → ℕ → ℕ → Status → List ℕ → Status → Type 0
TellsOrRunsOut before now faults_before faults_now told text result =
    Tells before now faults_before faults_now told text result
    ⊎ Tells before now faults_before faults_now status.NoMemory no_memory_line result

-- why a file gave nothing to go on with
abbrev pub TellsStop : StandsFor → StandsFor → ℕ → ℕ → Stop → Status → Type 0
TellsStop before now faults_before faults_now stop.Unread result =
    Tells before now faults_before faults_now status.ReadFault read_fault_line result
TellsStop before now faults_before faults_now (stop.Refused rule at) result =
    TellsOrRunsOut before now faults_before faults_now status.RefusedFile (refusal_line rule at) result
TellsStop before now faults_before faults_now stop.Memory result =
    Tells before now faults_before faults_now status.NoMemory no_memory_line result

-- the run of a program up to a horizon
abbrev pub TellsRun : StandsFor → StandsFor → ℕ → ℕ → Thin → Fraction → Status → Type 0
TellsRun before now faults_before faults_now thin horizon result =
    TellsOrRunsOut before now faults_before faults_now (run_status (thin_end thin horizon)) (concat (thin_lines thin horizon)) result
