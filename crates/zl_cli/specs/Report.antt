-- What the program answers to its words: a status and a text. This project's own.
use Rattle.std.specs.Prelude.{◌≡◌, ◌⊎◌, ℕ, List, [], ◌∷◌, ◌++◌, codes, Option, Some, None}
use Rattle.std.specs.List.{concat}
use Rattle.zl_outside.specs.Counts.{Rose}
use Rattle.zl_outside.specs.FileMap.{FileMap, HoldsFile}
use Rattle.zl_outside.specs.Pieces.{StandsFor, IsFront}
use Rattle.zl_outside.specs.Writes.{Writes}
use Rattle.zl_value.specs.Fraction.{Fraction}
use Rattle.zl_value.specs.declared.position.Pos.{Pos}
use Rattle.zl_value.specs.declared.rule.Rule.{Rule}
use Rattle.zl_value.specs.declared.rule.Rule.TheVariants.{Unbuilt}
use Rattle.zl_value.specs.declared.script.Ending.{Ending}
use Rattle.zl_value.specs.declared.script.Ending.TheVariants.{Horizon, Bound, Empty as NoValue, Fault as EndsInFault}
use Rattle.zl_value.specs.declared.thin.Thin.{Thin}
use Rattle.zl_driver.specs.HorizonScript.{horizon_of}
use Rattle.zl_driver.specs.ThinRun.{thin_lines, thin_end}
use Rattle.zl_cli.specs.declared.status.Status.{Status}
use Rattle.zl_cli.specs.declared.status.Status.TheVariants as status
use Rattle.zl_compile.specs.Accepts.{BreaksNoRule}
use Rattle.zl_compile.specs.Breaks.{Breaks}
use Rattle.zl_compile.specs.FileText.{file_start}
use Rattle.zl_cli.specs.Files.{HasThin, read_cap}
use Rattle.zl_cli.specs.Texts.{ok_line, refusal_line, script_line, usage_line, read_fault_line, no_memory_line}

-- the words `check FILE`
abbrev pub IsCheck : List (List ℕ) → List ℕ → Type 0
IsCheck words file = words ≡ codes "check" ∷ file ∷ []

-- the words `run FILE SCRIPT`
abbrev pub IsRun : List (List ℕ) → List ℕ → List ℕ → Type 0
IsRun words file script = words ≡ codes "run" ∷ file ∷ script ∷ []

-- A call: its words, what the shelf tells, and the shelf's list of failed reads before it and after it.
pub record Call : Type 0 where
  pub words : List (List ℕ)
  pub told : Option FileMap
  pub failed_before : List (List ℕ)
  pub failed_now : List (List ℕ)

-- the words of a command that reads this file first
abbrev pub Asks : List (List ℕ) → List ℕ → Type 0
Asks words file = IsCheck words file ⊎ ((script : List ℕ) × IsRun words file script)

-- the call `check file`
abbrev pub check_call : Option FileMap → List (List ℕ) → List (List ℕ) → List ℕ → Call
check_call told before now file =
    record { words = codes "check" ∷ file ∷ []; told = told; failed_before = before; failed_now = now }

-- the call `run file script`
abbrev pub run_call : Option FileMap → List (List ℕ) → List (List ℕ) → List ℕ → List ℕ → Call
run_call told before now file script =
    record { words = codes "run" ∷ file ∷ script ∷ []; told = told; failed_before = before; failed_now = now }

-- no read of the call failed
abbrev pub AllRead : Call → Type 0
AllRead call = call.failed_now ≡ call.failed_before

-- one read of the call failed, that of this file
abbrev pub IsUnread : Call → List ℕ → Type 0
IsUnread call name = call.failed_now ≡ call.failed_before ++ name ∷ []

-- the file of this name breaks the rule at this place, and no earlier one
abbrev pub FileBreaks : Call → List ℕ → Rule → Pos → Type 0
FileBreaks call name rule at = (bytes : List ℕ) × HoldsFile call.told name read_cap bytes × Breaks bytes rule at

abbrev pub FileBreaksNoRule : Call → List ℕ → Type 0
FileBreaksNoRule call name = (bytes : List ℕ) × HoldsFile call.told name read_cap bytes × BreaksNoRule bytes

-- the file of this name breaks no rule, and this is its program; `None` where its form isn't built
abbrev pub FileHas : Call → List ℕ → Option Thin → Type 0
FileHas call name thin = (bytes : List ℕ) × HoldsFile call.told name read_cap bytes × HasThin bytes thin

abbrev pub FileIs : Call → List ℕ → Thin → Type 0
FileIs call name thin = FileHas call name (Some thin)

-- the file of this name is refused by this rule, at this place: the first that it breaks or, where it breaks none and is to be
-- run, that its form isn't built
abbrev pub IsRefused : Call → List ℕ → Rule → Pos → Type 0
IsRefused call file rule at =
    (Asks call.words file × FileBreaks call file rule at)
    ⊎ ((script : List ℕ) × IsRun call.words file script × FileHas call file None × (rule ≡ Unbuilt) × (at ≡ file_start))

abbrev pub ScriptIs : Call → List ℕ → Option Fraction → Type 0
ScriptIs call name horizon = (bytes : List ℕ) × HoldsFile call.told name read_cap bytes × (horizon_of bytes ≡ horizon)

-- the status of a run with this end
abbrev pub run_status : Ending → Status
run_status Horizon = status.Done
run_status Bound = status.Bound
run_status NoValue = status.Empty
run_status (EndsInFault fault time mark) = status.ArithFault

-- the program of the file is run up to the horizon of the script, with this status and this trace
abbrev pub RunsTo : Call → Status → List ℕ → Type 0
RunsTo call status text = (file : List ℕ) × (script : List ℕ) × (thin : Thin) × (horizon : Fraction)
    × IsRun call.words file script × FileIs call file thin × ScriptIs call script (Some horizon)
    × (run_status (thin_end thin horizon) ≡ status) × (text ≡ concat (thin_lines thin horizon))

-- the file is checked and breaks no rule
abbrev pub ChecksOut : Call → List ℕ → Type 0
ChecksOut call text = (file : List ℕ) × IsCheck call.words file × FileBreaksNoRule call file × (text ≡ ok_line)

-- What a call answers, by its status, and the text of the answer. The statuses come in this order: the words; reading
-- the file; its refusal; reading the script; its refusal; the run. Want of memory may come at any of these.
abbrev pub IsAnswer : Call → Status → List ℕ → Type 0
IsAnswer call status.Usage text =
    AllRead call × ((file : List ℕ) → Asks call.words file → ⊥) × (text ≡ usage_line)
IsAnswer call status.ReadFault text =
    (text ≡ read_fault_line) × (((file : List ℕ) × Asks call.words file × IsUnread call file)
    ⊎ ((file : List ℕ) × (script : List ℕ) × (thin : Thin) × IsRun call.words file script × FileIs call file thin × IsUnread call script))
IsAnswer call status.RefusedFile text =
    AllRead call × ((file : List ℕ) × (rule : Rule) × (at : Pos) × IsRefused call file rule at × (text ≡ refusal_line rule at))
IsAnswer call status.RefusedScript text =
    AllRead call × ((file : List ℕ) × (script : List ℕ) × (thin : Thin) × IsRun call.words file script
    × FileIs call file thin × ScriptIs call script None × (text ≡ script_line))
IsAnswer call status.Done text = AllRead call × (ChecksOut call text ⊎ RunsTo call status.Done text)
IsAnswer call status.ArithFault text = AllRead call × RunsTo call status.ArithFault text
IsAnswer call status.Bound text = AllRead call × RunsTo call status.Bound text
IsAnswer call status.Empty text = AllRead call × RunsTo call status.Empty text
IsAnswer call status.NoMemory text =
    AllRead call × ((file : List ℕ) × Asks call.words file) × (text ≡ no_memory_line)
IsAnswer call status.WriteFault text = ⊥

-- the text is written whole, and its status is answered
abbrev pub IsWhole : StandsFor → StandsFor → ℕ → ℕ → Status → List ℕ → Status → Type 0
IsWhole before now faults_before faults_now status text result =
    (result ≡ status) × (faults_now ≡ faults_before) × Writes before now (λ bytes. bytes ≡ text)

-- a put failed: a front of the text is written, and a write fault is answered
abbrev pub IsCut : StandsFor → StandsFor → ℕ → ℕ → List ℕ → Status → Type 0
IsCut before now faults_before faults_now text result =
    (result ≡ status.WriteFault) × Rose faults_before faults_now × Writes before now (λ bytes. IsFront bytes text)

abbrev pub Tells : StandsFor → StandsFor → ℕ → ℕ → Status → List ℕ → Status → Type 0
Tells before now faults_before faults_now status text result =
    IsWhole before now faults_before faults_now status text result ⊎ IsCut before now faults_before faults_now text result

-- The status and the bytes are those of an answer to the call, unless a put failed.
abbrev pub IsReport : Call → StandsFor → StandsFor → ℕ → ℕ → Status → Type 0
IsReport call before now faults_before faults_now result =
    (status : Status) × (text : List ℕ) × IsAnswer call status text × Tells before now faults_before faults_now status text result
