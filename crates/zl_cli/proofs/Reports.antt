-- How the steps of a call make its report.
use Rattle.std.proofs.Common.{◌≡◌, ◌⊎◌, ℕ, List, [], ◌∷◌, ◌<◌, ◌≤◌, true, false, length, map, get_or, arith, codes, Option, Result, Ok, Err, refl, ap, sym, subst, ◌∙◌, inl, inr}
use Rattle.std.specs.List.{concat}
use Rattle.std.specs.Str.{bytes_eq}
use Rattle.std.proofs.lemmas.Slice.Eq.{bytes_eq-Decides}
use Rattle.std.proofs.lemmas.Bool.{false≢true}
use Rattle.zl_outside.specs.FileMap.{FileMap, HoldsFile}
use Rattle.zl_outside.specs.Pieces.{StandsFor}
use Rattle.zl_value.specs.Fraction.{Fraction}
use Rattle.zl_value.specs.declared.thin.Thin.{Thin}
use Rattle.zl_value.specs.declared.position.Pos.{Pos}
use Rattle.zl_value.specs.declared.rule.Rule.{Rule}
use Rattle.zl_value.specs.declared.script.Ending.{Ending}
use Rattle.zl_value.specs.declared.script.Ending.TheVariants.{Horizon, Bound, Empty as NoValue, Fault as EndsInFault}
use Rattle.zl_driver.specs.ThinRun.{thin_lines, thin_end}
use Rattle.zl_cli.specs.declared.load.Stop.{Stop}
use Rattle.zl_cli.specs.declared.load.Stop.TheVariants as stop
use Rattle.zl_cli.specs.declared.status.Status.{Status}
use Rattle.zl_cli.specs.declared.status.Status.TheVariants as status
use Rattle.zl_cli.specs.Files.{LoadsChecked, LoadsProgram, LoadsHorizon, IsNotRun, read_cap}
use Rattle.zl_cli.specs.Report.{Asks, Call, check_call, run_call, IsReport, IsAnswer, IsRefused, RunsTo, AllRead, Tells, FileIs, run_status}
use Rattle.zl_cli.specs.Steps.{TellsStop, TellsRun}
use Rattle.zl_cli.specs.Texts.{ok_line, refusal_line, script_line, read_fault_line, no_memory_line}

-- a file that isn't run is refused
not_run : (told : Option FileMap) (before now : List (List ℕ)) (file script bytes : List ℕ) (rule : Rule) (at : Pos)
    → HoldsFile told file read_cap bytes → IsNotRun bytes rule at → IsRefused (run_call told before now file script) file rule at
not_run told before now file script bytes rule at holds (inl breaks) = inl (inr (script, refl), (bytes, holds, breaks))
not_run told before now file script bytes rule at holds (inr unbuilt) =
    inr (script, refl, (bytes, holds, unbuilt.0), unbuilt.1, unbuilt.2)

-- the file gave nothing to go on with
pub file_stopped : (told : Option FileMap) (before now : List (List ℕ)) (file script : List ℕ)
    (was is : StandsFor) (faults_was faults_is : ℕ) (result : Status) (why : Stop)
    → LoadsProgram told before now file (Err why) → TellsStop was is faults_was faults_is why result
    → IsReport (run_call told before now file script) was is faults_was faults_is result
file_stopped told before now file script was is fw fi result stop.Unread loads tells =
    (status.ReadFault, read_fault_line, (refl, inl (file, inr (script, refl), loads)), tells)
file_stopped told before now file script was is fw fi result (stop.Refused rule at) loads (inl tells) =
    let its = loads.1 in
    (status.RefusedFile, refusal_line rule at, (loads.0, (file, rule, at, not_run told before now file script its.0 rule at its.1 its.2, refl)), tells)
file_stopped told before now file script was is fw fi result (stop.Refused rule at) loads (inr tells) =
    (status.NoMemory, no_memory_line, (loads.0, (file, inr (script, refl)), refl), tells)
file_stopped told before now file script was is fw fi result stop.Memory loads tells =
    (status.NoMemory, no_memory_line, (loads, (file, inr (script, refl)), refl), tells)

-- there was no memory
pub ran_out : (told : Option FileMap) (before now : List (List ℕ)) (file script : List ℕ)
    (was is : StandsFor) (faults_was faults_is : ℕ) (result : Status)
    → now ≡ before → Tells was is faults_was faults_is status.NoMemory no_memory_line result
    → IsReport (run_call told before now file script) was is faults_was faults_is result
ran_out told before now file script was is fw fi result read tells =
    (status.NoMemory, no_memory_line, (read, (file, inr (script, refl)), refl), tells)

-- the script could not be read, for another reason than a refusal
pub script_stopped : (told : Option FileMap) (before now : List (List ℕ)) (file script : List ℕ)
    (was is : StandsFor) (faults_was faults_is : ℕ) (result : Status) (thin : Thin) (why : Stop)
    → FileIs (run_call told before now file script) file thin
    → LoadsHorizon told before now script (Err why) → TellsStop was is faults_was faults_is why result
    → ((rule : Rule) (at : Pos) → why ≡ stop.Refused rule at → ⊥)
    → IsReport (run_call told before now file script) was is faults_was faults_is result
script_stopped told before now file script was is fw fi result thin stop.Unread holds loads tells other =
    (status.ReadFault, read_fault_line, (refl, inr (file, script, thin, refl, holds, loads)), tells)
script_stopped told before now file script was is fw fi result thin (stop.Refused rule at) holds loads tells other =
    absurd (other rule at refl)
script_stopped told before now file script was is fw fi result thin stop.Memory holds loads tells other =
    ran_out told before now file script was is fw fi result loads tells

-- the script is refused
pub script_refused : (told : Option FileMap) (before now : List (List ℕ)) (file script : List ℕ)
    (was is : StandsFor) (faults_was faults_is : ℕ) (result : Status) (thin : Thin) (rule : Rule) (at : Pos)
    → FileIs (run_call told before now file script) file thin
    → LoadsHorizon told before now script (Err (stop.Refused rule at))
    → Tells was is faults_was faults_is status.RefusedScript script_line result
    → IsReport (run_call told before now file script) was is faults_was faults_is result
script_refused told before now file script was is fw fi result thin rule at holds loads tells =
    (status.RefusedScript, script_line, (loads.0, (file, script, thin, refl, holds, loads.1, refl)), tells)

pub answer_of_run : (call : Call) (end : Ending) (text : List ℕ) → AllRead call → RunsTo call (run_status end) text → IsAnswer call (run_status end) text
answer_of_run call Horizon text read runs = (read, inr runs)
answer_of_run call Bound text read runs = (read, runs)
answer_of_run call NoValue text read runs = (read, runs)
answer_of_run call (EndsInFault fault time mark) text read runs = (read, runs)

-- the program was run
pub ran : (told : Option FileMap) (before now : List (List ℕ)) (file script : List ℕ)
    (was is : StandsFor) (faults_was faults_is : ℕ) (result : Status) (thin : Thin) (horizon : Fraction)
    → FileIs (run_call told before now file script) file thin
    → LoadsHorizon told before now script (Ok horizon)
    → TellsRun was is faults_was faults_is thin horizon result
    → IsReport (run_call told before now file script) was is faults_was faults_is result
ran told before now file script was is fw fi result thin horizon holds loads (inl tells) = (
  run_status (thin_end thin horizon),
  concat (thin_lines thin horizon),
  answer_of_run (run_call told before now file script) (thin_end thin horizon) (concat (thin_lines thin horizon)) loads.0
      (file, script, thin, horizon, refl, holds, loads.1, refl, refl),
  tells,
)
ran told before now file script was is fw fi result thin horizon holds loads (inr tells) =
    ran_out told before now file script was is fw fi result loads.0 tells

-- what was read of a script after other reads that did not fail
pub horizon_as : (told told' : Option FileMap) (before mid now : List (List ℕ)) (name : List ℕ) (r : Result Fraction Stop)
    → told' ≡ told → mid ≡ before → LoadsHorizon told' mid now name r → LoadsHorizon told before now name r
horizon_as told told' before mid now name r same read loads =
    subst (λ (files : Option FileMap). LoadsHorizon files before now name r) same
    (subst (λ (failed : List (List ℕ)). LoadsHorizon told' failed now name r) read loads)

-- a list of three words is these
pub three_words : {X : Type 0} (f : X → List ℕ) (words : List X) (a b c : X) → 3 ≤ length words → length words < 4
    → a ≡ get_or words 0 a → b ≡ get_or words 1 b → c ≡ get_or words 2 c → map f words ≡ f a ∷ f b ∷ f c ∷ []
three_words f [] a b c least most p q r = absurd (omega arith)
three_words f (x ∷ []) a b c least most p q r = absurd (omega arith)
three_words f (x ∷ y ∷ []) a b c least most p q r = absurd (omega arith)
three_words f (x ∷ y ∷ z ∷ []) a b c least most p q r = cc
three_words f (x ∷ y ∷ z ∷ w ∷ ws) a b c least most p q r = absurd (omega arith)

-- three words of which the first is `run`
pub run_words : {X : Type 0} (f : X → List ℕ) (words : List X) (a b c : X) (verb file script : List ℕ)
    → map f words ≡ f a ∷ f b ∷ f c ∷ [] → verb ≡ f a → bytes_eq verb (codes "run") ≡ true → file ≡ f b → script ≡ f c
    → map f words ≡ codes "run" ∷ file ∷ script ∷ []
run_words f words a b c verb file script all first is second third =
    let e : verb ≡ codes "run" = (bytes_eq-Decides verb (codes "run")).0 is in cc

-- two words of which the first is `check`
pub two_words : {X : Type 0} (f : X → List ℕ) (words : List X) (a b : X) → 2 ≤ length words → length words < 3
    → a ≡ get_or words 0 a → b ≡ get_or words 1 b → map f words ≡ f a ∷ f b ∷ []
two_words f [] a b least most p q = absurd (omega arith)
two_words f (x ∷ []) a b least most p q = absurd (omega arith)
two_words f (x ∷ y ∷ []) a b least most p q = cc
two_words f (x ∷ y ∷ z ∷ ws) a b least most p q = absurd (omega arith)

pub check_words : {X : Type 0} (f : X → List ℕ) (words : List X) (a b : X) (verb file : List ℕ)
    → map f words ≡ f a ∷ f b ∷ [] → verb ≡ f a → bytes_eq verb (codes "check") ≡ true → file ≡ f b
    → map f words ≡ codes "check" ∷ file ∷ []
check_words f words a b verb file all first is second =
    let e : verb ≡ codes "check" = (bytes_eq-Decides verb (codes "check")).0 is in cc

-- a file that is checked gave nothing to go on with
pub check_stopped : (told : Option FileMap) (before now : List (List ℕ)) (file : List ℕ)
    (was is : StandsFor) (faults_was faults_is : ℕ) (result : Status) (why : Stop)
    → LoadsChecked told before now file (Err why) → TellsStop was is faults_was faults_is why result
    → IsReport (check_call told before now file) was is faults_was faults_is result
check_stopped told before now file was is fw fi result stop.Unread loads tells =
    (status.ReadFault, read_fault_line, (refl, inl (file, inl refl, loads)), tells)
check_stopped told before now file was is fw fi result (stop.Refused rule at) loads (inl tells) =
    (status.RefusedFile, refusal_line rule at, (loads.0, (file, rule, at, inl (inl refl, loads.1), refl)), tells)
check_stopped told before now file was is fw fi result (stop.Refused rule at) loads (inr tells) =
    (status.NoMemory, no_memory_line, (loads.0, (file, inl refl), refl), tells)
check_stopped told before now file was is fw fi result stop.Memory loads tells =
    (status.NoMemory, no_memory_line, (loads, (file, inl refl), refl), tells)

-- a file that is checked breaks no rule
pub checks_out : (told : Option FileMap) (before now : List (List ℕ)) (file : List ℕ)
    (was is : StandsFor) (faults_was faults_is : ℕ) (result : Status)
    → LoadsChecked told before now file (Ok tt) → Tells was is faults_was faults_is status.Done ok_line result
    → IsReport (check_call told before now file) was is faults_was faults_is result
checks_out told before now file was is fw fi result loads tells =
    (status.Done, ok_line, (loads.0, inl (file, refl, loads.1, refl)), tells)

-- two words of which the first isn't `check` ask for nothing
pub no_check : (words : List (List ℕ)) (verb file : List ℕ) → words ≡ verb ∷ file ∷ [] → bytes_eq verb (codes "check") ≡ false
    → (name : List ℕ) → Asks words name → ⊥
no_check words verb file is other name (inl check) =
    let e : verb ≡ codes "check" = cc in absurd (false≢true (sym other ∙ (bytes_eq-Decides verb (codes "check")).1 e))
no_check words verb file is other name (inr run) =
    let e = run.1 in cc

-- three words of which the first isn't `run` ask for nothing
pub no_run : (words : List (List ℕ)) (verb file script : List ℕ) → words ≡ verb ∷ file ∷ script ∷ [] → bytes_eq verb (codes "run") ≡ false
    → (name : List ℕ) → Asks words name → ⊥
no_run words verb file script is other name (inl check) = cc
no_run words verb file script is other name (inr run) =
    let r = run.1 in
    let e : verb ≡ codes "run" = cc in absurd (false≢true (sym other ∙ (bytes_eq-Decides verb (codes "run")).1 e))

-- fewer words, or more
pub no_words : (words : List (List ℕ)) → (length words < 2) ⊎ (4 ≤ length words) → (name : List ℕ) → Asks words name → ⊥
no_words words (inl few) name (inl check) = let n = ap length check in absurd (omega arith)
no_words words (inr many) name (inl check) = let n = ap length check in absurd (omega arith)
no_words words (inl few) name (inr run) = let n = ap length run.1 in absurd (omega arith)
no_words words (inr many) name (inr run) = let n = ap length run.1 in absurd (omega arith)
