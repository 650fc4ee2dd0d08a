-- The lines of a run of a system. This project's own.
use Rattle.std.specs.Prelude.{◌≡◌, ℕ, Bool, false, List, [], ◌∷◌, ◌++◌, Option, None}
use Rattle.zl_value.specs.Lines.{Shown, instant_line, ending_line}
use Rattle.zl_value.specs.Instants.{Instant, History, mark_of}
use Rattle.zl_value.specs.System.{System}
use Rattle.zl_value.specs.Runs.{IsRun}
use Rattle.zl_value.specs.declared.value.Fault.{Fault}
use Rattle.zl_value.specs.declared.script.Script.{Script}
use Rattle.zl_value.specs.declared.script.Ending.{Ending}

-- the line of an instant, if it has no fault and no value is missing
abbrev pub if_right : Option Fault → Bool → List ℕ → List ℕ
if_right None false line = line
if_right _ _ line = []

-- the line of an instant; `shown` gives the outputs from what stands there
abbrev pub line_of : {X : Type 0} → (X → List Shown) → History X → Instant X → List ℕ
line_of shown h i = instant_line i.time (mark_of h i) (shown i.table)

-- the lines of the instants, the earliest first; `fault` and `lacks` say what is amiss at an instant
abbrev pub lines : {X : Type 0} → (History X → Instant X → Option Fault) → (Instant X → Bool) → (X → List Shown) → History X → List ℕ
lines fault lacks shown [] = []
lines fault lacks shown (i ∷ h) = lines fault lacks shown h ++ if_right (fault h i) (lacks i) (line_of shown h i)

-- all that is printed of a run
abbrev pub trace : {X Y : Type 0} → System X Y → (X → List Shown) → History X → Ending → List ℕ
trace sys shown h ending = lines sys.fault sys.lacks shown h ++ ending_line ending

-- the system has a run with the script, and this is printed of it
pub record HasTrace {X Y : Type 0} (sys : System X Y) (shown : X → List Shown) (script : Script) (text : List ℕ) : Type 0 where
  pub history : History X
  pub ending : Ending
  pub run : IsRun sys script history ending
  pub trace : trace sys shown history ending ≡ text
