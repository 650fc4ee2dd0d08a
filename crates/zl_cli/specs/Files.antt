-- What the program reads from its files. This project's own.
use Rattle.std.specs.Prelude.{◌≡◌, ◌⊎◌, ⊤, ℕ, List, [], ◌∷◌, ◌++◌, Option, Some, None, Result, Ok, Err}
use Rattle.zl_outside.specs.FileMap.{FileMap, HoldsFile}
use Rattle.zl_value.specs.Fraction.{Fraction}
use Rattle.zl_value.specs.declared.position.Pos.{Pos}
use Rattle.zl_value.specs.declared.rule.Rule.{Rule}
use Rattle.zl_value.specs.declared.rule.Rule.TheVariants.{Unbuilt}
use Rattle.zl_value.specs.declared.thin.Thin.{Thin}
use Rattle.zl_driver.specs.HorizonScript.{horizon_of}
use Rattle.zl_compile.specs.declared.file.Accepted.{Accepted}
use Rattle.zl_compile.specs.Accepts.{IsAccepted, BreaksNoRule}
use Rattle.zl_compile.specs.Breaks.{Breaks}
use Rattle.zl_compile.specs.FileText.{file_start}
use Rattle.zl_cli.specs.ThinTree.{thin_tree}
use Rattle.zl_cli.specs.declared.load.Stop.{Stop}
use Rattle.zl_cli.specs.declared.load.Stop.TheVariants as stop

-- how many bytes of a file are read: one more than a file has, so that a longer file is seen
abbrev pub read_cap : ℕ
read_cap = 1048577

-- the bytes break no rule, and their tree says this
abbrev pub HasThin : List ℕ → Option Thin → Type 0
HasThin bytes thin = (a : Accepted) × IsAccepted bytes a × (thin_tree a.program ≡ thin)

-- the program of a file that breaks no rule
abbrev pub IsProgram : List ℕ → Thin → Type 0
IsProgram bytes thin = HasThin bytes (Some thin)

-- the bytes break no rule, and their tree isn't of the form that is built
abbrev pub IsUnbuilt : List ℕ → Type 0
IsUnbuilt bytes = HasThin bytes None

-- why a file isn't run: the first rule that its bytes break, or it isn't built
abbrev pub IsNotRun : List ℕ → Rule → Pos → Type 0
IsNotRun bytes rule at = Breaks bytes rule at ⊎ (IsUnbuilt bytes × (rule ≡ Unbuilt) × (at ≡ file_start))

-- what trying every rule of a file answers, and what it leaves of the shelf's list of failed reads
abbrev pub LoadsChecked : Option FileMap → List (List ℕ) → List (List ℕ) → List ℕ → Result ⊤ Stop → Type 0
LoadsChecked told before now name (Ok _) =
    (now ≡ before) × ((bytes : List ℕ) × HoldsFile told name read_cap bytes × BreaksNoRule bytes)
LoadsChecked told before now name (Err (stop.Refused r at)) =
    (now ≡ before) × ((bytes : List ℕ) × HoldsFile told name read_cap bytes × Breaks bytes r at)
LoadsChecked told before now name (Err stop.Unread) = now ≡ before ++ name ∷ []
LoadsChecked told before now name (Err stop.Memory) = now ≡ before

-- what reading a file's program answers
abbrev pub LoadsProgram : Option FileMap → List (List ℕ) → List (List ℕ) → List ℕ → Result Thin Stop → Type 0
LoadsProgram told before now name (Ok thin) =
    (now ≡ before) × ((bytes : List ℕ) × HoldsFile told name read_cap bytes × IsProgram bytes thin)
LoadsProgram told before now name (Err (stop.Refused r at)) =
    (now ≡ before) × ((bytes : List ℕ) × HoldsFile told name read_cap bytes × IsNotRun bytes r at)
LoadsProgram told before now name (Err stop.Unread) = now ≡ before ++ name ∷ []
LoadsProgram told before now name (Err stop.Memory) = now ≡ before

-- what reading a script's horizon answers
abbrev pub LoadsHorizon : Option FileMap → List (List ℕ) → List (List ℕ) → List ℕ → Result Fraction Stop → Type 0
LoadsHorizon told before now name (Ok horizon) =
    (now ≡ before) × ((bytes : List ℕ) × HoldsFile told name read_cap bytes × (horizon_of bytes ≡ Some horizon))
LoadsHorizon told before now name (Err (stop.Refused r at)) =
    (now ≡ before) × ((bytes : List ℕ) × HoldsFile told name read_cap bytes × (horizon_of bytes ≡ None))
LoadsHorizon told before now name (Err stop.Unread) = now ≡ before ++ name ∷ []
LoadsHorizon told before now name (Err stop.Memory) = now ≡ before
