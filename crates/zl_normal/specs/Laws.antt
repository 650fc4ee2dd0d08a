-- What is proved of normal forms: each run of a normal form is one of the form.
use Rattle.std.specs.Prelude.{◌≡◌, ℕ, List, ◌∷◌, slice_get, Some}
use Rattle.zl_value.specs.Instants.{History}
use Rattle.zl_value.specs.Runs.{IsRun}
use Rattle.zl_value.specs.Traces.{trace as trace_of}
use Rattle.zl_value.specs.Correspondence.{KeepsRuns}
use Rattle.zl_value.specs.Script.{IsScriptFor}
use Rattle.zl_value.specs.declared.script.Script.{Script}
use Rattle.zl_value.specs.declared.script.Ending.{Ending}
use Rattle.zl_value.specs.declared.script.Ending.TheVariants.{Empty}
use Rattle.zl_meaning.specs.FlatForm.{FlatForm}
use Rattle.zl_meaning.specs.State.{Table, state_in, AtPlace}
use Rattle.zl_meaning.specs.Grades.{Grading}
use Rattle.zl_meaning.specs.Inputs.{input_types}
use Rattle.zl_meaning.specs.WellFormed.{IsWellFormed}
use Rattle.zl_meaning.specs.Single.{IsSingle}
use Rattle.zl_meaning.specs.System.{system_of}
use Rattle.zl_meaning.specs.Trace.{trace}
use Rattle.zl_meaning.specs.declared.place.PlaceInfo.{PlaceInfo}
use Rattle.zl_kernel.specs.KernelForm.{KernelForm}
use Rattle.zl_kernel.specs.Wires.{Registers, held}
use Rattle.zl_kernel.specs.System.{system_of_kernel}
use Rattle.zl_kernel.specs.Shown.{outputs}
use Rattle.zl_normal.specs.Wiring.{Wiring}
use Rattle.zl_normal.specs.MainBlock.{IsMain}
use Rattle.zl_normal.specs.Evaluated.{HasGuardRanks, KeepsLasts}
use Rattle.zl_normal.specs.Starts.{KeepsFlows}
use Rattle.zl_normal.specs.Normal.{IsNormal}
use Rattle.zl_meaning.specs.Decided.{HasOutputs, HasAgain}

-- a site of the kernel has the number that it has in the form
abbrev pub same_sites : List ℕ → List ℕ
same_sites ns = ns

-- at the latest instants of a run of the kernel and of one of the form, places have the values of their wires
abbrev pub SeesPlaces : FlatForm → Wiring → History Registers → History Table → Type 0
SeesPlaces f N (i ∷ h) (j ∷ g) = (p : ℕ) (place : PlaceInfo) → slice_get f.places p ≡ Some place → state_in j.table (AtPlace p) ≡ held i.table (N.P p)
SeesPlaces f N _ _ = ⊥

-- each beginning of a run of the kernel has one of the form beside it; so has each run that doesn't end for want of a value,
-- with the same end, and the same is printed of both. `names` are the names of the file
pub record KeepsRunsOf (f : FlatForm) (grades : List ℕ) (names : List (List ℕ)) (k : KernelForm) (N : Wiring) (script : Script) : Type 0 where
  pub runs : KeepsRuns (system_of_kernel k) (system_of f grades) script same_sites (SeesPlaces f N)
  pub traces : (h : History Registers) (ending : Ending) → IsRun (system_of_kernel k) script h ending → (ending ≡ Empty → ⊥) → (history : History Table) × IsRun (system_of f grades) script history ending × (trace f names history ending ≡ trace_of (system_of_kernel k) (outputs k) h ending)

-- a normal form keeps the runs of its form, with each script for its inputs: of a well-formed form that has the main block
-- alone, is single and has ranks, in which `last` is evaluated only with the call of its place, and that keeps its flows
abbrev pub NormalFormKeepsRuns : Type 0
NormalFormKeepsRuns = (f : FlatForm) (g : Grading) (names : List (List ℕ)) (k : KernelForm) (N : Wiring) → IsWellFormed f → IsMain f → IsSingle f → HasGuardRanks f → KeepsLasts f → KeepsFlows f g → IsNormal f g.occs names k N → (script : Script) → IsScriptFor (input_types f) script → KeepsRunsOf f g.occs names k N script

-- under the same premises no run of a normal form ends for want of a value, if in the form's runs each result of main has one,
-- and each occurrence of `again` that is evaluated at a step
abbrev pub NormalFormLacksNothing : Type 0
NormalFormLacksNothing = (f : FlatForm) (g : Grading) (names : List (List ℕ)) (k : KernelForm) (N : Wiring) → IsWellFormed f → IsMain f → IsSingle f → HasGuardRanks f → KeepsLasts f → KeepsFlows f g → IsNormal f g.occs names k N → HasOutputs f g.occs → HasAgain f g.occs → (script : Script) → IsScriptFor (input_types f) script → (h : History Registers) (ending : Ending) → IsRun (system_of_kernel k) script h ending → ending ≡ Empty → ⊥
