-- Worked programs: the words in which their flat forms are written down, and what is said of their runs.
pub mod Ramp
pub mod SawTooth
pub mod SiteAtZero
pub mod TwoCrossings
pub mod Cascade
pub mod TwoTanks
pub mod ScriptLineAtACrossing
pub mod TwoFaults
pub mod TwoFaultsTurned
pub mod FeedbackThroughDeclarations
pub mod EnteredByThen
pub mod EnteredByContinue
pub mod ResetBlock
pub mod StrongTransition
pub mod WeakTransition
pub mod StrongToItself
pub mod GuardAfterAStrongTransition
pub mod BranchWithACall
pub mod Otherwise
pub mod UnchosenTooWide
pub mod Room
pub mod FreshSite
pub mod FreshEvent
pub mod WaitingByReset
pub mod WaitingByHistory
pub mod IncrementTooWide
pub mod SlopeTooWide
pub mod BlankArmHoldsNothing
pub mod BlankBlockOfInit
pub mod BlankChoice
pub mod BlankResetBody
pub mod StrongContinue
pub mod GuardResetByAWeakThen
pub mod DiscreteAutomaton
pub mod UntakenBranchFault
pub mod IncrementsBeforeValues
pub mod StepsAlone
pub mod DefinerOutsideItsCopy
pub mod DefinerOutsideABranch
pub mod NameInACopyOfNoCall
pub mod UpOfAnArm
pub mod NameOfASquare
pub mod DiscreteMain
pub mod CausalForms
pub mod CircularForms
use Rattle.std.specs.Prelude.{◌≡◌, ℕ, Bool, List, [], ◌∷◌, map, ℤ, Option, Some, None}
use Rattle.zl_value.specs.declared.position.Pos.{Pos}
use Rattle.zl_value.specs.declared.value.Value.{Value}
use Rattle.zl_value.specs.declared.value.Ty.{Ty}
use Rattle.zl_value.specs.declared.script.Script.{Script}
use Rattle.zl_meaning.specs.FlatForm.{FlatForm}
use Rattle.zl_value.specs.Instants.{Step}
use Rattle.zl_value.specs.Times.{nought}
use Rattle.zl_value.specs.Traces.{HasTrace as HasTraceOf}
use Rattle.zl_meaning.specs.State.{Table}
use Rattle.zl_meaning.specs.History.{Instant}
use Rattle.zl_meaning.specs.Solves.{solved}
use Rattle.zl_meaning.specs.System.{system_of}
use Rattle.zl_meaning.specs.Trace.{outputs}
use Rattle.zl_meaning.specs.declared.block.Block.{Block}
use Rattle.zl_meaning.specs.declared.block.BlockKind.{BlockKind}
use Rattle.zl_meaning.specs.declared.place.Definer.{Definer}
use Rattle.zl_meaning.specs.declared.place.DerArm.{DerArm}
use Rattle.zl_meaning.specs.declared.place.PlaceInfo.{PlaceInfo}
use Rattle.zl_meaning.specs.declared.occurrence.Form.{Form}
use Rattle.zl_meaning.specs.declared.occurrence.Occ.{Occ}
use Rattle.zl_meaning.specs.declared.occurrence.SiteInfo.{SiteInfo}

abbrev pub at : ℕ → ℕ → Pos
at line column = record { line = line; column = column }

abbrev pub block : Option ℕ → BlockKind → Bool → Block
block parent kind hybrid = record { parent = parent; kind = kind; hybrid = hybrid }

abbrev pub place : ℕ → Option ℕ → Ty → ℕ → Pos → List Definer → PlaceInfo
place b call ty name at definers = record { block = b; call = call; ty = ty; name = name; at = at; definers = definers }

abbrev pub occ : ℕ → Option ℕ → Ty → Pos → Form → Occ
occ b call ty at form = record { block = b; call = call; ty = ty; at = at; form = form }

abbrev pub site : ℕ → ℕ → Pos → SiteInfo
site b arg at = record { block = b; arg = arg; at = at }

abbrev pub reset_arm : ℕ → ℕ → DerArm
reset_arm event value = record { event = event; value = value }

-- the form has a run with the script, and this is printed of it
abbrev pub HasTrace : FlatForm → List ℕ → List (List ℕ) → Script → List ℕ → Type 0
HasTrace f grades names script text = HasTraceOf (system_of f grades) (outputs f names) script text

-- the first step of a run, where this stands
abbrev pub first_step : Table → Instant
first_step table = record { kind = Step; time = nought; inputs = []; fired = []; table = table }

-- two different tables stand at the first step
pub record HasTwoInstants (f : FlatForm) (one other : Table) : Type 0 where
  pub one_solves : one ≡ solved f [] nought (first_step one)
  pub other_solves : other ≡ solved f [] nought (first_step other)
  pub differ : one ≡ other → ⊥
