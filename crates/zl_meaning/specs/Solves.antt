-- What the equations of an instant say of it, the values of its sites, its fault, and whether it demands a step.
use Rattle.std.specs.Prelude.{ℕ, suc, nat_eq, Bool, true, false, not, ◌&&◌, ◌||◌, List, [], ◌∷◌, slice_get, is_some, Option, Some, None}
use Rattle.std.specs.List.{list_any}
use Rattle.zl_value.specs.Fraction.{Fraction}
use Rattle.zl_value.specs.Operators.{Answer, Gives, Faults, Nothing}
use Rattle.zl_value.specs.Instants.{Kind, Step, Left}
use Rattle.zl_value.specs.Times.{nought, holds}
use Rattle.zl_value.specs.declared.position.Pos.{Pos}
use Rattle.zl_value.specs.declared.value.Fault.{Fault}
use Rattle.zl_value.specs.declared.value.Value.{Value}
use Rattle.zl_meaning.specs.FlatForm.{FlatForm}
use Rattle.zl_meaning.specs.State.{Table, Node, AtControl, AtReset, AtLater, AtEntry, AtRunning, AtStrong, AtWeak, AtPlace, AtUsed, AtValue, State, nothing, value_in, is_active}
use Rattle.zl_meaning.specs.History.{Instant, History, state_of, latest_state, last_active, is_live}
use Rattle.zl_meaning.specs.Moment.{Mode, AtStep, AtLeft, Moment}
use Rattle.zl_meaning.specs.Occurrences.{answer}
use Rattle.zl_meaning.specs.Equation.{turn}
use Rattle.zl_meaning.specs.declared.block.Auto.{Auto}
use Rattle.zl_meaning.specs.declared.block.Block.{Block}
use Rattle.zl_meaning.specs.declared.place.PlaceInfo.{PlaceInfo}
use Rattle.zl_meaning.specs.declared.occurrence.Form.{Form}
use Rattle.zl_meaning.specs.declared.occurrence.Form.TheVariants.{If}
use Rattle.zl_meaning.specs.declared.occurrence.Occ.{Occ}
use Rattle.zl_meaning.specs.declared.occurrence.SiteInfo.{SiteInfo}

-- the block whose activity decides at which instants an entry is looked up
abbrev pub block_of_auto : Option Auto → ℕ
block_of_auto None = 0
block_of_auto (Some auto) = auto.block

abbrev pub block_of_place : Option PlaceInfo → ℕ
block_of_place None = 0
block_of_place (Some place) = place.block

abbrev pub block_of_occ : Option Occ → ℕ
block_of_occ None = 0
block_of_occ (Some occ) = occ.block

abbrev pub home : FlatForm → Node → ℕ
home f (AtControl b) = b
home f (AtReset b) = b
home f (AtLater b) = b
home f (AtEntry a) = block_of_auto (slice_get f.automata a)
home f (AtRunning a) = block_of_auto (slice_get f.automata a)
home f (AtStrong a) = block_of_auto (slice_get f.automata a)
home f (AtWeak a) = block_of_auto (slice_get f.automata a)
home f (AtPlace p) = block_of_place (slice_get f.places p)
home f (AtUsed k) = block_of_occ (slice_get f.occs k)
home f (AtValue k) = block_of_occ (slice_get f.occs k)

abbrev pub state_at : Option Instant → State
state_at None = nothing
state_at (Some i) = state_of i

-- each entry at the latest instant at which its block was active
abbrev pub before_of : FlatForm → History → State
before_of f h a = state_at (last_active (home f a) h) a

abbrev pub mode_of : Kind → Mode
mode_of Step = AtStep
mode_of Left = AtLeft

-- what the equations of instant `i` after `h` read; a flow before it lasted `passed`
abbrev pub moment_of : FlatForm → History → Fraction → Instant → Moment
moment_of f h passed i = record {
  mode = mode_of i.kind;
  inputs = i.inputs;
  fired = i.fired;
  live = λ b. is_live b h;
  before = before_of f h;
  start = latest_state h;
  passed = passed;
}

-- a site's argument, and its value; a site is active where this is there
abbrev pub argument_in : Option SiteInfo → ℕ
argument_in None = 0
argument_in (Some site) = site.arg

abbrev pub argument_of : FlatForm → ℕ → ℕ
argument_of f n = argument_in (slice_get f.sites n)

abbrev pub site_value : FlatForm → State → ℕ → Option Value
site_value f s n = value_in s (argument_of f n)

-- the condition of an `if` both of whose branches are one occurrence
abbrev pub marked : State → Form → Bool
marked s (If c x y) = nat_eq x y && holds (s (AtValue c))
marked s _ = false

-- an argument whose two branches are one occurrence says by its condition that the site is fresh: so a pass that takes
-- blocks away keeps what they said
abbrev pub marks_fresh : State → Option Occ → Bool
marks_fresh s None = false
marks_fresh s (Some occ) = marked s occ.form

-- block `b` is fresh at instant `i` after `h`
abbrev pub was_fresh : History → Instant → ℕ → Bool
was_fresh h i b = is_active (state_of i (AtControl b)) && (not (is_live b h) || state_of i (AtReset b))

abbrev pub fresh_in : FlatForm → History → Instant → Option SiteInfo → Bool
fresh_in f h i None = false
fresh_in f h i (Some site) = was_fresh h i site.block || marks_fresh (state_of i) (slice_get f.occs site.arg)

-- site `n` is fresh at instant `i` after `h`
abbrev pub site_fresh : FlatForm → History → Instant → ℕ → Bool
site_fresh f h i n = fresh_in f h i (slice_get f.sites n)

-- what the equations of instant `i` after `h` say of its entries, if they are as they stand there. An instant is right if
-- this is what stands there. A flow before it lasted `passed`
abbrev pub solved : FlatForm → History → Fraction → Instant → Table
solved f h passed i = turn f (moment_of f h passed i) i.table

-- the fault of an answer
abbrev pub fault_of : Pos → Answer → Option Fault
fault_of at (Gives v) = None
fault_of at (Faults kind) = Some (record { kind = kind; at = at })
fault_of at Nothing = None

abbrev pub if_evaluated : Bool → Option Fault → Option Fault
if_evaluated true fault = fault
if_evaluated false fault = None

abbrev pub or_later : Option Fault → Option Fault → Option Fault
or_later None later = later
or_later (Some fault) later = Some fault

-- the fault of an occurrence that is evaluated
abbrev pub own_fault : FlatForm → Moment → State → ℕ → Occ → Option Fault
own_fault f m s k occ = if_evaluated (s (AtUsed k)) (fault_of occ.at (answer f m s occ.block occ.form))

-- the first fault among these occurrences, of which the first has the number `k`
abbrev pub fault_from : FlatForm → Moment → State → ℕ → List Occ → Option Fault
fault_from f m s k [] = None
fault_from f m s k (occ ∷ occs) = or_later (own_fault f m s k occ) (fault_from f m s (suc k) occs)

-- the fault of instant `i` after `h`: that of the first occurrence that is evaluated and whose operator has one. No
-- answer of an operator reads how long the flow before a left end lasted
abbrev pub instant_fault : FlatForm → History → Instant → Option Fault
instant_fault f h i = fault_from f (moment_of f h nought i) (state_of i) 0 f.occs

abbrev pub is_hybrid : Option Block → Bool
is_hybrid None = false
is_hybrid (Some block) = block.hybrid

-- one of these automata, of which the first has the number `a`, stands in hybrid context and took a transition
abbrev pub took_move : FlatForm → State → ℕ → List Auto → Bool
took_move f s a [] = false
took_move f s a (auto ∷ autos) = is_hybrid (slice_get f.blocks auto.block) && (is_some (s (AtStrong a)) || is_some (s (AtWeak a))) || took_move f s (suc a) autos

-- a step at which this stands demands another one: by a transition, or by an occurrence of `again` that is true
abbrev pub demands : FlatForm → State → Bool
demands f s = took_move f s 0 f.automata || list_any (λ k. holds (value_in s k)) f.again
