-- What two systems promise each other, so that each run of the first has one of the second beside it. This project's own.
use Rattle.std.specs.Prelude.{◌≡◌, ℕ, Bool, false, List, [], ◌∷◌, length, Option, None}
use Rattle.zl_value.specs.Fraction.{Fraction}
use Rattle.zl_value.specs.Crossings.{Lasts}
use Rattle.zl_value.specs.Lines.{Shown}
use Rattle.zl_value.specs.Instants.{Instant, History}
use Rattle.zl_value.specs.System.{Course, System, fired_after, asks, IsFlow, move_fault}
use Rattle.zl_value.specs.Runs.{StepAfter, FlowAfter, LeftAfter, IsPrefix, IsRun}
use Rattle.zl_value.specs.Traces.{trace}
use Rattle.zl_value.specs.declared.value.Fault.{Fault}
use Rattle.zl_value.specs.declared.script.Script.{Script}
use Rattle.zl_value.specs.declared.script.Ending.{Ending}
use Rattle.zl_value.specs.declared.script.Ending.TheVariants.{Empty}

-- nothing is missing, unless there is a fault
abbrev pub IsWhole : Option Fault → Bool → Type 0
IsWhole fault lacks = fault ≡ None → lacks ≡ false

-- the beginning of a run, or nothing yet
abbrev pub IsSoFar : {X Y : Type 0} → System X Y → Script → History X → Type 0
IsSoFar sys script [] = Unit {0}
IsSoFar sys script (i ∷ h) = IsPrefix sys script (i ∷ h)

-- `A` and `B` are run with one script. Of the sites that fire in `A`, `pick` gives those that fire in `B`, by their numbers
-- there. `Says` relates what stands at the latest instants of two histories
module _ {X Y U V : Type 0} (A : System X Y) (B : System U V) (script : Script) (pick : List ℕ → List ℕ) (Says : History X → History U → Type 0) where
  -- instant `j` of `B` is beside `i` of `A`: all is the same but the fired sites and what stands there
  pub record IsBeside (i : Instant X) (j : Instant U) : Type 0 where
    pub kind : j.kind ≡ i.kind
    pub time : j.time ≡ i.time
    pub inputs : j.inputs ≡ i.inputs
    pub fired : j.fired ≡ pick i.fired

  -- the instant of `B` beside `i` at which `u` stands
  abbrev pub beside : Instant X → U → Instant U
  beside i u = record { kind = i.kind; time = i.time; inputs = i.inputs; fired = pick i.fired; table = u }

  -- the histories have as many instants, each beside the other's, and at each of them `Says` holds
  abbrev pub Corresponds : History X → History U → Type 0
  Corresponds [] [] = Unit {0}
  Corresponds (i ∷ h) (j ∷ g) = (IsBeside i j × Says (i ∷ h) (j ∷ g)) × Corresponds h g
  Corresponds _ _ = ⊥

  -- they are beginnings of runs that correspond, or nothing yet
  pub record AreReached (h : History X) (g : History U) : Type 0 where
    pub first : IsSoFar A script h
    pub second : IsSoFar B script g
    pub corresponds : Corresponds h g

  -- what stands beside instant `i` at a step of `B` after `g`
  pub record StepBeside (h : History X) (g : History U) (i : Instant X) : Type 0 where
    pub table : U
    pub solves : table ≡ B.step g (beside i table)
    pub says : Says (i ∷ h) (beside i table ∷ g)

  -- what stands beside instant `next` at the left end of the flow `w` of `B` after `g`, which lasted `d`
  pub record LeftBeside (h : History X) (g : History U) (w : Course V) (d : Fraction) (next : Instant X) : Type 0 where
    pub table : U
    pub solves : table ≡ B.left g w d (beside next table)
    pub says : Says (next ∷ h) (beside next table ∷ g)

  -- the instants `i` and `j` have the same fault, and where there is none the same sites fire and the same is demanded
  pub record SameInstant (h : History X) (g : History U) (i : Instant X) (j : Instant U) : Type 0 where
    pub fault : B.fault g j ≡ A.fault h i
    pub whole : IsWhole (A.fault h i) (B.lacks j)
    pub fired : A.fault h i ≡ None → fired_after B (j ∷ g) ≡ pick (fired_after A (i ∷ h))
    pub demand : A.fault h i ≡ None → asks B (j ∷ g) ≡ asks A (i ∷ h)

  -- a flow of `B` after `j` that goes as the flow `y` of `A` after `i`
  pub record FlowBeside (h : History X) (g : History U) (i : Instant X) (j : Instant U) (y : Course Y) : Type 0 where
    pub flow : Course V
    pub solves : IsFlow B g j flow
    pub fault : B.flow_fault g j flow ≡ A.flow_fault h i y
    pub whole : IsWhole (A.flow_fault h i y) (B.flow_lacks j flow)
    -- where there is none, it lasts as long
    pub lasts : A.flow_fault h i y ≡ None → (d : Fraction) → Lasts script (A.values i y) A.sites i.time d → Lasts script (B.values j flow) B.sites i.time d
    -- and the first number of the move that isn't in the width has the same fault
    pub moves : A.flow_fault h i y ≡ None → (d : Fraction) → Lasts script (A.values i y) A.sites i.time d → move_fault B j flow d ≡ move_fault A i y d
    -- its left end is beside the other's
    pub left : (next : Instant X) (end : LeftAfter A script h i next) → end.flow ≡ y → LeftBeside (i ∷ h) (j ∷ g) flow end.duration next

  -- the promises
  pub record Correspondence : Type 0 where
    -- both have the same inputs
    pub inputs : B.inputs ≡ A.inputs
    -- where nothing fired, nothing is picked
    pub nothing : pick [] ≡ []
    -- each step of `A` has one of `B` beside it
    pub step : (h : History X) (g : History U) → AreReached h g → (i : Instant X) → StepAfter A script h i → StepBeside h g i
    -- the same follows the latest instants, where nothing is missing in `A`
    pub instant : (h : History X) (g : History U) (i : Instant X) (j : Instant U) → AreReached (i ∷ h) (j ∷ g) → IsWhole (A.fault h i) (A.lacks i) → SameInstant h g i j
    -- each flow of `A` has one of `B` beside it, where nothing is missing in it
    pub flow : (h : History X) (g : History U) (i : Instant X) (j : Instant U) (y : Course Y) → AreReached (i ∷ h) (j ∷ g) → FlowAfter A script h i y → IsWhole (A.flow_fault h i y) (A.flow_lacks i y) → FlowBeside h g i j y

  -- a beginning of a run of `B` beside one of `A`, of the same length
  pub record PrefixBeside (h : History X) : Type 0 where
    pub history : History U
    pub is : IsPrefix B script history
    pub corresponds : Corresponds h history
    pub long : length history ≡ length h

  -- `q` shows the same of an instant of `B` as `p` of the one of `A` beside it, where that has no fault and nothing is missing
  abbrev pub ShowsSame : (X → List Shown) → (U → List Shown) → Type 0
  ShowsSame p q = (h : History X) (g : History U) (i : Instant X) (j : Instant U) → AreReached (i ∷ h) (j ∷ g) → A.fault h i ≡ None → A.lacks i ≡ false → q j.table ≡ p i.table

  -- a run of `B` beside one of `A`, with the same end, and of which the same is printed if the same is shown
  pub record RunBeside (h : History X) (ending : Ending) : Type 0 where
    pub history : History U
    pub is : IsRun B script history ending
    pub corresponds : Corresponds h history
    pub long : length history ≡ length h
    pub prints : (p : X → List Shown) (q : U → List Shown) → ShowsSame p q → trace B q history ending ≡ trace A p h ending

  -- each beginning of a run of `A` has one of `B` beside it, and so has each run that doesn't end for want of a value
  pub record KeepsRuns : Type 0 where
    pub prefixes : (h : History X) → IsPrefix A script h → PrefixBeside h
    pub runs : (h : History X) (ending : Ending) → IsRun A script h ending → (ending ≡ Empty → ⊥) → RunBeside h ending
