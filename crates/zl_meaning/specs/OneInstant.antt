-- Exactly one instant of each kind stands after each history: what ranks of places and blocks are for.
use Rattle.std.specs.Prelude.{◌≡◌, ℕ, List, Option}
use Rattle.zl_value.specs.Fraction.{Fraction}
use Rattle.zl_value.specs.Instants.{Kind, Step, Left, Instant as InstantOf, History as HistoryOf}
use Rattle.zl_value.specs.System.{Course, System}
use Rattle.zl_value.specs.declared.value.Value.{Value}
use Rattle.zl_meaning.specs.FlatForm.{FlatForm}
use Rattle.zl_meaning.specs.WellFormed.{IsWellFormed}
use Rattle.zl_meaning.specs.History.{History}
use Rattle.zl_meaning.specs.Flow.{FlowTable}
use Rattle.zl_meaning.specs.System.{system_of}
use Rattle.zl_meaning.specs.Depends.{AreRanks}

module _ {X Y : Type 0} (sys : System X Y) where
  -- what the equation of instant `i` after `h` gives: that of a step, or that of the left end of the flow `y`, which lasted
  -- `d`. By these two it has the values of what moved
  abbrev pub given_by : HistoryOf X → Course Y → Fraction → Kind → InstantOf X → X
  given_by h y d Step i = sys.step h i
  given_by h y d Left i = sys.left h y d i

  -- the instant is of this kind, with this time, these inputs and these sites that fired, and it solves what is before it
  pub record IsInstant (h : HistoryOf X) (y : Course Y) (d : Fraction) (kind : Kind) (time : Fraction) (inputs : List (Option Value)) (fired : List ℕ) (i : InstantOf X) : Type 0 where
    pub kind_is : i.kind ≡ kind
    pub time_is : i.time ≡ time
    pub inputs_are : i.inputs ≡ inputs
    pub fired_are : i.fired ≡ fired
    pub solves : i.table ≡ given_by h y d kind i

  -- there is such an instant, and no other is one
  pub record HasOneInstant (h : HistoryOf X) (y : Course Y) (d : Fraction) (kind : Kind) (time : Fraction) (inputs : List (Option Value)) (fired : List ℕ) : Type 0 where
    pub instant : InstantOf X
    pub is : IsInstant h y d kind time inputs fired instant
    pub only : (i : InstantOf X) → IsInstant h y d kind time inputs fired i → i ≡ instant

-- after each history there is, for each kind, time, inputs and fired sites, exactly one instant of the form
abbrev pub HasOneInstantEach : FlatForm → Type 0
HasOneInstantEach f = (grades : List ℕ) (h : History) (y : Course FlowTable) (d : Fraction) (kind : Kind) (time : Fraction) (inputs : List (Option Value)) (fired : List ℕ) → HasOneInstant (system_of f grades) h y d kind time inputs fired

-- from ranks of the places and blocks of a well-formed form there is exactly one instant each
abbrev pub RanksGiveOneInstant : Type 0
RanksGiveOneInstant = (f : FlatForm) → IsWellFormed f → (of_places of_blocks : List ℕ) → AreRanks f of_places of_blocks → HasOneInstantEach f
