-- What is run: anything that has instants, faults, sites that fire, and flows in which numbers move. This project's own.
use Rattle.std.specs.Prelude.{◌≡◌, ℕ, Bool, true, false, ◌&&◌, ◌||◌, List, [], ◌∷◌, ◌++◌, map, is_some, Option, None}
use Rattle.std.specs.List.{filter}
use Rattle.zl_value.specs.Fraction.{Fraction, IsReduced, add, mul}
use Rattle.zl_value.specs.Lists.{listed}
use Rattle.zl_value.specs.Times.{is_negative}
use Rattle.zl_value.specs.Stops.{line_for}
use Rattle.zl_value.specs.Crossings.{SiteValues, fires}
use Rattle.zl_value.specs.Widths.{Tested, nowhere, first_wide}
use Rattle.zl_value.specs.Loop.{Next, Ends, Steps, next_after}
use Rattle.zl_value.specs.Instants.{is_step, Instant, History, steps_in, steps_at, mark_of}
use Rattle.zl_value.specs.declared.position.Pos.{Pos}
use Rattle.zl_value.specs.declared.value.Value.{Value}
use Rattle.zl_value.specs.declared.value.Fault.{Fault}
use Rattle.zl_value.specs.declared.script.Script.{Script}
use Rattle.zl_value.specs.declared.script.Ending.TheVariants.{Empty}

-- what moves in a flow: from a value, with a slope
pub record Motion : Type 0 where
  pub from : Fraction
  pub slope : Fraction
  pub at : Pos

abbrev pub increments : Fraction → List Motion → List Tested
increments d ms = map (λ (m : Motion). record { number = mul d m.slope; at = m.at }) ms

abbrev pub arrivals : Fraction → List Motion → List Tested
arrivals d ms = map (λ (m : Motion). record { number = add m.from (mul d m.slope); at = m.at }) ms

-- the duration, the new time, and for each thing that moves how far it moves, and to where
abbrev pub move_tests : Fraction → Fraction → List Motion → List Tested
move_tests t d ms = record { number = d; at = nowhere } ∷ record { number = add t d; at = nowhere } ∷ [] ++ increments d ms ++ arrivals d ms

-- what stands at each moment of a flow
abbrev pub Course : Type 0 → Type 0
Course Y = Fraction → Y

-- at an instant stands an `X`, at a moment of a flow a `Y`. What stands there solves its equation: it is what the equation
-- gives from it, and from what was before
pub record System (X Y : Type 0) : Type 0 where
  -- how many inputs and sites there are
  pub inputs : ℕ
  pub sites : ℕ
  -- the equation of a step `i` after `h`
  pub step : (h : History X) (i : Instant X) → X
  -- the equation of moment `s` of the flow `y` after the instants `i` and, before it, `h`
  pub flow : (h : History X) (i : Instant X) (y : Course Y) (s : Fraction) → Y
  -- the equation of the left end `i` of the flow `y` after `h`, which lasted `d`
  pub left : (h : History X) (y : Course Y) (d : Fraction) (i : Instant X) → X
  -- the fault of an instant after a history, and of the flow after it
  pub fault : History X → Instant X → Option Fault
  pub flow_fault : History X → Instant X → Course Y → Option Fault
  -- a value is missing at an instant, or in the flow after it, without which the run can't go on
  pub lacks : Instant X → Bool
  pub flow_lacks : Instant X → Course Y → Bool
  -- a step at which this stands demands a further one
  pub demands : X → Bool
  -- a site's value, and whether it is fresh at an instant after a history
  pub value : X → ℕ → Option Value
  pub fresh : History X → Instant X → ℕ → Bool
  -- the values of the sites in the flow after an instant, and what moves in it
  pub values : Instant X → Course Y → SiteValues
  pub motions : Instant X → Course Y → List Motion

abbrev pub is_some_site : List ℕ → Bool
is_some_site [] = false
is_some_site (n ∷ ns) = true

-- nothing follows an instant without a fault at which a value is missing
abbrev pub unless_lacking : Bool → Option Fault → Next → Next
unless_lacking true None other = Ends Empty
unless_lacking lacking fault other = other

module _ {X Y : Type 0} (sys : System X Y) where
  -- the sites that fire after the latest instant
  abbrev pub fired_after : History X → List ℕ
  fired_after [] = []
  fired_after (i ∷ []) = []
  fired_after (i ∷ j ∷ h) = filter (λ n. fires (sys.value j.table n) (sys.value i.table n) (sys.fresh (j ∷ h) i n)) (listed sys.sites 0 (λ n. n))

  -- the latest instant demands a step whatever the script says: a site fired after it, or it is a step that demands one
  abbrev pub asks : History X → Bool
  asks [] = false
  asks (i ∷ h) = is_some_site (fired_after (i ∷ h)) || (is_step i.kind && sys.demands i.table)

  -- a step is demanded: by the latest instant, or by a script line at this time that no step took
  abbrev pub is_demanded : Script → History X → Bool
  is_demanded script [] = false
  is_demanded script (i ∷ h) = asks (i ∷ h) || is_some (line_for script i.time (steps_at i.time (i ∷ h)))

  -- what follows the latest instant
  abbrev pub next : Script → History X → Next
  next script [] = Steps
  next script (i ∷ h) =
      unless_lacking (sys.lacks i) (sys.fault h i) (next_after script i.time (mark_of h i) (sys.fault h i) (is_demanded script (i ∷ h)) (steps_in (i ∷ h)))

  -- the flow `y` follows instant `i`: at each of its moments its equation is solved
  abbrev pub IsFlow : History X → Instant X → Course Y → Type 0
  IsFlow h i y = (s : Fraction) → IsReduced s → is_negative s ≡ false → y s ≡ sys.flow h i y s

  -- the first number of the move in a flow of this duration that isn't in the width
  abbrev pub move_fault : Instant X → Course Y → Fraction → Option Fault
  move_fault i y d = first_wide (move_tests i.time d (sys.motions i y))
