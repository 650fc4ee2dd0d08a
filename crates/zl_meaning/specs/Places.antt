-- The value of a place at a moment.
use Rattle.std.specs.Prelude.{ℕ, Bool, false, not, ◌&&◌, if◌then◌else◌, List, [], ◌∷◌, slice_get, get_or, Option, Some, None}
use Rattle.std.specs.List.{list_any}
use Rattle.zl_value.specs.Fraction.{Fraction, add, mul}
use Rattle.zl_value.specs.declared.value.Value.{Value}
use Rattle.zl_value.specs.declared.value.Value.TheVariants.{F}
use Rattle.zl_meaning.specs.Uses.{events_of}
use Rattle.zl_meaning.specs.State.{State, AtControl, AtPlace, AtValue, is_active, is_blank}
use Rattle.zl_meaning.specs.Moment.{Mode, AtStep, AtLeft, InFlow, Moment, is_fresh, is_called, decide}
use Rattle.zl_meaning.specs.declared.place.Definer.{Definer}
use Rattle.zl_meaning.specs.declared.place.Definer.TheVariants.{Input, Plain, Der, Start}
use Rattle.zl_meaning.specs.declared.place.DerArm.{DerArm}
use Rattle.zl_meaning.specs.declared.place.PlaceInfo.{PlaceInfo}

-- the block of an `init` is blank
abbrev pub has_blank_start : State → Definer → Bool
has_blank_start s (Input n) = false
has_blank_start s (Plain b k) = false
has_blank_start s (Der b slope arms) = false
has_blank_start s (Start b k) = is_blank (s (AtControl b))

-- the value of the `init` whose block is active and fresh, else `other`
abbrev pub started : Moment → State → List Definer → Option Value → Option Value
started m s [] other = other
started m s (Start b k ∷ definers) other = if is_fresh m s b then s (AtValue k) else started m s definers other
started m s (definer ∷ definers) other = started m s definers other

-- the value of a place at the latest instant at which its block was active, unless the block is fresh
abbrev pub value_before : Moment → State → ℕ → PlaceInfo → Option Value
value_before m s p place = if is_fresh m s place.block then None else m.before (AtPlace p)

-- `last` of a place: what an `init` gives, else its value before; none where the block of an `init` is blank
abbrev pub last_of : Moment → State → ℕ → Option PlaceInfo → Option Value
last_of m s p None = None
last_of m s p (Some place) = if list_any (has_blank_start s) place.definers then None else started m s place.definers (value_before m s p place)

-- the value of the first reset arm whose event holds, else `last`
abbrev pub arm_value : State → Option DerArm → Option Value → Option Value
arm_value s None last = last
arm_value s (Some arm) last = s (AtValue arm.value)

abbrev pub reset_value : State → List DerArm → Option ℕ → Option Value → Option Value
reset_value s arms None last = None
reset_value s arms (Some n) last = arm_value s (slice_get arms n) last

-- a value that has moved for this long with this slope
abbrev pub moved : Option Value → Option Value → Fraction → Option Value
moved (Some (F from)) (Some (F slope)) passed = Some (F (add from (mul passed slope)))
moved _ _ passed = None

-- a place with an active `der`: at a step a reset arm or `last` gives its value, else it has moved since the flow began
abbrev pub der_value : Moment → State → Mode → ℕ → ℕ → List DerArm → Option Value → Option Value
der_value m s AtStep p slope arms last = reset_value s arms (decide s (events_of arms)) last
der_value m s AtLeft p slope arms last = moved (m.start (AtPlace p)) (m.start (AtValue slope)) m.passed
der_value m s InFlow p slope arms last = moved (m.start (AtPlace p)) (m.start (AtValue slope)) m.passed

-- the value by the first definer that is active, beside `init`; `last` where none is
abbrev pub defined : Moment → State → ℕ → List Definer → Option Value → Option Value
defined m s p [] last = last
defined m s p (Input n ∷ definers) last = get_or m.inputs n None
defined m s p (Plain b k ∷ definers) last = if is_active (s (AtControl b)) then s (AtValue k) else defined m s p definers last
defined m s p (Der b slope arms ∷ definers) last = if is_active (s (AtControl b)) then der_value m s m.mode p slope arms last else defined m s p definers last
defined m s p (Start b k ∷ definers) last = defined m s p definers last

-- the block of the definer is blank
abbrev pub has_blank : State → Definer → Bool
has_blank s (Input n) = false
has_blank s (Plain b k) = is_blank (s (AtControl b))
has_blank s (Der b slope arms) = is_blank (s (AtControl b))
has_blank s (Start b k) = is_blank (s (AtControl b))

-- a place has a value where its block is active, its call is evaluated and no definer's block is blank
abbrev pub is_present : State → PlaceInfo → Bool
is_present s place = is_active (s (AtControl place.block)) && (is_called s place.call && not (list_any (has_blank s) place.definers))

abbrev pub place_of : Moment → State → ℕ → Option PlaceInfo → Option Value
place_of m s p None = None
place_of m s p (Some place) = if is_present s place then defined m s p place.definers (last_of m s p (Some place)) else None
