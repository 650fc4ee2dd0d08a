-- Instants of a run, and lists of them, whatever stands at an instant. This project's own.
use Rattle.std.specs.Prelude.{ℕ, ◌+◌, Bool, true, false, ◌&&◌, List, [], ◌∷◌, Option}
use Rattle.zl_value.specs.Fraction.{Fraction}
use Rattle.zl_value.specs.Times.{nought, is_same}
use Rattle.zl_value.specs.declared.value.Value.{Value}
use Rattle.zl_value.specs.declared.script.Mark.{Mark}
use Rattle.zl_value.specs.declared.script.Mark.TheVariants.{Step as StepMark, Left as LeftMark}

-- a step, or the left end of a flow, which is the moment at which the flow is over
pub data Kind : Type 0 where
  Step Left : Kind

abbrev pub is_step : Kind → Bool
is_step Step = true
is_step Left = false

-- an instant: its time, the values of the inputs, the sites that fired after the instant before, and what stands there
pub record Instant (X : Type 0) : Type 0 where
  pub kind : Kind
  pub time : Fraction
  pub inputs : List (Option Value)
  pub fired : List ℕ
  pub table : X

-- the instants of a run so far, the latest first
abbrev pub History : Type 0 → Type 0
History X = List (Instant X)

-- the inputs of the latest instant, and its time; a run begins at 0
abbrev pub latest_inputs : {X : Type 0} → History X → List (Option Value)
latest_inputs [] = []
latest_inputs (i ∷ h) = i.inputs

abbrev pub time_of : {X : Type 0} → History X → Fraction
time_of [] = nought
time_of (i ∷ h) = i.time

abbrev pub one_if : Bool → ℕ
one_if true = 1
one_if false = 0

-- how many steps were made, and how many of them at this time
abbrev pub steps_in : {X : Type 0} → History X → ℕ
steps_in [] = 0
steps_in (i ∷ h) = one_if (is_step i.kind) + steps_in h

abbrev pub steps_at : {X : Type 0} → Fraction → History X → ℕ
steps_at time [] = 0
steps_at time (i ∷ h) = one_if (is_step i.kind && is_same i.time time) + steps_at time h

-- the mark of instant `i` after the instants `h`: a step is numbered among those of its time
abbrev pub mark_by : Kind → ℕ → Mark
mark_by Step k = StepMark k
mark_by Left k = LeftMark

abbrev pub mark_of : {X : Type 0} → History X → Instant X → Mark
mark_of h i = mark_by i.kind (steps_at i.time h)
