-- What the equations of a moment read beside its own entries.
use Rattle.std.specs.Prelude.{ℕ, suc, nat_eq, Bool, true, false, not, ◌&&◌, ◌||◌, List, [], ◌∷◌, Option, Some, None}
use Rattle.std.specs.Option.{option_map}
use Rattle.zl_value.specs.Fraction.{Fraction}
use Rattle.zl_value.specs.declared.value.Value.{Value}
use Rattle.zl_value.specs.declared.value.Value.TheVariants.{B}
use Rattle.zl_meaning.specs.State.{State, AtControl, AtReset, AtUsed, AtValue, is_active}

-- a step, a left end, or a moment of a flow
pub data Mode : Type 0 where
  AtStep AtLeft InFlow : Mode

abbrev pub is_at_step : Mode → Bool
is_at_step AtStep = true
is_at_step AtLeft = false
is_at_step InFlow = false

abbrev pub is_in_flow : Mode → Bool
is_in_flow AtStep = false
is_in_flow AtLeft = false
is_in_flow InFlow = true

-- `live b`: block `b` was active before, with no reset after that; `before`: each entry at the latest instant at which
-- its block was active; `start` and `passed`: the instant from which the flow starts, and how long that is ago
pub record Moment : Type 0 where
  pub mode : Mode
  pub inputs : List (Option Value)
  pub fired : List ℕ
  pub live : ℕ → Bool
  pub before : State
  pub start : State
  pub passed : Fraction

-- block `b` is fresh: it is active, and was never active before, or has been reset since. In a flow no block is
abbrev pub is_fresh : Moment → State → ℕ → Bool
is_fresh m s b = not (is_in_flow m.mode) && (is_active (s (AtControl b)) && (not (m.live b) || s (AtReset b)))

-- the call in whose copy something stands is evaluated
abbrev pub is_called : State → Option ℕ → Bool
is_called s None = true
is_called s (Some call) = s (AtUsed call)

-- the number of the first of these tests that isn't false, or of tests if all are; none if that test has no value
abbrev pub decide_by : Option Value → Option ℕ → Option ℕ
decide_by (Some (B true)) rest = Some 0
decide_by (Some (B false)) rest = option_map (λ n. suc n) rest
decide_by _ rest = None

abbrev pub decide : State → List ℕ → Option ℕ
decide s [] = Some 0
decide s (k ∷ ks) = decide_by (s (AtValue k)) (decide s ks)

-- the number is decided, and is `n`
abbrev pub is_number : ℕ → Option ℕ → Bool
is_number n (Some d) = nat_eq d n
is_number n None = false
