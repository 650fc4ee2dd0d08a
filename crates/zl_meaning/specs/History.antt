-- Instants of a run of a flat form, and what the equations look back to in lists of them.
use Rattle.std.specs.Prelude.{ℕ, Bool, false, not, ◌&&◌, ◌||◌, if◌then◌else◌, [], ◌∷◌, Option, Some, None}
use Rattle.zl_value.specs.Instants.{Instant as InstantOf, History as HistoryOf}
use Rattle.zl_meaning.specs.State.{Table, State, state_in, nothing, AtControl, AtReset, AtLater, is_active}

-- an instant at which the entries of a flat form stand
abbrev pub Instant : Type 0
Instant = InstantOf Table

-- the instants of a run so far, the latest first
abbrev pub History : Type 0
History = HistoryOf Table

abbrev pub state_of : Instant → State
state_of i = state_in i.table

-- the entries of the latest instant
abbrev pub latest_state : History → State
latest_state [] = nothing
latest_state (i ∷ h) = state_of i

-- the latest instant at which block `b` was active
abbrev pub last_active : ℕ → History → Option Instant
last_active b [] = None
last_active b (i ∷ h) = if is_active (state_of i (AtControl b)) then Some i else last_active b h

-- block `b` was active at an instant, and no reset of it stands after that one
abbrev pub is_live : ℕ → History → Bool
is_live b [] = false
is_live b (i ∷ h) =
    not (state_of i (AtLater b)) && (is_active (state_of i (AtControl b)) || (not (state_of i (AtReset b)) && is_live b h))
