-- The slopes of a flow, which must be in the width, and the places that move in it.
use Rattle.std.specs.Prelude.{ℕ, suc, nat_le, Bool, true, ◌&&◌, if◌then◌else◌, List, [], ◌∷◌, ◌++◌, length, slice_get, get_or, Option, Some, None}
use Rattle.std.specs.List.{list_all}
use Rattle.zl_value.specs.Fraction.{Fraction, sub, fits}
use Rattle.zl_value.specs.Lists.{listed, when}
use Rattle.zl_value.specs.Times.{holds, fails}
use Rattle.zl_value.specs.Widths.{Tested, first_wide}
use Rattle.zl_value.specs.System.{Motion}
use Rattle.zl_value.specs.declared.position.Pos.{Pos}
use Rattle.zl_value.specs.declared.value.Fault.{Fault}
use Rattle.zl_value.specs.declared.value.Value.{Value}
use Rattle.zl_value.specs.declared.value.Value.TheVariants.{F}
use Rattle.zl_meaning.specs.FlatForm.{FlatForm}
use Rattle.zl_meaning.specs.State.{Table, State, state_in, AtControl, AtPlace, AtUsed, AtValue, is_active}
use Rattle.zl_meaning.specs.Grades.{keeps_lines}
use Rattle.zl_meaning.specs.declared.place.Definer.{Definer}
use Rattle.zl_meaning.specs.declared.place.Definer.TheVariants.{Plain, Der}
use Rattle.zl_meaning.specs.declared.place.PlaceInfo.{PlaceInfo}
use Rattle.zl_meaning.specs.declared.occurrence.Form.{Form}
use Rattle.zl_meaning.specs.declared.occurrence.Form.TheVariants.{Lit, Read, Last, Op as Apply, If, Arrow, Pre, Result, Up, Fired, Step}
use Rattle.zl_meaning.specs.declared.occurrence.Occ.{Occ}

abbrev pub less : Option Value → Option Value → Option Fraction
less (Some (F a)) (Some (F b)) = Some (sub a b)
less _ _ = None

-- a slope: the value at moment 1 less that at moment 0. Here and below `t` is what stands at moment 0, `u` at moment 1
abbrev pub slope_of : Table → Table → ℕ → Option Fraction
slope_of t u k = less (state_in u (AtValue k)) (state_in t (AtValue k))

-- the occurrence by which an active definer gives a place its value, beside `der` and `init`
abbrev pub plain_by : State → List Definer → List ℕ
plain_by s [] = []
plain_by s (Plain b k ∷ definers) = if is_active (s (AtControl b)) then k ∷ [] else plain_by s definers
plain_by s (definer ∷ definers) = plain_by s definers

abbrev pub plain_of : State → Option PlaceInfo → List ℕ
plain_of s None = []
plain_of s (Some place) = plain_by s place.definers

-- what the slope of an occurrence of this form is made from: an operator that doesn't keep lines has none
abbrev pub sources : FlatForm → State → Form → List ℕ
sources f s (Lit v) = []
sources f s (Read p) = plain_of s (slice_get f.places p)
sources f s (Last p) = []
sources f s (Apply op ks) = if keeps_lines op then ks else []
sources f s (If c x y) = when (holds (s (AtValue c))) x ++ when (fails (s (AtValue c))) y
sources f s (Arrow x y) = y ∷ []
sources f s (Pre x) = []
sources f s (Result x) = x ∷ []
sources f s (Up site) = []
sources f s (Fired ks) = []
sources f s Step = []

-- a slope is in the width, if there is one
abbrev pub slope_fits : Option Fraction → Bool
slope_fits None = true
slope_fits (Some slope) = fits slope

-- all of these are fine
abbrev pub all_fine : List Bool → List ℕ → Bool
all_fine fine ks = list_all (λ k. get_or fine k true) ks

-- a slope is fine if it is in the width and all that it is made from is fine
abbrev pub is_fine : FlatForm → Table → Table → List Bool → ℕ → Option Occ → Bool
is_fine f t u fine k None = true
is_fine f t u fine k (Some occ) = slope_fits (slope_of t u k) && all_fine fine (sources f (state_in t) occ.form)

-- which occurrences are fine, by number, if `fine` says it of the others
abbrev pub fine_turn : FlatForm → Table → Table → List Bool → List Bool
fine_turn f t u fine = listed (length f.occs) 0 (λ k. is_fine f t u fine k (slice_get f.occs k))

-- the slope is tested where it is that of an evaluated occurrence of grade 0 or 1, and is made from what is fine
abbrev pub is_tested : FlatForm → List ℕ → Table → List Bool → ℕ → Occ → Bool
is_tested f grades t fine k occ = state_in t (AtUsed k) && (nat_le (get_or grades k 3) 1 && all_fine fine (sources f (state_in t) occ.form))

abbrev pub tested_at : Pos → Option Fraction → List Tested
tested_at at None = []
tested_at at (Some number) = record { number = number; at = at } ∷ []

abbrev pub slope_test : FlatForm → List ℕ → Table → Table → List Bool → ℕ → Occ → List Tested
slope_test f grades t u fine k occ = if is_tested f grades t fine k occ then tested_at occ.at (slope_of t u k) else []

-- the slopes of these occurrences, of which the first has the number `k`
abbrev pub slope_tests : FlatForm → List ℕ → Table → Table → List Bool → ℕ → List Occ → List Tested
slope_tests f grades t u fine k [] = []
slope_tests f grades t u fine k (occ ∷ occs) = slope_test f grades t u fine k occ ++ slope_tests f grades t u fine (suc k) occs

-- the first slope that isn't in the width
abbrev pub slope_fault : FlatForm → List ℕ → Table → Table → List Bool → Option Fault
slope_fault f grades t u fine = first_wide (slope_tests f grades t u fine 0 f.occs)

-- the derivative of a place: the occurrence that an active `der` names
abbrev pub derivative_by : State → List Definer → Option ℕ
derivative_by s [] = None
derivative_by s (Der b slope arms ∷ definers) = if is_active (s (AtControl b)) then Some slope else derivative_by s definers
derivative_by s (definer ∷ definers) = derivative_by s definers

-- a place that moves
abbrev pub motion : Pos → Option Value → Option Value → List Motion
motion at (Some (F from)) (Some (F slope)) = record { from = from; slope = slope; at = at } ∷ []
motion at _ _ = []

abbrev pub motion_by : State → ℕ → PlaceInfo → Option ℕ → List Motion
motion_by start p place None = []
motion_by start p place (Some slope) = motion place.at (start (AtPlace p)) (start (AtValue slope))

-- the motions of these places, of which the first has the number `p`: `s` is what stands at moment 0 of the flow and
-- `start` what stands at the instant
abbrev pub motions : State → State → ℕ → List PlaceInfo → List Motion
motions s start p [] = []
motions s start p (place ∷ places) = motion_by start p place (derivative_by s place.definers) ++ motions s start (suc p) places
