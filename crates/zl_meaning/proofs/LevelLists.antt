-- What ranks by levels need of lists and of numbers.
use Rattle.std.specs.Prelude.{◌≡◌, ℕ, zero, suc, ◌+◌, ◌*◌, ◌<◌, ◌≤◌, Bool, true, false, if◌then◌else◌, List, [], ◌∷◌, map, slice_get, get_or, Some}
use Rattle.std.specs.List.{AllByRecursion, filter}
use Rattle.std.proofs.Common.{refl, ap, arith}
use Rattle.zl_value.specs.Lists.{Has}
use Rattle.zl_meaning.specs.WellFormed.{named_in}
use Rattle.zl_meaning.specs.declared.block.AutoMove.{AutoMove}
use Rattle.zl_meaning.specs.declared.place.DerArm.{DerArm}
use Rattle.zl_meaning.proofs.Members.{has-none, has-cases, has-later}

pub each : {X : Type 0} (P : X → Type 0) (xs : List X) → ((x : X) → Has xs x → P x) → AllByRecursion P xs
each P [] all = tt
each P (x ∷ xs) all = (all x (record { index = 0; is = refl }), each P xs (λ y h. all y (has-later x xs y h)))

-- of the tests of the moves that pass
pub each-test : (P : ℕ → Type 0) (passes : AutoMove → Bool) (moves : List AutoMove) → ((move : AutoMove) → Has moves move → passes move ≡ true → P move.cond) → AllByRecursion P (map (λ (move : AutoMove). move.cond) (filter passes moves))
each-test P passes [] all = tt
each-test P passes (x ∷ moves) all = by_first (passes x) refl (each-test P passes moves (λ move h. all move (has-later x moves move h)))
  where
    by_first : (b : Bool) → passes x ≡ b → AllByRecursion P (map (λ (move : AutoMove). move.cond) (filter passes moves)) → AllByRecursion P (map (λ (move : AutoMove). move.cond) (if b then x ∷ filter passes moves else filter passes moves))
    by_first true e rest = (all x (record { index = 0; is = refl }) e, rest)
    by_first false e rest = rest

-- a move among those of a state's number, none past the end, is one of that state
pub of-state : (states : List (List AutoMove)) (state : ℕ) (move : AutoMove) → Has (get_or states state []) move → (moves : List AutoMove) × (slice_get states state ≡ Some moves) × Has moves move
of-state [] state move h = absurd (has-none move h)
of-state (x ∷ states) zero move h = (x, refl, h)
of-state (x ∷ states) (suc state) move h = of-state states state move h

-- the events and the values of reset arms
pub named-event : (arms : List DerArm) (arm : DerArm) → Has arms arm → Has (named_in arms) arm.event
named-event [] arm h = absurd (has-none arm h)
named-event (x ∷ arms) arm h =
    has-cases (Has (named_in (x ∷ arms)) arm.event) x arms arm h
    (λ e. record { index = 0; is = ap (λ (a : DerArm). Some a.event) e })
    (λ i. has-later x.event (x.value ∷ named_in arms) arm.event (has-later x.value (named_in arms) arm.event (named-event arms arm i)))

pub named-value : (arms : List DerArm) (arm : DerArm) → Has arms arm → Has (named_in arms) arm.value
named-value [] arm h = absurd (has-none arm h)
named-value (x ∷ arms) arm h =
    has-cases (Has (named_in (x ∷ arms)) arm.value) x arms arm h
    (λ e. record { index = 1; is = ap (λ (a : DerArm). Some a.value) e })
    (λ i. has-later x.event (x.value ∷ named_in arms) arm.value (has-later x.value (named_in arms) arm.value (named-value arms arm i)))

-- ---- places in the numbers: lower in level; not higher, and lower within it

pub spot : ℕ → ℕ → ℕ
spot n i = 4 * n + i

pub jump : (m n i j : ℕ) → m < n → i < 4 → spot m i < spot n j
unfolding spot
jump m n i j low within = omega (arith, low, within)

pub stay : (m n i j : ℕ) → m ≤ n → i < j → spot m i < spot n j
unfolding spot
stay m n i j low within = omega (arith, low, within)

pub if-less : (b : Bool) (x n : ℕ) → 0 < n → (b ≡ true → x < n) → (if b then x else 0) < n
if-less true x n some less = less refl
if-less false x n some less = some
