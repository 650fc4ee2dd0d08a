-- Entries that each lead to another entry or to none: the root of each.
use Rattle.std.specs.Prelude.{◌≡◌, ◌<◌, ℕ, Bool, true, false, List, length, slice_get, get_or, Option, Some, None}

-- an entry that leads nowhere is its own root, and any other has the root of the one that it leads to; what is no entry is
-- its own root
pub record AreRoots (links : List (Option ℕ)) (roots : List ℕ) : Type 0 where
  pub size : length roots ≡ length links
  pub own : (i : ℕ) → slice_get links i ≡ Some None → get_or roots i i ≡ i
  pub same : (i t : ℕ) → slice_get links i ≡ Some (Some t) → get_or roots i i ≡ get_or roots t t

-- an entry is in no chain yet; each entry of a chain has its number as its mark
abbrev pub is_open : Option (Option ℕ) → Bool
is_open (Some None) = true
is_open mark = false

abbrev pub root_by : List ℕ → ℕ → Option (Option ℕ) → ℕ
root_by ends i (Some (Some c)) = get_or ends c 0
root_by ends i mark = i

-- the root of an entry by its chain, each of which has one of the roots `ends`
abbrev pub root_of : List (Option ℕ) → List ℕ → ℕ → ℕ
root_of marks ends i = root_by ends i (slice_get marks i)

-- the root of `t` is known, and is `e`
pub data HasEnd (marks : List (Option ℕ)) (ends : List ℕ) (t e : ℕ) : Type 0 where
  Past : slice_get marks t ≡ None → t ≡ e → HasEnd marks ends t e
  Found : (c : ℕ) → slice_get marks t ≡ Some (Some c) → c < length ends → get_or ends c 0 ≡ e → HasEnd marks ends t e

-- entry `i` has the root `e`
pub record IsEnded (links marks : List (Option ℕ)) (ends : List ℕ) (i e : ℕ) : Type 0 where
  pub own : slice_get links i ≡ Some None → e ≡ i
  pub next : (t : ℕ) → slice_get links i ≡ Some (Some t) → HasEnd marks ends t e

-- the chains from the first entries on, as many as there are ends
pub record AreChained (links marks : List (Option ℕ)) (ends : List ℕ) : Type 0 where
  pub size : length marks ≡ length links
  pub each : (i c : ℕ) → slice_get marks i ≡ Some (Some c) → (c < length ends) × IsEnded links marks ends i (get_or ends c 0)
  pub done : (i : ℕ) → i < length ends → (c : ℕ) × (slice_get marks i ≡ Some (Some c))
