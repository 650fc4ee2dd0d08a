-- What stands directly under an occurrence: its parts and, if it is a call, what has this call.
use Rattle.std.specs.Prelude.{◌≡◌, ℕ, zero, suc, ◌<◌, Bool, false, if◌then◌else◌, nat_eq, List, [], ◌∷◌, ◌++◌, length, get_or, slice_get, Option, Some, None}
use Rattle.std.specs.Option.{option_and_then}
use Rattle.zl_meaning.specs.Uses.{parts}
use Rattle.zl_meaning.specs.declared.occurrence.Occ.{Occ}
use Rattle.zl_grade.specs.declared.children.Children.{Children}

-- the call of occurrence number `k`
abbrev pub call_at : List Occ → ℕ → Option ℕ
call_at occs k = option_and_then (λ (occ : Occ). occ.call) (slice_get occs k)

abbrev pub is_call : ℕ → Option ℕ → Bool
is_call call None = false
is_call call (Some c) = nat_eq c call

-- of the first `n` occurrences those that have this call, the last one first
abbrev pub members : List Occ → ℕ → ℕ → List ℕ
members occs call zero = []
members occs call (suc n) = if is_call call (call_at occs n) then n ∷ members occs call n else members occs call n

-- those from this one on
abbrev pub members_from : List Occ → ℕ → Option ℕ → List ℕ
members_from occs call None = []
members_from occs call (Some k) = k ∷ members occs call k

-- of the first `n` occurrences this is the last one that has the call
pub record IsLast (occs : List Occ) (call n : ℕ) (at : Option ℕ) : Type 0 where
  pub members : members occs call n ≡ members_from occs call at
  pub within : (k : ℕ) → at ≡ Some k → k < n
  pub called : (k : ℕ) → at ≡ Some k → call_at occs k ≡ Some call

-- calls are occurrences of the list
abbrev pub HasCalls : List Occ → Type 0
HasCalls occs = (k call : ℕ) → call_at occs k ≡ Some call → call < length occs

-- the last of each call, and the one before each, among the first `n` occurrences
pub record HasChains (occs : List Occ) (n : ℕ) (last before : List (Option ℕ)) : Type 0 where
  pub lasts : length last ≡ length occs
  pub befores : length before ≡ n
  pub of_calls : (call : ℕ) → call < length occs → IsLast occs call n (get_or last call None)
  pub of_members : (k call : ℕ) → k < n → call_at occs k ≡ Some call → IsLast occs call k (get_or before k None)

-- the chains of all
pub record HasChildren (occs : List Occ) (c : Children) : Type 0 where
  pub same : c.occs.now ≡ occs
  pub chains : HasChains occs (length occs) c.last.items c.before.items

abbrev pub parts_at : Option Occ → List ℕ
parts_at None = []
parts_at (Some occ) = parts occ.form

-- what stands directly under number `k`
abbrev pub children : List Occ → ℕ → List ℕ
children occs k = parts_at (slice_get occs k) ++ members occs k (length occs)
