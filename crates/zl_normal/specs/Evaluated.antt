-- Occurrences that are evaluated only where another one is.
use Rattle.std.specs.Prelude.{◌≡◌, ℕ, ◌<◌, slice_get, Option, Some, None, IfSome}
use Rattle.zl_meaning.specs.FlatForm.{FlatForm, HasForm, call_of, place_call}
use Rattle.zl_meaning.specs.State.{AtUsed, AtValue}
use Rattle.zl_meaning.specs.Reading.{HasNodeRanks}
use Rattle.zl_meaning.specs.Uses.{Use, PartOf, BranchOf, DefinerOf, SlopeOf, EventOf, StartOf, ResetOf, TestOf, ArgumentOf, AgainOf, IsUse, IsUnused}
use Rattle.zl_meaning.specs.declared.occurrence.Form.TheVariants.{Last}
use Rattle.zl_meaning.specs.declared.occurrence.Occ.{Occ}

-- the occurrence without which a use doesn't ask for anything: the whole of a part, the call of a definer's place
abbrev pub owner_of : Use → Option ℕ
owner_of (PartOf whole) = Some whole
owner_of (BranchOf whole condition side) = Some whole
owner_of (DefinerOf call) = call
owner_of (SlopeOf call) = call
owner_of (EventOf call) = call
owner_of (StartOf call block) = call
owner_of (ResetOf call events arm) = call
owner_of TestOf = None
owner_of ArgumentOf = None
owner_of AgainOf = None

-- occurrence number `k` is evaluated only where number `call` is: it is that one; or it is used, and so are the owners of all
-- its uses; or nothing uses it, and so is the call in whose copy it stands; or nothing uses `call`, and it is the call in whose
-- copy `call` stands, or anything where `call` stands in none
pub data IsOnlyWith (f : FlatForm) (call : ℕ) : ℕ → Type 0 where
  Itself : IsOnlyWith f call call
  ByUses : (k : ℕ) (of : Use) (by : Use → ℕ) → IsUse f k of → ((other : Use) → IsUse f k other → owner_of other ≡ Some (by other)) → ((other : Use) → IsUse f k other → IsOnlyWith f call (by other)) → IsOnlyWith f call k
  ByCall : (k by : ℕ) → IsUnused f k → call_of f k ≡ Some by → IsOnlyWith f call by → IsOnlyWith f call k
  Outside : (k : ℕ) (occ : Occ) → slice_get f.occs call ≡ Some occ → IsUnused f call → IfSome occ.call (λ outer. outer ≡ k) → IsOnlyWith f call k

-- `last` of a place that stands in the copy of a call is evaluated only where the call is
abbrev pub KeepsLasts : FlatForm → Type 0
KeepsLasts f = (k p call : ℕ) → HasForm f k (Last p) → place_call f p ≡ Some call → IsOnlyWith f call k

-- the entries of a moment have ranks, in which whether an occurrence is evaluated is ranked below its value: so a guard can be
-- solved before what it guards
pub record HasGuardRanks (f : FlatForm) : Type 0 where
  pub entries : HasNodeRanks f
  pub guards : (k : ℕ) → entries.rank (AtUsed k) < entries.rank (AtValue k)
