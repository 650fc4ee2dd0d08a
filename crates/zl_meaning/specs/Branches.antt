-- What stands under a use of an occurrence: in a branch of an `if`, in an `init` value, in a reset value.
use Rattle.std.specs.Prelude.{◌≡◌, ℕ, Bool, Option, Some, slice_get}
use Rattle.zl_value.specs.Lists.{Has}
use Rattle.zl_meaning.specs.FlatForm.{FlatForm, call_of}
use Rattle.zl_meaning.specs.Uses.{Use, BranchOf, IsUse, parts}
use Rattle.zl_meaning.specs.declared.occurrence.Occ.{Occ}

-- occurrence number `k` is a part of number `whole`
pub record IsPart (f : FlatForm) (k whole : ℕ) : Type 0 where
  pub occ : Occ
  pub is : slice_get f.occs whole ≡ Some occ
  pub part : Has (parts occ.form) k

-- occurrence number `k` stands under the use: it is used so, or is a part of what stands there, or stands in the copy of a
-- call that does
pub data Under (f : FlatForm) (of : Use) : ℕ → Type 0 where
  Is : (k : ℕ) → IsUse f k of → Under f of k
  Part : (k whole : ℕ) → IsPart f k whole → Under f of whole → Under f of k
  Called : (k call : ℕ) → call_of f k ≡ Some call → Under f of call → Under f of k

-- occurrence number `k` stands in the branch of `if` number `whole` that is taken where its condition is `side`
abbrev pub InBranch : FlatForm → ℕ → Bool → ℕ → Type 0
InBranch f whole side k = (condition : ℕ) × Under f (BranchOf whole condition side) k

-- what has this `call` stands in the branch
abbrev pub CallInBranch : FlatForm → ℕ → Bool → Option ℕ → Type 0
CallInBranch f whole side call = (c : ℕ) × (call ≡ Some c) × InBranch f whole side c
