-- Ranks in which whether an occurrence is evaluated is known before its value.
use Rattle.std.specs.Prelude.{ℕ, Bool, List, Option, Some}
use Rattle.zl_meaning.specs.FlatForm.{FlatForm}
use Rattle.zl_meaning.specs.Uses.{BranchOf, ResetOf, StartOf, IsUse}
use Rattle.zl_meaning.specs.Branches.{Under}
use Rattle.zl_meaning.specs.Causality.{HasRanks}
use Rattle.zl_meaning.specs.Copies.{KeepsCopies}
use Rattle.zl_meaning.specs.Regular.{IsRegular}
use Rattle.zl_meaning.specs.Single.{IsSingle}
use Rattle.zl_meaning.specs.WellFormed.{IsWellFormed}
use Rattle.zl_normal.specs.Evaluated.{HasGuardRanks}
use Rattle.zl_normal.specs.MainBlock.{IsMain}

-- occurrence number `k` stands in no branch of an `if` and under no reset value
pub record IsUndecided (f : FlatForm) (k : ℕ) : Type 0 where
  pub branches : (whole condition : ℕ) (side : Bool) → Under f (BranchOf whole condition side) k → ⊥
  pub resets : (call : Option ℕ) (events : List ℕ) (arm : ℕ) → Under f (ResetOf call events arm) k → ⊥

-- an `init` stands in no copy of a call that an event or a condition decides on: else its value, which `last` reads, would wait
-- for what may itself read that `last`
abbrev pub KeepsInits : FlatForm → Type 0
KeepsInits f = (k b call : ℕ) → IsUse f k (StartOf (Some call) b) → IsUndecided f call

-- a well-formed and single form of the main block alone with ranks of its places and blocks has such ranks of its entries, if it
-- keeps its copies and its `init`s
abbrev pub RanksGiveGuardRanks : Type 0
RanksGiveGuardRanks = (f : FlatForm) → IsWellFormed f → IsMain f → IsSingle f → KeepsCopies f → KeepsInits f → HasRanks f → HasGuardRanks f

-- a well-formed and regular form of the main block alone keeps its `init`s: an `init` stands in no combinatorial context, and
-- branches, reset values and all that is called there are combinatorial
abbrev pub RegularFormsKeepInits : Type 0
RegularFormsKeepInits = (f : FlatForm) → IsWellFormed f → IsMain f → IsRegular f → KeepsInits f
