-- A form is causal exactly where its places and blocks have ranks, and each form has ranks or a circle.
use Rattle.std.specs.Prelude.{◌⊎◌, ℕ, List}
use Rattle.zl_meaning.specs.FlatForm.{FlatForm}
use Rattle.zl_meaning.specs.WellFormed.{IsWellFormed}
use Rattle.zl_meaning.specs.Depends.{Thing, Depends, IsCausal, AreRanks}

-- some ranks grow along every dependency of the form
pub record HasRanks (f : FlatForm) : Type 0 where
  pub of_places : List ℕ
  pub of_blocks : List ℕ
  pub grow : AreRanks f of_places of_blocks

-- some place or block depends on itself
pub record HasCircle (f : FlatForm) : Type 0 where
  pub thing : Thing
  pub on_itself : Depends f thing thing

-- a form with ranks is causal, and a causal one that is well-formed has ranks
abbrev pub CausalExactlyWithRanks : Type 0
CausalExactlyWithRanks = (f : FlatForm) → IsWellFormed f → (IsCausal f → HasRanks f) × (HasRanks f → IsCausal f)

-- a well-formed form has ranks, or something in it depends on itself
abbrev pub RanksOrCircle : Type 0
RanksOrCircle = (f : FlatForm) → IsWellFormed f → HasRanks f ⊎ HasCircle f
