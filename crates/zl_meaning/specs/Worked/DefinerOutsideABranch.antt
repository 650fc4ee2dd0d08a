-- Another that isn't well-formed: the call in whose copy the place stands is in a branch, its definer outside; what the
-- condition reads goes through both. Two instants solve the empty history.
use Rattle.std.specs.Prelude.{◌≡◌, ℕ, true, false, [], ◌∷◌, Some, None}
use Rattle.zl_value.specs.declared.value.Value.TheVariants.{B}
use Rattle.zl_value.specs.declared.value.Ty.TheVariants.{Bool as BoolTy}
use Rattle.zl_meaning.specs.FlatForm.{FlatForm}
use Rattle.zl_meaning.specs.State.{Table, Active}
use Rattle.zl_meaning.specs.WellFormed.{IsWellFormed}
use Rattle.zl_meaning.specs.Worked.{at, block, place, occ, HasTwoInstants}
use Rattle.zl_meaning.specs.declared.block.BlockKind.TheVariants.{Main}
use Rattle.zl_meaning.specs.declared.place.Definer.TheVariants.{Plain}
use Rattle.zl_meaning.specs.declared.occurrence.Form.TheVariants.{Lit, Read, If, Result}

abbrev pub form : FlatForm
form = record {
  blocks = block None Main true ∷ [];
  places =
      place 0 None BoolTy 0 (at 1 1) (Plain 0 0 ∷ [])
      ∷ place 0 (Some 1) BoolTy 1 (at 1 2) (Plain 0 2 ∷ [])
      ∷ place 0 (Some 6) BoolTy 2 (at 1 3) (Plain 0 1 ∷ [])
      ∷ place 0 None BoolTy 3 (at 1 4) (Plain 0 4 ∷ [])
      ∷ [];
  occs =
      occ 0 None BoolTy (at 2 0) (Read 1)
      ∷ occ 0 None BoolTy (at 2 1) (Result 3)
      ∷ occ 0 (Some 1) BoolTy (at 2 2) (Lit (B true))
      ∷ occ 0 (Some 1) BoolTy (at 2 3) (Read 1)
      ∷ occ 0 None BoolTy (at 2 4) (If 5 6 7)
      ∷ occ 0 None BoolTy (at 2 5) (Read 0)
      ∷ occ 0 None BoolTy (at 2 6) (Result 8)
      ∷ occ 0 None BoolTy (at 2 7) (Lit (B false))
      ∷ occ 0 (Some 6) BoolTy (at 2 8) (Read 2)
      ∷ [];
  sites = [];
  choices = [];
  automata = [];
  again = [];
  ins = [];
  outs = 3 ∷ [];
}

-- the condition holds, and the branch is taken; or it has no value
abbrev pub taken : Table
taken = record {
  controls = Active ∷ [];
  resets = false ∷ [];
  later = false ∷ [];
  entries = [];
  running = [];
  strong = [];
  weak = [];
  places = Some (B true) ∷ Some (B true) ∷ Some (B true) ∷ Some (B true) ∷ [];
  used = true ∷ true ∷ true ∷ true ∷ true ∷ true ∷ true ∷ false ∷ true ∷ [];
  values = Some (B true) ∷ Some (B true) ∷ Some (B true) ∷ Some (B true) ∷ Some (B true) ∷ Some (B true) ∷ Some (B true) ∷ Some (B false) ∷ Some (B true) ∷ [];
}

abbrev pub undecided : Table
undecided = record {
  controls = Active ∷ [];
  resets = false ∷ [];
  later = false ∷ [];
  entries = [];
  running = [];
  strong = [];
  weak = [];
  places = None ∷ None ∷ None ∷ None ∷ [];
  used = true ∷ false ∷ false ∷ false ∷ true ∷ true ∷ false ∷ false ∷ false ∷ [];
  values = None ∷ None ∷ Some (B true) ∷ None ∷ None ∷ None ∷ None ∷ Some (B false) ∷ None ∷ [];
}

abbrev pub DefinerOutsideABranchIsRefused : Type 0
DefinerOutsideABranchIsRefused = IsWellFormed form → ⊥

abbrev pub DefinerOutsideABranchIsTwo : Type 0
DefinerOutsideABranchIsTwo = HasTwoInstants form taken undecided
