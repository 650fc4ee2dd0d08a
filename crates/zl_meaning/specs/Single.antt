-- Forms in which a place has one definer at a time, and an occurrence one use.
use Rattle.std.specs.Prelude.{◌≡◌, ℕ, Bool, true, false, List, [], ◌∷◌, slice_get, Option, Some}
use Rattle.zl_meaning.specs.FlatForm.{FlatForm, HasForm, IsWithin, call_of, kind_of}
use Rattle.zl_meaning.specs.Uses.{Use, PartOf, BranchOf, DefinerOf, IsUnused, uses_of}
use Rattle.zl_meaning.specs.declared.block.BlockKind.{BlockKind}
use Rattle.zl_meaning.specs.declared.block.BlockKind.TheVariants.{Arm, State as Body}
use Rattle.zl_meaning.specs.declared.place.Definer.{Definer}
use Rattle.zl_meaning.specs.declared.place.Definer.TheVariants.{Input, Plain, Der, Start}
use Rattle.zl_meaning.specs.declared.place.PlaceInfo.{PlaceInfo}
use Rattle.zl_meaning.specs.declared.occurrence.Form.TheVariants.{Read, Result}
use Rattle.zl_meaning.specs.declared.occurrence.Occ.{Occ}

-- two different bodies of one choice, or of one automaton
pub data AreBodies : BlockKind → BlockKind → Type 0 where
  OfChoice : (of m n : ℕ) → (m ≡ n → ⊥) → AreBodies (Arm of m) (Arm of n)
  OfAutomaton : (of m n : ℕ) → (m ≡ n → ⊥) → AreBodies (Body of m) (Body of n)

-- two blocks that are never active together: they stand in two different bodies of one choice or automaton
pub record AreApart (f : FlatForm) (a b : ℕ) : Type 0 where
  pub left : ℕ
  pub right : ℕ
  pub left_kind : BlockKind
  pub right_kind : BlockKind
  pub left_is : kind_of f left ≡ Some left_kind
  pub right_is : kind_of f right ≡ Some right_kind
  pub bodies : AreBodies left_kind right_kind
  pub left_holds : IsWithin f left a
  pub right_holds : IsWithin f right b

-- the block where a definer is active; an input is always
abbrev pub definer_block : Definer → ℕ
definer_block (Input n) = 0
definer_block (Plain b k) = b
definer_block (Der b slope resets) = b
definer_block (Start b k) = b

abbrev pub is_start : Definer → Bool
is_start (Input n) = false
is_start (Plain b k) = false
is_start (Der b slope resets) = false
is_start (Start b k) = true

-- the uses of an occurrence that has one: one use alone; or the result of a call that a definer names too, where nothing
-- uses the call, which has the call of the place that is defined; or a name that is both branches of an `if`
pub data IsOneUse (f : FlatForm) (k : ℕ) : List Use → Type 0 where
  Unused : IsOneUse f k []
  Once : (of : Use) → IsOneUse f k (of ∷ [])
  OfCall : (whole : ℕ) → HasForm f whole (Result k) → IsUnused f whole → IsOneUse f k (PartOf whole ∷ DefinerOf (call_of f whole) ∷ [])
  OfBranches : (whole condition p : ℕ) → HasForm f k (Read p) → IsOneUse f k (BranchOf whole condition true ∷ BranchOf whole condition false ∷ [])

-- every two definers of one place that are both `init`, or both not, are never active together; and occurrences aren't
-- shared
pub record IsSingle (f : FlatForm) : Type 0 where
  pub definers : (p m n : ℕ) (place : PlaceInfo) (a b : Definer) → slice_get f.places p ≡ Some place → slice_get place.definers m ≡ Some a → slice_get place.definers n ≡ Some b → (m ≡ n → ⊥) → is_start a ≡ is_start b → AreApart f (definer_block a) (definer_block b)
  pub uses : (k : ℕ) (occ : Occ) → slice_get f.occs k ≡ Some occ → IsOneUse f k (uses_of f k)
