-- What stands under an `init` value or a reset value.
use Rattle.std.specs.Prelude.{◌≡◌, ℕ, Bool, true, false, List, [], ◌∷◌, length, slice_get, Some, map}
use Rattle.std.specs.List.{flat_map}
use Rattle.zl_meaning.specs.FlatForm.{FlatForm}
use Rattle.zl_meaning.specs.Copies.{IsApart}
use Rattle.zl_meaning.specs.declared.place.Definer.{Definer}
use Rattle.zl_meaning.specs.declared.place.Definer.TheVariants.{Input, Plain, Der, Start}
use Rattle.zl_meaning.specs.declared.place.DerArm.{DerArm}
use Rattle.zl_meaning.specs.declared.place.PlaceInfo.{PlaceInfo}

-- the `init` values and the reset values
abbrev pub values_of : List DerArm → List ℕ
values_of resets = map (λ (arm : DerArm). arm.value) resets

abbrev pub set_by : Definer → List ℕ
set_by (Input n) = []
set_by (Plain b k) = []
set_by (Der b slope resets) = values_of resets
set_by (Start b k) = k ∷ []

abbrev pub set_in : PlaceInfo → List ℕ
set_in place = flat_map set_by place.definers

abbrev pub set_values : List PlaceInfo → List ℕ
set_values places = flat_map set_in places

-- an occurrence is marked exactly where it stands under such a value
pub record AreApart (f : FlatForm) (marks : List Bool) : Type 0 where
  pub size : length marks ≡ length f.occs
  pub sound : (k : ℕ) → slice_get marks k ≡ Some true → IsApart f k
  pub others : (k : ℕ) → slice_get marks k ≡ Some false → IsApart f k → ⊥
