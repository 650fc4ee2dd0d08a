-- The inputs of a form.
use Rattle.std.specs.Prelude.{ℕ, List, map, slice_get, Option, Some, None}
use Rattle.zl_value.specs.declared.value.Ty.{Ty}
use Rattle.zl_value.specs.declared.value.Ty.TheVariants.{Float}
use Rattle.zl_meaning.specs.FlatForm.{FlatForm}
use Rattle.zl_meaning.specs.declared.place.PlaceInfo.{PlaceInfo}

abbrev pub type_in : Option PlaceInfo → Ty
type_in None = Float
type_in (Some place) = place.ty

-- the type of an input, which is a place
abbrev pub input_type : FlatForm → ℕ → Ty
input_type f p = type_in (slice_get f.places p)

-- the types of the inputs, by number
abbrev pub input_types : FlatForm → List Ty
input_types f = map (input_type f) f.ins
