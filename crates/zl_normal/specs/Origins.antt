-- Where the wires of occurrences and places, and those of their slopes, are from.
use Rattle.std.specs.Prelude.{◌≡◌, ◌<◌, ◌||◌, ℕ, Bool, if◌then◌else◌, List, [], ◌∷◌, length, slice_get, get_or, Option, Some, None}
use Rattle.zl_value.specs.declared.op.Op.{Op}
use Rattle.zl_value.specs.declared.op.Op.TheVariants.{AddFloat, SubFloat}
use Rattle.zl_meaning.specs.FlatForm.{FlatForm}
use Rattle.zl_meaning.specs.declared.place.Definer.{Definer}
use Rattle.zl_meaning.specs.declared.place.Definer.TheVariants.{Input, Plain, Der, Start}
use Rattle.zl_meaning.specs.declared.place.PlaceInfo.{PlaceInfo}
use Rattle.zl_meaning.specs.declared.occurrence.Form.{Form}
use Rattle.zl_meaning.specs.declared.occurrence.Form.TheVariants.{Lit, Read, Last as LastOf, Op as Apply, If, Arrow, Pre, Result, Up, Fired, Step as AtSteps}
use Rattle.zl_meaning.specs.declared.occurrence.Occ.{Occ}
use Rattle.zl_normal.specs.PlaceWires.{definer_of}
use Rattle.zl_normal.specs.Tables.{Tables, is_guarded, is_free, is_still, is_blank_occ, moves, has_made_slope}
use Rattle.zl_normal.specs.NumberTables.{KeyTables, wire_number}
use Rattle.zl_normal.specs.Joined.{IsFrom}
use Rattle.zl_normal.specs.declared.joined.Origin.{Origin}
use Rattle.zl_normal.specs.declared.joined.Origin.TheVariants.{Own, OfOcc, OfPlace}
use Rattle.zl_normal.specs.declared.wiring.Table.{Table}
use Rattle.zl_normal.specs.declared.wiring.Table.TheVariants.{Values, Places, Slopes, Motions}
use Rattle.zl_normal.specs.declared.key.Key.{Key}
use Rattle.zl_normal.specs.declared.key.Key.TheVariants.{Step, No, Zero, Value, Rest, Place, Last, Slope, Motion}

module _ (f : FlatForm) (grades : List ℕ) (t : Tables) (k : KeyTables) where
  abbrev pub own : Key → Origin
  own key = Own (wire_number k key)

  -- the value of an occurrence of this form
  abbrev pub value_origin : ℕ → Form → Origin
  value_origin j (Lit v) = own (Value (get_or t.firsts j 0))
  value_origin j (Read p) = OfPlace p
  value_origin j (LastOf p) = own (Last p)
  value_origin j (Result x) = OfOcc x
  value_origin j (Fired []) = own No
  value_origin j (Fired (u ∷ [])) = OfOcc u
  value_origin j (Fired (u ∷ v ∷ us)) = own (Rest j 0)
  value_origin j AtSteps = own Step
  value_origin j form = own (Value j)

  -- the value of a place with this definer
  abbrev pub place_origin : ℕ → Option ℕ → Option Definer → Origin
  place_origin p call None = if is_free t call then own (Last p) else own (Place p)
  place_origin p call (Some (Plain b j)) = if is_free t call || is_guarded f t j then OfOcc j else own (Place p)
  place_origin p call (Some definer) = own (Place p)

  -- the slope of an operator that isn't made
  abbrev pub taken_origin : Op → List ℕ → Origin
  taken_origin AddFloat (a ∷ b ∷ []) = if is_still grades b then OfOcc a else OfOcc b
  taken_origin SubFloat (a ∷ b ∷ []) = OfOcc a
  taken_origin op ks = own Zero

  -- the slope of an occurrence of this form, which may move
  abbrev pub slope_origin : ℕ → Form → Origin
  slope_origin j (Read p) = OfPlace p
  slope_origin j (Apply op ks) = if has_made_slope grades op ks then own (Slope j) else taken_origin op ks
  slope_origin j (If c x y) = if is_blank_occ f (slice_get f.occs y) then OfOcc x else own (Slope j)
  slope_origin j (Arrow x y) = OfOcc y
  slope_origin j (Result x) = OfOcc x
  slope_origin j form = own Zero

  -- the slope of a place with this definer
  abbrev pub motion_origin : ℕ → Option Definer → Origin
  motion_origin p (Some (Plain b j)) = OfOcc j
  motion_origin p (Some (Der b j arms)) = own (Motion p)
  motion_origin p definer = own Zero

  abbrev pub occ_value : ℕ → Option Occ → Origin
  occ_value j None = own Zero
  occ_value j (Some occ) = value_origin j occ.form

  abbrev pub occ_slope : ℕ → Option Occ → Origin
  occ_slope j None = own Zero
  occ_slope j (Some occ) = if moves grades j occ then slope_origin j occ.form else own Zero

  abbrev pub place_value : ℕ → Option PlaceInfo → Origin
  place_value p None = own Zero
  place_value p (Some place) = place_origin p place.call (definer_of place.definers)

  abbrev pub place_motion : ℕ → Option PlaceInfo → Origin
  place_motion p None = own Zero
  place_motion p (Some place) = motion_origin p (definer_of place.definers)

  -- where an entry of this table is from
  abbrev pub origin : Table → ℕ → Origin
  origin Values j = occ_value j (slice_get f.occs j)
  origin Places p = place_value p (slice_get f.places p)
  origin Slopes j = occ_slope j (slice_get f.occs j)
  origin Motions p = place_motion p (slice_get f.places p)

  -- the tables of occurrences and of places have the wires that they are from
  pub record AreFrom (of_occs of_places : Table) (occs places : List ℕ) : Type 0 where
    pub each_occ : (j : ℕ) → j < length f.occs → IsFrom occs places (origin of_occs j) (get_or occs j 0)
    pub each_place : (p : ℕ) → p < length f.places → IsFrom occs places (origin of_places p) (get_or places p 0)
