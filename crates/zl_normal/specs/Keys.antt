-- The wires and memories of a normal form, by what they stand for.
use Rattle.std.specs.Prelude.{ℕ, suc, nat_eq, Bool, true, false, not, ◌&&◌, ◌||◌, List, [], ◌∷◌, ◌++◌, slice_get, get_or, Option, Some, None}
use Rattle.zl_value.specs.Lists.{when}
use Rattle.zl_meaning.specs.FlatForm.{FlatForm, place_call}
use Rattle.zl_meaning.specs.declared.place.Definer.{Definer}
use Rattle.zl_meaning.specs.declared.place.Definer.TheVariants.{Input, Plain, Der, Start}
use Rattle.zl_meaning.specs.declared.place.DerArm.{DerArm}
use Rattle.zl_meaning.specs.declared.place.PlaceInfo.{PlaceInfo}
use Rattle.zl_meaning.specs.declared.occurrence.Form.{Form}
use Rattle.zl_meaning.specs.declared.occurrence.Form.TheVariants.{Lit, Op as Apply, If, Arrow, Pre, Up, Fired}
use Rattle.zl_meaning.specs.declared.occurrence.Occ.{Occ}
use Rattle.zl_normal.specs.PlaceWires.{definer_of, start_of}
use Rattle.zl_normal.specs.Tables.{Tables, is_guarded, is_free, is_computed, has_last, has_own_slope}
use Rattle.zl_normal.specs.declared.role.Role.{Role}
use Rattle.zl_normal.specs.declared.role.Role.TheVariants.{Branch, Both, Start as OfStart, Reset as OfReset}
use Rattle.zl_normal.specs.declared.key.Key.{Key}
use Rattle.zl_normal.specs.declared.key.Key.TheVariants.{Step, Fresh, No, Zero, Value, Rest, Next, Other, Guard, Place, Between, Taken, Passed, Chosen, Last, Remembered, Again, Present, Slope, Motion}
use Rattle.zl_normal.specs.declared.key.Kept.{Kept}
use Rattle.zl_normal.specs.declared.key.Kept.TheVariants.{First, Before, Moving, Derivative, Pre as OfPre}

-- what these entries give in turn, the first of which has the number `n`
abbrev pub each : {X Y : Type 0} → (ℕ → X → List Y) → ℕ → List X → List Y
each g n [] = []
each g n (x ∷ xs) = g n x ++ each g (suc n) xs

-- for each of these numbers but the last, which are joined by `or`
abbrev pub joints : (ℕ → Key) → ℕ → List ℕ → List Key
joints key n [] = []
joints key n (u ∷ []) = []
joints key n (u ∷ v ∷ us) = key n ∷ joints key (suc n) (v ∷ us)

module _ (f : FlatForm) (grades : List ℕ) (t : Tables) where
  -- occurrence `j` of this form: its value, if that has a wire of its own
  abbrev pub value_keys : ℕ → Form → List Key
  value_keys j (Lit v) = when (nat_eq (get_or t.firsts j 0) j) (Value j)
  value_keys j (Apply op ks) = Value j ∷ []
  value_keys j (If c x y) = Value j ∷ []
  value_keys j (Arrow x y) = Value j ∷ []
  value_keys j (Pre x) = Value j ∷ when (not (is_guarded f t x)) (Next j)
  value_keys j (Up s) = Value j ∷ []
  value_keys j (Fired ks) = joints (Rest j) 0 ks
  value_keys j form = []

  -- its guard, if that has wires of its own
  abbrev pub guard_keys : ℕ → Option Role → List Key
  guard_keys j (Some (Branch whole c true)) = when (not (get_or t.free whole false || is_guarded f t c)) (Guard j)
  guard_keys j (Some (Branch whole c false)) = Guard j ∷ []
  guard_keys j (Some (Both whole c)) = Other j ∷ Guard j ∷ []
  guard_keys j (Some (OfStart p)) = when (not (is_free t (place_call f p))) (Guard j)
  guard_keys j (Some (OfReset p arm)) = when (not (is_free t (place_call f p))) (Guard j)
  guard_keys j role = []

  -- its slope; that of an operator is solved where the occurrence has a number
  abbrev pub form_slope_keys : ℕ → Form → List Key
  form_slope_keys j (Apply op ks) = Present j ∷ Slope j ∷ []
  form_slope_keys j form = Slope j ∷ []

  abbrev pub slope_keys : ℕ → Occ → List Key
  slope_keys j occ = keys_if (has_own_slope f grades j occ) where
    keys_if : Bool → List Key
    keys_if true = form_slope_keys j occ.form
    keys_if false = []

  abbrev pub occ_keys : ℕ → Occ → List Key
  occ_keys j occ = value_keys j occ.form ++ guard_keys j (slice_get t.roles j) ++ slope_keys j occ

  -- the arms of place `p`, of which the first has this number
  abbrev pub arm_keys : ℕ → ℕ → DerArm → List Key
  arm_keys p n arm = Taken p n ∷ Passed p n ∷ Chosen p n ∷ []

  -- the value of place `p`, if it has a wire of its own
  abbrev pub definer_keys : ℕ → Option ℕ → Option Definer → List Key
  definer_keys p call None = when (not (is_free t call)) (Place p)
  definer_keys p call (Some (Input n)) = Place p ∷ []
  definer_keys p call (Some (Plain b j)) = when (not (is_free t call || is_guarded f t j)) (Place p)
  definer_keys p call (Some (Der b j arms)) = Place p ∷ Between p ∷ Motion p ∷ each (arm_keys p) 0 arms
  definer_keys p call (Some (Start b j)) = []

  -- `last` of it
  abbrev pub last_keys : ℕ → PlaceInfo → List Key
  last_keys p place = keys_if (has_last t p place) where
    keys_if : Bool → List Key
    keys_if true = Last p ∷ when (is_computed f (start_of place.definers)) (Remembered p)
    keys_if false = []

  abbrev pub place_keys : ℕ → PlaceInfo → List Key
  place_keys p place = definer_keys p place.call (definer_of place.definers) ++ last_keys p place

  -- all wires
  abbrev pub keys : List Key
  keys = Step ∷ Fresh ∷ No ∷ Zero ∷ each occ_keys 0 f.occs ++ each place_keys 0 f.places ++ joints Again 0 f.again

  -- the memories of a place; those that move stand in the order of places
  abbrev pub motion_memories : ℕ → Option Definer → List Kept
  motion_memories p (Some (Der b j arms)) = Moving p ∷ Derivative p ∷ []
  motion_memories p definer = []

  abbrev pub place_memories : ℕ → PlaceInfo → List Kept
  place_memories p place = when (has_last t p place) (Before p) ++ motion_memories p (definer_of place.definers)

  abbrev pub form_memories : ℕ → Form → List Kept
  form_memories j (Pre x) = OfPre j ∷ []
  form_memories j form = []

  abbrev pub occ_memories : ℕ → Occ → List Kept
  occ_memories j occ = form_memories j occ.form

  -- all memories
  abbrev pub memories : List Kept
  memories = First ∷ each place_memories 0 f.places ++ each occ_memories 0 f.occs
