-- Which numbers the wires of a form have.
use Rattle.std.specs.Prelude.{◌≡◌, ℕ, Bool, true, false, ◌||◌, if◌then◌else◌, List, [], ◌∷◌, slice_get, get_or, Option, Some, None}
use Rattle.zl_value.specs.Lists.{Has}
use Rattle.zl_value.specs.declared.value.Ty.TheVariants.{Float}
use Rattle.zl_value.specs.declared.value.Value.{Value as AValue}
use Rattle.zl_value.specs.declared.op.Op.{Op}
use Rattle.zl_value.specs.declared.op.Op.TheVariants.{AddFloat, SubFloat}
use Rattle.zl_meaning.specs.FlatForm.{FlatForm, HasForm, call_of, place_call}
use Rattle.zl_meaning.specs.declared.place.Definer.{Definer}
use Rattle.zl_meaning.specs.declared.place.Definer.TheVariants.{Input, Plain, Der, Start}
use Rattle.zl_meaning.specs.declared.place.PlaceInfo.{PlaceInfo}
use Rattle.zl_meaning.specs.declared.occurrence.Form.{Form}
use Rattle.zl_meaning.specs.declared.occurrence.Form.TheVariants.{Lit, Read, Last as LastOf, Op as Apply, If, Arrow, Pre, Result, Up, Fired, Step as AtSteps}
use Rattle.zl_meaning.specs.declared.occurrence.Occ.{Occ}
use Rattle.zl_normal.specs.Wiring.{call_guard}
use Rattle.zl_normal.specs.PlaceWires.{definer_of}
use Rattle.zl_normal.specs.Tables.{Tables, is_guarded, is_free, is_still, is_blank_occ, moves, has_made_slope, has_own_slope}
use Rattle.zl_normal.specs.Keys.{keys, memories}
use Rattle.zl_normal.specs.KernelOf.{Numbers}
use Rattle.zl_normal.specs.declared.role.Role.{Role}
use Rattle.zl_normal.specs.declared.role.Role.TheVariants.{Unused, Part, Branch, Both, Definer as OfDefiner, Slope as OfSlope, Event as OfEvent, Start as OfStart, Reset as OfReset, Argument, Again as OfAgain}
use Rattle.zl_normal.specs.declared.key.Key.{Key}
use Rattle.zl_normal.specs.declared.key.Key.TheVariants.{Step, Fresh, No, Zero, Value, Rest, Guard, Place, Taken, Last, Slope, Motion}
use Rattle.zl_normal.specs.declared.key.Kept.{Kept}
use Rattle.zl_normal.specs.declared.key.Kept.TheVariants.{First}

-- each of the list has its place in it as its number
abbrev pub AreNumbered : {X : Type 0} → List X → (X → ℕ) → Type 0
AreNumbered xs number = (n : ℕ) (x : _) → slice_get xs n ≡ Some x → number x ≡ n

-- the first literal that is equal to literal number `j`
pub record IsFirst (f : FlatForm) (t : Tables) (j : ℕ) (v : AValue) : Type 0 where
  pub literal : HasForm f (get_or t.firsts j 0) (Lit v)
  pub itself : get_or t.firsts (get_or t.firsts j 0) 0 ≡ get_or t.firsts j 0

module _ (f : FlatForm) (grades : List ℕ) (t : Tables) (n : Numbers) where
  -- the wire of an occurrence of this form: its own, or that of what it names
  abbrev pub IsValueAt : ℕ → Form → Type 0
  IsValueAt j (Lit v) = n.wiring.w j ≡ n.wire (Value (get_or t.firsts j 0))
  IsValueAt j (Read p) = n.wiring.w j ≡ n.wiring.P p
  IsValueAt j (LastOf p) = n.wiring.w j ≡ n.wiring.L p
  IsValueAt j (Result x) = n.wiring.w j ≡ n.wiring.w x
  IsValueAt j (Fired []) = n.wiring.w j ≡ n.wire No
  IsValueAt j (Fired (u ∷ [])) = n.wiring.w j ≡ n.wiring.w u
  IsValueAt j (Fired (u ∷ v ∷ us)) = n.wiring.w j ≡ n.wire (Rest j 0)
  IsValueAt j AtSteps = n.wiring.w j ≡ n.wiring.step
  IsValueAt j form = n.wiring.w j ≡ n.wire (Value j)

  -- the guard of an occurrence that is used so
  abbrev pub IsGuardAt : ℕ → Role → Type 0
  IsGuardAt j Unused = n.wiring.G j ≡ call_guard n.wiring (call_of f j)
  IsGuardAt j (Part whole) = n.wiring.G j ≡ n.wiring.G whole
  IsGuardAt j (Branch whole c true) = n.wiring.G j ≡ Some (if get_or t.free whole false || is_guarded f t c then n.wiring.w c else n.wire (Guard j))
  IsGuardAt j (Branch whole c false) = n.wiring.G j ≡ Some (n.wire (Guard j))
  IsGuardAt j (Both whole c) = n.wiring.G j ≡ Some (n.wire (Guard j))
  IsGuardAt j (OfDefiner p) = n.wiring.G j ≡ call_guard n.wiring (place_call f p)
  IsGuardAt j (OfSlope p) = n.wiring.G j ≡ call_guard n.wiring (place_call f p)
  IsGuardAt j (OfEvent p) = n.wiring.G j ≡ call_guard n.wiring (place_call f p)
  IsGuardAt j (OfStart p) = n.wiring.G j ≡ Some (if is_free t (place_call f p) then n.wiring.fresh else n.wire (Guard j))
  IsGuardAt j (OfReset p arm) = n.wiring.G j ≡ Some (if is_free t (place_call f p) then n.wire (Taken p arm) else n.wire (Guard j))
  IsGuardAt j Argument = n.wiring.G j ≡ None
  IsGuardAt j OfAgain = n.wiring.G j ≡ None

  -- the wire of a place with this definer
  abbrev pub IsPlaceAt : ℕ → Option ℕ → Option Definer → Type 0
  IsPlaceAt p call None = n.wiring.P p ≡ (if is_free t call then n.wiring.L p else n.wire (Place p))
  IsPlaceAt p call (Some (Plain b j)) = n.wiring.P p ≡ (if is_free t call || is_guarded f t j then n.wiring.w j else n.wire (Place p))
  IsPlaceAt p call (Some definer) = n.wiring.P p ≡ n.wire (Place p)

  -- the slope of an operator that isn't made
  abbrev pub taken_slope : Op → List ℕ → ℕ
  taken_slope AddFloat (a ∷ b ∷ []) = if is_still grades b then n.wiring.S a else n.wiring.S b
  taken_slope SubFloat (a ∷ b ∷ []) = n.wiring.S a
  taken_slope op ks = n.wire Zero

  -- the slope of an occurrence of this form, which may move
  abbrev pub IsSlopeAt : ℕ → Form → Type 0
  IsSlopeAt j (Read p) = n.wiring.S j ≡ n.wiring.D p
  IsSlopeAt j (Apply op ks) = n.wiring.S j ≡ (if has_made_slope grades op ks then n.wire (Slope j) else taken_slope op ks)
  IsSlopeAt j (If c x y) = n.wiring.S j ≡ (if is_blank_occ f (slice_get f.occs y) then n.wiring.S x else n.wire (Slope j))
  IsSlopeAt j (Arrow x y) = n.wiring.S j ≡ n.wiring.S y
  IsSlopeAt j (Result x) = n.wiring.S j ≡ n.wiring.S x
  IsSlopeAt j form = n.wiring.S j ≡ n.wire Zero

  -- the slope of a place with this definer
  abbrev pub IsMotionAt : ℕ → Option Definer → Type 0
  IsMotionAt p (Some (Plain b j)) = n.wiring.D p ≡ n.wiring.S j
  IsMotionAt p (Some (Der b j arms)) = n.wiring.D p ≡ n.wire (Motion p)
  IsMotionAt p definer = n.wiring.D p ≡ n.wire Zero

  -- the wires of occurrences and places have the numbers of what they stand for
  pub record IsWired : Type 0 where
    pub values : (j : ℕ) (occ : Occ) → slice_get f.occs j ≡ Some occ → IsValueAt j occ.form
    pub guards : (j : ℕ) (role : Role) → slice_get t.roles j ≡ Some role → IsGuardAt j role
    pub places : (p : ℕ) (place : PlaceInfo) → slice_get f.places p ≡ Some place → IsPlaceAt p place.call (definer_of place.definers)
    pub lasts : (p : ℕ) → n.wiring.L p ≡ n.wire (Last p)
    pub slopes : (j : ℕ) (occ : Occ) → slice_get f.occs j ≡ Some occ → moves grades j occ ≡ true → IsSlopeAt j occ.form
    pub stills : (j : ℕ) (occ : Occ) → slice_get f.occs j ≡ Some occ → moves grades j occ ≡ false → n.wiring.S j ≡ n.wire Zero
    pub motions : (p : ℕ) (place : PlaceInfo) → slice_get f.places p ≡ Some place → place.ty ≡ Float → IsMotionAt p (definer_of place.definers)
    pub step : n.wiring.step ≡ n.wire Step
    pub fresh : n.wiring.fresh ≡ n.wire Fresh
    pub zero : n.wiring.zero ≡ n.wire Zero
    pub first : n.wiring.first ≡ n.memory First

  -- what the tables say is so
  pub record AreTables : Type 0 where
    pub firsts : (j : ℕ) (v : AValue) → HasForm f j (Lit v) → IsFirst f t j v
    pub free : (j : ℕ) → get_or t.free j false ≡ true → n.wiring.G j ≡ None
    pub lasts : (j p : ℕ) → HasForm f j (LastOf p) → get_or t.lasts p false ≡ true

  -- the numbers are those of a layout of the form's wires
  pub record IsLayout : Type 0 where
    pub tables : AreTables
    pub wires : AreNumbered (keys f grades t) n.wire
    pub memories : AreNumbered (memories f grades t) n.memory
    pub wired : IsWired
