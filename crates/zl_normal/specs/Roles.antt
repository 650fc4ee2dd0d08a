-- What each occurrence is for, in a form that has the main block alone and is single.
use Rattle.std.specs.Prelude.{◌≡◌, ℕ, true, false, List, [], ◌∷◌, length, slice_get, Some}
use Rattle.zl_value.specs.Lists.{Has}
use Rattle.zl_meaning.specs.FlatForm.{FlatForm, HasForm, HasDefiner, call_of, place_call}
use Rattle.zl_meaning.specs.Uses.{PartOf, BranchOf, DefinerOf, SlopeOf, EventOf, StartOf, ResetOf, ArgumentOf, AgainOf, IsUnused, events_of, uses_of}
use Rattle.zl_meaning.specs.declared.place.Definer.TheVariants.{Plain, Der, Start as Init}
use Rattle.zl_meaning.specs.declared.place.DerArm.{DerArm}
use Rattle.zl_meaning.specs.declared.occurrence.Form.TheVariants.{Result}
use Rattle.zl_normal.specs.declared.role.Role.{Role}
use Rattle.zl_normal.specs.declared.role.Role.TheVariants.{Unused, Part, Branch, Both, Definer, Slope, Event, Start, Reset, Argument, Again}

module _ (f : FlatForm) (j : ℕ) where
  -- a part and nothing else; or the result of a call that a definer names too, where nothing uses the call
  pub data IsPartAlone (whole : ℕ) : Type 0 where
    Alone : uses_of f j ≡ PartOf whole ∷ [] → IsPartAlone whole
    OfCall : uses_of f j ≡ PartOf whole ∷ DefinerOf (call_of f whole) ∷ [] → HasForm f whole (Result j) → IsUnused f whole → IsPartAlone whole

  -- place `p` is defined by it
  pub record IsDefinition (p : ℕ) : Type 0 where
    pub block : ℕ
    pub has : HasDefiner f p (Plain block j)
    pub uses : uses_of f j ≡ DefinerOf (place_call f p) ∷ []

  -- it is the slope of place `p`
  pub record IsSlope (p : ℕ) : Type 0 where
    pub block : ℕ
    pub resets : List DerArm
    pub has : HasDefiner f p (Der block j resets)
    pub uses : uses_of f j ≡ SlopeOf (place_call f p) ∷ []

  -- it is the event of a reset of place `p`
  pub record IsEvent (p : ℕ) : Type 0 where
    pub block : ℕ
    pub slope : ℕ
    pub resets : List DerArm
    pub arm : DerArm
    pub has : HasDefiner f p (Der block slope resets)
    pub one : Has resets arm
    pub event : arm.event ≡ j
    pub uses : uses_of f j ≡ EventOf (place_call f p) ∷ []

  -- it is the `init` value of place `p`
  pub record IsInit (p : ℕ) : Type 0 where
    pub has : HasDefiner f p (Init 0 j)
    pub uses : uses_of f j ≡ StartOf (place_call f p) 0 ∷ []

  -- it is the value of reset number `n` of place `p`
  pub record IsResetValue (p n : ℕ) : Type 0 where
    pub block : ℕ
    pub slope : ℕ
    pub resets : List DerArm
    pub arm : DerArm
    pub has : HasDefiner f p (Der block slope resets)
    pub is : slice_get resets n ≡ Some arm
    pub value : arm.value ≡ j
    pub uses : uses_of f j ≡ ResetOf (place_call f p) (events_of resets) n ∷ []

  -- occurrence number `j` is for this
  abbrev pub IsRole : Role → Type 0
  IsRole Unused = uses_of f j ≡ []
  IsRole (Part whole) = IsPartAlone whole
  IsRole (Branch whole condition side) = uses_of f j ≡ BranchOf whole condition side ∷ []
  IsRole (Both whole condition) = uses_of f j ≡ BranchOf whole condition true ∷ BranchOf whole condition false ∷ []
  IsRole (Definer p) = IsDefinition p
  IsRole (Slope p) = IsSlope p
  IsRole (Event p) = IsEvent p
  IsRole (Start p) = IsInit p
  IsRole (Reset p n) = IsResetValue p n
  IsRole Argument = uses_of f j ≡ ArgumentOf ∷ []
  IsRole Again = uses_of f j ≡ AgainOf ∷ []

-- the role of each occurrence, in order
pub record AreRoles (f : FlatForm) (roles : List Role) : Type 0 where
  pub size : length roles ≡ length f.occs
  pub each : (j : ℕ) (role : Role) → slice_get roles j ≡ Some role → IsRole f j role
