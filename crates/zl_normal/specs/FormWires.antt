-- The wires of occurrences, by their forms.
use Rattle.std.specs.Prelude.{◌≡◌, ℕ, true, false, List, [], ◌∷◌, map, slice_get, Option, Some, None}
use Rattle.std.specs.List.{AllByRecursion}
use Rattle.zl_value.specs.Operators.{Gives, operate}
use Rattle.zl_value.specs.declared.value.Value.{Value}
use Rattle.zl_value.specs.declared.value.Value.TheVariants.{B}
use Rattle.zl_value.specs.declared.op.Op.{Op}
use Rattle.zl_meaning.specs.FlatForm.{FlatForm}
use Rattle.zl_meaning.specs.declared.place.PlaceInfo.{PlaceInfo}
use Rattle.zl_meaning.specs.declared.occurrence.Form.{Form}
use Rattle.zl_meaning.specs.declared.occurrence.Form.TheVariants.{Lit, Read, Last, Op as Apply, If, Arrow, Pre, Result, Up, Fired, Step as AtSteps}
use Rattle.zl_meaning.specs.declared.occurrence.Occ.{Occ}
use Rattle.zl_kernel.specs.KernelForm.{KernelForm}
use Rattle.zl_kernel.specs.declared.wire.Def.TheVariants.{Mem, Event, Op as OpWire, If as IfWire}
use Rattle.zl_normal.specs.Wiring.{Wiring}
use Rattle.zl_normal.specs.KernelParts.{IsWire, IsLit, IsMemory}
use Rattle.zl_normal.specs.Guards.{IsUnder, IsBut, IsEither, IsGuarded, IsAny}

-- there is such an occurrence, such a call, such a place
abbrev pub IsOcc : FlatForm → ℕ → Type 0
IsOcc f k = (occ : Occ) × (slice_get f.occs k ≡ Some occ)

abbrev pub IsCall : FlatForm → Option ℕ → Type 0
IsCall f None = Unit {0}
IsCall f (Some call) = IsOcc f call

abbrev pub IsPlaceOf : FlatForm → ℕ → Type 0
IsPlaceOf f p = (place : PlaceInfo) × (slice_get f.places p ≡ Some place)

-- a name of a place that is never defined
pub record IsBlankName (f : FlatForm) (y : ℕ) : Type 0 where
  pub occ : Occ
  pub p : ℕ
  pub place : PlaceInfo
  pub is : slice_get f.occs y ≡ Some occ
  pub form : occ.form ≡ Read p
  pub place_is : slice_get f.places p ≡ Some place
  pub definers : place.definers ≡ []

-- occurrence number `u` is the crossing of a site
abbrev pub IsUp : FlatForm → ℕ → Type 0
IsUp f u = (site : ℕ) × (occ : Occ) × (slice_get f.occs u ≡ Some occ) × (occ.form ≡ Up site)

module _ (f : FlatForm) (k : KernelForm) (N : Wiring) where
  -- a part that is evaluated where its whole is; parts that are
  pub record IsPart (whole j : ℕ) : Type 0 where
    pub there : IsOcc f j
    pub guard : N.G j ≡ N.G whole

  abbrev pub AreParts : ℕ → List ℕ → Type 0
  AreParts whole js = AllByRecursion (IsPart whole) js

  -- the wires of these occurrences are literals with these values
  abbrev pub AreLits : List ℕ → List Value → Type 0
  AreLits [] [] = Unit {0}
  AreLits (j ∷ js) (v ∷ vs) = IsLit k (N.w j) v × AreLits js vs
  AreLits _ _ = ⊥

  -- an operator: a wire that has its fault at the occurrence's turn, or its result where that is known
  pub data IsApplied (j : ℕ) (occ : Occ) (op : Op) (ks : List ℕ) : Type 0 where
    Made : (is : IsWire k (N.w j) (OpWire op (map N.w ks)) (N.G j)) → is.wire.ord ≡ j → is.wire.at ≡ occ.at → IsApplied j occ op ks
    Folded : (v : Value) (vs : List Value) → AreLits ks vs → operate op vs ≡ Gives v → IsLit k (N.w j) v → IsApplied j occ op ks

  -- the guards of the branches of an `if`: each is true where its side is taken; or both are one occurrence, whose guard is true
  -- where the test has a value
  pub data AreBranches (j c x y : ℕ) : Type 0 where
    Apart : IsUnder k (N.G j) (N.w c) (N.G x) → IsBut k (N.G j) (N.w c) (N.G y) → AreBranches j c x y
    Either : x ≡ y → IsEither k (N.G j) (N.w c) (N.G x) → AreBranches j c x y

  -- an `if`: a wire, or the side that is known to be taken, or what is kept where the test is true
  pub data IsChosen (j c x y : ℕ) : Type 0 where
    Made : IsWire k (N.w j) (IfWire (N.w c) (N.w x) (N.w y)) (N.G j) → IsChosen j c x y
    Yes : IsLit k (N.w c) (B true) → N.w j ≡ N.w x → IsChosen j c x y
    No : IsLit k (N.w c) (B false) → N.w j ≡ N.w y → IsChosen j c x y
    Keeper : IsBlankName f y → IsGuarded k (N.w x) (Some (N.w c)) (N.w j) → IsChosen j c x y

  -- a memory without start of what occurrence `x` has where it is evaluated
  pub record IsPre (j x : ℕ) : Type 0 where
    pub memory : ℕ
    pub next : ℕ
    pub wire : IsWire k (N.w j) (Mem memory) None
    pub is : IsMemory k memory None next None
    pub holds : IsGuarded k (N.w x) (N.G x) next

  -- occurrence number `j`, of this form
  abbrev pub IsFormWire : ℕ → Occ → Form → Type 0
  IsFormWire j occ (Lit v) = IsLit k (N.w j) v
  IsFormWire j occ (Read p) = IsPlaceOf f p × (N.w j ≡ N.P p)
  IsFormWire j occ (Last p) = N.w j ≡ N.L p
  IsFormWire j occ (Apply op ks) = AreParts j ks × IsApplied j occ op ks
  IsFormWire j occ (If c x y) = IsPart j c × IsOcc f x × IsOcc f y × AreBranches j c x y × IsChosen j c x y
  IsFormWire j occ (Arrow x y) = IsPart j x × IsPart j y × IsWire k (N.w j) (IfWire N.fresh (N.w x) (N.w y)) (N.G j)
  IsFormWire j occ (Pre x) = IsOcc f x × IsPre j x
  IsFormWire j occ (Result x) = IsPart j x × (N.w j ≡ N.w x)
  IsFormWire j occ (Up s) = IsWire k (N.w j) (Event s) None
  IsFormWire j occ (Fired ks) = AreParts j ks × AllByRecursion (IsUp f) ks × IsAny k (map N.w ks) (N.w j)
  IsFormWire j occ AtSteps = N.w j ≡ N.step
