-- The wires of slopes. They are solved in flows alone.
use Rattle.std.specs.Prelude.{◌≡◌, ℕ, suc, ◌+◌, ◌≤◌, ◌⊎◌, true, List, [], ◌∷◌, length, map, slice_get, get_or, Option, Some, None}
use Rattle.zl_value.specs.declared.op.Op.{Op}
use Rattle.zl_value.specs.declared.op.Op.TheVariants.{AddFloat, SubFloat, MulFloat, DivFloat, NegFloat, EqFloat}
use Rattle.zl_meaning.specs.FlatForm.{FlatForm}
use Rattle.zl_meaning.specs.declared.place.Definer.{Definer}
use Rattle.zl_meaning.specs.declared.place.Definer.TheVariants.{Input, Plain, Der, Start}
use Rattle.zl_meaning.specs.declared.place.DerArm.{DerArm}
use Rattle.zl_meaning.specs.declared.place.PlaceInfo.{PlaceInfo}
use Rattle.zl_meaning.specs.declared.occurrence.Form.{Form}
use Rattle.zl_meaning.specs.declared.occurrence.Form.TheVariants.{Lit, Read, Last, Op as Apply, If, Arrow, Pre, Result, Up, Fired, Step as AtSteps}
use Rattle.zl_meaning.specs.declared.occurrence.Occ.{Occ}
use Rattle.zl_kernel.specs.KernelForm.{KernelForm}
use Rattle.zl_kernel.specs.FlowWires.{is_of_flows}
use Rattle.zl_kernel.specs.declared.wire.Def.TheVariants.{Op as OpWire, If as IfWire}
use Rattle.zl_kernel.specs.declared.memory.KMem.{KMem}
use Rattle.zl_normal.specs.Wiring.{Wiring}
use Rattle.zl_normal.specs.KernelParts.{IsWire, IsFlowWire}
use Rattle.zl_normal.specs.FormWires.{IsBlankName}
use Rattle.zl_normal.specs.PlaceWires.{definer_of}

module _ (f : FlatForm) (grades : List ℕ) (k : KernelForm) (N : Wiring) where
  -- an occurrence that has a grade of 0 or 1; one that has none because a pass appended it
  abbrev pub Moves : ℕ → Type 0
  Moves j = get_or grades j 3 ≤ 1

  abbrev pub IsAppended : ℕ → Type 0
  IsAppended j = length grades ≤ j

  -- the slope of occurrence `j` is a wire of its own, one of flows alone, with its fault behind all values
  pub record IsMade (j : ℕ) (occ : Occ) (op : Op) (ns : List ℕ) (guard : Option ℕ) : Type 0 where
    pub wire : IsFlowWire k (N.S j) (OpWire op ns) guard
    pub ord : wire.wire.ord ≡ length f.occs + j
    pub at : wire.wire.at ≡ occ.at
    pub alone : is_of_flows k (N.S j) ≡ true

  -- a wire that is true where occurrence `j` has a number
  pub record IsPresence (j n : ℕ) : Type 0 where
    pub wire : IsFlowWire k n (OpWire EqFloat (N.w j ∷ N.w j ∷ [])) None
    pub alone : is_of_flows k n ≡ true

  -- a slope that can fault is solved where its occurrence has a number
  pub record IsTested (j : ℕ) (occ : Occ) (op : Op) (ns : List ℕ) : Type 0 where
    pub presence : ℕ
    pub present : IsPresence j presence
    pub made : IsMade j occ op ns (Some presence)

  -- the slope of an operator, made from those of its operands. The factor that stands still, as an old occurrence of grade 0
  -- does, is a factor of the slope; a divisor stands still
  pub data IsSlopeMade (j : ℕ) (occ : Occ) : Op → List ℕ → Type 0 where
    Negated : (a : ℕ) → IsTested j occ NegFloat (N.S a ∷ []) → IsSlopeMade j occ NegFloat (a ∷ [])
    Sum : (a b : ℕ) → IsTested j occ AddFloat (N.S a ∷ N.S b ∷ []) → IsSlopeMade j occ AddFloat (a ∷ b ∷ [])
    Difference : (a b : ℕ) → IsTested j occ SubFloat (N.S a ∷ N.S b ∷ []) → IsSlopeMade j occ SubFloat (a ∷ b ∷ [])
    RightOfDifference : (a b : ℕ) → N.S a ≡ N.zero → IsTested j occ NegFloat (N.S b ∷ []) → IsSlopeMade j occ SubFloat (a ∷ b ∷ [])
    StillLeft : (a b : ℕ) → get_or grades a 3 ≡ 0 → IsTested j occ MulFloat (N.w a ∷ N.S b ∷ []) → IsSlopeMade j occ MulFloat (a ∷ b ∷ [])
    StillRight : (a b : ℕ) → get_or grades b 3 ≡ 0 → IsTested j occ MulFloat (N.S a ∷ N.w b ∷ []) → IsSlopeMade j occ MulFloat (a ∷ b ∷ [])
    Quotient : (a b : ℕ) → IsTested j occ DivFloat (N.S a ∷ N.w b ∷ []) → IsSlopeMade j occ DivFloat (a ∷ b ∷ [])

  -- it is made so, or is that of one operand, where the other's is zero
  pub data IsOperatorSlope (j : ℕ) (occ : Occ) : Op → List ℕ → Type 0 where
    LeftOfSum : (a b : ℕ) → N.S b ≡ N.zero → N.S j ≡ N.S a → IsOperatorSlope j occ AddFloat (a ∷ b ∷ [])
    RightOfSum : (a b : ℕ) → N.S a ≡ N.zero → N.S j ≡ N.S b → IsOperatorSlope j occ AddFloat (a ∷ b ∷ [])
    LeftOfDifference : (a b : ℕ) → N.S b ≡ N.zero → N.S j ≡ N.S a → IsOperatorSlope j occ SubFloat (a ∷ b ∷ [])
    Itself : (op : Op) (ks : List ℕ) → IsSlopeMade j occ op ks → IsOperatorSlope j occ op ks

  -- the slope of an `if`
  pub data IsChosenSlope (j c x y : ℕ) : Type 0 where
    One : N.S x ≡ N.S y → N.S j ≡ N.S x → IsChosenSlope j c x y
    Kept : IsBlankName f y → N.S j ≡ N.S x → IsChosenSlope j c x y
    Either : IsFlowWire k (N.S j) (IfWire (N.w c) (N.S x) (N.S y)) None → is_of_flows k (N.S j) ≡ true → IsChosenSlope j c x y

  -- the slope of occurrence `j`, which has not grade 0
  abbrev pub IsFormSlope : ℕ → Occ → Form → Type 0
  IsFormSlope j occ (Lit v) = N.S j ≡ N.zero
  IsFormSlope j occ (Read p) = N.S j ≡ N.D p
  IsFormSlope j occ (Last p) = N.S j ≡ N.zero
  IsFormSlope j occ (Apply op ks) = IsOperatorSlope j occ op ks
  IsFormSlope j occ (If c x y) = IsChosenSlope j c x y
  IsFormSlope j occ (Arrow x y) = N.S j ≡ N.S y
  IsFormSlope j occ (Pre x) = N.S j ≡ N.zero
  IsFormSlope j occ (Result x) = N.S j ≡ N.S x
  IsFormSlope j occ (Up s) = Unit {0}
  IsFormSlope j occ (Fired ks) = Unit {0}
  IsFormSlope j occ AtSteps = Unit {0}

  -- where the grade is 0 there is none; else the form gives it
  abbrev pub IsSlope : ℕ → Occ → Type 0
  IsSlope j occ = ((get_or grades j 3 ≡ 0) × (N.S j ≡ N.zero)) ⊎ IsFormSlope j occ occ.form

  -- the slope of a place; that of one with a `der` is said by `IsDer`
  abbrev pub IsPlaceSlope : ℕ → Option Definer → Type 0
  IsPlaceSlope p None = N.D p ≡ N.zero
  IsPlaceSlope p (Some (Input n)) = N.D p ≡ N.zero
  IsPlaceSlope p (Some (Plain b j)) = N.D p ≡ N.S j
  IsPlaceSlope p (Some (Der b j arms)) = Unit {0}
  IsPlaceSlope p (Some (Start b j)) = ⊥

  -- wire number `n` is the slope of an operator that has a grade and whose value isn't known before, made from those of its
  -- operands
  pub record IsOwnSlope (n : ℕ) : Type 0 where
    pub j : ℕ
    pub occ : Occ
    pub op : Op
    pub ks : List ℕ
    pub is : slice_get f.occs j ≡ Some occ
    pub form : occ.form ≡ Apply op ks
    pub graded : Moves j
    pub value : IsWire k (N.w j) (OpWire op (map N.w ks)) (N.G j)
    pub made : IsSlopeMade j occ op ks
    pub same : N.S j ≡ n

  -- the memories that move are those of the places with a `der`, in their order; the first place has the number `p`
  pub data AreMotions : List KMem → ℕ → List PlaceInfo → Type 0 where
    Done : (p : ℕ) → AreMotions [] p []
    StillMemory : (mem : KMem) (mems : List KMem) (p : ℕ) (places : List PlaceInfo) → mem.slope ≡ None → AreMotions mems p places → AreMotions (mem ∷ mems) p places
    StillPlace : (mems : List KMem) (p : ℕ) (place : PlaceInfo) (places : List PlaceInfo) → ((b a : ℕ) (arms : List DerArm) → definer_of place.definers ≡ Some (Der b a arms) → ⊥) → AreMotions mems (suc p) places → AreMotions mems p (place ∷ places)
    Moving : (mem : KMem) (mems : List KMem) (p : ℕ) (place : PlaceInfo) (places : List PlaceInfo) (b a : ℕ) (arms : List DerArm) → definer_of place.definers ≡ Some (Der b a arms) → mem.next ≡ N.P p → mem.slope ≡ Some (N.D p) → mem.at ≡ place.at → AreMotions mems (suc p) places → AreMotions (mem ∷ mems) p (place ∷ places)
