-- What the parts of a walk keep of types where they stand in a flat form.
use Rattle.std.proofs.Common.{◌≡◌, ℕ, ◌<◌, length, List, [], ◌∷◌, slice_get, Some, ◌∙◌}
use Rattle.std.specs.List.{AllByRecursion}
use Rattle.zl_value.specs.Script.{IsOfType}
use Rattle.zl_value.specs.OperatorTypes.{type_of}
use Rattle.zl_value.specs.declared.value.Ty.{Ty}
use Rattle.zl_value.specs.declared.value.Ty.TheVariants.{Bool as BoolTy, Float, Zero}
use Rattle.zl_meaning.specs.FlatForm.{FlatForm}
use Rattle.zl_meaning.specs.WellFormed.{HasType}
use Rattle.zl_meaning.specs.declared.block.Block.{Block}
use Rattle.zl_meaning.specs.declared.block.BlockKind.{BlockKind}
use Rattle.zl_meaning.specs.declared.block.BlockKind.TheVariants.{Main, Arm, Guard, State, Reset}
use Rattle.zl_meaning.specs.declared.block.Choice.{Choice}
use Rattle.zl_meaning.specs.declared.block.Auto.{Auto}
use Rattle.zl_meaning.specs.declared.block.AutoMove.{AutoMove}
use Rattle.zl_meaning.specs.declared.place.Definer.{Definer}
use Rattle.zl_meaning.specs.declared.place.Definer.TheVariants.{Input, Plain, Der, Start}
use Rattle.zl_meaning.specs.declared.place.DerArm.{DerArm}
use Rattle.zl_meaning.specs.declared.place.PlaceInfo.{PlaceInfo}
use Rattle.zl_meaning.specs.declared.occurrence.Form.{Form}
use Rattle.zl_meaning.specs.declared.occurrence.Form.TheVariants.{Lit, Read, Last, Op as Apply, If, Arrow, Pre, Result, Up, Fired, Step}
use Rattle.zl_meaning.specs.declared.occurrence.Occ.{Occ}
use Rattle.zl_meaning.specs.declared.occurrence.SiteInfo.{SiteInfo}
use Rattle.zl_flat.specs.declared.here.Root.{Root}
use Rattle.zl_flat.specs.declared.given.Given.{Given}
use Rattle.zl_flat.specs.Parts.{Parts, Counters}
use Rattle.zl_flat.proofs.WellFormedParts.{Laws, Each}

-- ---- the words

-- occurrence number `k` has this type
pub record OfType (f : FlatForm) (ty : Ty) (k : ℕ) : Type 0 where
  pub occ : Occ
  pub is : slice_get f.occs k ≡ Some occ
  pub typed : occ.ty ≡ ty

-- these occurrences have these types
abbrev pub AllOfType : FlatForm → List Ty → List ℕ → Type 0
AllOfType f [] [] = Unit {0}
AllOfType f (ty ∷ tys) (k ∷ ks) = OfType f ty k × AllOfType f tys ks
AllOfType f _ _ = ⊥

-- what an occurrence of this form and type names has types that agree with it
abbrev pub FormTyped : FlatForm → Ty → Form → Type 0
FormTyped f ty (Lit v) = IsOfType ty v
FormTyped f ty (Read p) = HasType f ty p
FormTyped f ty (Last p) = HasType f ty p
FormTyped f ty (Apply op ks) = AllOfType f (type_of op).operands ks × ((type_of op).result ≡ ty)
FormTyped f ty (If c x y) = OfType f BoolTy c × OfType f ty x × OfType f ty y
FormTyped f ty (Arrow x y) = OfType f ty x × OfType f ty y
FormTyped f ty (Pre x) = OfType f ty x
FormTyped f ty (Result x) = OfType f ty x
FormTyped f ty (Up s) = ty ≡ Zero
FormTyped f ty (Fired ks) = AllByRecursion (OfType f Zero) ks × (ty ≡ BoolTy)
FormTyped f ty Step = ty ≡ BoolTy

pub record OccurrenceTyped (f : FlatForm) (occ : Occ) : Type 0 where
  pub form : FormTyped f occ.ty occ.form
  pub crossing : occ.ty ≡ Zero → (s : ℕ) × (occ.form ≡ Up s)

abbrev pub ArmTyped : FlatForm → DerArm → Type 0
ArmTyped f arm = OfType f BoolTy arm.event × OfType f Float arm.value

-- a definer of a place of this type
abbrev pub DefinerTyped : FlatForm → Ty → Definer → Type 0
DefinerTyped f ty (Input n) = Unit {0}
DefinerTyped f ty (Plain b k) = OfType f ty k
DefinerTyped f ty (Der b slope resets) = (ty ≡ Float) × OfType f Float slope × AllByRecursion (ArmTyped f) resets
DefinerTyped f ty (Start b k) = OfType f ty k

-- a definer has the type of the place that it is given to
pub record GivenTyped (f : FlatForm) (g : Given) : Type 0 where
  pub ty : Ty
  pub place : HasType f ty g.place
  pub definer : DefinerTyped f ty g.definer

-- the test of a reset is bool
abbrev pub BlockTyped : FlatForm → BlockKind → Type 0
BlockTyped f Main = Unit {0}
BlockTyped f (Arm of arm) = Unit {0}
BlockTyped f (Guard of state) = Unit {0}
BlockTyped f (State of state) = Unit {0}
BlockTyped f (Reset cond) = OfType f BoolTy cond

abbrev pub MoveTyped : FlatForm → AutoMove → Type 0
MoveTyped f move = OfType f BoolTy move.cond

abbrev pub StateTyped : FlatForm → List AutoMove → Type 0
StateTyped f moves = AllByRecursion (MoveTyped f) moves

-- an automaton has a state, and its tests are bool
pub record AutomatonTyped (f : FlatForm) (auto : Auto) : Type 0 where
  pub some : 0 < length auto.states
  pub states : AllByRecursion (StateTyped f) auto.states

-- ---- parts

-- a part keeps what a flat form keeps of types
abbrev pub typing : FlatForm → Laws
typing f = record {
  blocks = λ n (x : Block). BlockTyped f x.kind;
  places = λ n (x : PlaceInfo). x.ty ≡ Zero → ⊥;
  definers = λ n (x : Given). GivenTyped f x;
  occs = λ n (x : Occ). OccurrenceTyped f x;
  hidden = λ n (x : Occ). OccurrenceTyped f x;
  sites = λ n (x : SiteInfo). OfType f Float x.arg;
  choices = λ n (x : Choice). AllByRecursion (OfType f BoolTy) x.conds;
  automata = λ n (x : Auto). AutomatonTyped f x;
}

abbrev pub KeepsTypes : FlatForm → Counters → Parts → Type 0
KeepsTypes f s p = Each (typing f) s p

-- ---- roots

-- what a walk gives has this type, and so has the occurrence that it is
pub record RootTyped (f : FlatForm) (ty : Ty) (r : Root) : Type 0 where
  pub occ : OfType f ty r.occ
  pub typed : r.ty ≡ ty

-- one by one
abbrev pub RootsTyped : FlatForm → List Ty → List Root → Type 0
RootsTyped f [] [] = Unit {0}
RootsTyped f (ty ∷ tys) (r ∷ rs) = RootTyped f ty r × RootsTyped f tys rs
RootsTyped f _ _ = ⊥

-- as far as both lists go
abbrev pub ArgumentsTyped : FlatForm → List Ty → List Root → Type 0
ArgumentsTyped f (ty ∷ tys) (r ∷ rs) = RootTyped f ty r × ArgumentsTyped f tys rs
ArgumentsTyped f _ _ = Unit {0}

pub at-type : (f : FlatForm) (ty to : Ty) (k : ℕ) → ty ≡ to → OfType f ty k → OfType f to k
at-type f ty to k e h = record { occ = h.occ; is = h.is; typed = h.typed ∙ e }

-- at a type equal to its own
pub root-at-type : (f : FlatForm) (ty to : Ty) (r : Root) → ty ≡ to → RootTyped f ty r → RootTyped f to r
root-at-type f ty to r e h = record { occ = at-type f ty to r.occ e h.occ; typed = h.typed ∙ e }
