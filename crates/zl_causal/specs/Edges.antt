-- What the nodes of a form depend on in one step, by cases.
use Rattle.std.specs.Prelude.{◌≡◌, ℕ, List, Some, slice_get}
use Rattle.std.specs.List.{flat_map}
use Rattle.zl_value.specs.Lists.{Has}
use Rattle.zl_meaning.specs.FlatForm.{FlatForm, HasForm, HasDefiner, kind_of, parent_of, call_of, place_call}
use Rattle.zl_meaning.specs.Uses.{parts}
use Rattle.zl_meaning.specs.Depends.{IsBlockOf, IsChoiceTest, IsStrongTest, read_by, read_parts}
use Rattle.zl_meaning.specs.declared.block.BlockKind.TheVariants.{Arm, State, Reset}
use Rattle.zl_meaning.specs.declared.place.Definer.{Definer}
use Rattle.zl_meaning.specs.declared.place.Definer.TheVariants.{Der, Start as Init}
use Rattle.zl_meaning.specs.declared.place.DerArm.{DerArm}
use Rattle.zl_meaning.specs.declared.place.PlaceInfo.{PlaceInfo}
use Rattle.zl_meaning.specs.declared.occurrence.Form.{Form}
use Rattle.zl_meaning.specs.declared.occurrence.Form.TheVariants.{Read, Last, If}
use Rattle.zl_causal.specs.declared.node.Node.{Node}
use Rattle.zl_causal.specs.declared.node.Node.TheVariants.{Place, Block, Value, Used, Start, Lasts, Leads, Tests, Strong, Events}

-- the definers of all places, one after the other
abbrev pub all_definers : List PlaceInfo → List Definer
all_definers places = flat_map (λ (place : PlaceInfo). place.definers) places

-- definer number `d` of all is a `der` with these reset arms
abbrev pub IsDer : FlatForm → ℕ → List DerArm → Type 0
IsDer f d resets = (b : ℕ) × (slope : ℕ) × (slice_get (all_definers f.places) d ≡ Some (Der b slope resets))

pub data Edge (f : FlatForm) : Node → Node → Type 0 where
  Declared : (p : ℕ) (place : PlaceInfo) → slice_get f.places p ≡ Some place → Edge f (Place p) (Block place.block)
  InBlock : (p b : ℕ) (definer : Definer) → HasDefiner f p definer → IsBlockOf definer b → Edge f (Place p) (Block b)
  Named : (p k : ℕ) (definer : Definer) → HasDefiner f p definer → Has (read_by definer) k → Edge f (Place p) (Value k)
  Called : (p call : ℕ) → place_call f p ≡ Some call → Edge f (Place p) (Used call)
  StartBlock : (p b k : ℕ) → HasDefiner f p (Init b k) → Edge f (Start p) (Block b)
  StartValue : (p b k : ℕ) → HasDefiner f p (Init b k) → Edge f (Start p) (Value k)
  StartLeads : (p b k : ℕ) → HasDefiner f p (Init b k) → Edge f (Leads p) (Lasts k)
  ArmUsed : (d : ℕ) (resets : List DerArm) (arm : DerArm) → IsDer f d resets → Has resets arm → Edge f (Used arm.value) (Events d)
  ArmEvent : (d : ℕ) (resets : List DerArm) (arm : DerArm) → IsDer f d resets → Has resets arm → Edge f (Events d) (Value arm.event)
  Parent : (b parent : ℕ) → parent_of f b ≡ Some parent → Edge f (Block b) (Block parent)
  OfArm : (b of arm : ℕ) → kind_of f b ≡ Some (Arm of arm) → Edge f (Block b) (Tests of)
  OfBody : (b of state : ℕ) → kind_of f b ≡ Some (State of state) → Edge f (Block b) (Strong of)
  OfReset : (b k : ℕ) → kind_of f b ≡ Some (Reset k) → Edge f (Block b) (Value k)
  ChoiceTest : (of k : ℕ) → IsChoiceTest f of k → Edge f (Tests of) (Value k)
  StrongTest : (of k : ℕ) → IsStrongTest f of k → Edge f (Strong of) (Value k)
  Name : (k p : ℕ) → HasForm f k (Read p) → Edge f (Value k) (Place p)
  LastOf : (k p : ℕ) → HasForm f k (Last p) → Edge f (Value k) (Start p)
  LastLeads : (k p : ℕ) → HasForm f k (Last p) → Edge f (Lasts k) (Leads p)
  PartValue : (k j : ℕ) (form : Form) → HasForm f k form → Has (read_parts form) j → Edge f (Value k) (Value j)
  PartLasts : (k j : ℕ) (form : Form) → HasForm f k form → Has (read_parts form) j → Edge f (Lasts k) (Lasts j)
  PartUsed : (k j : ℕ) (form : Form) → HasForm f k form → Has (parts form) j → Edge f (Used j) (Used k)
  YesUsed : (k c x y : ℕ) → HasForm f k (If c x y) → Edge f (Used x) (Value c)
  NoUsed : (k c x y : ℕ) → HasForm f k (If c x y) → Edge f (Used y) (Value c)
  CallUsed : (k call : ℕ) → call_of f k ≡ Some call → Edge f (Used k) (Used call)

-- by edges, one or more
pub data Way (f : FlatForm) : Node → Node → Type 0 where
  One : (a b : Node) → Edge f a b → Way f a b
  More : (a b c : Node) → Edge f a b → Way f b c → Way f a c
