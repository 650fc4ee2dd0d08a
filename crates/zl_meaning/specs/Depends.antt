-- Which places and blocks depend on which, and what it means that a form is causal. The relation is this project's own.
use Rattle.std.specs.Prelude.{◌≡◌, ℕ, ◌<◌, Bool, true, List, [], ◌∷◌, length, slice_get, get_or, Option, Some}
use Rattle.zl_value.specs.Lists.{Has}
use Rattle.zl_meaning.specs.FlatForm.{FlatForm, HasForm, HasDefiner, kind_of, parent_of, place_call}
use Rattle.zl_meaning.specs.Uses.{BranchOf, ResetOf, parts}
use Rattle.zl_meaning.specs.Branches.{Under}
use Rattle.zl_meaning.specs.WellFormed.{named_in}
use Rattle.zl_meaning.specs.declared.block.BlockKind.TheVariants.{Arm, State as Body, Reset}
use Rattle.zl_meaning.specs.declared.block.Choice.{Choice}
use Rattle.zl_meaning.specs.declared.block.Auto.{Auto}
use Rattle.zl_meaning.specs.declared.block.AutoMove.{AutoMove}
use Rattle.zl_meaning.specs.declared.place.Definer.{Definer}
use Rattle.zl_meaning.specs.declared.place.Definer.TheVariants.{Input, Plain, Der, Start}
use Rattle.zl_meaning.specs.declared.place.PlaceInfo.{PlaceInfo}
use Rattle.zl_meaning.specs.declared.occurrence.Form.{Form}
use Rattle.zl_meaning.specs.declared.occurrence.Form.TheVariants.{Read, Last, Pre}
use Rattle.zl_meaning.specs.declared.occurrence.Occ.{Occ}

-- a place or a block
pub data Thing : Type 0 where
  PlaceThing BlockThing : ℕ → Thing

-- the parts whose value an occurrence reads at its own instant
abbrev pub read_parts : Form → List ℕ
read_parts (Pre x) = []
read_parts form = parts form

-- what an occurrence reads: a name its place, and `last x` what the `init` values of x read, and their blocks; any other
-- what its parts read, but `pre` nothing
pub data OccReads (f : FlatForm) : ℕ → Thing → Type 0 where
  Name : (k p : ℕ) → HasForm f k (Read p) → OccReads f k (PlaceThing p)
  LastOf : (k p b j : ℕ) (thing : Thing) → HasForm f k (Last p) → HasDefiner f p (Start b j) → OccReads f j thing → OccReads f k thing
  LastBlock : (k p b j : ℕ) → HasForm f k (Last p) → HasDefiner f p (Start b j) → OccReads f k (BlockThing b)
  Part : (k j : ℕ) (form : Form) (thing : Thing) → HasForm f k form → Has (read_parts form) j → OccReads f j thing → OccReads f k thing

-- occurrence number `k` reads `last` of place number `p`
pub data ReadsLast (f : FlatForm) : ℕ → ℕ → Type 0 where
  Is : (k p : ℕ) → HasForm f k (Last p) → ReadsLast f k p
  InPart : (k j p : ℕ) (form : Form) → HasForm f k form → Has (read_parts form) j → ReadsLast f j p → ReadsLast f k p

-- the `init` values of place number `p` lead to place number `q` by `last`
pub data LeadsTo (f : FlatForm) : ℕ → ℕ → Type 0 where
  AtOnce : (p q b k : ℕ) → HasDefiner f p (Start b k) → ReadsLast f k q → LeadsTo f p q
  Further : (p q r b k : ℕ) → HasDefiner f p (Start b k) → ReadsLast f k q → LeadsTo f q r → LeadsTo f p r

-- the occurrences of a definer whose value a place reads at its own instant: a derivative isn't one
abbrev pub read_by : Definer → List ℕ
read_by (Input n) = []
read_by (Plain b k) = k ∷ []
read_by (Der b slope resets) = named_in resets
read_by (Start b k) = k ∷ []

-- the block of a definer
abbrev pub IsBlockOf : Definer → ℕ → Type 0
IsBlockOf (Input n) b = ⊥
IsBlockOf (Plain a k) b = a ≡ b
IsBlockOf (Der a slope resets) b = a ≡ b
IsBlockOf (Start a k) b = a ≡ b

-- `k` is an `unless` test of automaton number `of`
pub record IsStrongTest (f : FlatForm) (of k : ℕ) : Type 0 where
  pub auto : Auto
  pub is : slice_get f.automata of ≡ Some auto
  pub state : ℕ
  pub moves : List AutoMove
  pub in_state : slice_get auto.states state ≡ Some moves
  pub move : AutoMove
  pub among : Has moves move
  pub strong : move.strong ≡ true
  pub test : move.cond ≡ k

-- `k` is a test of choice number `of`
pub record IsChoiceTest (f : FlatForm) (of k : ℕ) : Type 0 where
  pub choice : Choice
  pub is : slice_get f.choices of ≡ Some choice
  pub test : Has choice.conds k

-- the first depends on the second in one step
pub data DependsAtOnce (f : FlatForm) : Thing → Thing → Type 0 where
  PlaceOnBlock : (p : ℕ) (place : PlaceInfo) → slice_get f.places p ≡ Some place → DependsAtOnce f (PlaceThing p) (BlockThing place.block)
  PlaceOnDefiner : (p b : ℕ) (definer : Definer) → HasDefiner f p definer → IsBlockOf definer b → DependsAtOnce f (PlaceThing p) (BlockThing b)
  PlaceOnValue : (p k : ℕ) (definer : Definer) (thing : Thing) → HasDefiner f p definer → Has (read_by definer) k → OccReads f k thing → DependsAtOnce f (PlaceThing p) thing
  PlaceOnCondition : (p call whole condition : ℕ) (side : Bool) (thing : Thing) → place_call f p ≡ Some call → Under f (BranchOf whole condition side) call → OccReads f condition thing → DependsAtOnce f (PlaceThing p) thing
  PlaceOnEvent : (p call event arm : ℕ) (of : Option ℕ) (events : List ℕ) (thing : Thing) → place_call f p ≡ Some call → Under f (ResetOf of events arm) call → Has events event → OccReads f event thing → DependsAtOnce f (PlaceThing p) thing
  PlaceOnItself : (p : ℕ) → LeadsTo f p p → DependsAtOnce f (PlaceThing p) (PlaceThing p)
  BlockOnParent : (b parent : ℕ) → parent_of f b ≡ Some parent → DependsAtOnce f (BlockThing b) (BlockThing parent)
  ArmOnTest : (b of arm k : ℕ) (thing : Thing) → kind_of f b ≡ Some (Arm of arm) → IsChoiceTest f of k → OccReads f k thing → DependsAtOnce f (BlockThing b) thing
  BodyOnTest : (b of state k : ℕ) (thing : Thing) → kind_of f b ≡ Some (Body of state) → IsStrongTest f of k → OccReads f k thing → DependsAtOnce f (BlockThing b) thing
  ResetOnTest : (b k : ℕ) (thing : Thing) → kind_of f b ≡ Some (Reset k) → OccReads f k thing → DependsAtOnce f (BlockThing b) thing

-- in one step or more
pub data Depends (f : FlatForm) : Thing → Thing → Type 0 where
  AtOnce : (a b : Thing) → DependsAtOnce f a b → Depends f a b
  By : (a b c : Thing) → DependsAtOnce f a b → Depends f b c → Depends f a c

-- nothing depends on itself
abbrev pub IsCausal : FlatForm → Type 0
IsCausal f = (thing : Thing) → Depends f thing thing → ⊥

-- the place that a program that isn't causal is refused at is the first of these: those that depend on themselves or,
-- where none does, those that depend on a block that does
abbrev pub IsInCircle : FlatForm → ℕ → Type 0
IsInCircle f p = Depends f (PlaceThing p) (PlaceThing p)

abbrev pub IsOnCircle : FlatForm → ℕ → Type 0
IsOnCircle f p = (b : ℕ) × Depends f (PlaceThing p) (BlockThing b) × Depends f (BlockThing b) (BlockThing b)

-- the rank of a place or a block
abbrev pub rank_in : List ℕ → List ℕ → Thing → ℕ
rank_in places blocks (PlaceThing p) = get_or places p 0
rank_in places blocks (BlockThing b) = get_or blocks b 0

-- ranks that grow along every dependency
pub record AreRanks (f : FlatForm) (of_places of_blocks : List ℕ) : Type 0 where
  pub places : length of_places ≡ length f.places
  pub blocks : length of_blocks ≡ length f.blocks
  pub grow : (a b : Thing) → DependsAtOnce f a b → rank_in of_places of_blocks b < rank_in of_places of_blocks a
