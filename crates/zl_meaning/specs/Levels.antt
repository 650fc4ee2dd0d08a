-- Levels of places, blocks, values and uses: what an equation reads at its own instant has a lower level. It is said step by
-- step, each step between things that the form names side by side. The record is this project's own.
use Rattle.std.specs.Prelude.{◌≡◌, ℕ, ◌<◌, Bool, List, slice_get, Option, Some}
use Rattle.zl_value.specs.Lists.{Has}
use Rattle.zl_meaning.specs.FlatForm.{FlatForm, HasForm, HasDefiner, kind_of, parent_of, call_of, place_call}
use Rattle.zl_meaning.specs.Uses.{BranchOf, ResetOf, IsUse}
use Rattle.zl_meaning.specs.Branches.{IsPart}
use Rattle.zl_meaning.specs.WellFormed.{IsWellFormed}
use Rattle.zl_meaning.specs.Depends.{AreRanks, Thing, PlaceThing, BlockThing, DependsAtOnce, IsBlockOf, IsChoiceTest, IsStrongTest, read_by, read_parts}
use Rattle.zl_meaning.specs.Reading.{HasNodeRanks}
use Rattle.zl_meaning.specs.declared.block.BlockKind.TheVariants.{Arm, State as Body, Reset}
use Rattle.zl_meaning.specs.declared.place.Definer.{Definer}
use Rattle.zl_meaning.specs.declared.place.Definer.TheVariants.{Start}
use Rattle.zl_meaning.specs.declared.place.PlaceInfo.{PlaceInfo}
use Rattle.zl_meaning.specs.declared.occurrence.Form.{Form}
use Rattle.zl_meaning.specs.declared.occurrence.Form.TheVariants.{Read, Last}
use Rattle.zl_meaning.specs.declared.occurrence.Occ.{Occ}

-- `place p`: when the value of place number `p` is known; `block b`: when it is known whether block number `b` is active
-- and whether it is reset; `value k`: when the value is known that its operands give occurrence number `k`; `used k`: when
-- it is known whether occurrence number `k` is evaluated
pub record HasLevels (f : FlatForm) : Type 0 where
  pub place : ℕ → ℕ
  pub block : ℕ → ℕ
  pub value : ℕ → ℕ
  pub used : ℕ → ℕ
  -- a block after its parent
  pub parents : (b parent : ℕ) → parent_of f b ≡ Some parent → block parent < block b
  -- a body of a choice after the tests of the choice
  pub arms : (b of arm k : ℕ) → kind_of f b ≡ Some (Arm of arm) → IsChoiceTest f of k → value k < block b
  -- the body of a state after the `unless` tests of the automaton
  pub bodies : (b of state k : ℕ) → kind_of f b ≡ Some (Body of state) → IsStrongTest f of k → value k < block b
  -- the body of a `reset` after its test
  pub resets : (b k : ℕ) → kind_of f b ≡ Some (Reset k) → value k < block b
  -- a place after its block
  pub declared : (p : ℕ) (x : PlaceInfo) → slice_get f.places p ≡ Some x → block x.block < place p
  -- a place after the blocks of its definers
  pub definers : (p b : ℕ) (definer : Definer) → HasDefiner f p definer → IsBlockOf definer b → block b < place p
  -- a place after the occurrences that its definers name, but a derivative
  pub named : (p k : ℕ) (definer : Definer) → HasDefiner f p definer → Has (read_by definer) k → value k < place p
  -- a place after the use of the call in whose copy it stands
  pub called : (p call : ℕ) → place_call f p ≡ Some call → used call < place p
  -- a value after the block in which it stands
  pub stands : (k : ℕ) (occ : Occ) → slice_get f.occs k ≡ Some occ → block occ.block < value k
  -- a value after the place that it names
  pub names : (k p : ℕ) → HasForm f k (Read p) → place p < value k
  -- a value after those of its parts, but `pre`
  pub parts : (k part : ℕ) (form : Form) → HasForm f k form → Has (read_parts form) part → value part < value k
  -- `last` of a place after the `init` values of that place
  pub lasts : (k p b start : ℕ) → HasForm f k (Last p) → HasDefiner f p (Start b start) → value start < value k
  -- a use after the block in which it stands
  pub asked : (k : ℕ) (occ : Occ) → slice_get f.occs k ≡ Some occ → block occ.block < used k
  -- a use after that of the whole
  pub wholes : (k whole : ℕ) → IsPart f k whole → used whole < used k
  -- a use after that of the call in whose copy it stands
  pub calls : (k call : ℕ) → call_of f k ≡ Some call → used call < used k
  -- the use of a branch of an `if` after the condition
  pub branches : (k whole condition : ℕ) (side : Bool) → IsUse f k (BranchOf whole condition side) → value condition < used k
  -- the use of a reset value after the events of its `der`
  pub events : (k event arm : ℕ) (of : Option ℕ) (all : List ℕ) → IsUse f k (ResetOf of all arm) → Has all event → value event < used k

-- the level of a place or a block
abbrev pub level_of : (f : FlatForm) → HasLevels f → Thing → ℕ
level_of f levels (PlaceThing p) = levels.place p
level_of f levels (BlockThing b) = levels.block b

-- levels of a well-formed form grow along every dependency
abbrev pub LevelsGrow : Type 0
LevelsGrow = (f : FlatForm) → IsWellFormed f → (levels : HasLevels f) (a b : Thing) → DependsAtOnce f a b → level_of f levels b < level_of f levels a

-- levels of a well-formed form give ranks of all its entries
abbrev pub LevelsGiveRanks : Type 0
LevelsGiveRanks = (f : FlatForm) → IsWellFormed f → HasLevels f → HasNodeRanks f

-- a well-formed form with ranks of its places and blocks has levels
abbrev pub RanksGiveLevels : Type 0
RanksGiveLevels = (f : FlatForm) → IsWellFormed f → (of_places of_blocks : List ℕ) → AreRanks f of_places of_blocks → HasLevels f
