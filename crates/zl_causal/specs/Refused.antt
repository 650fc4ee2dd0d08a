-- The place at which a form is refused that isn't causal.
use Rattle.std.specs.Prelude.{◌≡◌, ◌⊎◌, ℕ, ◌<◌, Bool, true, false, List, [], ◌∷◌, ◌++◌, length, get_or, slice_get, Some}
use Rattle.zl_value.specs.Lists.{Has}
use Rattle.zl_value.specs.declared.position.Pos.{Pos}
use Rattle.zl_value.specs.declared.rule.Refusal.{Refusal}
use Rattle.zl_value.specs.declared.rule.Refusal.TheVariants.{Broken, Memory}
use Rattle.zl_value.specs.declared.rule.Rule.TheVariants.{Causality}
use Rattle.zl_meaning.specs.FlatForm.{FlatForm}
use Rattle.zl_meaning.specs.Depends.{IsInCircle, IsOnCircle, AreRanks}
use Rattle.zl_meaning.specs.declared.place.PlaceInfo.{PlaceInfo}
use Rattle.zl_graph.specs.declared.graph.Link.{Link}
use Rattle.zl_causal.specs.declared.node.Node.TheVariants.{Place, Block, Leads, Hub}
use Rattle.zl_causal.specs.declared.ranking.Ranked.{Ranked}
use Rattle.zl_causal.specs.declared.ranking.Ranked.TheVariants.{Causal, Circular}
use Rattle.zl_causal.specs.Nodes.{number_of, link_of}
use Rattle.zl_causal.specs.Ranking.{NoPlace}

-- `p` is the first number of which this holds
pub record IsFirst (P : ℕ → Type 0) (p : ℕ) : Type 0 where
  pub holds : P p
  pub before : (q : ℕ) → q < p → P q → ⊥

-- the position of the first place that depends on itself or, where none does, of the first that depends on a block that
-- depends on itself
pub record IsCircleAt (f : FlatForm) (at : Pos) : Type 0 where
  pub place : ℕ
  pub info : PlaceInfo
  pub is : slice_get f.places place ≡ Some info
  pub stands : info.at ≡ at
  pub first : IsFirst (IsInCircle f) place ⊎ (((p : ℕ) → p < length f.places → IsInCircle f p → ⊥) × IsFirst (IsOnCircle f) place)

abbrev pub IsRanked : FlatForm → Ranked → Type 0
IsRanked f (Causal ranks) = AreRanks f ranks.places.items ranks.blocks.items
IsRanked f (Circular at) = IsCircleAt f at

-- a form is refused by no other rule; want of memory tells nothing
abbrev pub IsRefused : FlatForm → Refusal → Type 0
IsRefused f (Broken rule at) = (rule ≡ Causality) × IsCircleAt f at
IsRefused f Memory = Unit {0}

-- a place is marked, or what its `init` values lead to
abbrev pub IsMarked : List Bool → ℕ → Type 0
IsMarked marks p = (get_or marks (number_of (Place p)) false ≡ true) ⊎ (get_or marks (number_of (Leads p)) false ≡ true)

-- the first of the places that is marked has this position
pub record IsFirstMarked (marks : List Bool) (places : List PlaceInfo) (at : Pos) : Type 0 where
  pub place : ℕ
  pub info : PlaceInfo
  pub is : slice_get places place ≡ Some info
  pub stands : info.at ≡ at
  pub holds : IsMarked marks place
  pub before : NoPlace marks place

-- a link from a marked block to the hub
pub record ToHub (marks : List Bool) (blocks : ℕ) (l : Link) : Type 0 where
  pub block : ℕ
  pub within : block < blocks
  pub marked : get_or marks (number_of (Block block)) false ≡ true
  pub is : l ≡ link_of (Block block) Hub

pub record FromHub (l : Link) : Type 0 where
  pub place : ℕ
  pub is : l ≡ link_of Hub (Place place)

-- to the links come those from the first blocks that are marked to the hub
pub record HasBlocks (marks : List Bool) (blocks : ℕ) (old new : List Link) : Type 0 where
  pub kept : (l : Link) → Has old l → Has new l
  pub marked : (b : ℕ) → b < blocks → get_or marks (number_of (Block b)) false ≡ true → Has new (link_of (Block b) Hub)
  pub only : (l : Link) → Has new l → Has old l ⊎ ToHub marks blocks l

-- and those from the hub to the first places
pub record HasPlaces (places : ℕ) (old new : List Link) : Type 0 where
  pub kept : (l : Link) → Has old l → Has new l
  pub led : (p : ℕ) → p < places → Has new (link_of Hub (Place p))
  pub only : (l : Link) → Has new l → Has old l ⊎ FromHub l

-- a link from a block to the hub is added, if the block is marked
pub record IsBlockAdded (marks : List Bool) (b : ℕ) (old new : List Link) : Type 0 where
  pub yes : get_or marks (number_of (Block b)) false ≡ true → new ≡ old ++ link_of (Block b) Hub ∷ []
  pub no : get_or marks (number_of (Block b)) false ≡ false → new ≡ old
