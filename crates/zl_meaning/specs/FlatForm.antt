-- The flat form of a program, as lists: what a contract sees of a `Flat`.
use Rattle.std.specs.Prelude.{◌≡◌, ℕ, List, Option, Some, slice_get}
use Rattle.std.specs.Option.{option_map, option_and_then}
use Rattle.zl_value.specs.Lists.{Has}
use Rattle.zl_meaning.specs.declared.block.Block.{Block}
use Rattle.zl_meaning.specs.declared.block.BlockKind.{BlockKind}
use Rattle.zl_meaning.specs.declared.block.Choice.{Choice}
use Rattle.zl_meaning.specs.declared.block.Auto.{Auto}
use Rattle.zl_meaning.specs.declared.place.Definer.{Definer}
use Rattle.zl_meaning.specs.declared.place.PlaceInfo.{PlaceInfo}
use Rattle.zl_meaning.specs.declared.occurrence.Form.{Form}
use Rattle.zl_meaning.specs.declared.occurrence.Occ.{Occ}
use Rattle.zl_meaning.specs.declared.occurrence.SiteInfo.{SiteInfo}

pub record FlatForm : Type 0 where
  pub blocks : List Block
  pub places : List PlaceInfo
  pub occs : List Occ
  pub sites : List SiteInfo
  pub choices : List Choice
  pub automata : List Auto
  pub again : List ℕ
  pub ins : List ℕ
  pub outs : List ℕ

-- what block number `b` is, and in which block it stands
abbrev pub kind_of : FlatForm → ℕ → Option BlockKind
kind_of f b = option_map (λ (block : Block). block.kind) (slice_get f.blocks b)

abbrev pub parent_of : FlatForm → ℕ → Option ℕ
parent_of f b = option_and_then (λ (block : Block). block.parent) (slice_get f.blocks b)

-- the call in whose copy occurrence number `k` or place number `p` stands
abbrev pub call_of : FlatForm → ℕ → Option ℕ
call_of f k = option_and_then (λ (occ : Occ). occ.call) (slice_get f.occs k)

abbrev pub place_call : FlatForm → ℕ → Option ℕ
place_call f p = option_and_then (λ (place : PlaceInfo). place.call) (slice_get f.places p)

-- occurrence number `k` has this form
abbrev pub HasForm : FlatForm → ℕ → Form → Type 0
HasForm f k form = (occ : Occ) × (slice_get f.occs k ≡ Some occ) × (occ.form ≡ form)

-- place number `p` has this definer
abbrev pub HasDefiner : FlatForm → ℕ → Definer → Type 0
HasDefiner f p definer = (place : PlaceInfo) × (slice_get f.places p ≡ Some place) × Has place.definers definer

-- occurrence number `k` stands in the copy of this call: it is its call, or stands outwards of its call
pub data CalledIn (f : FlatForm) (call : ℕ) : ℕ → Type 0 where
  Here : (k : ℕ) → call_of f k ≡ Some call → CalledIn f call k
  Inside : (k inner : ℕ) → call_of f k ≡ Some inner → CalledIn f call inner → CalledIn f call k

-- block `inner` is block `outer`, or stands inside it
pub data IsWithin (f : FlatForm) (outer : ℕ) : ℕ → Type 0 where
  Same : IsWithin f outer outer
  Inside : (inner parent : ℕ) → parent_of f inner ≡ Some parent → IsWithin f outer parent → IsWithin f outer inner
