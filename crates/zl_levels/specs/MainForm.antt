-- Flat forms that have the main block alone.
use Rattle.std.specs.Prelude.{◌≡◌, ℕ, [], ◌∷◌, slice_get, Some, None}
use Rattle.std.specs.List.{AllByRecursion}
use Rattle.zl_meaning.specs.FlatForm.{FlatForm}
use Rattle.zl_meaning.specs.declared.block.Block.{Block}
use Rattle.zl_meaning.specs.declared.block.BlockKind.TheVariants.{Main}
use Rattle.zl_meaning.specs.declared.place.Definer.{Definer}
use Rattle.zl_meaning.specs.declared.place.Definer.TheVariants.{Input, Plain, Der, Start}
use Rattle.zl_meaning.specs.declared.place.PlaceInfo.{PlaceInfo}
use Rattle.zl_meaning.specs.declared.occurrence.Occ.{Occ}
use Rattle.zl_meaning.specs.declared.occurrence.SiteInfo.{SiteInfo}

-- a definer stands in the main block
abbrev pub InMain : Definer → Type 0
InMain (Input n) = Unit {0}
InMain (Plain b j) = b ≡ 0
InMain (Der b j arms) = b ≡ 0
InMain (Start b j) = b ≡ 0

-- the main block is the one block, without automata; everything stands in it
pub record IsMainForm (f : FlatForm) : Type 0 where
  pub block : Block
  pub blocks : f.blocks ≡ block ∷ []
  pub parent : block.parent ≡ None
  pub kind : block.kind ≡ Main
  pub automata : f.automata ≡ []
  pub sites : (n : ℕ) (site : SiteInfo) → slice_get f.sites n ≡ Some site → site.block ≡ 0
  pub occs : (j : ℕ) (occ : Occ) → slice_get f.occs j ≡ Some occ → occ.block ≡ 0
  pub places : (p : ℕ) (place : PlaceInfo) → slice_get f.places p ≡ Some place → (place.block ≡ 0) × AllByRecursion InMain place.definers
