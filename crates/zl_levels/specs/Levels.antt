-- Levels of the places and occurrences of a flat form: what is early has a value at each instant, what is late may have none
-- where its block is fresh.
use Rattle.std.specs.Prelude.{◌≡◌, ◌⊎◌, ℕ, true, List, slice_get, Option, Some}
use Rattle.std.specs.List.{AllByRecursion}
use Rattle.zl_value.specs.Lists.{Has}
use Rattle.zl_meaning.specs.FlatForm.{FlatForm, HasDefiner, IsWithin, kind_of, parent_of}
use Rattle.zl_meaning.specs.Uses.{ResetOf, IsTest}
use Rattle.zl_meaning.specs.Branches.{Under}
use Rattle.zl_meaning.specs.Regular.{is_hybrid_block}
use Rattle.zl_meaning.specs.declared.block.Auto.{Auto}
use Rattle.zl_meaning.specs.declared.block.Choice.{Choice}
use Rattle.zl_meaning.specs.declared.block.BlockKind.TheVariants.{Arm, State as Body, Reset}
use Rattle.zl_meaning.specs.declared.place.Definer.{Definer}
use Rattle.zl_meaning.specs.declared.place.Definer.TheVariants.{Input, Plain, Der, Start}
use Rattle.zl_meaning.specs.declared.place.DerArm.{DerArm}
use Rattle.zl_meaning.specs.declared.place.PlaceInfo.{PlaceInfo}
use Rattle.zl_meaning.specs.declared.occurrence.Form.{Form}
use Rattle.zl_meaning.specs.declared.occurrence.Form.TheVariants.{Lit, Read, Last, Op as Apply, If, Arrow, Pre, Result, Up, Fired, Step}
use Rattle.zl_meaning.specs.declared.occurrence.Occ.{Occ}
use Rattle.zl_meaning.specs.declared.occurrence.SiteInfo.{SiteInfo}

pub data Level : Type 0 where
  Early Late : Level

-- a level for each place and each occurrence, by number
pub record Levels : Type 0 where
  pub place : ℕ → Level
  pub occ : ℕ → Level

-- block `b` has an `init` of the place in its list, or in a `reset` body of that list
pub data IsAnchoredIn (f : FlatForm) (p : ℕ) : ℕ → Type 0 where
  ByStart : (b k : ℕ) → HasDefiner f p (Start b k) → IsAnchoredIn f p b
  InReset : (b inner condition : ℕ) → kind_of f inner ≡ Some (Reset condition) → parent_of f inner ≡ Some b → IsAnchoredIn f p inner → IsAnchoredIn f p b

-- block `b` has an equation that always gives the place a value
pub data IsSurelyDefinedIn (f : FlatForm) (p : ℕ) : ℕ → Type 0 where
  ByPlain : (b k : ℕ) → HasDefiner f p (Plain b k) → IsSurelyDefinedIn f p b
  ByDer : (b slope k : ℕ) (resets : List DerArm) → HasDefiner f p (Der b slope resets) → HasDefiner f p (Start b k) → IsSurelyDefinedIn f p b
  ByReset : (b inner condition : ℕ) → kind_of f inner ≡ Some (Reset condition) → parent_of f inner ≡ Some b → IsSurelyDefinedIn f p inner → IsSurelyDefinedIn f p b
  ByChoice : (of : ℕ) (choice : Choice) → slice_get f.choices of ≡ Some choice → choice.other ≡ true → ((inner arm : ℕ) → kind_of f inner ≡ Some (Arm of arm) → IsSurelyDefinedIn f p inner) → IsSurelyDefinedIn f p choice.block
  ByAutomaton : (of : ℕ) (auto : Auto) → slice_get f.automata of ≡ Some auto → ((inner state : ℕ) → kind_of f inner ≡ Some (Body of state) → IsSurelyDefinedIn f p inner) → IsSurelyDefinedIn f p auto.block

-- the place is an input of main, or is anchored, or surely defined, by the block that declares it
pub data IsGiven (f : FlatForm) (p : ℕ) (place : PlaceInfo) : Type 0 where
  AsInput : (n : ℕ) → Has place.definers (Input n) → IsGiven f p place
  Anchored : IsAnchoredIn f p place.block → IsGiven f p place
  Surely : IsSurelyDefinedIn f p place.block → IsGiven f p place

-- place number `p` is anchored by the block that declares it
abbrev pub IsAnchored : FlatForm → ℕ → Type 0
IsAnchored f p = (place : PlaceInfo) × (slice_get f.places p ≡ Some place) × IsAnchoredIn f p place.block

-- occurrence number `k` stands in a reset value, or in an arm of a hybrid block that doesn't declare the place
pub data IsAtEvent (f : FlatForm) (k p : ℕ) : Type 0 where
  InResetValue : (call : Option ℕ) (events : List ℕ) (arm : ℕ) → Under f (ResetOf call events arm) k → IsAtEvent f k p
  InArm : (inner of arm : ℕ) (choice : Choice) (occ : Occ) (place : PlaceInfo) → kind_of f inner ≡ Some (Arm of arm) → slice_get f.choices of ≡ Some choice → is_hybrid_block f choice.block ≡ true → slice_get f.occs k ≡ Some occ → IsWithin f inner occ.block → slice_get f.places p ≡ Some place → (IsWithin f inner place.block → ⊥) → IsAtEvent f k p

-- what the construct of occurrence number `k` asks of its level and of those of its parts
abbrev pub AllowsForm : FlatForm → Levels → ℕ → Form → Type 0
AllowsForm f l k (Lit v) = Unit {0}
AllowsForm f l k (Read p) = l.occ k ≡ Early → l.place p ≡ Early
AllowsForm f l k (Last p) = (l.place p ≡ Early) × (l.occ k ≡ Early → IsAnchored f p ⊎ IsAtEvent f k p)
AllowsForm f l k (Apply op ks) = l.occ k ≡ Early → AllByRecursion (λ j. l.occ j ≡ Early) ks
AllowsForm f l k (If c x y) = l.occ k ≡ Early → (l.occ c ≡ Early) × (l.occ x ≡ Early) × (l.occ y ≡ Early)
AllowsForm f l k (Arrow x y) = l.occ k ≡ Early → l.occ x ≡ Early
AllowsForm f l k (Pre x) = (l.occ k ≡ Late) × (l.occ x ≡ Early)
AllowsForm f l k (Result x) = l.occ k ≡ Early → l.occ x ≡ Early
AllowsForm f l k (Up site) = Unit {0}
AllowsForm f l k (Fired ks) = Unit {0}
AllowsForm f l k Step = Unit {0}

-- an equation `x = e` makes x late where e is, in the block that declares x; in any other block e must be early
abbrev pub AllowsDefiner : Levels → ℕ → ℕ → Definer → Type 0
AllowsDefiner l p block (Input n) = Unit {0}
AllowsDefiner l p block (Plain b k) = (b ≡ block → l.place p ≡ Early → l.occ k ≡ Early) × ((b ≡ block → ⊥) → l.occ k ≡ Early)
AllowsDefiner l p block (Der b slope resets) = (l.occ slope ≡ Early) × AllByRecursion (λ (arm : DerArm). (l.occ arm.event ≡ Early) × (l.occ arm.value ≡ Early)) resets
AllowsDefiner l p block (Start b k) = l.occ k ≡ Early

-- these are levels of the form: each constraint of initialisation holds of them
pub record AreLevels (f : FlatForm) (l : Levels) : Type 0 where
  pub occs : (k : ℕ) (occ : Occ) → slice_get f.occs k ≡ Some occ → AllowsForm f l k occ.form
  pub definers : (p : ℕ) (place : PlaceInfo) → slice_get f.places p ≡ Some place → AllByRecursion (AllowsDefiner l p place.block) place.definers
  pub given : (p : ℕ) (place : PlaceInfo) → slice_get f.places p ≡ Some place → IsGiven f p place
  pub tests : (k : ℕ) → IsTest f k → l.occ k ≡ Early
  pub arguments : (n : ℕ) (site : SiteInfo) → slice_get f.sites n ≡ Some site → l.occ site.arg ≡ Early
  pub again : (k : ℕ) → Has f.again k → l.occ k ≡ Early
  pub outs : (p : ℕ) → Has f.outs p → l.place p ≡ Early
