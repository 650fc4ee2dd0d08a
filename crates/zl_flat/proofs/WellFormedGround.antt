-- What a walk's parts keep where they stand in a flat form, but for types.
use Rattle.std.proofs.Common.{◌≡◌, ℕ, ◌+◌, ◌<◌, Bool, List, length, slice_get, Option, Some, None, refl, ap, arith}
use Rattle.std.specs.List.{AllByRecursion}
use Rattle.std.specs.Option.{option_and_then}
use Rattle.std.proofs.lemmas.Option.{slice_get_within}
use Rattle.zl_value.specs.declared.value.Ty.{Ty}
use Rattle.zl_value.specs.declared.position.Pos.{Pos}
use Rattle.zl_meaning.specs.FlatForm.{FlatForm, kind_of, parent_of, Same, Inside}
use Rattle.zl_meaning.specs.Uses.{parts}
use Rattle.zl_meaning.specs.WellFormed.{IsCalled, body_count, tests_of}
use Rattle.zl_meaning.specs.declared.block.Block.{Block}
use Rattle.zl_meaning.specs.declared.block.BlockKind.{BlockKind}
use Rattle.zl_meaning.specs.declared.block.BlockKind.TheVariants.{Main, Arm, Guard, State, Reset}
use Rattle.zl_meaning.specs.declared.block.Choice.{Choice}
use Rattle.zl_meaning.specs.declared.block.Auto.{Auto}
use Rattle.zl_meaning.specs.declared.block.AutoMove.{AutoMove}
use Rattle.zl_meaning.specs.declared.place.Definer.{Definer}
use Rattle.zl_meaning.specs.declared.place.Definer.TheVariants.{Input, Plain, Der, Start}
use Rattle.zl_meaning.specs.declared.place.DerArm.{DerArm}
use Rattle.zl_meaning.specs.declared.place.PlaceInfo.{PlaceInfo}
use Rattle.zl_meaning.specs.declared.occurrence.Form.{Form}
use Rattle.zl_meaning.specs.declared.occurrence.Form.TheVariants.{Up}
use Rattle.zl_meaning.specs.declared.occurrence.Occ.{Occ}
use Rattle.zl_meaning.specs.declared.occurrence.SiteInfo.{SiteInfo}
use Rattle.zl_flat.specs.declared.here.Here.{Here}
use Rattle.zl_flat.specs.declared.here.Root.{Root}
use Rattle.zl_flat.specs.Parts.{Parts, Counters, after, past_block, past_occ, past_hidden, past_site, past_choice, past_automaton}
use Rattle.zl_flat.specs.Instances.{in_call, in_block, inner_block, occ_here}
use Rattle.zl_flat.proofs.WellFormedParts.{AllFrom, Laws, Each}

-- ---- the words

-- occurrence number `k` stands in block `b`
pub record StandsIn (f : FlatForm) (b k : ℕ) : Type 0 where
  pub occ : Occ
  pub is : slice_get f.occs k ≡ Some occ
  pub block : occ.block ≡ b

-- place number `p` is this one, but for its definers
pub record IsPlaceAt (f : FlatForm) (p : ℕ) (x : PlaceInfo) : Type 0 where
  pub place : PlaceInfo
  pub is : slice_get f.places p ≡ Some place
  pub block : place.block ≡ x.block
  pub call : place.call ≡ x.call
  pub typed : place.ty ≡ x.ty
  pub named : place.name ≡ x.name

-- an `up` stands in the block of its site
abbrev pub HasSite : FlatForm → ℕ → Form → Type 0
HasSite f b (Up s) = (site : SiteInfo) × (slice_get f.sites s ≡ Some site) × (site.block ≡ b)
HasSite f b _ = Unit {0}

pub record OccurrenceStands (f : FlatForm) (occ : Occ) : Type 0 where
  pub block : occ.block < length f.blocks
  pub call : IsCalled f occ.block occ.call
  pub parts : AllByRecursion (StandsIn f occ.block) (parts occ.form)
  pub site : HasSite f occ.block occ.form

pub record SiteStands (f : FlatForm) (site : SiteInfo) : Type 0 where
  pub block : site.block < length f.blocks
  pub argument : StandsIn f site.block site.arg

pub record PlaceStands (f : FlatForm) (place : PlaceInfo) : Type 0 where
  pub block : place.block < length f.blocks
  pub call : IsCalled f place.block place.call

-- there is a block of this kind
pub record HasKind (f : FlatForm) (kind : BlockKind) : Type 0 where
  pub body : ℕ
  pub is : kind_of f body ≡ Some kind

pub record ChoiceStands (f : FlatForm) (number : ℕ) (choice : Choice) : Type 0 where
  pub block : choice.block < length f.blocks
  pub tests : AllByRecursion (StandsIn f choice.block) choice.conds
  pub bodies : (arm : ℕ) → arm < body_count choice → HasKind f (Arm number arm)

-- a move of this state of this automaton, which has so many states
pub record MoveStands (f : FlatForm) (count number state : ℕ) (move : AutoMove) : Type 0 where
  pub target : move.target < count
  pub block : ℕ
  pub is : kind_of f block ≡ Some (tests_of move.strong number state)
  pub test : StandsIn f block move.cond

abbrev pub StateStands : FlatForm → ℕ → ℕ → ℕ → List AutoMove → Type 0
StateStands f count number state moves = AllByRecursion (MoveStands f count number state) moves

pub record AutomatonStands (f : FlatForm) (number : ℕ) (auto : Auto) : Type 0 where
  pub block : auto.block < length f.blocks
  pub states : AllFrom (StateStands f (length auto.states) number) 0 auto.states
  pub guards : (state : ℕ) → state < length auto.states → HasKind f (Guard number state)
  pub bodies : (state : ℕ) → state < length auto.states → HasKind f (State number state)

-- what an occurrence of a reset arm, and a definer, name stands in block `b`
abbrev pub ArmStands : FlatForm → ℕ → DerArm → Type 0
ArmStands f b arm = StandsIn f b arm.event × StandsIn f b arm.value

abbrev pub DefinerStands : FlatForm → Definer → Type 0
DefinerStands f (Input n) = Unit {0}
DefinerStands f (Plain b k) = StandsIn f b k
DefinerStands f (Der b slope resets) = StandsIn f b slope × AllByRecursion (ArmStands f b) resets
DefinerStands f (Start b k) = StandsIn f b k

-- block `parent` is the one in which a block of this kind stands
abbrev pub ParentStands : FlatForm → ℕ → BlockKind → Type 0
ParentStands f parent Main = ⊥
ParentStands f parent (Arm of arm) = (choice : Choice) × (slice_get f.choices of ≡ Some choice) × (choice.block ≡ parent) × (arm < body_count choice)
ParentStands f parent (Guard of state) = (auto : Auto) × (slice_get f.automata of ≡ Some auto) × (auto.block ≡ parent) × (state < length auto.states)
ParentStands f parent (State of state) = (auto : Auto) × (slice_get f.automata of ≡ Some auto) × (auto.block ≡ parent) × (state < length auto.states)
ParentStands f parent (Reset cond) = StandsIn f parent cond

abbrev pub BlockStands : FlatForm → ℕ → Option ℕ → BlockKind → Type 0
BlockStands f b None Main = b ≡ 0
BlockStands f b None _ = ⊥
BlockStands f b (Some parent) kind = (parent < b) × ParentStands f parent kind

-- ---- parts

-- a part is the entry of the form with its number; hidden occurrences are numbered from `base` on
abbrev pub standing : FlatForm → ℕ → Laws
standing f base = record {
  blocks = λ n x. slice_get f.blocks n ≡ Some x;
  places = λ n x. IsPlaceAt f n x;
  definers = λ n x. Unit {0};
  occs = λ n x. slice_get f.occs n ≡ Some x;
  hidden = λ n x. slice_get f.occs (base + n) ≡ Some x;
  sites = λ n x. slice_get f.sites n ≡ Some x;
  choices = λ n x. slice_get f.choices n ≡ Some x;
  automata = λ n x. slice_get f.automata n ≡ Some x;
}

-- a part keeps what a flat form does, but for types
abbrev pub keeping : FlatForm → Laws
keeping f = record {
  blocks = λ n x. BlockStands f n x.parent x.kind;
  places = λ n x. PlaceStands f x;
  definers = λ n x. DefinerStands f x.definer;
  occs = λ n x. OccurrenceStands f x;
  hidden = λ n x. OccurrenceStands f x;
  sites = λ n x. SiteStands f x;
  choices = λ n x. ChoiceStands f n x;
  automata = λ n x. AutomatonStands f n x;
}

-- these parts are those of the form with the numbers from here on
abbrev pub Sits : FlatForm → ℕ → Counters → Parts → Type 0
Sits f base s p = Each (standing f base) s p

abbrev pub Keeps : FlatForm → Counters → Parts → Type 0
Keeps f s p = Each (keeping f) s p

-- ---- where a walk stands

-- a walk can stand here, where these are the next numbers
pub record IsHere (f : FlatForm) (s : Counters) (here : Here) : Type 0 where
  pub before : here.block < s.blocks
  pub block : here.block < length f.blocks
  pub call : IsCalled f here.block here.call

abbrev pub RootStands : FlatForm → ℕ → Root → Type 0
RootStands f b r = StandsIn f b r.occ

module _ (f : FlatForm) (s : Counters) (here : Here) (h : IsHere f s here) where
  pub here-after : (p : Parts) → IsHere f (after s p) here
  unfolding after
  here-after p = let le = h.before in record { before = omega (arith, le); block = h.block; call = h.call }

  pub here-past_occ : IsHere f (past_occ s) here
  unfolding past_occ
  here-past_occ = record { before = h.before; block = h.block; call = h.call }

  pub here-past_hidden : IsHere f (past_hidden s) here
  unfolding past_hidden
  here-past_hidden = record { before = h.before; block = h.block; call = h.call }

  pub here-past_site : IsHere f (past_site s) here
  unfolding past_site
  here-past_site = record { before = h.before; block = h.block; call = h.call }

  pub here-past_choice : IsHere f (past_choice s) here
  unfolding past_choice
  here-past_choice = record { before = h.before; block = h.block; call = h.call }

  pub here-past_automaton : IsHere f (past_automaton s) here
  unfolding past_automaton
  here-past_automaton = record { before = h.before; block = h.block; call = h.call }

  pub here-past_block : IsHere f (past_block s) here
  unfolding past_block
  here-past_block = let le = h.before in record { before = omega (arith, le); block = h.block; call = h.call }

  -- in the arguments and the copy of a call
  pub here-in_call : (k : ℕ) (ty : Ty) (at : Pos) (form : Form) → slice_get f.occs k ≡ Some (occ_here here ty at form) → IsHere f s (in_call k here)
  here-in_call k ty at form is = record { before = h.before; block = h.block; call = (occ_here here ty at form, is, Same) }

  -- an occurrence here
  pub occ-stands : (ty : Ty) (at : Pos) (form : Form) → AllByRecursion (StandsIn f here.block) (parts form) → HasSite f here.block form → OccurrenceStands f (occ_here here ty at form)
  occ-stands ty at form ps site = record { block = h.block; call = h.call; parts = ps; site = site }

pub stands-here : (f : FlatForm) (k : ℕ) (here : Here) (ty : Ty) (at : Pos) (form : Form) → slice_get f.occs k ≡ Some (occ_here here ty at form) → StandsIn f here.block k
stands-here f k here ty at form is = record { occ = occ_here here ty at form; is = is; block = refl }

-- ---- in a block of its own

parent-is : (f : FlatForm) (b : ℕ) (x : Block) → slice_get f.blocks b ≡ Some x → parent_of f b ≡ x.parent
parent-is f b x h = ap (option_and_then (λ (block : Block). block.parent)) h

called-inside : (f : FlatForm) (b parent : ℕ) (call : Option ℕ) → parent_of f b ≡ Some parent → IsCalled f parent call → IsCalled f b call
called-inside f b parent None h c = tt
called-inside f b parent (Some k) h c = (c.0, c.1, Inside b parent h c.2)

pub here-in_block : (f : FlatForm) (s : Counters) (b : ℕ) (hybrid inner : Bool) (kind : BlockKind) (here : Here) →
    b < s.blocks → slice_get f.blocks b ≡ Some (inner_block here kind hybrid) → IsCalled f here.block here.call → IsHere f s (in_block b inner here)
here-in_block f s b hybrid inner kind here le is call = record {
  before = le;
  block = slice_get_within f.blocks b (inner_block here kind hybrid) is;
  call = called-inside f b here.block here.call (parent-is f b (inner_block here kind hybrid) is) call;
}
