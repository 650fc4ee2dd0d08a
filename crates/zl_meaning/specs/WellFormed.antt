-- What each `Flat` keeps: every number names an entry of its list, types agree, and parts stand where they belong.
use Rattle.std.specs.Prelude.{◌≡◌, ℕ, ◌+◌, ◌<◌, Bool, true, false, if◌then◌else◌, List, [], ◌∷◌, length, slice_get, Option, Some, None}
use Rattle.std.specs.List.{AllByRecursion}
use Rattle.zl_value.specs.Script.{IsOfType}
use Rattle.zl_value.specs.OperatorTypes.{type_of}
use Rattle.zl_value.specs.declared.value.Ty.{Ty}
use Rattle.zl_value.specs.declared.value.Ty.TheVariants.{Bool as BoolTy, Float, Zero}
use Rattle.zl_meaning.specs.FlatForm.{FlatForm, kind_of, place_call, CalledIn, IsWithin}
use Rattle.zl_value.specs.Lists.{Has}
use Rattle.zl_meaning.specs.Uses.{Use, TestOf, AgainOf, IsUse, parts}
use Rattle.zl_meaning.specs.Branches.{InBranch, CallInBranch}
use Rattle.zl_meaning.specs.declared.block.Block.{Block}
use Rattle.zl_meaning.specs.declared.block.BlockKind.{BlockKind}
use Rattle.zl_meaning.specs.declared.block.BlockKind.TheVariants.{Main, Arm, Guard, State, Reset}
use Rattle.zl_meaning.specs.declared.block.Choice.{Choice}
use Rattle.zl_meaning.specs.declared.block.Auto.{Auto}
use Rattle.zl_meaning.specs.declared.block.AutoMove.{AutoMove}
use Rattle.zl_meaning.specs.declared.place.Definer.{Definer}
use Rattle.zl_meaning.specs.declared.place.Definer.TheVariants.{Input, Plain, Der, Start}
use Rattle.zl_meaning.specs.declared.place.DerArm.{DerArm}
use Rattle.zl_meaning.specs.declared.place.PlaceInfo.{PlaceInfo}
use Rattle.zl_meaning.specs.declared.occurrence.Form.{Form}
use Rattle.zl_meaning.specs.declared.occurrence.Form.TheVariants.{Lit, Read, Last, Op as Apply, If, Arrow, Pre, Result, Up, Fired, Step}
use Rattle.zl_meaning.specs.declared.occurrence.Occ.{Occ}
use Rattle.zl_meaning.specs.declared.occurrence.SiteInfo.{SiteInfo}

-- occurrence number `k` stands in block `b` and has this type
pub record Stands (f : FlatForm) (b : ℕ) (ty : Ty) (k : ℕ) : Type 0 where
  pub occ : Occ
  pub is : slice_get f.occs k ≡ Some occ
  pub block : occ.block ≡ b
  pub typed : occ.ty ≡ ty

-- place number `p` has this type
pub record HasType (f : FlatForm) (ty : Ty) (p : ℕ) : Type 0 where
  pub place : PlaceInfo
  pub is : slice_get f.places p ≡ Some place
  pub typed : place.ty ≡ ty

-- how many bodies a choice has: its arms, and its `else` body
abbrev pub body_count : Choice → ℕ
body_count choice = if choice.other then length choice.conds + 1 else length choice.conds

-- block `parent` is the one in which a block of this kind stands: that of its choice or automaton, or of its test
abbrev pub IsParent : FlatForm → ℕ → BlockKind → Type 0
IsParent f parent Main = ⊥
IsParent f parent (Arm of arm) = (choice : Choice) × (slice_get f.choices of ≡ Some choice) × (choice.block ≡ parent) × (arm < body_count choice)
IsParent f parent (Guard of state) = (auto : Auto) × (slice_get f.automata of ≡ Some auto) × (auto.block ≡ parent) × (state < length auto.states)
IsParent f parent (State of state) = (auto : Auto) × (slice_get f.automata of ≡ Some auto) × (auto.block ≡ parent) × (state < length auto.states)
IsParent f parent (Reset cond) = Stands f parent BoolTy cond

-- block 0 alone is the main one and has no parent; the parent of any other has a smaller number
abbrev pub IsBlock : FlatForm → ℕ → Option ℕ → BlockKind → Type 0
IsBlock f b None Main = b ≡ 0
IsBlock f b None _ = ⊥
IsBlock f b (Some parent) kind = (parent < b) × IsParent f parent kind

-- there is exactly one block of this kind
pub record HasBody (f : FlatForm) (kind : BlockKind) : Type 0 where
  pub body : ℕ
  pub is : kind_of f body ≡ Some kind
  pub only : (b : ℕ) → kind_of f b ≡ Some kind → b ≡ body

pub record IsChoice (f : FlatForm) (number : ℕ) (choice : Choice) : Type 0 where
  pub block : choice.block < length f.blocks
  pub tests : AllByRecursion (Stands f choice.block BoolTy) choice.conds
  pub bodies : (arm : ℕ) → arm < body_count choice → HasBody f (Arm number arm)

-- the block whose tests these are: the guard of the state where the move is strong, else its body
abbrev pub tests_of : Bool → ℕ → ℕ → BlockKind
tests_of true number state = Guard number state
tests_of false number state = State number state

pub record IsMove (f : FlatForm) (auto : Auto) (number state : ℕ) (move : AutoMove) : Type 0 where
  pub target : move.target < length auto.states
  pub block : ℕ
  pub is : kind_of f block ≡ Some (tests_of move.strong number state)
  pub test : Stands f block BoolTy move.cond

pub record IsAutomaton (f : FlatForm) (number : ℕ) (auto : Auto) : Type 0 where
  pub block : auto.block < length f.blocks
  pub some : 0 < length auto.states
  pub moves : (state : ℕ) (moves : List AutoMove) → slice_get auto.states state ≡ Some moves → AllByRecursion (IsMove f auto number state) moves
  pub guards : (state : ℕ) → state < length auto.states → HasBody f (Guard number state)
  pub bodies : (state : ℕ) → state < length auto.states → HasBody f (State number state)

-- what stands in `block` with this `call`: that call is an occurrence of the block, or of one that the block stands in
abbrev pub IsCalled : FlatForm → ℕ → Option ℕ → Type 0
IsCalled f block None = Unit {0}
IsCalled f block (Some call) = (occ : Occ) × (slice_get f.occs call ≡ Some occ) × IsWithin f occ.block block

abbrev pub IsResetArm : FlatForm → ℕ → DerArm → Type 0
IsResetArm f b arm = Stands f b BoolTy arm.event × Stands f b Float arm.value

-- a definer stands in its place's block or inside it, and what it names stands with it and has the place's type; the place
-- of an input has no call
abbrev pub IsDefiner : FlatForm → ℕ → PlaceInfo → Definer → Type 0
IsDefiner f p place (Input n) = (slice_get f.ins n ≡ Some p) × (place.block ≡ 0) × (place.call ≡ None)
IsDefiner f p place (Plain b k) = IsWithin f place.block b × Stands f b place.ty k
IsDefiner f p place (Der b slope resets) = IsWithin f place.block b × (place.ty ≡ Float) × Stands f b Float slope × AllByRecursion (IsResetArm f b) resets
IsDefiner f p place (Start b k) = IsWithin f place.block b × Stands f b place.ty k

-- the occurrences that reset arms name
abbrev pub named_in : List DerArm → List ℕ
named_in [] = []
named_in (arm ∷ arms) = arm.event ∷ arm.value ∷ named_in arms

-- the occurrences that a definer names
abbrev pub named_by : Definer → List ℕ
named_by (Input n) = []
named_by (Plain b k) = k ∷ []
named_by (Der b slope resets) = slope ∷ named_in resets
named_by (Start b k) = k ∷ []

-- what a definer names stands in the copy of its place's call
abbrev pub IsInCopy : FlatForm → Option ℕ → Definer → Type 0
IsInCopy f None definer = Unit {0}
IsInCopy f (Some call) definer = AllByRecursion (CalledIn f call) (named_by definer)

pub record IsPlace (f : FlatForm) (p : ℕ) (place : PlaceInfo) : Type 0 where
  pub block : place.block < length f.blocks
  pub call : IsCalled f place.block place.call
  pub value : place.ty ≡ Zero → ⊥
  pub definers : AllByRecursion (IsDefiner f p place) place.definers
  pub copies : AllByRecursion (IsInCopy f place.call) place.definers

-- these occurrences stand in block `b` and have these types
abbrev pub AllStand : FlatForm → ℕ → List Ty → List ℕ → Type 0
AllStand f b [] [] = Unit {0}
AllStand f b (ty ∷ tys) (k ∷ ks) = Stands f b ty k × AllStand f b tys ks
AllStand f b _ _ = ⊥

-- place number `p` is declared by block `b` or by one that `b` stands in
abbrev pub IsDeclared : FlatForm → ℕ → ℕ → Type 0
IsDeclared f b p = (place : PlaceInfo) × (slice_get f.places p ≡ Some place) × IsWithin f place.block b

-- the parts of an occurrence stand in its block, and their types agree with its own
abbrev pub IsForm : FlatForm → ℕ → Ty → Form → Type 0
IsForm f b ty (Lit v) = IsOfType ty v
IsForm f b ty (Read p) = HasType f ty p
IsForm f b ty (Last p) = HasType f ty p × IsDeclared f b p
IsForm f b ty (Apply op ks) = AllStand f b (type_of op).operands ks × ((type_of op).result ≡ ty)
IsForm f b ty (If c x y) = Stands f b BoolTy c × Stands f b ty x × Stands f b ty y
IsForm f b ty (Arrow x y) = Stands f b ty x × Stands f b ty y
IsForm f b ty (Pre x) = Stands f b ty x
IsForm f b ty (Result x) = Stands f b ty x
IsForm f b ty (Up s) = (site : SiteInfo) × (slice_get f.sites s ≡ Some site) × (site.block ≡ b) × (ty ≡ Zero)
IsForm f b ty (Fired ks) = AllByRecursion (Stands f b Zero) ks × (ty ≡ BoolTy)
IsForm f b ty Step = ty ≡ BoolTy

pub record IsOccurrence (f : FlatForm) (occ : Occ) : Type 0 where
  pub block : occ.block < length f.blocks
  pub call : IsCalled f occ.block occ.call
  pub form : IsForm f occ.block occ.ty occ.form
  pub crossing : occ.ty ≡ Zero → (s : ℕ) × (occ.form ≡ Up s)

pub record IsSite (f : FlatForm) (site : SiteInfo) : Type 0 where
  pub block : site.block < length f.blocks
  pub argument : Stands f site.block Float site.arg

-- an occurrence of `again` has no call, nothing else names it, and it is the call of nothing
pub record IsAgain (f : FlatForm) (k : ℕ) : Type 0 where
  pub occ : Occ
  pub is : slice_get f.occs k ≡ Some occ
  pub typed : occ.ty ≡ BoolTy
  pub call : occ.call ≡ None
  pub only : (of : Use) → IsUse f k of → of ≡ AgainOf
  pub no_occs : (j : ℕ) (other : Occ) → slice_get f.occs j ≡ Some other → other.call ≡ Some k → ⊥
  pub no_places : (p : ℕ) → place_call f p ≡ Some k → ⊥

-- no occurrence is a part of itself, nor of what is called in it: each is lower than what it is a part of, and than the
-- call in whose copy it stands
pub record HasHeights (f : FlatForm) : Type 0 where
  pub height : ℕ → ℕ
  pub parts : (whole k : ℕ) (occ : Occ) → slice_get f.occs whole ≡ Some occ → Has (parts occ.form) k → height k < height whole
  pub calls : (k call : ℕ) (occ : Occ) → slice_get f.occs k ≡ Some occ → occ.call ≡ Some call → height k < height call

-- no test stands in a branch; a definer and a `last` stand in the branches in which their place does
pub record KeepsBranches (f : FlatForm) : Type 0 where
  pub tests : (k whole : ℕ) (side : Bool) → IsUse f k TestOf → InBranch f whole side k → ⊥
  pub definers : (p : ℕ) (place : PlaceInfo) (definer : Definer) (k whole : ℕ) (side : Bool) → slice_get f.places p ≡ Some place → Has place.definers definer → Has (named_by definer) k → InBranch f whole side k → CallInBranch f whole side place.call
  pub lasts : (k p whole : ℕ) (occ : Occ) (side : Bool) → slice_get f.occs k ≡ Some occ → occ.form ≡ Last p → CallInBranch f whole side (place_call f p) → InBranch f whole side k

pub record IsWellFormed (f : FlatForm) : Type 0 where
  pub main : 0 < length f.blocks
  pub blocks : (b : ℕ) (block : Block) → slice_get f.blocks b ≡ Some block → IsBlock f b block.parent block.kind
  pub choices : (n : ℕ) (choice : Choice) → slice_get f.choices n ≡ Some choice → IsChoice f n choice
  pub automata : (n : ℕ) (auto : Auto) → slice_get f.automata n ≡ Some auto → IsAutomaton f n auto
  pub places : (p : ℕ) (place : PlaceInfo) → slice_get f.places p ≡ Some place → IsPlace f p place
  pub occs : (k : ℕ) (occ : Occ) → slice_get f.occs k ≡ Some occ → IsOccurrence f occ
  pub sites : (s : ℕ) (site : SiteInfo) → slice_get f.sites s ≡ Some site → IsSite f site
  pub again : AllByRecursion (IsAgain f) f.again
  pub ins : AllByRecursion (λ p. p < length f.places) f.ins
  pub outs : AllByRecursion (λ p. p < length f.places) f.outs
  pub heights : HasHeights f
  pub branches : KeepsBranches f
