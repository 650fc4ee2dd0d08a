-- What the equation of an entry reads: `P` holds of each entry of its own moment that it reads, `Q` of each that it reads at
-- earlier instants.
use Rattle.std.specs.Prelude.{◌≡◌, ℕ, ◌<◌, List, [], ◌∷◌, map, slice_get, Option, Some, None, ⊤}
use Rattle.std.specs.List.{AllByRecursion}
use Rattle.zl_meaning.specs.FlatForm.{FlatForm}
use Rattle.zl_meaning.specs.Uses.{Use, PartOf, BranchOf, DefinerOf, SlopeOf, EventOf, StartOf, ResetOf, TestOf, ArgumentOf, AgainOf, uses_of}
use Rattle.zl_meaning.specs.State.{Node, AtControl, AtReset, AtLater, AtEntry, AtRunning, AtStrong, AtWeak, AtPlace, AtUsed, AtValue}
use Rattle.zl_meaning.specs.Moment.{Moment}
use Rattle.zl_meaning.specs.Automata.{strong_moves, weak_moves}
use Rattle.zl_meaning.specs.declared.block.Block.{Block}
use Rattle.zl_meaning.specs.declared.block.BlockKind.{BlockKind}
use Rattle.zl_meaning.specs.declared.block.BlockKind.TheVariants.{Main, Arm, Guard, State as Body, Reset}
use Rattle.zl_meaning.specs.declared.block.Choice.{Choice}
use Rattle.zl_meaning.specs.declared.block.Auto.{Auto}
use Rattle.zl_meaning.specs.declared.block.AutoMove.{AutoMove}
use Rattle.zl_meaning.specs.declared.place.Definer.{Definer}
use Rattle.zl_meaning.specs.declared.place.Definer.TheVariants.{Input, Plain, Der, Start}
use Rattle.zl_meaning.specs.declared.place.DerArm.{DerArm}
use Rattle.zl_meaning.specs.declared.place.PlaceInfo.{PlaceInfo}
use Rattle.zl_meaning.specs.declared.occurrence.Form.{Form}
use Rattle.zl_meaning.specs.declared.occurrence.Form.TheVariants.{Lit, Read, Last, Op as Apply, If, Arrow, Pre, Result, Up, Fired, Step}
use Rattle.zl_meaning.specs.declared.occurrence.Occ.{Occ}

-- a property of entries
abbrev pub Entries : Type 1
Entries = Node → Type 0

abbrev pub ReadsValues : Entries → List ℕ → Type 0
ReadsValues P ks = AllByRecursion (λ k. P (AtValue k)) ks

abbrev pub ReadsCall : Entries → Option ℕ → Type 0
ReadsCall P None = Unit {0}
ReadsCall P (Some call) = P (AtUsed call)

-- whether block `b` is fresh
abbrev pub ReadsFresh : Entries → Entries → ℕ → Type 0
ReadsFresh P Q b = P (AtControl b) × P (AtReset b) × Q (AtControl b)

abbrev pub ReadsChoice : Entries → Option Choice → Type 0
ReadsChoice P None = Unit {0}
ReadsChoice P (Some choice) = ReadsValues P choice.conds

-- a block's control
abbrev pub ReadsOwnControl : FlatForm → Entries → Entries → ℕ → BlockKind → Type 0
ReadsOwnControl f P Q b Main = Unit {0}
ReadsOwnControl f P Q b (Arm of arm) = ReadsChoice P (slice_get f.choices of)
ReadsOwnControl f P Q b (Guard of state) = P (AtEntry of)
ReadsOwnControl f P Q b (Body of state) = P (AtRunning of)
ReadsOwnControl f P Q b (Reset cond) = P (AtValue cond) × Q (AtControl b)

abbrev pub ReadsParent : Entries → Option ℕ → Type 0
ReadsParent P None = Unit {0}
ReadsParent P (Some parent) = P (AtControl parent)

abbrev pub ReadsControl : FlatForm → Entries → Entries → ℕ → Option Block → Type 0
ReadsControl f P Q b None = Unit {0}
ReadsControl f P Q b (Some block) = ReadsParent P block.parent × ReadsOwnControl f P Q b block.kind

-- whether a block is reset
abbrev pub ReadsOwnReset : Entries → Entries → ℕ → BlockKind → Type 0
ReadsOwnReset P Q parent Main = Unit {0}
ReadsOwnReset P Q parent (Arm of arm) = Unit {0}
ReadsOwnReset P Q parent (Guard of state) = ReadsFresh P Q parent × Q (AtWeak of)
ReadsOwnReset P Q parent (Body of state) = ReadsFresh P Q parent × Q (AtWeak of) × P (AtStrong of)
ReadsOwnReset P Q parent (Reset cond) = P (AtValue cond)

abbrev pub ReadsResetUnder : Entries → Entries → Option ℕ → BlockKind → Type 0
ReadsResetUnder P Q None kind = Unit {0}
ReadsResetUnder P Q (Some parent) kind = P (AtReset parent) × P (AtControl parent) × ReadsOwnReset P Q parent kind

abbrev pub ReadsReset : Entries → Entries → Option Block → Type 0
ReadsReset P Q None = Unit {0}
ReadsReset P Q (Some block) = ReadsResetUnder P Q block.parent block.kind

-- whether a block is reset at the end of the step
abbrev pub ReadsOwnLater : Entries → BlockKind → Type 0
ReadsOwnLater P Main = Unit {0}
ReadsOwnLater P (Arm of arm) = Unit {0}
ReadsOwnLater P (Guard of state) = P (AtStrong of)
ReadsOwnLater P (Body of state) = Unit {0}
ReadsOwnLater P (Reset cond) = Unit {0}

abbrev pub ReadsLaterUnder : Entries → Option ℕ → BlockKind → Type 0
ReadsLaterUnder P None kind = Unit {0}
ReadsLaterUnder P (Some parent) kind = P (AtLater parent) × P (AtControl parent) × ReadsOwnLater P kind

abbrev pub ReadsLater : Entries → Option Block → Type 0
ReadsLater P None = Unit {0}
ReadsLater P (Some block) = ReadsLaterUnder P block.parent block.kind

-- the tests of some moves
abbrev pub ReadsMoves : Entries → List AutoMove → Type 0
ReadsMoves P moves = ReadsValues P (map (λ (move : AutoMove). move.cond) moves)

abbrev pub ReadsEntry : Entries → Entries → ℕ → Option Auto → Type 0
ReadsEntry P Q a None = Unit {0}
ReadsEntry P Q a (Some auto) = ReadsFresh P Q auto.block × Q (AtEntry a) × Q (AtWeak a) × Q (AtRunning a)

abbrev pub ReadsRunning : Entries → Entries → ℕ → Option Auto → Type 0
ReadsRunning P Q a None = Unit {0}
ReadsRunning P Q a (Some auto) = P (AtControl auto.block) × P (AtEntry a) × Q (AtRunning a) × ((state : ℕ) → ReadsMoves P (strong_moves auto state))

abbrev pub ReadsStrong : Entries → ℕ → Option Auto → Type 0
ReadsStrong P a None = Unit {0}
ReadsStrong P a (Some auto) = P (AtControl auto.block) × P (AtEntry a) × ((state : ℕ) → ReadsMoves P (strong_moves auto state))

abbrev pub ReadsWeak : Entries → ℕ → Option Auto → Type 0
ReadsWeak P a None = Unit {0}
ReadsWeak P a (Some auto) = P (AtControl auto.block) × P (AtRunning a) × ((state : ℕ) → ReadsMoves P (weak_moves auto state))

-- `last` of a place
abbrev pub ReadsStart : Entries → Entries → Definer → Type 0
ReadsStart P Q (Input n) = Unit {0}
ReadsStart P Q (Plain b k) = Unit {0}
ReadsStart P Q (Der b slope resets) = Unit {0}
ReadsStart P Q (Start b k) = ReadsFresh P Q b × P (AtValue k)

abbrev pub ReadsLastOf : Entries → Entries → ℕ → Option PlaceInfo → Type 0
ReadsLastOf P Q p None = Unit {0}
ReadsLastOf P Q p (Some place) = ReadsFresh P Q place.block × Q (AtPlace p) × AllByRecursion (ReadsStart P Q) place.definers

-- a place
abbrev pub ReadsArm : Entries → DerArm → Type 0
ReadsArm P arm = P (AtValue arm.event) × P (AtValue arm.value)

abbrev pub ReadsDefiner : Entries → Entries → ℕ → Definer → Type 0
ReadsDefiner P Q p (Input n) = Unit {0}
ReadsDefiner P Q p (Plain b k) = P (AtControl b) × P (AtValue k)
ReadsDefiner P Q p (Der b slope resets) = P (AtControl b) × Q (AtPlace p) × Q (AtValue slope) × AllByRecursion (ReadsArm P) resets
ReadsDefiner P Q p (Start b k) = P (AtControl b)

abbrev pub ReadsPlace : Entries → Entries → ℕ → Option PlaceInfo → Type 0
ReadsPlace P Q p None = Unit {0}
ReadsPlace P Q p (Some place) = P (AtControl place.block) × ReadsCall P place.call × AllByRecursion (ReadsDefiner P Q p) place.definers × ReadsLastOf P Q p (Some place)

-- the value of an occurrence
abbrev pub ReadsForm : FlatForm → Entries → Entries → ℕ → Form → Type 0
ReadsForm f P Q b (Lit v) = Unit {0}
ReadsForm f P Q b (Read p) = P (AtPlace p)
ReadsForm f P Q b (Last p) = ReadsLastOf P Q p (slice_get f.places p)
ReadsForm f P Q b (Apply op ks) = ReadsValues P ks
ReadsForm f P Q b (If c x y) = P (AtValue c) × P (AtValue x) × P (AtValue y)
ReadsForm f P Q b (Arrow x y) = ReadsFresh P Q b × P (AtValue x) × P (AtValue y)
ReadsForm f P Q b (Pre x) = ReadsFresh P Q b × Q (AtUsed x) × Q (AtValue x)
ReadsForm f P Q b (Result x) = P (AtValue x)
ReadsForm f P Q b (Up site) = ReadsFresh P Q b
ReadsForm f P Q b (Fired ks) = ReadsValues P ks
ReadsForm f P Q b Step = Unit {0}

abbrev pub ReadsValue : FlatForm → Entries → Entries → Option Occ → Type 0
ReadsValue f P Q None = Unit {0}
ReadsValue f P Q (Some occ) = P (AtControl occ.block) × ReadsForm f P Q occ.block occ.form

-- whether an occurrence is evaluated
abbrev pub ReadsUse : Entries → Entries → Use → Type 0
ReadsUse P Q (PartOf whole) = P (AtUsed whole)
ReadsUse P Q (BranchOf whole condition side) = P (AtUsed whole) × P (AtValue condition)
ReadsUse P Q (DefinerOf call) = ReadsCall P call
ReadsUse P Q (SlopeOf call) = ReadsCall P call
ReadsUse P Q (EventOf call) = ReadsCall P call
ReadsUse P Q (StartOf call b) = ReadsCall P call × ReadsFresh P Q b
ReadsUse P Q (ResetOf call events arm) = ReadsCall P call × ReadsValues P events
ReadsUse P Q TestOf = Unit {0}
ReadsUse P Q ArgumentOf = Unit {0}
ReadsUse P Q AgainOf = Unit {0}

abbrev pub ReadsAsked : Entries → Entries → Option ℕ → List Use → Type 0
ReadsAsked P Q call [] = ReadsCall P call
ReadsAsked P Q call (first ∷ others) = AllByRecursion (ReadsUse P Q) (first ∷ others)

abbrev pub ReadsUsed : FlatForm → Entries → Entries → ℕ → Option Occ → Type 0
ReadsUsed f P Q k None = Unit {0}
ReadsUsed f P Q k (Some occ) = P (AtControl occ.block) × ReadsAsked P Q occ.call (uses_of f k)

-- the equation of entry `a` reads only these
abbrev pub Reads : FlatForm → Entries → Entries → Node → Type 0
Reads f P Q (AtControl b) = ReadsControl f P Q b (slice_get f.blocks b)
Reads f P Q (AtReset b) = ReadsReset P Q (slice_get f.blocks b)
Reads f P Q (AtLater b) = ReadsLater P (slice_get f.blocks b)
Reads f P Q (AtEntry a) = ReadsEntry P Q a (slice_get f.automata a)
Reads f P Q (AtRunning a) = ReadsRunning P Q a (slice_get f.automata a)
Reads f P Q (AtStrong a) = ReadsStrong P a (slice_get f.automata a)
Reads f P Q (AtWeak a) = ReadsWeak P a (slice_get f.automata a)
Reads f P Q (AtPlace p) = ReadsPlace P Q p (slice_get f.places p)
Reads f P Q (AtUsed k) = ReadsUsed f P Q k (slice_get f.occs k)
Reads f P Q (AtValue k) = ReadsValue f P Q (slice_get f.occs k)

-- two moments are alike where entries with `Q` are read
pub record AreAlike (Q : Entries) (m n : Moment) : Type 0 where
  pub mode : m.mode ≡ n.mode
  pub inputs : m.inputs ≡ n.inputs
  pub fired : m.fired ≡ n.fired
  pub live : (b : ℕ) → Q (AtControl b) → m.live b ≡ n.live b
  pub before : (a : Node) → Q a → m.before a ≡ n.before a
  pub start : (a : Node) → Q a → m.start a ≡ n.start a
  pub passed : m.passed ≡ n.passed

-- the form is causal by ranks of its entries: each equation reads entries of a lower rank alone
pub record HasNodeRanks (f : FlatForm) : Type 0 where
  pub rank : Node → ℕ
  pub lower : (a : Node) → Reads f (λ b. rank b < rank a) (λ b. ⊤) a
