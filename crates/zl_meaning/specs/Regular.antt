-- Forms as the expansion of a program makes them: what stands in which context.
use Rattle.std.specs.Prelude.{◌≡◌, ℕ, Bool, true, false, [], ◌⊎◌, slice_get, Option, Some, None}
use Rattle.std.specs.Option.{option_map}
use Rattle.zl_meaning.specs.FlatForm.{FlatForm, HasForm, place_call}
use Rattle.zl_meaning.specs.Uses.{Use, PartOf, BranchOf, DefinerOf, SlopeOf, EventOf, StartOf, ResetOf, TestOf, ArgumentOf, AgainOf, IsUse, IsUnused}
use Rattle.zl_meaning.specs.Copies.{KeepsCopies}
use Rattle.zl_meaning.specs.declared.block.Block.{Block}
use Rattle.zl_meaning.specs.declared.block.BlockKind.{BlockKind}
use Rattle.zl_meaning.specs.declared.block.BlockKind.TheVariants.{Main, Arm}
use Rattle.zl_meaning.specs.declared.block.Choice.{Choice}
use Rattle.zl_meaning.specs.declared.occurrence.Form.{Form}
use Rattle.zl_meaning.specs.declared.occurrence.Form.TheVariants.{Lit, Read, Last, Op as Apply, If, Arrow, Pre, Result, Up, Fired, Step}
use Rattle.zl_meaning.specs.declared.occurrence.Occ.{Occ}
use Rattle.zl_meaning.specs.declared.occurrence.SiteInfo.{SiteInfo}

-- combinatorial; combinatorial with `last`; discrete; hybrid
pub data Context : Type 0 where
  Plainly WithLast Discrete Hybrid : Context

abbrev pub context_of_block : Bool → Context
context_of_block true = Hybrid
context_of_block false = Discrete

abbrev pub is_hybrid_in : Option Block → Bool
is_hybrid_in None = false
is_hybrid_in (Some block) = block.hybrid

abbrev pub is_hybrid_block : FlatForm → ℕ → Bool
is_hybrid_block f b = is_hybrid_in (slice_get f.blocks b)

-- a block is hybrid as the table of contexts says: the bodies of a `present` never are, any other is where its parent is
abbrev pub IsHybridBy : FlatForm → Bool → Option ℕ → BlockKind → Type 0
IsHybridBy f hybrid parent Main = Unit {0}
IsHybridBy f hybrid parent (Arm of arm) = hybrid ≡ false
IsHybridBy f hybrid parent kind = option_map (is_hybrid_block f) parent ≡ Some hybrid

-- the context of a body and of the arguments in the copy of a call: those of a call in a combinatorial context are
-- combinatorial, with `last` where the call's own context is
abbrev pub body_context : Context → Context → Context
body_context block Plainly = Plainly
body_context block WithLast = WithLast
body_context block Discrete = block
body_context block Hybrid = block

abbrev pub called_context : (ℕ → Context) → Context → Option ℕ → Context
called_context context block None = block
called_context context block (Some call) = body_context block (context call)

-- the context of a branch of an `if`
abbrev pub branch_context : Context → Context
branch_context Plainly = Plainly
branch_context Hybrid = Plainly
branch_context WithLast = WithLast
branch_context Discrete = WithLast

-- the context of the parts of an occurrence of this form, which has context `c` and stands in a block of context `block`
abbrev pub part_context : Context → Context → Option Form → Context
part_context block c (Some (Arrow x y)) = Discrete
part_context block c (Some (Pre x)) = Discrete
part_context block c (Some (Result x)) = body_context block c
part_context block c form = c

abbrev pub form_in : FlatForm → ℕ → Option Form
form_in f k = option_map (λ (occ : Occ). occ.form) (slice_get f.occs k)

abbrev pub test_context : Context → Context
test_context Hybrid = Hybrid
test_context c = WithLast

-- an occurrence used so in a block of context `block` has this context; `context` and `form` are those of the others
abbrev pub use_context : (ℕ → Context) → (ℕ → Option Form) → Context → Use → Context
use_context context form block (PartOf whole) = part_context block (context whole) (form whole)
use_context context form block (BranchOf whole condition side) = branch_context (context whole)
use_context context form block (DefinerOf call) = called_context context block call
use_context context form block (SlopeOf call) = called_context context block call
use_context context form block (EventOf call) = block
use_context context form block (StartOf call b) = WithLast
use_context context form block (ResetOf call events arm) = WithLast
use_context context form block TestOf = test_context block
use_context context form block ArgumentOf = Plainly
use_context context form block AgainOf = block

-- what may stand in a context; an event stands as a test or as the event of a reset arm, and its `up`s in it alone. No
-- program asks whether the instant is a step
abbrev pub IsAllowed : Context → Form → Type 0
IsAllowed c (Lit v) = Unit {0}
IsAllowed c (Read p) = Unit {0}
IsAllowed c (Last p) = (c ≡ WithLast) ⊎ (c ≡ Discrete)
IsAllowed c (Apply op ks) = Unit {0}
IsAllowed c (If x y z) = Unit {0}
IsAllowed c (Arrow x y) = c ≡ Discrete
IsAllowed c (Pre x) = c ≡ Discrete
IsAllowed c (Result x) = Unit {0}
IsAllowed c (Up site) = c ≡ Hybrid
IsAllowed c (Fired ks) = c ≡ Hybrid
IsAllowed c Step = ⊥

-- an `up` and an event have no value that a program could read
abbrev pub is_value : Form → Bool
is_value (Up site) = false
is_value (Fired ks) = false
is_value form = true

abbrev pub is_event : Form → Bool
is_event (Fired ks) = true
is_event _ = false

-- a test is an event in hybrid context, and none in discrete context; an event of a reset arm is one
abbrev pub IsTestFor : Bool → Use → Form → Type 0
IsTestFor hybrid TestOf form = is_event form ≡ hybrid
IsTestFor hybrid (EventOf call) form = is_event form ≡ true
IsTestFor hybrid other form = is_event form ≡ false

-- an argument of a site doesn't mark freshness
abbrev pub MarksNothing : Form → Type 0
MarksNothing (If c x y) = x ≡ y → ⊥
MarksNothing _ = Unit {0}

-- which equations a body of this context may have: a `der` in hybrid context alone, an `init` and a test in no
-- combinatorial one
abbrev pub IsUseIn : Context → Use → Type 0
IsUseIn c (SlopeOf call) = c ≡ Hybrid
IsUseIn c (StartOf call b) = (c ≡ Discrete) ⊎ (c ≡ Hybrid)
IsUseIn c TestOf = (c ≡ Discrete) ⊎ (c ≡ Hybrid)
IsUseIn c _ = Unit {0}

-- the call of the copy that the equation of this use stands in; `own` is that of the occurrence
abbrev pub use_call : Option ℕ → Use → Option ℕ
use_call own (SlopeOf call) = call
use_call own (StartOf call b) = call
use_call own _ = own

-- one occurrence, of which `context k` is the context, in a block that is hybrid or not
pub record IsRegularAt (f : FlatForm) (context : ℕ → Context) (hybrid : Bool) (k : ℕ) (occ : Occ) : Type 0 where
  pub allowed : IsAllowed (context k) occ.form
  pub unused : IsUnused f k → context k ≡ called_context context (context_of_block hybrid) occ.call
  pub unused_form : IsUnused f k → is_value occ.form ≡ true
  pub contexts : (of : Use) → IsUse f k of → context k ≡ use_context context (form_in f) (context_of_block hybrid) of
  pub equations : (of : Use) → IsUse f k of → IsUseIn (called_context context (context_of_block hybrid) (use_call occ.call of)) of
  pub tests : (of : Use) → IsUse f k of → IsTestFor hybrid of occ.form

-- blocks are hybrid, and occurrences stand in contexts, as the tables say; the sites are in hybrid blocks. In the copy of a
-- call that is combinatorial with `last`, no variable of that copy stands behind `last`: its arguments alone may have one
pub record IsRegular (f : FlatForm) : Type 0 where
  pub blocks : (b : ℕ) (block : Block) → slice_get f.blocks b ≡ Some block → IsHybridBy f block.hybrid block.parent block.kind
  pub choices : (n : ℕ) (choice : Choice) → slice_get f.choices n ≡ Some choice → is_hybrid_block f choice.block ≡ true → choice.other ≡ false
  pub context : ℕ → Context
  pub occs : (k : ℕ) (occ : Occ) → slice_get f.occs k ≡ Some occ → IsRegularAt f context (is_hybrid_block f occ.block) k occ
  pub sites : (n : ℕ) (site : SiteInfo) → slice_get f.sites n ≡ Some site → is_hybrid_block f site.block ≡ true
  pub arguments : (n : ℕ) (site : SiteInfo) (occ : Occ) → slice_get f.sites n ≡ Some site → slice_get f.occs site.arg ≡ Some occ → MarksNothing occ.form
  pub lasts : (k p call : ℕ) → HasForm f k (Last p) → place_call f p ≡ Some call → context call ≡ WithLast → ⊥
  pub copies : KeepsCopies f
