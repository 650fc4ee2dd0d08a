-- What stands in which context, of the parts that a walk makes: the words.
use Rattle.std.proofs.Common.{◌≡◌, ℕ, suc, ◌+◌, Bool, true, false, List, [], ◌∷◌, ◌++◌, length, slice_get, Option, Some, None, refl, sym, ap, subst, arith}
use Rattle.std.specs.List.{AllByRecursion}
use Rattle.std.proofs.lemmas.List.{length-append}
use Rattle.zl_ast.specs.Kinds as kinds
use Rattle.zl_ast.specs.declared.program.DeclKind.{DeclKind}
use Rattle.zl_ast.specs.declared.program.DeclKind.TheVariants as decl
use Rattle.zl_meaning.specs.FlatForm.{FlatForm, place_call}
use Rattle.zl_meaning.specs.Uses.{Use, PartOf, BranchOf, DefinerOf, SlopeOf, EventOf, StartOf, ResetOf, TestOf, ArgumentOf, parts, events_of, definer_uses, uses_of}
use Rattle.zl_meaning.specs.Regular.{Context, Plainly, WithLast, Discrete, Hybrid, context_of_block, is_hybrid_in, is_hybrid_block, IsHybridBy, body_context, called_context, branch_context, form_in, use_context, IsAllowed, is_event, IsTestFor, MarksNothing, IsUseIn, use_call}
use Rattle.zl_meaning.specs.declared.block.Block.{Block}
use Rattle.zl_meaning.specs.declared.block.BlockKind.{BlockKind}
use Rattle.zl_meaning.specs.declared.block.BlockKind.TheVariants.{Main, Arm, Guard, State, Reset}
use Rattle.zl_meaning.specs.declared.block.Choice.{Choice}
use Rattle.zl_meaning.specs.declared.block.Auto.{Auto}
use Rattle.zl_meaning.specs.declared.block.AutoMove.{AutoMove}
use Rattle.zl_meaning.specs.declared.place.Definer.{Definer}
use Rattle.zl_meaning.specs.declared.place.Definer.TheVariants.{Input, Plain, Der, Start}
use Rattle.zl_meaning.specs.declared.place.DerArm.{DerArm}
use Rattle.zl_meaning.specs.declared.place.PlaceInfo.{PlaceInfo}
use Rattle.zl_meaning.specs.declared.occurrence.Form.{Form}
use Rattle.zl_meaning.specs.declared.occurrence.Form.TheVariants.{Last, If, Up, Fired}
use Rattle.zl_meaning.specs.declared.occurrence.Occ.{Occ}
use Rattle.zl_meaning.specs.declared.occurrence.SiteInfo.{SiteInfo}
use Rattle.zl_flat.specs.declared.here.Here.{Here}
use Rattle.zl_flat.specs.declared.given.Given.{Given}
use Rattle.zl_flat.specs.Parts.{Parts, Counters, nothing, joined, one_block, one_place, some_places, some_definers, one_occ, one_hidden, one_site, one_choice, one_automaton, after, past_block, past_occ, past_hidden, past_site, past_choice, past_automaton}
use Rattle.zl_flat.proofs.PartsLaws.{after-block, after-occ, after-hidden, after-site, after-choice, after-automaton}
use Rattle.zl_flat.proofs.WellFormedParts.{AllFrom, Laws, Each, from-left, from-right}
use Rattle.zl_flat.proofs.WellFormedGround.{IsPlaceAt, Sits}

-- ---- contexts of the tree and of the flat form

-- a context of the tree as one of the flat form
abbrev pub flat : kinds.Context → Context
flat kinds.combinatorial = Plainly
flat kinds.recalling = WithLast
flat kinds.discrete = Discrete
flat kinds.hybrid = Hybrid

-- the context can stand in a block that is hybrid or not
abbrev pub Suits : Bool → kinds.Context → Type 0
Suits hybrid kinds.combinatorial = Unit {0}
Suits hybrid kinds.recalling = Unit {0}
Suits hybrid kinds.discrete = hybrid ≡ false
Suits hybrid kinds.hybrid = hybrid ≡ true

-- the body of a call has the call's context
pub suits-body : (h : Bool) (c : kinds.Context) → Suits h c → body_context (context_of_block h) (flat c) ≡ flat c
suits-body h kinds.combinatorial s = refl
suits-body h kinds.recalling s = refl
suits-body h kinds.discrete s = ap context_of_block s
suits-body h kinds.hybrid s = ap context_of_block s

-- the branches of an `if` can stand in each block
pub suits-branch : (h : Bool) (c : kinds.Context) → Suits h (kinds.branch_context c)
suits-branch h kinds.combinatorial = tt
suits-branch h kinds.recalling = tt
suits-branch h kinds.discrete = tt
suits-branch h kinds.hybrid = tt

-- their context is the same on both sides
pub flat-branch : (c : kinds.Context) → flat (kinds.branch_context c) ≡ branch_context (flat c)
flat-branch kinds.combinatorial = refl
flat-branch kinds.recalling = refl
flat-branch kinds.discrete = refl
flat-branch kinds.hybrid = refl

-- where a call is allowed, its arguments have its context
pub argument-context : (k : Option DeclKind) (c : kinds.Context) → kinds.allows_call k c ≡ true → kinds.argument_context k c ≡ c
argument-context None c h = refl
argument-context (Some decl.Constant) c h = refl
argument-context (Some decl.Function) c h = refl
argument-context (Some decl.Node) kinds.combinatorial h = cc
argument-context (Some decl.Node) kinds.recalling h = cc
argument-context (Some decl.Node) kinds.discrete h = refl
argument-context (Some decl.Node) kinds.hybrid h = cc
argument-context (Some decl.Hybrid) kinds.combinatorial h = cc
argument-context (Some decl.Hybrid) kinds.recalling h = cc
argument-context (Some decl.Hybrid) kinds.discrete h = cc
argument-context (Some decl.Hybrid) kinds.hybrid h = refl

-- ---- the contexts of what a walk makes

-- the contexts of its occurrences and of its hidden ones, in order
pub record Contexts : Type 0 where
  pub occs : List Context
  pub hidden : List Context

-- one for each
abbrev pub Fits : Contexts → Parts → Type 0
Fits cs p = (length cs.occs ≡ length p.occs) × (length cs.hidden ≡ length p.hidden)

-- these are the contexts of the occurrences with the numbers from here on
pub record Agrees (context : ℕ → Context) (base : ℕ) (s : Counters) (cs : Contexts) : Type 0 where
  pub occs : AllFrom (λ n c. context n ≡ c) s.occs cs.occs
  pub hidden : AllFrom (λ n c. context (base + n) ≡ c) s.hidden cs.hidden

-- there are contexts for these parts with which this holds, if these are known to be such
pub record Assigned (base : ℕ) (know : (ℕ → Context) → Type 0) (s : Counters) (p : Parts) (Q : (ℕ → Context) → Type 0) : Type 0 where
  pub contexts : Contexts
  pub fits : Fits contexts p
  pub holds : (context : ℕ → Context) → Agrees context base s contexts → know context → Q context

-- nothing is known of them
abbrev pub nothing_known : (ℕ → Context) → Type 0
nothing_known context = Unit {0}

-- the contexts of parts one behind the other
abbrev both : Contexts → Contexts → Contexts
both cs ds = record { occs = cs.occs ++ ds.occs; hidden = cs.hidden ++ ds.hidden }

-- lists of the same lengths, one behind the other, have the same length
add-lengths : {X Y : Type 0} (xs ys : List X) (us vs : List Y) → length xs ≡ length us → length ys ≡ length vs → length (xs ++ ys) ≡ length (us ++ vs)
add-lengths xs ys us vs e g = omega (arith, e, g, length-append xs ys, length-append us vs)

-- contexts of two walks fit what the two make
fits-joined : (cs ds : Contexts) (p q : Parts) → Fits cs p → Fits ds q → Fits (both cs ds) (joined p q)
unfolding joined
fits-joined cs ds p q h k = (add-lengths cs.occs ds.occs p.occs q.occs h.0 k.0, add-lengths cs.hidden ds.hidden p.hidden q.hidden h.1 k.1)

module _ (context : ℕ → Context) (base : ℕ) where
  -- contexts that agree for two walks agree for each of them
  agrees-left : (s : Counters) (cs ds : Contexts) → Agrees context base s (both cs ds) → Agrees context base s cs
  agrees-left s cs ds h = record {
    occs = from-left (λ n c. context n ≡ c) s.occs cs.occs ds.occs h.occs;
    hidden = from-left (λ n c. context (base + n) ≡ c) s.hidden cs.hidden ds.hidden h.hidden;
  }

  agrees-right : (s : Counters) (p : Parts) (cs ds : Contexts) → Fits cs p → Agrees context base s (both cs ds) → Agrees context base (after s p) ds
  unfolding after
  agrees-right s p cs ds e h = record {
    occs = subst (λ n. AllFrom (λ n c. context n ≡ c) (s.occs + n) ds.occs) e.0 (from-right (λ n c. context n ≡ c) s.occs cs.occs ds.occs h.occs);
    hidden = subst (λ n. AllFrom (λ n c. context (base + n) ≡ c) (s.hidden + n) ds.hidden) e.1 (from-right (λ n c. context (base + n) ≡ c) s.hidden cs.hidden ds.hidden h.hidden);
  }

-- where less is known
pub assigned-known : (base : ℕ) (know : (ℕ → Context) → Type 0) (s : Counters) (p : Parts) (Q : (ℕ → Context) → Type 0) → Assigned base nothing_known s p Q → Assigned base know s p Q
assigned-known base know s p Q a = record { contexts = a.contexts; fits = a.fits; holds = λ context h n. a.holds context h tt }

-- where it follows from what is supposed
pub assigned-supposed : (base : ℕ) (know : (ℕ → Context) → Type 0) (s : Counters) (p : Parts) (R Q : (ℕ → Context) → Type 0) → ((context : ℕ → Context) → R context → know context) → Assigned base know s p (λ context. R context → Q context) → Assigned base nothing_known s p (λ context. R context → Q context)
assigned-supposed base know s p R Q g a = record { contexts = a.contexts; fits = a.fits; holds = λ context h n r. a.holds context h (g context r) r }

module _ (base : ℕ) (know : (ℕ → Context) → Type 0) where
  -- what follows from what holds
  pub assigned-map : (s : Counters) (p : Parts) (Q R : (ℕ → Context) → Type 0) → ((context : ℕ → Context) → Q context → R context) → Assigned base know s p Q → Assigned base know s p R
  assigned-map s p Q R g a = record { contexts = a.contexts; fits = a.fits; holds = λ context h n. g context (a.holds context h n) }

  -- with what is known
  pub assigned-with : (s : Counters) (p : Parts) (Q : (ℕ → Context) → Type 0) → Assigned base know s p Q → Assigned base know s p (λ context. Q context × know context)
  assigned-with s p Q a = record { contexts = a.contexts; fits = a.fits; holds = λ context h n. (a.holds context h n, n) }

  -- of parts one behind the other
  pub assigned-joined : (s : Counters) (p q : Parts) (Q R : (ℕ → Context) → Type 0) → Assigned base know s p Q → Assigned base know (after s p) q R → Assigned base know s (joined p q) (λ context. Q context × R context)
  assigned-joined s p q Q R a b = record {
    contexts = both a.contexts b.contexts;
    fits = fits-joined a.contexts b.contexts p q a.fits b.fits;
    holds = λ context h n. (a.holds context (agrees-left context base s a.contexts b.contexts h) n, b.holds context (agrees-right context base s p a.contexts b.contexts a.fits h) n);
  }

  -- of parts without occurrences
  assigned-none : (s : Counters) (p : Parts) → length p.occs ≡ 0 → length p.hidden ≡ 0 → Assigned base know s p (λ context. Unit {0})
  assigned-none s p e g = record { contexts = record { occs = []; hidden = [] }; fits = (sym e, sym g); holds = λ context h n. tt }

  -- nothing, places and definers have no occurrences
  pub assigned-nothing : (s : Counters) → Assigned base know s nothing (λ context. Unit {0})
  unfolding nothing
  assigned-nothing s = assigned-none s nothing refl refl

  pub assigned-places : (s : Counters) (xs : List PlaceInfo) → Assigned base know s (some_places xs) (λ context. Unit {0})
  unfolding some_places
  assigned-places s xs = assigned-none s (some_places xs) refl refl

  pub assigned-definers : (s : Counters) (xs : List Given) → Assigned base know s (some_definers xs) (λ context. Unit {0})
  unfolding some_definers
  assigned-definers s xs = assigned-none s (some_definers xs) refl refl

  pub assigned-place : (s : Counters) (x : PlaceInfo) → Assigned base know s (one_place x) (λ context. Unit {0})
  unfolding one_place
  assigned-place s x = assigned-none s (one_place x) refl refl

  -- of an occurrence of this context, alone and before others
  pub assigned-occ : (s : Counters) (x : Occ) (c : Context) → Assigned base know s (one_occ x) (λ context. context s.occs ≡ c)
  unfolding one_occ
  assigned-occ s x c = record { contexts = record { occs = c ∷ []; hidden = [] }; fits = (refl, refl); holds = λ context h n. h.occs.0 }

  -- of a hidden occurrence
  pub assigned-hidden : (s : Counters) (x : Occ) (c : Context) → Assigned base know s (one_hidden x) (λ context. context (base + s.hidden) ≡ c)
  unfolding one_hidden
  assigned-hidden s x c = record { contexts = record { occs = []; hidden = c ∷ [] }; fits = (refl, refl); holds = λ context h n. h.hidden.0 }

  module _ (s : Counters) (q : Parts) (Q : (ℕ → Context) → Type 0) where
    -- an occurrence before other parts has its context
    pub assigned-occ_first : (x : Occ) (c : Context) → Assigned base know (past_occ s) q Q → Assigned base know s (joined (one_occ x) q) (λ context. (context s.occs ≡ c) × Q context)
    assigned-occ_first x c a = assigned-joined s (one_occ x) q (λ context. context s.occs ≡ c) Q (assigned-occ s x c) (subst (λ t. Assigned base know t q Q) (sym (after-occ s x)) a)

    -- so has a hidden one
    pub assigned-hidden_first : (x : Occ) (c : Context) → Assigned base know (past_hidden s) q Q → Assigned base know s (joined (one_hidden x) q) (λ context. (context (base + s.hidden) ≡ c) × Q context)
    assigned-hidden_first x c a = assigned-joined s (one_hidden x) q (λ context. context (base + s.hidden) ≡ c) Q (assigned-hidden s x c) (subst (λ t. Assigned base know t q Q) (sym (after-hidden s x)) a)

    -- parts without occurrences before others
    behind-none : (p : Parts) → length p.occs ≡ 0 → length p.hidden ≡ 0 → Assigned base know (after s p) q Q → Assigned base know s (joined p q) Q
    behind-none p e g a = assigned-map s (joined p q) (λ context. Unit {0} × Q context) Q (λ context h. h.1) (assigned-joined s p q (λ context. Unit {0}) Q (assigned-none s p e g) a)

    -- a block, a site, a choice and an automaton before other parts add no context
    pub assigned-block_first : (x : Block) → Assigned base know (past_block s) q Q → Assigned base know s (joined (one_block x) q) Q
    unfolding one_block
    assigned-block_first x a = behind-none (one_block x) refl refl (subst (λ t. Assigned base know t q Q) (sym (after-block s x)) a)

    pub assigned-site_first : (x : SiteInfo) → Assigned base know (past_site s) q Q → Assigned base know s (joined (one_site x) q) Q
    unfolding one_site
    assigned-site_first x a = behind-none (one_site x) refl refl (subst (λ t. Assigned base know t q Q) (sym (after-site s x)) a)

    pub assigned-choice_first : (x : Choice) → Assigned base know (past_choice s) q Q → Assigned base know s (joined (one_choice x) q) Q
    unfolding one_choice
    assigned-choice_first x a = behind-none (one_choice x) refl refl (subst (λ t. Assigned base know t q Q) (sym (after-choice s x)) a)

    pub assigned-automaton_first : (x : Auto) → Assigned base know (past_automaton s) q Q → Assigned base know s (joined (one_automaton x) q) Q
    unfolding one_automaton
    assigned-automaton_first x a = behind-none (one_automaton x) refl refl (subst (λ t. Assigned base know t q Q) (sym (after-automaton s x)) a)

-- ---- uses

-- occurrence number `k`, which is used so, is what this use asks for
pub record UsedSo (f : FlatForm) (context : ℕ → Context) (k : ℕ) (of : Use) : Type 0 where
  pub occ : Occ
  pub is : slice_get f.occs k ≡ Some occ
  pub stands : context k ≡ use_context context (form_in f) (context_of_block (is_hybrid_block f occ.block)) of
  pub equation : IsUseIn (called_context context (context_of_block (is_hybrid_block f occ.block)) (use_call occ.call of)) of
  pub test : IsTestFor (is_hybrid_block f occ.block) of occ.form

-- the parts of occurrence number `n`, which has this form
abbrev pub PartsUsed : FlatForm → (ℕ → Context) → ℕ → Form → Type 0
PartsUsed f context n (If c x y) = UsedSo f context c (PartOf n) × UsedSo f context x (BranchOf n c true) × UsedSo f context y (BranchOf n c false)
PartsUsed f context n form = AllByRecursion (λ k. UsedSo f context k (PartOf n)) (parts form)

-- the place that a `last` names isn't in the copy of a call that is combinatorial with `last`
abbrev pub LastOutside : FlatForm → (ℕ → Context) → ℕ → Type 0
LastOutside f context p = (call : ℕ) → place_call f p ≡ Some call → context call ≡ WithLast → ⊥

-- what is asked of the form of occurrence number `n` beside; an `up` and an event are used
abbrev pub FormFits : FlatForm → (ℕ → Context) → ℕ → Form → Type 0
FormFits f context n (Last p) = LastOutside f context p
FormFits f context n (Up s) = uses_of f n ≡ [] → ⊥
FormFits f context n (Fired ks) = uses_of f n ≡ [] → ⊥
FormFits f context n form = Unit {0}

-- an occurrence is allowed in its context; without a use it has the context of its body; its parts are what it asks for
pub record OccRegular (f : FlatForm) (context : ℕ → Context) (n : ℕ) (occ : Occ) : Type 0 where
  pub allowed : IsAllowed (context n) occ.form
  pub unused : uses_of f n ≡ [] → context n ≡ called_context context (context_of_block (is_hybrid_block f occ.block)) occ.call
  pub parts : PartsUsed f context n occ.form
  pub fits : FormFits f context n occ.form

-- what the reset arms of a `der` name, of which the first has the number `n`; `events` are the events of all
abbrev pub ArmsUsed : FlatForm → (ℕ → Context) → Option ℕ → List ℕ → ℕ → List DerArm → Type 0
ArmsUsed f context call events n [] = Unit {0}
ArmsUsed f context call events n (arm ∷ arms) =
    UsedSo f context arm.event (EventOf call) × UsedSo f context arm.value (ResetOf call events n) × ArmsUsed f context call events (suc n) arms

-- what a definer of a place in the copy of this call names
abbrev pub DefinerUsed : FlatForm → (ℕ → Context) → Option ℕ → Definer → Type 0
DefinerUsed f context call (Input n) = Unit {0}
DefinerUsed f context call (Plain b k) = UsedSo f context k (DefinerOf call)
DefinerUsed f context call (Der b slope resets) = UsedSo f context slope (SlopeOf call) × ArmsUsed f context call (events_of resets) 0 resets
DefinerUsed f context call (Start b k) = UsedSo f context k (StartOf call b)

-- so is what a definer names that is given to a place
abbrev pub GivenUsed : FlatForm → (ℕ → Context) → Given → Type 0
GivenUsed f context g = (place : PlaceInfo) → slice_get f.places g.place ≡ Some place → DefinerUsed f context place.call g.definer

-- so is a test
abbrev pub TestUsed : FlatForm → (ℕ → Context) → ℕ → Type 0
TestUsed f context k = UsedSo f context k TestOf

-- so is the test of a `reset` body
abbrev pub KindUsed : FlatForm → (ℕ → Context) → BlockKind → Type 0
KindUsed f context Main = Unit {0}
KindUsed f context (Arm of arm) = Unit {0}
KindUsed f context (Guard of state) = Unit {0}
KindUsed f context (State of state) = Unit {0}
KindUsed f context (Reset cond) = TestUsed f context cond

-- a site stands in a hybrid block, and its argument marks nothing
pub record SiteRegular (f : FlatForm) (context : ℕ → Context) (site : SiteInfo) : Type 0 where
  pub block : is_hybrid_block f site.block ≡ true
  pub argument : UsedSo f context site.arg ArgumentOf
  pub marks : (occ : Occ) → slice_get f.occs site.arg ≡ Some occ → MarksNothing occ.form

-- the tests of a choice are what it asks for, and in a hybrid block it has no `else`
pub record ChoiceRegular (f : FlatForm) (context : ℕ → Context) (choice : Choice) : Type 0 where
  pub tests : AllByRecursion (TestUsed f context) choice.conds
  pub other : is_hybrid_block f choice.block ≡ true → choice.other ≡ false

-- so is the test of a move, and that of each move of a state
abbrev pub MoveRegular : FlatForm → (ℕ → Context) → AutoMove → Type 0
MoveRegular f context move = TestUsed f context move.cond

abbrev pub MovesRegular : FlatForm → (ℕ → Context) → List AutoMove → Type 0
MovesRegular f context moves = AllByRecursion (MoveRegular f context) moves

-- ---- parts

-- a part is the entry of the form with its number; hidden occurrences are numbered from `base` on; what a definer names
-- is used
abbrev pub lying : FlatForm → ℕ → Laws
lying f base = record {
  blocks = λ n x. slice_get f.blocks n ≡ Some x;
  places = λ n x. IsPlaceAt f n x;
  definers = λ n x. (place : PlaceInfo) (k : ℕ) → slice_get f.places x.place ≡ Some place → uses_of f k ≡ [] → definer_uses k place.call x.definer ≡ [];
  occs = λ n x. slice_get f.occs n ≡ Some x;
  hidden = λ n x. slice_get f.occs (base + n) ≡ Some x;
  sites = λ n x. slice_get f.sites n ≡ Some x;
  choices = λ n x. slice_get f.choices n ≡ Some x;
  automata = λ n x. slice_get f.automata n ≡ Some x;
}

-- a part stands in its context, and what it names in that of its use
abbrev pub regular : FlatForm → ℕ → (ℕ → Context) → Laws
regular f base context = record {
  blocks = λ n x. IsHybridBy f x.hybrid x.parent x.kind × KindUsed f context x.kind;
  places = λ n x. Unit {0};
  definers = λ n x. GivenUsed f context x;
  occs = λ n x. OccRegular f context n x;
  hidden = λ n x. OccRegular f context (base + n) x;
  sites = λ n x. SiteRegular f context x;
  choices = λ n x. ChoiceRegular f context x;
  automata = λ n x. AllByRecursion (MovesRegular f context) x.states;
}

-- these parts are those of the form with the numbers from here on
abbrev pub Lies : FlatForm → ℕ → Counters → Parts → Type 0
Lies f base s p = Each (lying f base) s p

-- these parts stand in their contexts
abbrev pub IsRegularIn : FlatForm → ℕ → (ℕ → Context) → Counters → Parts → Type 0
IsRegularIn f base context s p = Each (regular f base context) s p

-- of definers nothing is said
no-law : (gs : List Given) → AllByRecursion (λ (g : Given). Unit {0}) gs
no-law [] = tt
no-law (g ∷ gs) = (tt, no-law gs)

-- parts that lie in the form sit in it
pub lies-sit : (f : FlatForm) (base : ℕ) (s : Counters) (p : Parts) → Lies f base s p → Sits f base s p
lies-sit f base s p h = record { blocks = h.blocks; places = h.places; definers = no-law p.definers; occs = h.occs; hidden = h.hidden; sites = h.sites; choices = h.choices; automata = h.automata }

-- ---- where a walk stands

-- its block is hybrid or not, as it says
abbrev pub AtBlock : FlatForm → Here → Type 0
AtBlock f here = is_hybrid_block f here.block ≡ here.hybrid

-- the body of the copy in which it stands has this context
abbrev pub BodyIs : FlatForm → (ℕ → Context) → Here → kinds.Context → Type 0
BodyIs f context here c = called_context context (context_of_block here.hybrid) here.call ≡ flat c

-- an occurrence here of this context may have no use
abbrev pub Unused : FlatForm → (ℕ → Context) → Here → kinds.Context → ℕ → Type 0
Unused f context here c k = uses_of f k ≡ [] → flat c ≡ called_context context (context_of_block here.hybrid) here.call

-- occurrence number `k` stands in block `b` and is no event
pub record IsResult (f : FlatForm) (b k : ℕ) : Type 0 where
  pub occ : Occ
  pub is : slice_get f.occs k ≡ Some occ
  pub block : occ.block ≡ b
  pub value : is_event occ.form ≡ false

-- occurrence number `k` stands here and is no event
pub record IsRoot (f : FlatForm) (here : Here) (k : ℕ) : Type 0 where
  pub occ : Occ
  pub is : slice_get f.occs k ≡ Some occ
  pub block : occ.block ≡ here.block
  pub call : occ.call ≡ here.call
  pub value : is_event occ.form ≡ false
  pub marks : MarksNothing occ.form

-- a root is a result
pub root-result : (f : FlatForm) (here : Here) (k : ℕ) → IsRoot f here k → IsResult f here.block k
root-result f here k r = record { occ = r.occ; is = r.is; block = r.block; value = r.value }

-- a block that stands in the form
pub block-at : (f : FlatForm) (b : ℕ) (x : Block) → slice_get f.blocks b ≡ Some x → is_hybrid_block f b ≡ x.hybrid
block-at f b x is = ap is_hybrid_in is
