-- A flat form made of parts that keep types, and what it keeps with that and with what stands where it belongs.
use Rattle.std.proofs.Common.{◌≡◌, ℕ, zero, suc, ◌+◌, ◌<◌, Bool, true, false, if◌then◌else◌, nat_eq, List, [], ◌∷◌, ◌++◌, length, slice_get, Option, Some, None, refl, sym, ap, subst, ◌∙◌, arith}
use Rattle.std.specs.List.{AllByRecursion}
use Rattle.std.proofs.lemmas.Bool.{eqb-true}
use Rattle.zl_value.specs.OperatorTypes.{type_of}
use Rattle.zl_value.specs.declared.value.Ty.{Ty}
use Rattle.zl_value.specs.declared.value.Ty.TheVariants.{Bool as BoolTy, Float, Zero}
use Rattle.zl_meaning.specs.FlatForm.{FlatForm}
use Rattle.zl_meaning.specs.Uses.{parts}
use Rattle.zl_meaning.specs.WellFormed.{Stands, IsBlock, HasBody, IsChoice, IsMove, IsAutomaton, IsResetArm, IsDefiner, IsInCopy, IsPlace, AllStand, IsDeclared, IsForm, IsOccurrence, IsSite, IsAgain, HasHeights, KeepsBranches, IsWellFormed, body_count}
use Rattle.zl_meaning.specs.declared.block.Block.{Block}
use Rattle.zl_meaning.specs.declared.block.BlockKind.{BlockKind}
use Rattle.zl_meaning.specs.declared.block.BlockKind.TheVariants.{Main, Arm, Guard, State, Reset}
use Rattle.zl_meaning.specs.declared.block.Choice.{Choice}
use Rattle.zl_meaning.specs.declared.block.Auto.{Auto}
use Rattle.zl_meaning.specs.declared.block.AutoMove.{AutoMove}
use Rattle.zl_meaning.specs.declared.place.Definer.{Definer}
use Rattle.zl_meaning.specs.declared.place.Definer.TheVariants.{Input, Plain, Der, Start}
use Rattle.zl_meaning.specs.declared.place.DerArm.{DerArm}
use Rattle.zl_meaning.specs.declared.place.PlaceInfo.{PlaceInfo}
use Rattle.zl_meaning.specs.declared.occurrence.Form.{Form}
use Rattle.zl_meaning.specs.declared.occurrence.Form.TheVariants.{Lit, Read, Last, Op as Apply, If, Arrow, Pre, Result, Up, Fired, Step}
use Rattle.zl_meaning.specs.declared.occurrence.Occ.{Occ}
use Rattle.zl_meaning.specs.declared.occurrence.SiteInfo.{SiteInfo}
use Rattle.zl_flat.specs.declared.given.Given.{Given}
use Rattle.zl_flat.specs.Parts.{Parts, start}
use Rattle.zl_flat.specs.Expansion.{definers_of, with_definers, defined_places, form_of}
use Rattle.zl_flat.proofs.WellFormedParts.{AllFrom, from-append, all-stand}
use Rattle.zl_flat.proofs.WellFormedGround.{StandsIn, HasSite, OccurrenceStands, SiteStands, PlaceStands, ChoiceStands, StateStands, AutomatonStands, ArmStands, DefinerStands, BlockStands}
use Rattle.zl_flat.proofs.WellFormedForm.{FormStands, from-get}
use Rattle.zl_flat.proofs.WellFormedReadsMain.{DefinerWithin}
use Rattle.zl_flat.proofs.WellFormedTypes.{OfType, AllOfType, FormTyped, OccurrenceTyped, ArmTyped, DefinerTyped, GivenTyped, BlockTyped, StateTyped, AutomatonTyped, KeepsTypes}

-- what a flat form keeps of types
pub record FormTypes (f : FlatForm) : Type 0 where
  pub blocks : (b : ℕ) (block : Block) → slice_get f.blocks b ≡ Some block → BlockTyped f block.kind
  pub choices : (n : ℕ) (choice : Choice) → slice_get f.choices n ≡ Some choice → AllByRecursion (OfType f BoolTy) choice.conds
  pub automata : (n : ℕ) (auto : Auto) → slice_get f.automata n ≡ Some auto → AutomatonTyped f auto
  pub places : (p : ℕ) (place : PlaceInfo) → slice_get f.places p ≡ Some place → place.ty ≡ Zero → ⊥
  pub definers : (p : ℕ) (place : PlaceInfo) → slice_get f.places p ≡ Some place → AllByRecursion (DefinerTyped f place.ty) place.definers
  pub occs : (k : ℕ) (occ : Occ) → slice_get f.occs k ≡ Some occ → OccurrenceTyped f occ
  pub sites : (s : ℕ) (site : SiteInfo) → slice_get f.sites s ≡ Some site → OfType f Float site.arg

-- ---- lists

-- what holds of each entry with its number, for one number
from-zero : {X : Type 0} (P : ℕ → X → Type 0) (xs : List X) → AllFrom P 0 xs → (k : ℕ) (x : X) → slice_get xs k ≡ Some x → P k x
from-zero P xs h k x is = subst (λ m. P m x) (none_more k) (from-get P 0 xs h k x is)
  where
    none_more : (k : ℕ) → 0 + k ≡ k
    none_more k = omega arith

-- what does not speak of the number holds from any number on
from-any : {X : Type 0} (P : X → Type 0) (n m : ℕ) (xs : List X) → AllFrom (λ j x. P x) n xs → AllFrom (λ j x. P x) m xs
from-any P n m [] h = tt
from-any P n m (x ∷ xs) h = (h.0, from-any P (n + 1) (m + 1) xs h.1)

-- ---- the parts of a form

-- the definers that were given to the place with this number, which has this type
definers-typed : (f : FlatForm) (p : ℕ) (place : PlaceInfo) (gs : List Given) → slice_get f.places p ≡ Some place → AllByRecursion (GivenTyped f) gs → AllByRecursion (DefinerTyped f place.ty) (definers_of p gs)
definers-typed f p place [] is h = tt
definers-typed f p place (g ∷ gs) is h = by_equal (nat_eq g.place p) refl (definers-typed f p place gs is h.1)
  where
    same : (x y : PlaceInfo) → Some x ≡ Some y → x.ty ≡ y.ty
    same x y e = cc

    own : GivenTyped f g → g.place ≡ p → DefinerTyped f place.ty g.definer
    own a e = let b = a.place in subst (λ t. DefinerTyped f t g.definer) (sym b.typed ∙ same b.place place (sym b.is ∙ ap (slice_get f.places) e ∙ is)) a.definer

    by_equal : (b : Bool) → nat_eq g.place p ≡ b → AllByRecursion (DefinerTyped f place.ty) (definers_of p gs) → AllByRecursion (DefinerTyped f place.ty) (if b then g.definer ∷ definers_of p gs else definers_of p gs)
    by_equal true e more = (own h.0 (eqb-true g.place p e), more)
    by_equal false e more = more

-- places keep the types of what was given to them
places-typed : (f : FlatForm) (gs : List Given) (n : ℕ) (xs : List PlaceInfo) → AllByRecursion (GivenTyped f) gs → AllFrom (λ m x. slice_get f.places m ≡ Some x) n (defined_places gs n xs) → AllFrom (λ m (x : PlaceInfo). x.ty ≡ Zero → ⊥) n xs →
    AllFrom (λ m (x : PlaceInfo). (x.ty ≡ Zero → ⊥) × AllByRecursion (DefinerTyped f x.ty) x.definers) n (defined_places gs n xs)
places-typed f gs n [] h is k = tt
places-typed f gs n (x ∷ xs) h is k = ((k.0, definers-typed f n (with_definers x (definers_of n gs)) gs is.0 h), places-typed f gs (n + 1) xs h is.1 k.1)

-- a form of parts that keep types keeps them
pub form-types : (p : Parts) (ins outs : List ℕ) → KeepsTypes (form_of p ins outs) start p → FormTypes (form_of p ins outs)
form-types p ins outs h =
    let f = form_of p ins outs in
    let places = places-typed f p.definers 0 p.places h.definers (all-stand [] (defined_places p.definers 0 p.places)) h.places in
    record {
      blocks = λ b x is. from-zero (λ n (y : Block). BlockTyped f y.kind) p.blocks h.blocks b x is;
      choices = λ n x is. from-zero (λ m (y : Choice). AllByRecursion (OfType f BoolTy) y.conds) p.choices h.choices n x is;
      automata = λ n x is. from-zero (λ m (y : Auto). AutomatonTyped f y) p.automata h.automata n x is;
      places = λ n x is. (from-zero (λ m (y : PlaceInfo). (y.ty ≡ Zero → ⊥) × AllByRecursion (DefinerTyped f y.ty) y.definers) f.places places n x is).0;
      definers = λ n x is. (from-zero (λ m (y : PlaceInfo). (y.ty ≡ Zero → ⊥) × AllByRecursion (DefinerTyped f y.ty) y.definers) f.places places n x is).1;
      occs = λ n x is. from-zero (λ m (y : Occ). OccurrenceTyped f y) (p.occs ++ p.hidden)
          (from-append (λ m (y : Occ). OccurrenceTyped f y) 0 p.occs p.hidden h.occs (from-any (OccurrenceTyped f) 0 (0 + length p.occs) p.hidden h.hidden)) n x is;
      sites = λ n x is. from-zero (λ m (y : SiteInfo). OfType f Float y.arg) p.sites h.sites n x is;
    }

-- ---- with what stands where it belongs

-- what stands in a block and has a type stands there with it
stands : (f : FlatForm) (b k : ℕ) (ty : Ty) → StandsIn f b k → OfType f ty k → Stands f b ty k
stands f b k ty h t = record { occ = h.occ; is = h.is; block = h.block; typed = same h.occ t.occ (sym h.is ∙ t.is) ∙ t.typed }
  where
    same : (x y : Occ) → Some x ≡ Some y → x.ty ≡ y.ty
    same x y e = cc

-- so do all of these
all-of : (f : FlatForm) (b : ℕ) (ty : Ty) (ks : List ℕ) → AllByRecursion (StandsIn f b) ks → AllByRecursion (OfType f ty) ks → AllByRecursion (Stands f b ty) ks
all-of f b ty [] h t = tt
all-of f b ty (k ∷ ks) h t = (stands f b k ty h.0 t.0, all-of f b ty ks h.1 t.1)

-- so do the operands of an operator
operands-stand : (f : FlatForm) (b : ℕ) (tys : List Ty) (ks : List ℕ) → AllByRecursion (StandsIn f b) ks → AllOfType f tys ks → AllStand f b tys ks
operands-stand f b [] [] h t = tt
operands-stand f b [] (k ∷ ks) h t = absurd t
operands-stand f b (ty ∷ tys) [] h t = absurd t
operands-stand f b (ty ∷ tys) (k ∷ ks) h t = (stands f b k ty h.0 t.0, operands-stand f b tys ks h.1 t.1)

-- a `last` that stands in block `b` is of a place that is declared there or around it
abbrev pub LastDeclared : FlatForm → ℕ → Form → Type 0
LastDeclared f b (Last p) = IsDeclared f b p
LastDeclared f b _ = Unit {0}

-- the parts of an occurrence stand in its block, with types that agree with its own
form-is : (f : FlatForm) (b : ℕ) (ty : Ty) (form : Form) → AllByRecursion (StandsIn f b) (parts form) → HasSite f b form → FormTyped f ty form → LastDeclared f b form → IsForm f b ty form
form-is f b ty (Lit v) h site t d = t
form-is f b ty (Read p) h site t d = t
form-is f b ty (Last p) h site t d = (t, d)
form-is f b ty (Apply op ks) h site t d = (operands-stand f b (type_of op).operands ks h t.0, t.1)
form-is f b ty (If c x y) h site t d = (stands f b c BoolTy h.0 t.0, stands f b x ty h.1.0 t.1, stands f b y ty h.1.1.0 t.2)
form-is f b ty (Arrow x y) h site t d = (stands f b x ty h.0 t.0, stands f b y ty h.1.0 t.1)
form-is f b ty (Pre x) h site t d = stands f b x ty h.0 t
form-is f b ty (Result x) h site t d = stands f b x ty h.0 t
form-is f b ty (Up s) h site t d = (site.0, site.1, site.2, t)
form-is f b ty (Fired ks) h site t d = (all-of f b Zero ks h t.0, t.1)
form-is f b ty Step h site t d = t

-- an occurrence that stands and is typed
pub occurrence-is : (f : FlatForm) (occ : Occ) → OccurrenceStands f occ → OccurrenceTyped f occ → LastDeclared f occ.block occ.form → IsOccurrence f occ
occurrence-is f occ h t d = record { block = h.block; call = h.call; form = form-is f occ.block occ.ty occ.form h.parts h.site t.form d; crossing = t.crossing }

-- a site that stands, of a float
pub site-is : (f : FlatForm) (site : SiteInfo) → SiteStands f site → OfType f Float site.arg → IsSite f site
site-is f site h t = record { block = h.block; argument = stands f site.block site.arg Float h.argument t }

-- a block that stands, whose test is bool if it is a reset
pub block-is : (f : FlatForm) (b : ℕ) (parent : Option ℕ) (kind : BlockKind) → BlockStands f b parent kind → BlockTyped f kind → IsBlock f b parent kind
block-is f b None Main h t = h
block-is f b None (Arm of arm) h t = h
block-is f b None (Guard of state) h t = h
block-is f b None (State of state) h t = h
block-is f b None (Reset cond) h t = h
block-is f b (Some parent) Main h t = h
block-is f b (Some parent) (Arm of arm) h t = h
block-is f b (Some parent) (Guard of state) h t = h
block-is f b (Some parent) (State of state) h t = h
block-is f b (Some parent) (Reset cond) h t = (h.0, stands f parent cond BoolTy h.1 t)

-- a choice that stands, whose tests are bool
pub choice-is : (f : FlatForm) (n : ℕ) (choice : Choice) → ChoiceStands f n choice → AllByRecursion (OfType f BoolTy) choice.conds → ((arm : ℕ) → arm < body_count choice → HasBody f (Arm n arm)) → IsChoice f n choice
choice-is f n choice h t bodies = record { block = h.block; tests = all-of f choice.block BoolTy choice.conds h.tests t; bodies = bodies }

-- moves that stand, whose tests are bool
moves-are : (f : FlatForm) (auto : Auto) (n state : ℕ) (moves : List AutoMove) → StateStands f (length auto.states) n state moves → StateTyped f moves → AllByRecursion (IsMove f auto n state) moves
moves-are f auto n state [] h t = tt
moves-are f auto n state (m ∷ ms) h t = let a = h.0 in (record { target = a.target; block = a.block; is = a.is; test = stands f a.block m.cond BoolTy a.test t.0 }, moves-are f auto n state ms h.1 t.1)

-- what holds of all holds of one of them
all-get : {X : Type 0} (P : X → Type 0) (xs : List X) → AllByRecursion P xs → (k : ℕ) (x : X) → slice_get xs k ≡ Some x → P x
all-get P [] h k x is = absurd (cc)
all-get {X = X} P (y ∷ ys) h zero x is = subst P (same y x is) h.0
  where
    same : (y x : X) → Some y ≡ Some x → y ≡ x
    same y x e = cc
all-get P (y ∷ ys) h (suc k) x is = all-get P ys h.1 k x is

-- an automaton that stands and has a state, whose tests are bool
pub automaton-is : (f : FlatForm) (n : ℕ) (auto : Auto) → AutomatonStands f n auto → AutomatonTyped f auto → ((state : ℕ) → state < length auto.states → HasBody f (Guard n state)) → ((state : ℕ) → state < length auto.states → HasBody f (State n state)) → IsAutomaton f n auto
automaton-is f n auto h t guards bodies = record {
  block = h.block;
  some = t.some;
  moves = λ state moves is. moves-are f auto n state moves (from-zero (StateStands f (length auto.states) n) auto.states h.states state moves is) (all-get (StateTyped f) auto.states t.states state moves is);
  guards = guards;
  bodies = bodies;
}

-- reset arms that stand and are typed
resets-are : (f : FlatForm) (b : ℕ) (arms : List DerArm) → AllByRecursion (ArmStands f b) arms → AllByRecursion (ArmTyped f) arms → AllByRecursion (IsResetArm f b) arms
resets-are f b [] h t = tt
resets-are f b (arm ∷ arms) h t = let a = h.0 in let c = t.0 in ((stands f b arm.event BoolTy a.0 c.0, stands f b arm.value Float a.1 c.1), resets-are f b arms h.1 t.1)

-- a definer that stands and is typed
definer-is : (f : FlatForm) (p : ℕ) (place : PlaceInfo) (d : Definer) → DefinerStands f d → DefinerTyped f place.ty d → DefinerWithin f p place d → IsDefiner f p place d
definer-is f p place (Input n) h t w = w
definer-is f p place (Plain b k) h t w = (w, stands f b k place.ty h t)
definer-is f p place (Der b slope resets) h t w = (w, t.0, stands f b slope Float h.0 t.1, resets-are f b resets h.1 t.2)
definer-is f p place (Start b k) h t w = (w, stands f b k place.ty h t)

-- definers that stand and are typed
definers-are : (f : FlatForm) (p : ℕ) (place : PlaceInfo) (ds : List Definer) → AllByRecursion (DefinerStands f) ds → AllByRecursion (DefinerTyped f place.ty) ds → AllByRecursion (DefinerWithin f p place) ds → AllByRecursion (IsDefiner f p place) ds
definers-are f p place [] h t w = tt
definers-are f p place (d ∷ ds) h t w = (definer-is f p place d h.0 t.0 w.0, definers-are f p place ds h.1 t.1 w.1)

-- a place that stands, and whose definers stand and are typed
pub place-is : (f : FlatForm) (p : ℕ) (place : PlaceInfo) → PlaceStands f place → (place.ty ≡ Zero → ⊥) → AllByRecursion (DefinerStands f) place.definers → AllByRecursion (DefinerTyped f place.ty) place.definers → AllByRecursion (DefinerWithin f p place) place.definers → AllByRecursion (IsInCopy f place.call) place.definers → IsPlace f p place
place-is f p place h z ds ts ws cs = record { block = h.block; call = h.call; value = z; definers = definers-are f p place place.definers ds ts ws; copies = cs }

-- ---- the fields of a well-formed form

module _ (f : FlatForm) (h : FormStands f) (t : FormTypes f) where
  -- the blocks of the form
  pub blocks-are : (b : ℕ) (block : Block) → slice_get f.blocks b ≡ Some block → IsBlock f b block.parent block.kind
  blocks-are b block is = block-is f b block.parent block.kind (h.blocks b block is) (t.blocks b block is)

  -- the sites of the form
  pub sites-are : (s : ℕ) (site : SiteInfo) → slice_get f.sites s ≡ Some site → IsSite f site
  sites-are s site is = site-is f site (h.sites s site is) (t.sites s site is)

  -- the occurrences of the form, where each `last` is of a place that is declared around it
  pub occs-are : ((k : ℕ) (occ : Occ) → slice_get f.occs k ≡ Some occ → LastDeclared f occ.block occ.form) → (k : ℕ) (occ : Occ) → slice_get f.occs k ≡ Some occ → IsOccurrence f occ
  occs-are d k occ is = occurrence-is f occ (h.occs k occ is) (t.occs k occ is) (d k occ is)

  -- the choices of the form, where each of their bodies is there once
  pub choices-are : ((n : ℕ) (choice : Choice) → slice_get f.choices n ≡ Some choice → (arm : ℕ) → arm < body_count choice → HasBody f (Arm n arm)) → (n : ℕ) (choice : Choice) → slice_get f.choices n ≡ Some choice → IsChoice f n choice
  choices-are bodies n choice is = choice-is f n choice (h.choices n choice is) (t.choices n choice is) (bodies n choice is)

  -- the automata of the form, where each of their guards and bodies is there once
  pub automata-are : ((n : ℕ) (auto : Auto) → slice_get f.automata n ≡ Some auto → (state : ℕ) → state < length auto.states → HasBody f (Guard n state)) →
      ((n : ℕ) (auto : Auto) → slice_get f.automata n ≡ Some auto → (state : ℕ) → state < length auto.states → HasBody f (State n state)) → (n : ℕ) (auto : Auto) → slice_get f.automata n ≡ Some auto → IsAutomaton f n auto
  automata-are guards bodies n auto is = automaton-is f n auto (h.automata n auto is) (t.automata n auto is) (guards n auto is) (bodies n auto is)

  -- the places of the form, where their definers stand in the places' blocks, and what these name in the places' copies
  pub places-are : ((p : ℕ) (place : PlaceInfo) → slice_get f.places p ≡ Some place → AllByRecursion (DefinerWithin f p place) place.definers) →
      ((p : ℕ) (place : PlaceInfo) → slice_get f.places p ≡ Some place → AllByRecursion (IsInCopy f place.call) place.definers) → (p : ℕ) (place : PlaceInfo) → slice_get f.places p ≡ Some place → IsPlace f p place
  places-are within copies p place is = place-is f p place (h.places p place is) (t.places p place is) (h.definers p place is) (t.definers p place is) (within p place is) (copies p place is)

-- What is left to ask of a flat form whose parts stand and are typed: that each body is there once, that what a `last` and a
-- definer name is declared where they stand, that what a definer names stands in its place's copy, and the fields that speak
-- of the whole form.
pub record IsWellFormedBut (f : FlatForm) : Type 0 where
  pub main : 0 < length f.blocks
  pub arms : (n : ℕ) (choice : Choice) → slice_get f.choices n ≡ Some choice → (arm : ℕ) → arm < body_count choice → HasBody f (Arm n arm)
  pub guards : (n : ℕ) (auto : Auto) → slice_get f.automata n ≡ Some auto → (state : ℕ) → state < length auto.states → HasBody f (Guard n state)
  pub states : (n : ℕ) (auto : Auto) → slice_get f.automata n ≡ Some auto → (state : ℕ) → state < length auto.states → HasBody f (State n state)
  pub lasts : (k : ℕ) (occ : Occ) → slice_get f.occs k ≡ Some occ → LastDeclared f occ.block occ.form
  pub definers : (p : ℕ) (place : PlaceInfo) → slice_get f.places p ≡ Some place → AllByRecursion (DefinerWithin f p place) place.definers
  pub copies : (p : ℕ) (place : PlaceInfo) → slice_get f.places p ≡ Some place → AllByRecursion (IsInCopy f place.call) place.definers
  pub again : AllByRecursion (IsAgain f) f.again
  pub ins : AllByRecursion (λ p. p < length f.places) f.ins
  pub outs : AllByRecursion (λ p. p < length f.places) f.outs
  pub heights : HasHeights f
  pub branches : KeepsBranches f

-- a form whose parts stand and are typed, and that keeps the rest, is well-formed
pub well-formed : (f : FlatForm) → FormStands f → FormTypes f → IsWellFormedBut f → IsWellFormed f
well-formed f h t r = record {
  main = r.main;
  blocks = blocks-are f h t;
  choices = choices-are f h t r.arms;
  automata = automata-are f h t r.guards r.states;
  places = places-are f h t r.definers r.copies;
  occs = occs-are f h t r.lasts;
  sites = sites-are f h t;
  again = r.again;
  ins = r.ins;
  outs = r.outs;
  heights = r.heights;
  branches = r.branches;
}
