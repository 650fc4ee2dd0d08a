-- A flat form made of parts that stand in their contexts is regular.
use Rattle.std.proofs.Common.{◌≡◌, ℕ, zero, suc, ◌+◌, Bool, true, false, if◌then◌else◌, nat_eq, List, [], ◌∷◌, ◌++◌, length, slice_get, Option, Some, refl, sym, subst, ◌∙◌, arith}
use Rattle.std.specs.List.{AllByRecursion, flat_map}
use Rattle.std.proofs.lemmas.Bool.{eqb-true, eq-eqb}
use Rattle.zl_value.specs.Lists.{Has}
use Rattle.zl_meaning.specs.FlatForm.{FlatForm}
use Rattle.zl_meaning.specs.Uses.{Use, ArgumentOf, definer_uses, uses_of}
use Rattle.zl_meaning.specs.Copies.{KeepsCopies}
use Rattle.zl_meaning.specs.Regular.{Context, Plainly, context_of_block, is_hybrid_block, IsHybridBy, called_context, use_context, form_in, IsUseIn, use_call, IsTestFor, is_value, IsRegular}
use Rattle.zl_meaning.specs.declared.block.Block.{Block}
use Rattle.zl_meaning.specs.declared.block.Choice.{Choice}
use Rattle.zl_meaning.specs.declared.block.Auto.{Auto}
use Rattle.zl_meaning.specs.declared.place.Definer.{Definer}
use Rattle.zl_meaning.specs.declared.place.PlaceInfo.{PlaceInfo}
use Rattle.zl_meaning.specs.declared.occurrence.Form.{Form}
use Rattle.zl_meaning.specs.declared.occurrence.Form.TheVariants.{Lit, Read, Last, Op as Apply, If, Arrow, Pre, Result, Up, Fired, Step}
use Rattle.zl_meaning.specs.declared.occurrence.Occ.{Occ}
use Rattle.zl_meaning.specs.declared.occurrence.SiteInfo.{SiteInfo}
use Rattle.zl_flat.specs.declared.given.Given.{Given}
use Rattle.zl_flat.specs.Parts.{Parts, start}
use Rattle.zl_flat.specs.Expansion.{definers_of, with_definers, defined_places, form_of}
use Rattle.zl_flat.proofs.WellFormedParts.{AllFrom, from-append, from-left, from-right, all-stand}
use Rattle.zl_flat.proofs.RulesKept.{none-left, none-right}
use Rattle.zl_meaning.proofs.UseCases.{listed-of-use}
use Rattle.zl_flat.proofs.WellFormedForm.{parts-sit, from-get}
use Rattle.zl_flat.proofs.UsesNamed.{unused-listed}
use Rattle.zl_flat.proofs.UsesBranches.{HasContexts}
use Rattle.zl_flat.proofs.RegularGround.{Contexts, Fits, Agrees, UsedSo, PartsUsed, FormFits, OccRegular, DefinerUsed, GivenUsed, TestUsed, KindUsed, SiteRegular, ChoiceRegular, MovesRegular, Lies, IsRegularIn}
use Rattle.zl_flat.proofs.RegularUses.{all-map, Free, no-definer, PlaceUsed, EntriesUsed, uses-used}

-- ---- lists

-- what holds of each entry holds of the one with this number
at-number : {X : Type 0} (P : ℕ → X → Type 0) (xs : List X) → AllFrom P 0 xs → (k : ℕ) (x : X) → slice_get xs k ≡ Some x → P k x
at-number P xs h k x is = subst (λ m. P m x) (none_more k) (from-get P 0 xs h k x is)
  where
    none_more : (k : ℕ) → 0 + k ≡ k
    none_more k = omega arith

-- what follows from what holds of each
from-map : {X : Type 0} (P Q : ℕ → X → Type 0) → ((n : ℕ) (x : X) → P n x → Q n x) → (n : ℕ) (xs : List X) → AllFrom P n xs → AllFrom Q n xs
from-map P Q g n [] h = tt
from-map P Q g n (x ∷ xs) h = (g n x h.0, from-map P Q g (n + 1) xs h.1)

-- what holds of each, whatever its number
numbers-aside : {X : Type 0} (P : X → Type 0) (Q : ℕ → X → Type 0) → ((n : ℕ) (x : X) → Q n x → P x) → (n : ℕ) (xs : List X) → AllFrom Q n xs → AllByRecursion P xs
numbers-aside P Q g n [] h = tt
numbers-aside P Q g n (x ∷ xs) h = (g n x h.0, numbers-aside P Q g (n + 1) xs h.1)

-- numbers that begin behind others
from-behind : {X : Type 0} (P : ℕ → X → Type 0) (m n : ℕ) (xs : List X) → AllFrom (λ j x. P (m + j) x) n xs → AllFrom P (m + n) xs
from-behind P m n [] h = tt
from-behind P m n (x ∷ xs) h = (h.0, subst (λ j. AllFrom P j xs) (one_more m n) (from-behind P m (n + 1) xs h.1))
  where
    one_more : (m n : ℕ) → m + (n + 1) ≡ m + n + 1
    one_more m n = omega arith

-- an entry that is found twice is one
same-entry : {X : Type 0} (x y : X) → Some x ≡ Some y → x ≡ y
same-entry x y e = cc

-- what holds of each holds of one that is found
all-get : {X : Type 0} (P : X → Type 0) (xs : List X) → AllByRecursion P xs → (n : ℕ) (x : X) → slice_get xs n ≡ Some x → P x
all-get P [] h n x is = absurd (cc)
all-get P (y ∷ ys) h zero x is = subst P (same-entry y x is) h.0
all-get P (y ∷ ys) h (suc n) x is = all-get P ys h.1 n x is

-- ---- definers

-- a definer that is given to a place is one of the place's
given-named : (gs : List Given) → AllByRecursion (λ (g : Given). (p k : ℕ) (call : Option ℕ) → g.place ≡ p → flat_map (definer_uses k call) (definers_of p gs) ≡ [] → definer_uses k call g.definer ≡ []) gs
given-named [] = tt
given-named (g ∷ gs) = (
  λ p k call e h. by_equal p k call (nat_eq g.place p) (eq-eqb g.place p e) h,
  all-map (λ (x : Given). (p k : ℕ) (call : Option ℕ) → x.place ≡ p → flat_map (definer_uses k call) (definers_of p gs) ≡ [] → definer_uses k call x.definer ≡ [])
      (λ (x : Given). (p k : ℕ) (call : Option ℕ) → x.place ≡ p → flat_map (definer_uses k call) (definers_of p (g ∷ gs)) ≡ [] → definer_uses k call x.definer ≡ [])
      (λ x more p k call e h. more p k call e (later p k call (nat_eq g.place p) h)) gs (given-named gs),
)
  where
    by_equal : (p k : ℕ) (call : Option ℕ) (b : Bool) → b ≡ true → flat_map (definer_uses k call) (if b then g.definer ∷ definers_of p gs else definers_of p gs) ≡ [] → definer_uses k call g.definer ≡ []
    by_equal p k call true e h = none-left (definer_uses k call g.definer) (flat_map (definer_uses k call) (definers_of p gs)) h
    by_equal p k call false e h = absurd (cc)

    later : (p k : ℕ) (call : Option ℕ) (b : Bool) → flat_map (definer_uses k call) (if b then g.definer ∷ definers_of p gs else definers_of p gs) ≡ [] → flat_map (definer_uses k call) (definers_of p gs) ≡ []
    later p k call true h = none-right (definer_uses k call g.definer) (flat_map (definer_uses k call) (definers_of p gs)) h
    later p k call false h = h

-- the places of a form have the definers that were given to them
have-definers : (gs : List Given) (n : ℕ) (xs : List PlaceInfo) → AllFrom (λ m (x : PlaceInfo). x.definers ≡ definers_of m gs) n (defined_places gs n xs)
have-definers gs n [] = tt
have-definers gs n (x ∷ xs) = (refl, have-definers gs (n + 1) xs)

-- what is given to a place is asked for its call
definers-used : (f : FlatForm) (context : ℕ → Context) (n : ℕ) (place : PlaceInfo) → slice_get f.places n ≡ Some place → (gs : List Given) → AllByRecursion (GivenUsed f context) gs → AllByRecursion (DefinerUsed f context place.call) (definers_of n gs)
definers-used f context n place is [] h = tt
definers-used f context n place is (g ∷ gs) h = by_equal (nat_eq g.place n) refl (definers-used f context n place is gs h.1)
  where
    by_equal : (b : Bool) → nat_eq g.place n ≡ b → AllByRecursion (DefinerUsed f context place.call) (definers_of n gs) → AllByRecursion (DefinerUsed f context place.call) (if b then g.definer ∷ definers_of n gs else definers_of n gs)
    by_equal true e more = (h.0 place (subst (λ m. slice_get f.places m ≡ Some place) (sym (eqb-true g.place n e)) is), more)
    by_equal false e more = more

-- so of all places
places-used : (f : FlatForm) (context : ℕ → Context) (k : ℕ) (gs : List Given) → AllByRecursion (GivenUsed f context) gs → (n : ℕ) (xs : List PlaceInfo) → AllFrom (λ m x. slice_get f.places m ≡ Some x) n (defined_places gs n xs) → AllByRecursion (PlaceUsed f context k) (defined_places gs n xs)
places-used f context k gs h n [] stand = tt
places-used f context k gs h n (x ∷ xs) stand = (definers-used f context n (with_definers x (definers_of n gs)) stand.0 gs h, places-used f context k gs h (n + 1) xs stand.1)

-- ---- the form

module _ (p : Parts) (ins outs : List ℕ) where
  -- the parts are the entries of the form, and what their definers name is used
  pub parts-lie : (base : ℕ) → base ≡ length p.occs → Lies (form_of p ins outs) base start p
  parts-lie base e =
      let f = form_of p ins outs in
      let sits = parts-sit p ins outs base e in
      record {
        blocks = sits.blocks;
        places = sits.places;
        definers = all-map (λ (g : Given). (n k : ℕ) (call : Option ℕ) → g.place ≡ n → flat_map (definer_uses k call) (definers_of n p.definers) ≡ [] → definer_uses k call g.definer ≡ [])
            (λ (g : Given). (place : PlaceInfo) (k : ℕ) → slice_get f.places g.place ≡ Some place → Free f k → definer_uses k place.call g.definer ≡ [])
            (λ g named place k is free. named g.place k place.call refl
            (subst (λ (ds : List Definer). flat_map (definer_uses k place.call) ds ≡ []) (at-number (λ m (x : PlaceInfo). x.definers ≡ definers_of m p.definers) f.places (have-definers p.definers 0 p.places) g.place place is) (no-definer f k free g.place place is)))
            p.definers (given-named p.definers);
        occs = sits.occs;
        hidden = sits.hidden;
        sites = sits.sites;
        choices = sits.choices;
        automata = sits.automata;
      }

  module _ (base : ℕ) (context : ℕ → Context) (h : IsRegularIn (form_of p ins outs) base context start p) (e : base ≡ length p.occs) where
    -- the form that these parts make
    abbrev f : FlatForm
    f = form_of p ins outs

    -- its occurrences, hidden ones behind the others
    all-occs : AllFrom (OccRegular f context) 0 f.occs
    all-occs = from-append (OccRegular f context) 0 p.occs p.hidden h.occs
        (subst (λ n. AllFrom (OccRegular f context) n p.hidden) (behind base (length p.occs) e) (from-behind (OccRegular f context) base 0 p.hidden h.hidden))
      where
        behind : (base n : ℕ) → base ≡ n → base + 0 ≡ 0 + n
        behind base n e = omega (arith, e)

    -- its entries ask for what they name
    entries-used : (k : ℕ) → EntriesUsed f context k
    entries-used k = record {
      occs = from-map (OccRegular f context) (λ j (x : Occ). PartsUsed f context j x.form) (λ n x r. r.parts) 0 f.occs all-occs;
      places = places-used f context k p.definers h.definers 0 p.places (all-stand [] f.places);
      blocks = numbers-aside (λ (x : Block). KindUsed f context x.kind) (λ n (x : Block). IsHybridBy f x.hybrid x.parent x.kind × KindUsed f context x.kind) (λ n x r. r.1) 0 p.blocks h.blocks;
      choices = numbers-aside (λ (x : Choice). AllByRecursion (TestUsed f context) x.conds) (λ n x. ChoiceRegular f context x) (λ n x r. r.tests) 0 p.choices h.choices;
      automata = numbers-aside (λ (x : Auto). AllByRecursion (MovesRegular f context) x.states) (λ n (x : Auto). AllByRecursion (MovesRegular f context) x.states) (λ n x r. r) 0 p.automata h.automata;
      sites = numbers-aside (λ (x : SiteInfo). UsedSo f context x.arg ArgumentOf) (λ n x. SiteRegular f context x) (λ n x r. r.argument) 0 p.sites h.sites;
      again = refl;
    }

    -- what holds of an occurrence that is used so
    record FitsUse (k : ℕ) (occ : Occ) (of : Use) : Type 0 where
      pub stands : context k ≡ use_context context (form_in f) (context_of_block (is_hybrid_block f occ.block)) of
      pub equation : IsUseIn (called_context context (context_of_block (is_hybrid_block f occ.block)) (use_call occ.call of)) of
      pub test : IsTestFor (is_hybrid_block f occ.block) of occ.form

    -- the occurrence that is found is the one that is used
    fits-use : (k : ℕ) (occ : Occ) (of : Use) → slice_get f.occs k ≡ Some occ → UsedSo f context k of → FitsUse k occ of
    fits-use k occ of is u = subst (λ (o : Occ). FitsUse k o of) (same-entry u.occ occ (sym u.is ∙ is)) (record { stands = u.stands; equation = u.equation; test = u.test })

    -- each use of an occurrence is met
    each-use : (k : ℕ) (occ : Occ) → slice_get f.occs k ≡ Some occ → (of : Use) → Has (uses_of f k) of → FitsUse k occ of
    each-use k occ is of has = fits-use k occ of is (all-get (UsedSo f context k) (uses_of f k) (uses-used f context k (entries-used k)) has.index of has.is)

    -- an occurrence and a site by number
    occ-at : (k : ℕ) (occ : Occ) → slice_get f.occs k ≡ Some occ → OccRegular f context k occ
    occ-at k occ is = at-number (OccRegular f context) f.occs all-occs k occ is

    site-at : (n : ℕ) (site : SiteInfo) → slice_get f.sites n ≡ Some site → SiteRegular f context site
    site-at n site is = at-number (λ n x. SiteRegular f context x) p.sites h.sites n site is

    -- what no use names has a value
    unused-value : (k : ℕ) (form : Form) → FormFits f context k form → uses_of f k ≡ [] → is_value form ≡ true
    unused-value k (Up s) h free = absurd (h free)
    unused-value k (Fired ks) h free = absurd (h free)
    unused-value k (Lit v) h free = refl
    unused-value k (Read p) h free = refl
    unused-value k (Last p) h free = refl
    unused-value k (Apply op ks) h free = refl
    unused-value k (If c x y) h free = refl
    unused-value k (Arrow x y) h free = refl
    unused-value k (Pre x) h free = refl
    unused-value k (Result x) h free = refl
    unused-value k Step h free = refl

    -- its occurrences have these contexts
    pub form-contexts : HasContexts f
    form-contexts = record {
      context = context;
      occs = λ k occ is. record {
        allowed = (occ-at k occ is).allowed;
        unused = λ unused. (occ-at k occ is).unused (unused-listed f k unused);
        unused_form = λ unused. unused-value k occ.form (occ-at k occ is).fits (unused-listed f k unused);
        contexts = λ of used. (each-use k occ is of (listed-of-use f k of used)).stands;
        equations = λ of used. (each-use k occ is of (listed-of-use f k of used)).equation;
        tests = λ of used. (each-use k occ is of (listed-of-use f k of used)).test;
      };
    }

    -- the form is regular, with these contexts
    pub form-regular : KeepsCopies f → IsRegular f
    unfolding form-contexts
    form-regular copies = record {
      blocks = λ b block is. (at-number (λ n (x : Block). IsHybridBy f x.hybrid x.parent x.kind × KindUsed f context x.kind) p.blocks h.blocks b block is).0;
      choices = λ n choice is hybrid. (at-number (λ n x. ChoiceRegular f context x) p.choices h.choices n choice is).other hybrid;
      context = context;
      occs = form-contexts.occs;
      sites = λ n site is. (site-at n site is).block;
      arguments = λ n site occ is arg. (site-at n site is).marks occ arg;
      lasts = λ k p call last at. (subst (FormFits f context k) last.2 (occ-at k last.0 last.1).fits) call at;
      copies = copies;
    }

-- ---- contexts by number

-- the context with this number
abbrev pub context_at : List Context → ℕ → Context
context_at [] n = Plainly
context_at (c ∷ cs) zero = c
context_at (c ∷ cs) (suc n) = context_at cs n

-- a context by number
context-get : (cs : List Context) (n : ℕ) (c : Context) → slice_get cs n ≡ Some c → context_at cs n ≡ c
context-get [] n c is = absurd (cc)
context-get (d ∷ cs) zero c is = same-entry d c is
context-get (d ∷ cs) (suc n) c is = context-get cs n c is

by-number : (cs : List Context) → AllFrom (λ n x. context_at cs n ≡ x) 0 cs
by-number cs = from-map (λ n x. slice_get cs n ≡ Some x) (λ n x. context_at cs n ≡ x) (λ n x is. context-get cs n x is) 0 cs (all-stand [] cs)

-- numbers that begin behind others
from-far : (context : ℕ → Context) (m n : ℕ) (cs : List Context) → AllFrom (λ j x. context j ≡ x) (m + n) cs → AllFrom (λ j x. context (m + j) ≡ x) n cs
from-far context m n [] h = tt
from-far context m n (c ∷ cs) h = (h.0, from-far context m (n + 1) cs (subst (λ k. AllFrom (λ j x. context j ≡ x) k cs) (one_more m n) h.1))
  where
    one_more : (m n : ℕ) → m + n + 1 ≡ m + (n + 1)
    one_more m n = omega arith

-- contexts for all parts of the form agree with those that are looked up by number
pub found-contexts : (p : Parts) (base : ℕ) (cs : Contexts) → base ≡ length p.occs → Fits cs p → Agrees (context_at (cs.occs ++ cs.hidden)) base start cs
found-contexts p base cs e fits =
    let context = context_at (cs.occs ++ cs.hidden) in
    let all = by-number (cs.occs ++ cs.hidden) in
    record {
      occs = from-left (λ n x. context n ≡ x) 0 cs.occs cs.hidden all;
      hidden = from-far context base 0 cs.hidden (subst (λ n. AllFrom (λ j x. context j ≡ x) n cs.hidden) (behind (length cs.occs) (length p.occs) fits.0 e) (from-right (λ n x. context n ≡ x) 0 cs.occs cs.hidden all));
    }
  where
    behind : (n m : ℕ) → n ≡ m → base ≡ m → 0 + n ≡ base + 0
    behind n m h e = omega (arith, h, e)
