-- What holds of each part that a walk makes, with the part's number.
use Rattle.std.proofs.Common.{◌≡◌, ℕ, suc, ◌+◌, List, [], ◌∷◌, ◌++◌, length, slice_get, Some, refl, sym, ap, subst, arith}
use Rattle.std.specs.List.{AllByRecursion}
use Rattle.zl_meaning.specs.declared.block.Block.{Block}
use Rattle.zl_meaning.specs.declared.block.Choice.{Choice}
use Rattle.zl_meaning.specs.declared.block.Auto.{Auto}
use Rattle.zl_meaning.specs.declared.place.PlaceInfo.{PlaceInfo}
use Rattle.zl_meaning.specs.declared.occurrence.Occ.{Occ}
use Rattle.zl_meaning.specs.declared.occurrence.SiteInfo.{SiteInfo}
use Rattle.zl_flat.specs.declared.given.Given.{Given}
use Rattle.zl_flat.specs.Parts.{Parts, Counters, nothing, joined, one_block, one_place, some_places, some_definers, one_occ, one_hidden, one_site, one_choice, one_automaton, after, past_block, past_occ, past_hidden, past_site, past_choice, past_automaton}
use Rattle.zl_flat.proofs.PartsLaws.{after-block, after-occ, after-hidden, after-site, after-choice, after-automaton}

-- ---- lists

-- it holds of each entry with its number, where this is the number of the first
abbrev pub AllFrom : {X : Type 0} → (ℕ → X → Type 0) → ℕ → List X → Type 0
AllFrom P n [] = Unit {0}
AllFrom P n (x ∷ xs) = P n x × AllFrom P (n + 1) xs

no_more : (n : ℕ) → n + 0 ≡ n
no_more n = omega arith

one_more : (n m : ℕ) → n + suc m ≡ n + 1 + m
one_more n m = omega arith

pub from-append : {X : Type 0} (P : ℕ → X → Type 0) (n : ℕ) (xs ys : List X) → AllFrom P n xs → AllFrom P (n + length xs) ys → AllFrom P n (xs ++ ys)
from-append P n [] ys h k = subst (λ m. AllFrom P m ys) (no_more n) k
from-append P n (x ∷ xs) ys h k = (h.0, from-append P (n + 1) xs ys h.1 (subst (λ m. AllFrom P m ys) (one_more n (length xs)) k))

pub from-left : {X : Type 0} (P : ℕ → X → Type 0) (n : ℕ) (xs ys : List X) → AllFrom P n (xs ++ ys) → AllFrom P n xs
from-left P n [] ys h = tt
from-left P n (x ∷ xs) ys h = (h.0, from-left P (n + 1) xs ys h.1)

pub from-right : {X : Type 0} (P : ℕ → X → Type 0) (n : ℕ) (xs ys : List X) → AllFrom P n (xs ++ ys) → AllFrom P (n + length xs) ys
from-right P n [] ys h = subst (λ m. AllFrom P m ys) (sym (no_more n)) h
from-right P n (x ∷ xs) ys h = subst (λ m. AllFrom P m ys) (sym (one_more n (length xs))) (from-right P (n + 1) xs ys h.1)

-- ---- parts

-- what is to hold of a part of each kind with its number
pub record Laws : Type 1 where
  pub blocks : ℕ → Block → Type 0
  pub places : ℕ → PlaceInfo → Type 0
  pub definers : ℕ → Given → Type 0
  pub occs : ℕ → Occ → Type 0
  pub hidden : ℕ → Occ → Type 0
  pub sites : ℕ → SiteInfo → Type 0
  pub choices : ℕ → Choice → Type 0
  pub automata : ℕ → Auto → Type 0

-- it holds of each part, where these are the numbers of the first
pub record Each (l : Laws) (s : Counters) (p : Parts) : Type 0 where
  pub blocks : AllFrom l.blocks s.blocks p.blocks
  pub places : AllFrom l.places s.places p.places
  pub definers : AllByRecursion (l.definers 0) p.definers
  pub occs : AllFrom l.occs s.occs p.occs
  pub hidden : AllFrom l.hidden s.hidden p.hidden
  pub sites : AllFrom l.sites s.sites p.sites
  pub choices : AllFrom l.choices s.choices p.choices
  pub automata : AllFrom l.automata s.automata p.automata

pub all-append : {X : Type 0} (P : X → Type 0) (xs ys : List X) → AllByRecursion P xs → AllByRecursion P ys → AllByRecursion P (xs ++ ys)
all-append P [] ys h k = k
all-append P (x ∷ xs) ys h k = (h.0, all-append P xs ys h.1 k)

pub all-left : {X : Type 0} (P : X → Type 0) (xs ys : List X) → AllByRecursion P (xs ++ ys) → AllByRecursion P xs
all-left P [] ys h = tt
all-left P (x ∷ xs) ys h = (h.0, all-left P xs ys h.1)

pub all-right : {X : Type 0} (P : X → Type 0) (xs ys : List X) → AllByRecursion P (xs ++ ys) → AllByRecursion P ys
all-right P [] ys h = h
all-right P (x ∷ xs) ys h = all-right P xs ys h.1

module _ (l : Laws) where
  pub each-nothing : (s : Counters) → Each l s nothing
  unfolding nothing
  each-nothing s = record { blocks = tt; places = tt; definers = tt; occs = tt; hidden = tt; sites = tt; choices = tt; automata = tt }

  pub each-joined : (s : Counters) (p q : Parts) → Each l s p → Each l (after s p) q → Each l s (joined p q)
  unfolding joined after
  each-joined s p q h k = record {
    blocks = from-append l.blocks s.blocks p.blocks q.blocks h.blocks k.blocks;
    places = from-append l.places s.places p.places q.places h.places k.places;
    definers = all-append (l.definers 0) p.definers q.definers h.definers k.definers;
    occs = from-append l.occs s.occs p.occs q.occs h.occs k.occs;
    hidden = from-append l.hidden s.hidden p.hidden q.hidden h.hidden k.hidden;
    sites = from-append l.sites s.sites p.sites q.sites h.sites k.sites;
    choices = from-append l.choices s.choices p.choices q.choices h.choices k.choices;
    automata = from-append l.automata s.automata p.automata q.automata h.automata k.automata;
  }

  pub each-left : (s : Counters) (p q : Parts) → Each l s (joined p q) → Each l s p
  unfolding joined after
  each-left s p q h = record {
    blocks = from-left l.blocks s.blocks p.blocks q.blocks h.blocks;
    places = from-left l.places s.places p.places q.places h.places;
    definers = all-left (l.definers 0) p.definers q.definers h.definers;
    occs = from-left l.occs s.occs p.occs q.occs h.occs;
    hidden = from-left l.hidden s.hidden p.hidden q.hidden h.hidden;
    sites = from-left l.sites s.sites p.sites q.sites h.sites;
    choices = from-left l.choices s.choices p.choices q.choices h.choices;
    automata = from-left l.automata s.automata p.automata q.automata h.automata;
  }

  pub each-right : (s : Counters) (p q : Parts) → Each l s (joined p q) → Each l (after s p) q
  unfolding joined after
  each-right s p q h = record {
    blocks = from-right l.blocks s.blocks p.blocks q.blocks h.blocks;
    places = from-right l.places s.places p.places q.places h.places;
    definers = all-right (l.definers 0) p.definers q.definers h.definers;
    occs = from-right l.occs s.occs p.occs q.occs h.occs;
    hidden = from-right l.hidden s.hidden p.hidden q.hidden h.hidden;
    sites = from-right l.sites s.sites p.sites q.sites h.sites;
    choices = from-right l.choices s.choices p.choices q.choices h.choices;
    automata = from-right l.automata s.automata p.automata q.automata h.automata;
  }

  -- ---- one of a kind, alone and before others

  each-one_block : (s : Counters) (x : Block) → l.blocks s.blocks x → Each l s (one_block x)
  unfolding one_block
  each-one_block s x h = record { blocks = (h, tt); places = tt; definers = tt; occs = tt; hidden = tt; sites = tt; choices = tt; automata = tt }

  pub each-one_place : (s : Counters) (x : PlaceInfo) → l.places s.places x → Each l s (one_place x)
  unfolding one_place
  each-one_place s x h = record { blocks = tt; places = (h, tt); definers = tt; occs = tt; hidden = tt; sites = tt; choices = tt; automata = tt }

  pub each-some_places : (s : Counters) (xs : List PlaceInfo) → AllFrom l.places s.places xs → Each l s (some_places xs)
  unfolding some_places
  each-some_places s xs h = record { blocks = tt; places = h; definers = tt; occs = tt; hidden = tt; sites = tt; choices = tt; automata = tt }

  pub each-some_definers : (s : Counters) (xs : List Given) → AllByRecursion (l.definers 0) xs → Each l s (some_definers xs)
  unfolding some_definers
  each-some_definers s xs h = record { blocks = tt; places = tt; definers = h; occs = tt; hidden = tt; sites = tt; choices = tt; automata = tt }

  pub each-one_occ : (s : Counters) (x : Occ) → l.occs s.occs x → Each l s (one_occ x)
  unfolding one_occ
  each-one_occ s x h = record { blocks = tt; places = tt; definers = tt; occs = (h, tt); hidden = tt; sites = tt; choices = tt; automata = tt }

  pub each-one_hidden : (s : Counters) (x : Occ) → l.hidden s.hidden x → Each l s (one_hidden x)
  unfolding one_hidden
  each-one_hidden s x h = record { blocks = tt; places = tt; definers = tt; occs = tt; hidden = (h, tt); sites = tt; choices = tt; automata = tt }

  each-one_site : (s : Counters) (x : SiteInfo) → l.sites s.sites x → Each l s (one_site x)
  unfolding one_site
  each-one_site s x h = record { blocks = tt; places = tt; definers = tt; occs = tt; hidden = tt; sites = (h, tt); choices = tt; automata = tt }

  each-one_choice : (s : Counters) (x : Choice) → l.choices s.choices x → Each l s (one_choice x)
  unfolding one_choice
  each-one_choice s x h = record { blocks = tt; places = tt; definers = tt; occs = tt; hidden = tt; sites = tt; choices = (h, tt); automata = tt }

  each-one_automaton : (s : Counters) (x : Auto) → l.automata s.automata x → Each l s (one_automaton x)
  unfolding one_automaton
  each-one_automaton s x h = record { blocks = tt; places = tt; definers = tt; occs = tt; hidden = tt; sites = tt; choices = tt; automata = (h, tt) }

  pub the_block : (s : Counters) (x : Block) → Each l s (one_block x) → l.blocks s.blocks x
  unfolding one_block
  the_block s x h = h.blocks.0

  pub the_place : (s : Counters) (x : PlaceInfo) → Each l s (one_place x) → l.places s.places x
  unfolding one_place
  the_place s x h = h.places.0

  pub the_occ : (s : Counters) (x : Occ) → Each l s (one_occ x) → l.occs s.occs x
  unfolding one_occ
  the_occ s x h = h.occs.0

  pub the_hidden : (s : Counters) (x : Occ) → Each l s (one_hidden x) → l.hidden s.hidden x
  unfolding one_hidden
  the_hidden s x h = h.hidden.0

  pub the_site : (s : Counters) (x : SiteInfo) → Each l s (one_site x) → l.sites s.sites x
  unfolding one_site
  the_site s x h = h.sites.0

  pub the_choice : (s : Counters) (x : Choice) → Each l s (one_choice x) → l.choices s.choices x
  unfolding one_choice
  the_choice s x h = h.choices.0

  pub the_automaton : (s : Counters) (x : Auto) → Each l s (one_automaton x) → l.automata s.automata x
  unfolding one_automaton
  the_automaton s x h = h.automata.0

  pub the_places : (s : Counters) (xs : List PlaceInfo) → Each l s (some_places xs) → AllFrom l.places s.places xs
  unfolding some_places
  the_places s xs h = h.places

  -- a part before others: what holds of it, and of them with the numbers behind it
  pub block-first : (s : Counters) (x : Block) (q : Parts) → l.blocks s.blocks x → Each l (past_block s) q → Each l s (joined (one_block x) q)
  block-first s x q h k = each-joined s (one_block x) q (each-one_block s x h) (subst (λ t. Each l t q) (sym (after-block s x)) k)

  pub behind-block : (s : Counters) (x : Block) (q : Parts) → Each l s (joined (one_block x) q) → l.blocks s.blocks x × Each l (past_block s) q
  behind-block s x q h = (the_block s x (each-left s (one_block x) q h), subst (λ t. Each l t q) (after-block s x) (each-right s (one_block x) q h))

  pub occ-first : (s : Counters) (x : Occ) (q : Parts) → l.occs s.occs x → Each l (past_occ s) q → Each l s (joined (one_occ x) q)
  occ-first s x q h k = each-joined s (one_occ x) q (each-one_occ s x h) (subst (λ t. Each l t q) (sym (after-occ s x)) k)

  pub behind-occ : (s : Counters) (x : Occ) (q : Parts) → Each l s (joined (one_occ x) q) → l.occs s.occs x × Each l (past_occ s) q
  behind-occ s x q h = (the_occ s x (each-left s (one_occ x) q h), subst (λ t. Each l t q) (after-occ s x) (each-right s (one_occ x) q h))

  pub hidden-first : (s : Counters) (x : Occ) (q : Parts) → l.hidden s.hidden x → Each l (past_hidden s) q → Each l s (joined (one_hidden x) q)
  hidden-first s x q h k = each-joined s (one_hidden x) q (each-one_hidden s x h) (subst (λ t. Each l t q) (sym (after-hidden s x)) k)

  pub behind-hidden : (s : Counters) (x : Occ) (q : Parts) → Each l s (joined (one_hidden x) q) → l.hidden s.hidden x × Each l (past_hidden s) q
  behind-hidden s x q h = (the_hidden s x (each-left s (one_hidden x) q h), subst (λ t. Each l t q) (after-hidden s x) (each-right s (one_hidden x) q h))

  pub site-first : (s : Counters) (x : SiteInfo) (q : Parts) → l.sites s.sites x → Each l (past_site s) q → Each l s (joined (one_site x) q)
  site-first s x q h k = each-joined s (one_site x) q (each-one_site s x h) (subst (λ t. Each l t q) (sym (after-site s x)) k)

  pub behind-site : (s : Counters) (x : SiteInfo) (q : Parts) → Each l s (joined (one_site x) q) → l.sites s.sites x × Each l (past_site s) q
  behind-site s x q h = (the_site s x (each-left s (one_site x) q h), subst (λ t. Each l t q) (after-site s x) (each-right s (one_site x) q h))

  pub choice-first : (s : Counters) (x : Choice) (q : Parts) → l.choices s.choices x → Each l (past_choice s) q → Each l s (joined (one_choice x) q)
  choice-first s x q h k = each-joined s (one_choice x) q (each-one_choice s x h) (subst (λ t. Each l t q) (sym (after-choice s x)) k)

  pub behind-choice : (s : Counters) (x : Choice) (q : Parts) → Each l s (joined (one_choice x) q) → l.choices s.choices x × Each l (past_choice s) q
  behind-choice s x q h = (the_choice s x (each-left s (one_choice x) q h), subst (λ t. Each l t q) (after-choice s x) (each-right s (one_choice x) q h))

  pub automaton-first : (s : Counters) (x : Auto) (q : Parts) → l.automata s.automata x → Each l (past_automaton s) q → Each l s (joined (one_automaton x) q)
  automaton-first s x q h k = each-joined s (one_automaton x) q (each-one_automaton s x h) (subst (λ t. Each l t q) (sym (after-automaton s x)) k)

  pub behind-automaton : (s : Counters) (x : Auto) (q : Parts) → Each l s (joined (one_automaton x) q) → l.automata s.automata x × Each l (past_automaton s) q
  behind-automaton s x q h = (the_automaton s x (each-left s (one_automaton x) q h), subst (λ t. Each l t q) (after-automaton s x) (each-right s (one_automaton x) q h))

-- ---- the whole

pub get-behind : {X : Type 0} (xs : List X) (x : X) (ys : List X) → slice_get (xs ++ x ∷ ys) (length xs) ≡ Some x
get-behind [] x ys = refl
get-behind (y ∷ xs) x ys = get-behind xs x ys

step_list : {X : Type 0} (xs : List X) (x : X) (ys : List X) → (xs ++ x ∷ []) ++ ys ≡ xs ++ x ∷ ys
step_list [] x ys = refl
step_list (y ∷ xs) x ys = ap (λ zs. y ∷ zs) (step_list xs x ys)

step_length : {X : Type 0} (xs : List X) (x : X) → length (xs ++ x ∷ []) ≡ length xs + 1
step_length [] x = refl
step_length (y ∷ xs) x = omega (arith, step_length xs x)

-- the entries of a list stand in it, behind those before them
pub all-stand : {X : Type 0} (xs ys : List X) → AllFrom (λ n x. slice_get (xs ++ ys) n ≡ Some x) (length xs) ys
all-stand xs [] = tt
all-stand xs (y ∷ ys) = (
  get-behind xs y ys,
  subst (λ zs. AllFrom (λ n x. slice_get zs n ≡ Some x) (length xs + 1) ys) (step_list xs y ys)
      (subst (λ m. AllFrom (λ n x. slice_get ((xs ++ y ∷ []) ++ ys) n ≡ Some x) m ys) (step_length xs y) (all-stand (xs ++ y ∷ []) ys)),
)
