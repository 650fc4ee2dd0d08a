-- Weights of two kinds counted together, and parts of which each call weighs enough.
use Rattle.std.proofs.Common.{◌≡◌, ℕ, suc, ◌+◌, ◌≤◌, List, [], ◌∷◌, slice_get, Some, refl, subst, arith}
use Rattle.std.specs.List.{AllByRecursion}
use Rattle.zl_meaning.specs.Uses.{parts}
use Rattle.zl_meaning.specs.declared.block.Block.{Block}
use Rattle.zl_meaning.specs.declared.block.BlockKind.{BlockKind}
use Rattle.zl_meaning.specs.declared.block.BlockKind.TheVariants.{Main, Arm, Guard, State, Reset}
use Rattle.zl_meaning.specs.declared.block.Choice.{Choice}
use Rattle.zl_meaning.specs.declared.block.Auto.{Auto}
use Rattle.zl_meaning.specs.declared.block.AutoMove.{AutoMove}
use Rattle.zl_meaning.specs.declared.place.Definer.{Definer}
use Rattle.zl_meaning.specs.declared.place.Definer.TheVariants.{Input, Plain, Der, Start}
use Rattle.zl_meaning.specs.declared.place.DerArm.{DerArm}
use Rattle.zl_meaning.specs.declared.occurrence.Form.{Form}
use Rattle.zl_meaning.specs.declared.occurrence.Form.TheVariants.{Lit, Read, Last, Op as Apply, If, Arrow, Pre, Result, Up, Fired, Step}
use Rattle.zl_meaning.specs.declared.occurrence.Occ.{Occ}
use Rattle.zl_meaning.specs.declared.occurrence.SiteInfo.{SiteInfo}
use Rattle.zl_flat.specs.declared.given.Given.{Given}
use Rattle.zl_flat.specs.Parts.{Parts, Counters, start}
use Rattle.zl_flat.proofs.WellFormedParts.{AllFrom, Each}
use Rattle.zl_flat.proofs.UsesCount.{total, numbered, in_form, in_arm, in_kind, in_moves, in_definer, in_given, count, owned}
use Rattle.zl_flat.proofs.UsesBalance.{Pays, paying}

-- ---- sums of weights

-- two weights together
abbrev pub plus : (ℕ → ℕ) → (ℕ → ℕ) → ℕ → ℕ
plus a b n = a n + b n

-- a sum of sums
total-split : {X : Type 0} (h f g : X → ℕ) → ((x : X) → h x ≡ f x + g x) → (xs : List X) → total h xs ≡ total f xs + total g xs
total-split h f g e [] = omega arith
total-split h f g e (x ∷ xs) = let a = e x in let b = total-split h f g e xs in omega (arith, a, b)

module _ (a b : ℕ → ℕ) where
  -- of numbers
  numbers-split : (ns : List ℕ) → total (plus a b) ns ≡ total a ns + total b ns
  numbers-split ns = total-split (plus a b) a b (λ n. refl) ns

  -- of the test of a body
  kind-split : (kind : BlockKind) → in_kind (plus a b) kind ≡ in_kind a kind + in_kind b kind
  kind-split Main = omega arith
  kind-split (Arm of arm) = omega arith
  kind-split (Guard of state) = omega arith
  kind-split (State of state) = omega arith
  kind-split (Reset cond) = refl

  -- of a reset arm
  arm-split : (arm : DerArm) → in_arm (plus a b) arm ≡ in_arm a arm + in_arm b arm
  arm-split arm = omega arith

  -- of moves
  moves-split : (moves : List AutoMove) → in_moves (plus a b) moves ≡ in_moves a moves + in_moves b moves
  moves-split moves = total-split (λ (m : AutoMove). plus a b m.cond) (λ (m : AutoMove). a m.cond) (λ (m : AutoMove). b m.cond) (λ m. refl) moves

  module _ (c d : ℕ → ℕ) where
    -- of a definer
    definer-split : (x : Definer) → in_definer (plus a b) (plus c d) x ≡ in_definer a c x + in_definer b d x
    definer-split (Input n) = omega arith
    definer-split (Plain block j) = refl
    definer-split (Der block slope resets) = let e = total-split (in_arm (plus a b)) (in_arm a) (in_arm b) arm-split resets in omega (arith, e)
    definer-split (Start block j) = refl

    -- of parts
    pub count-split : (p : Parts) → count (plus a b) (plus c d) p ≡ count a c p + count b d p
    unfolding count
    count-split p = omega (
      arith,
      total-split (λ (x : Block). in_kind (plus a b) x.kind) (λ (x : Block). in_kind a x.kind) (λ (x : Block). in_kind b x.kind) (λ x. kind-split x.kind) p.blocks,
      total-split (in_given (plus a b) (plus c d)) (in_given a c) (in_given b d) (λ g. definer-split g.definer) p.definers,
      total-split (λ (x : Occ). in_form (plus a b) x.form) (λ (x : Occ). in_form a x.form) (λ (x : Occ). in_form b x.form) (λ x. numbers-split (parts x.form)) p.occs,
      total-split (λ (x : Occ). in_form (plus a b) x.form) (λ (x : Occ). in_form a x.form) (λ (x : Occ). in_form b x.form) (λ x. numbers-split (parts x.form)) p.hidden,
      total-split (λ (x : SiteInfo). plus a b x.arg) (λ (x : SiteInfo). a x.arg) (λ (x : SiteInfo). b x.arg) (λ x. refl) p.sites,
      total-split (λ (x : Choice). total (plus a b) x.conds) (λ (x : Choice). total a x.conds) (λ (x : Choice). total b x.conds) (λ x. numbers-split x.conds) p.choices,
      total-split (λ (x : Auto). total (in_moves (plus a b)) x.states) (λ (x : Auto). total (in_moves a) x.states) (λ (x : Auto). total (in_moves b) x.states)
          (λ x. total-split (in_moves (plus a b)) (in_moves a) (in_moves b) moves-split x.states) p.automata,
    )

  -- of the numbers of a list
  numbered-split : {X : Type 0} (n : ℕ) (xs : List X) → numbered (plus a b) n xs ≡ numbered a n xs + numbered b n xs
  numbered-split n [] = omega arith
  numbered-split n (x ∷ xs) = let e = numbered-split (n + 1) xs in omega (arith, e)

  -- of what parts have of their own
  pub owned-split : (base : ℕ) (s : Counters) (p : Parts) → owned (plus a b) base s p ≡ owned a base s p + owned b base s p
  unfolding owned
  owned-split base s p = omega (arith, numbered-split s.occs p.occs, numbered-split (base + s.hidden) p.hidden)

-- ---- calls that weigh enough

-- a call pays, if its result asks for no more
pub pays-form : (v w : ℕ → ℕ) (n : ℕ) (form : Form) → ((x : ℕ) → form ≡ Result x → w x ≤ v n) → Pays v w n form
pays-form v w n (Lit x) h = tt
pays-form v w n (Read p) h = tt
pays-form v w n (Last p) h = tt
pays-form v w n (Apply op ks) h = tt
pays-form v w n (If c x y) h = tt
pays-form v w n (Arrow x y) h = tt
pays-form v w n (Pre x) h = tt
pays-form v w n (Result x) h = h x refl
pays-form v w n (Up s) h = tt
pays-form v w n (Fired ks) h = tt
pays-form v w n Step h = tt

-- what holds of each entry holds of the list
from-each : {X : Type 0} (P : ℕ → X → Type 0) (m : ℕ) (xs : List X) → ((n : ℕ) (x : X) → slice_get xs n ≡ Some x → P (m + n) x) → AllFrom P m xs
from-each P m [] h = tt
from-each P m (x ∷ xs) h = (subst (λ j. P j x) (no_more m) (h 0 x refl), from-each P (m + 1) xs (λ n y is. subst (λ j. P j y) (one_more m n) (h (suc n) y is)))
  where
    no_more : (m : ℕ) → m + 0 ≡ m
    no_more m = omega arith

    one_more : (m n : ℕ) → m + suc n ≡ m + 1 + n
    one_more m n = omega arith

-- nothing is asked
no_law : {X : Type 0} (n : ℕ) (xs : List X) → AllFrom (λ m x. Unit {0}) n xs
no_law n [] = tt
no_law n (x ∷ xs) = (tt, no_law (n + 1) xs)

-- nothing is asked of definers
none : (gs : List Given) → AllByRecursion (λ (g : Given). Unit {0}) gs
none [] = tt
none (g ∷ gs) = (tt, none gs)

-- each call of the parts pays
pub each-pays : (v w : ℕ → ℕ) (p : Parts) → ((n : ℕ) (occ : Occ) → slice_get p.occs n ≡ Some occ → (x : ℕ) → occ.form ≡ Result x → w x ≤ v n) → Each (paying v w) start p
each-pays v w p h = record {
  blocks = no_law 0 p.blocks;
  places = no_law 0 p.places;
  definers = none p.definers;
  occs = from-each (λ n (x : Occ). Pays v w n x.form) 0 p.occs (λ n occ is. subst (λ m. Pays v w m occ.form) (no_more n) (pays-form v w n occ.form (h n occ is)));
  hidden = no_law 0 p.hidden;
  sites = no_law 0 p.sites;
  choices = no_law 0 p.choices;
  automata = no_law 0 p.automata;
}
  where
    no_more : (n : ℕ) → n ≡ 0 + n
    no_more n = omega arith
