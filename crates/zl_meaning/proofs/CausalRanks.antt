-- A well-formed form has ranks, or something in it depends on itself.
use Rattle.std.specs.Prelude.{◌≡◌, ◌⊎◌, ℕ, zero, suc, ◌+◌, ◌<◌, Bool, true, false, ◌&&◌, nat_eq, List, length, slice_get, is_some, Option, Some, None}
use Rattle.std.specs.List.{list_any}
use Rattle.std.specs.Option.{option_map, option_and_then}
use Rattle.std.proofs.Common.{refl, sym, ap, ap₂, subst, inl, inr, ⊎_elim, ◌∙◌, arith}
use Rattle.std.proofs.lemmas.Bool.{eqb-true, eq-eqb}
use Rattle.std.proofs.lemmas.Option.{slice_get_within}
use Rattle.zl_value.specs.Lists.{Has, listed}
use Rattle.zl_value.specs.Relations.{Leads, HasCycle, HasRanks as HasNumbers}
use Rattle.zl_value.proofs.Acyclic.{ranks_or_cycle}
use Rattle.zl_meaning.specs.FlatForm.{FlatForm}
use Rattle.zl_meaning.specs.WellFormed.{IsWellFormed}
use Rattle.zl_meaning.specs.Depends.{Thing, PlaceThing, BlockThing, LeadsTo, AtOnce as LeadsAtOnce, Further, DependsAtOnce, PlaceOnBlock, PlaceOnDefiner, PlaceOnValue, PlaceOnCondition, PlaceOnEvent, PlaceOnItself, BlockOnParent, ArmOnTest, BodyOnTest, ResetOnTest, Depends, AtOnce, By, IsCausal, rank_in}
use Rattle.zl_meaning.specs.Causality.{HasRanks, HasCircle}
use Rattle.zl_meaning.specs.declared.block.Block.{Block}
use Rattle.zl_meaning.specs.declared.block.BlockKind.TheVariants.{Arm, State as Body, Reset}
use Rattle.zl_meaning.specs.declared.place.PlaceInfo.{PlaceInfo}
use Rattle.zl_meaning.proofs.DependencyLists.{needs_of, needs-sound, needs-whole}
use Rattle.zl_meaning.proofs.Members.{all-has, both-hold, any-has, has-any}
use Rattle.zl_meaning.proofs.OneTable.{made_at}
use Rattle.zl_meaning.proofs.StartOrder.{no-circle}
use Rattle.zl_meaning.proofs.ValueOrder.{OfPart, OfStart, IsOrder, order-or-circle}

-- ---- things as numbers: places are even, blocks odd

abbrev double : ℕ → ℕ
double zero = 0
double (suc n) = suc (suc (double n))

abbrev number_of : Thing → ℕ
number_of (PlaceThing p) = double p
number_of (BlockThing b) = suc (double b)

abbrev next_of : Thing → Thing
next_of (PlaceThing p) = PlaceThing (suc p)
next_of (BlockThing b) = BlockThing (suc b)

abbrev thing_at : ℕ → Thing
thing_at zero = PlaceThing 0
thing_at (suc zero) = BlockThing 0
thing_at (suc (suc n)) = next_of (thing_at n)

thing-number : (t : Thing) → thing_at (number_of t) ≡ t
thing-number (PlaceThing zero) = refl
thing-number (PlaceThing (suc p)) = ap next_of (thing-number (PlaceThing p))
thing-number (BlockThing zero) = refl
thing-number (BlockThing (suc b)) = ap next_of (thing-number (BlockThing b))

double-less : (m n : ℕ) → m < n → suc (double m) < double n
double-less zero zero low = absurd (omega (arith, low))
double-less zero (suc n) low = omega arith
double-less (suc m) zero low = absurd (omega (arith, low))
double-less (suc m) (suc n) low = let rest = double-less m n (omega (arith, low)) in omega (arith, rest)

-- what depends on something is something of the form
abbrev IsThere : FlatForm → Thing → Type 0
IsThere f (PlaceThing p) = (x : PlaceInfo) × (slice_get f.places p ≡ Some x)
IsThere f (BlockThing b) = (x : Block) × (slice_get f.blocks b ≡ Some x)

abbrev is_there : FlatForm → Thing → Bool
is_there f (PlaceThing p) = is_some (slice_get f.places p)
is_there f (BlockThing b) = is_some (slice_get f.blocks b)

some-there : {X : Type 0} (o : Option X) → is_some o ≡ true → (x : X) × (o ≡ Some x)
some-there None e = absurd (cc)
some-there (Some x) e = (x, refl)

there-of : (f : FlatForm) (t : Thing) → is_there f t ≡ true → IsThere f t
there-of f (PlaceThing p) e = some-there (slice_get f.places p) e
there-of f (BlockThing b) e = some-there (slice_get f.blocks b) e

listed-length : (n j : ℕ) (make : ℕ → ℕ) → length (listed n j make) ≡ n
listed-length zero j make = refl
listed-length (suc n) j make = ap (λ m. suc m) (listed-length n (suc j) make)

mapped-there : {X Y : Type 0} (g : X → Y) (o : Option X) (y : Y) → option_map g o ≡ Some y → (x : X) × (o ≡ Some x)
mapped-there g None y e = absurd (cc)
mapped-there g (Some x) y e = (x, refl)

sought-there : {X Y : Type 0} (g : X → Option Y) (o : Option X) (y : Y) → option_and_then g o ≡ Some y → (x : X) × (o ≡ Some x)
sought-there g None y e = absurd (cc)
sought-there g (Some x) y e = (x, refl)

leads-start : (f : FlatForm) (p q : ℕ) → LeadsTo f p q → IsThere f (PlaceThing p)
leads-start f p q (LeadsAtOnce _ _ b k has reads) = (has.0, has.1)
leads-start f p q (Further _ r _ b k has reads leads) = (has.0, has.1)

source-there : (f : FlatForm) (a b : Thing) → DependsAtOnce f a b → IsThere f a
source-there f _ _ (PlaceOnBlock p x is) = (x, is)
source-there f _ _ (PlaceOnDefiner p b d has of) = (has.0, has.1)
source-there f _ _ (PlaceOnValue p k d _ has h r) = (has.0, has.1)
source-there f _ _ (PlaceOnCondition p call whole c side _ at under r) = sought-there (λ (x : PlaceInfo). x.call) (slice_get f.places p) call at
source-there f _ _ (PlaceOnEvent p call event arm of events _ at under h r) = sought-there (λ (x : PlaceInfo). x.call) (slice_get f.places p) call at
source-there f _ _ (PlaceOnItself p leads) = leads-start f p p leads
source-there f _ _ (BlockOnParent b parent up) = sought-there (λ (x : Block). x.parent) (slice_get f.blocks b) parent up
source-there f _ _ (ArmOnTest b of arm k _ is test r) = mapped-there (λ (x : Block). x.kind) (slice_get f.blocks b) (Arm of arm) is
source-there f _ _ (BodyOnTest b of state k _ is test r) = mapped-there (λ (x : Block). x.kind) (slice_get f.blocks b) (Body of state) is
source-there f _ _ (ResetOnTest b k _ is r) = mapped-there (λ (x : Block). x.kind) (slice_get f.blocks b) (Reset k) is

-- ---- the two ways

-- along dependencies ranks grow
ranked-below : (f : FlatForm) (ranks : HasRanks f) (a b : Thing) → Depends f a b → rank_in ranks.of_places ranks.of_blocks b < rank_in ranks.of_places ranks.of_blocks a
ranked-below f ranks a b (AtOnce _ _ d) = ranks.grow.grow a b d
ranked-below f ranks a c (By _ b _ d rest) = let low = ranks.grow.grow a b d in let more = ranked-below f ranks b c rest in omega (arith, low, more)

pub causal-of-ranks : (f : FlatForm) → HasRanks f → IsCausal f
causal-of-ranks f ranks thing on_itself = let low = ranked-below f ranks thing thing on_itself in omega (arith, low)

module _ (f : FlatForm) (well : IsWellFormed f) (v : IsOrder f well) where
  -- where values are in order, no `init` values lead back
  alone : (p : ℕ) → LeadsTo f p p → ⊥
  alone p leads = no-circle f v.order (λ k part form is h. v.grows k part (OfPart form is h)) (λ k q b start is has. v.grows k start (OfStart q b is has)) p leads

  -- ---- the dependencies as a relation among numbers

  abbrev is_at : ℕ → Thing → Bool
  is_at n t = is_there f t && nat_eq n (number_of t)

  abbrev needs : ℕ → ℕ → Bool
  needs a b = list_any (is_at b) (needs_of f well v (thing_at a))

  abbrev bound : ℕ
  bound = double (length f.places + length f.blocks)

  there-below : (t : Thing) → IsThere f t → number_of t < bound
  there-below (PlaceThing p) there =
      let low = slice_get_within f.places p there.0 there.1 in let less = double-less p (length f.places + length f.blocks) (omega (arith, low)) in omega (arith, less)
  there-below (BlockThing b) there =
      let low = slice_get_within f.blocks b there.0 there.1 in double-less b (length f.places + length f.blocks) (omega (arith, low))

  needs-within : (a b : ℕ) → needs a b ≡ true → b < bound
  needs-within a b e =
      let found = has-any (is_at b) (needs_of f well v (thing_at a)) e in
      let both = both-hold {a = is_there f found.element} {b = nat_eq b (number_of found.element)} found.meets in
      let same = eqb-true b (number_of found.element) both.1 in
      let low = there-below found.element (there-of f found.element both.0) in
      omega (arith, same, low)

  needs-depends : (a b : ℕ) → needs a b ≡ true → DependsAtOnce f (thing_at a) (thing_at b)
  needs-depends a b e =
      let found = has-any (is_at b) (needs_of f well v (thing_at a)) e in
      let both = both-hold {a = is_there f found.element} {b = nat_eq b (number_of found.element)} found.meets in
      let same : thing_at b ≡ found.element = ap thing_at (eqb-true b (number_of found.element) both.1) ∙ thing-number found.element in
      subst (DependsAtOnce f (thing_at a)) (sym same) (all-has (DependsAtOnce f (thing_at a)) (needs_of f well v (thing_at a)) found.element (needs-sound f well v (thing_at a)) found.has)

  leads-depends : (m a b : ℕ) → Leads needs m a b → Depends f (thing_at a) (thing_at b)
  leads-depends zero a b l = AtOnce (thing_at a) (thing_at b) (needs-depends a b l)
  leads-depends (suc m) a b l = By (thing_at a) (thing_at l.0) (thing_at b) (needs-depends a l.0 l.1) (leads-depends m l.0 b l.2)

  depends-needs : (a b : Thing) → DependsAtOnce f a b → is_there f b ≡ true → needs (number_of a) (number_of b) ≡ true
  depends-needs a b d there =
      any-has (is_at (number_of b)) (needs_of f well v (thing_at (number_of a))) b
      (subst (λ t. Has (needs_of f well v t) b) (sym (thing-number a)) (needs-whole f well v alone a b d))
      (ap₂ (λ x y. x && y) there (eq-eqb (number_of b) (number_of b) refl))

  -- ---- ranks from those of the numbers: what isn't there has the least one

  module _ (numbers : HasNumbers bound needs) where
    abbrev above_none : {X : Type 0} → ℕ → Option X → ℕ
    above_none r None = 0
    above_none r (Some x) = suc r

    abbrev rank_of : Thing → ℕ
    rank_of t = numbers.rank (number_of t)

    abbrev lifted : Thing → ℕ
    lifted (PlaceThing p) = above_none (rank_of (PlaceThing p)) (slice_get f.places p)
    lifted (BlockThing b) = above_none (rank_of (BlockThing b)) (slice_get f.blocks b)

    abbrev of_places : List ℕ
    of_places = listed (length f.places) 0 (λ p. above_none (rank_of (PlaceThing p)) (slice_get f.places p))

    abbrev of_blocks : List ℕ
    of_blocks = listed (length f.blocks) 0 (λ b. above_none (rank_of (BlockThing b)) (slice_get f.blocks b))

    rank-is : (t : Thing) → rank_in of_places of_blocks t ≡ lifted t
    rank-is (PlaceThing p) = made_at f.places 0 (λ n x. above_none (rank_of (PlaceThing n)) x) (λ n. refl) p
    rank-is (BlockThing b) = made_at f.blocks 0 (λ n x. above_none (rank_of (BlockThing n)) x) (λ n. refl) b

    lifted-there : (t : Thing) → IsThere f t → lifted t ≡ suc (rank_of t)
    lifted-there (PlaceThing p) there = ap (above_none (rank_of (PlaceThing p))) there.1
    lifted-there (BlockThing b) there = ap (above_none (rank_of (BlockThing b))) there.1

    lifted-other : (t : Thing) → is_there f t ≡ false → lifted t ≡ 0
    lifted-other (PlaceThing p) e = by_option (slice_get f.places p) e
      where
        by_option : (o : Option PlaceInfo) → is_some o ≡ false → above_none (rank_of (PlaceThing p)) o ≡ 0
        by_option None e = refl
        by_option (Some x) e = absurd (cc)
    lifted-other (BlockThing b) e = by_option (slice_get f.blocks b) e
      where
        by_option : (o : Option Block) → is_some o ≡ false → above_none (rank_of (BlockThing b)) o ≡ 0
        by_option None e = refl
        by_option (Some x) e = absurd (cc)

    grows : (a b : Thing) → IsThere f a → DependsAtOnce f a b → lifted b < lifted a
    grows a b there d = by_there (is_there f b) refl
      where
        by_there : (t : Bool) → is_there f b ≡ t → lifted b < lifted a
        by_there true e =
            let low = numbers.ranks.lower (number_of a) (number_of b) (depends-needs a b d e) in
            let x = lifted-there a there in
            let y = lifted-there b (there-of f b e) in
            omega (arith, low, x, y)
        by_there false e = let x = lifted-there a there in let y = lifted-other b e in omega (arith, x, y)

    ranks-of-numbers : HasRanks f
    ranks-of-numbers = record {
      of_places = of_places;
      of_blocks = of_blocks;
      grow = record {
        places = listed-length (length f.places) 0 (λ p. above_none (rank_of (PlaceThing p)) (slice_get f.places p));
        blocks = listed-length (length f.blocks) 0 (λ b. above_none (rank_of (BlockThing b)) (slice_get f.blocks b));
        grow = λ a b d. let low = grows a b (source-there f a b d) d in let x = rank-is a in let y = rank-is b in omega (arith, low, x, y);
      };
    }

  circle-of-cycle : HasCycle needs → HasCircle f
  circle-of-cycle cycle = record { thing = thing_at cycle.at; on_itself = leads-depends cycle.steps cycle.at cycle.at cycle.leads }

  ordered-ranks-or-circle : HasRanks f ⊎ HasCircle f
  ordered-ranks-or-circle =
      ⊎_elim (λ (numbers : HasNumbers bound needs). inl (ranks-of-numbers numbers)) (λ (cycle : HasCycle needs). inr (circle-of-cycle cycle))
      (ranks_or_cycle needs bound (record { within = needs-within }))

pub ranks-or-circle : (f : FlatForm) → IsWellFormed f → HasRanks f ⊎ HasCircle f
ranks-or-circle f well =
    ⊎_elim (λ (v : IsOrder f well). ordered-ranks-or-circle f well v)
    (λ (c : (p : ℕ) × LeadsTo f p p). inr (record { thing = PlaceThing c.0; on_itself = AtOnce (PlaceThing c.0) (PlaceThing c.0) (PlaceOnItself c.0 c.1) })) (order-or-circle f well)

pub ranks-of-causal : (f : FlatForm) → IsWellFormed f → IsCausal f → HasRanks f
ranks-of-causal f well causal = ⊎_elim (λ ranks. ranks) (λ (c : HasCircle f). absurd (causal c.thing c.on_itself)) (ranks-or-circle f well)

pub causal-exactly-with-ranks : (f : FlatForm) → IsWellFormed f → (IsCausal f → HasRanks f) × (HasRanks f → IsCausal f)
causal-exactly-with-ranks f well = (ranks-of-causal f well, causal-of-ranks f)
