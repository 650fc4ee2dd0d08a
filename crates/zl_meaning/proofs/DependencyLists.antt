-- The dependencies of a place or a block as a list.
use Rattle.std.specs.Prelude.{◌≡◌, ℕ, suc, List, [], ◌∷◌, ◌++◌, length, slice_get, Option, Some, None}
use Rattle.std.specs.List.{AllByRecursion, flat_map}
use Rattle.std.specs.Option.{option_map, option_and_then}
use Rattle.std.proofs.Common.{refl, sym, ap, subst, arith}
use Rattle.std.proofs.lemmas.Option.{slice_get_within}
use Rattle.zl_value.specs.Lists.{Has, when}
use Rattle.zl_meaning.specs.FlatForm.{FlatForm, HasDefiner, kind_of, parent_of, place_call}
use Rattle.zl_meaning.specs.WellFormed.{IsWellFormed, IsCalled}
use Rattle.zl_meaning.specs.Depends.{Thing, PlaceThing, BlockThing, OccReads, LeadsTo, IsBlockOf, IsStrongTest, read_by, DependsAtOnce, PlaceOnBlock, PlaceOnDefiner, PlaceOnValue, PlaceOnCondition, PlaceOnEvent, PlaceOnItself, BlockOnParent, ArmOnTest, BodyOnTest, ResetOnTest}
use Rattle.zl_meaning.specs.declared.block.Auto.{Auto}
use Rattle.zl_meaning.specs.declared.block.AutoMove.{AutoMove}
use Rattle.zl_meaning.specs.declared.block.Block.{Block}
use Rattle.zl_meaning.specs.declared.block.BlockKind.{BlockKind}
use Rattle.zl_meaning.specs.declared.block.BlockKind.TheVariants.{Main, Arm, Guard, State as Body, Reset}
use Rattle.zl_meaning.specs.declared.block.Choice.{Choice}
use Rattle.zl_meaning.specs.declared.place.Definer.{Definer}
use Rattle.zl_meaning.specs.declared.place.Definer.TheVariants.{Input, Plain, Der, Start}
use Rattle.zl_meaning.specs.declared.place.PlaceInfo.{PlaceInfo}
use Rattle.zl_meaning.proofs.Greatest.{below-most}
use Rattle.zl_meaning.proofs.LevelLists.{each}
use Rattle.zl_meaning.proofs.LevelTurns.{IsDecidedBy, ByCondition, ByEvent}
use Rattle.zl_meaning.proofs.Members.{all-append, all-flat_map, all-has, all-map, all-when, has-left, has-right, has-later, has-flat_map, has-when}
use Rattle.zl_meaning.proofs.ReadLists.{reads, reads-sound, reads-whole, conditions, conditions-sound, conditions-whole, top}
use Rattle.zl_meaning.proofs.ValueOrder.{IsOrder}

-- the block of a definer, but of an input
abbrev pub definer_blocks : Definer → List Thing
definer_blocks (Input n) = []
definer_blocks (Plain b j) = BlockThing b ∷ []
definer_blocks (Der b slope arms) = BlockThing b ∷ []
definer_blocks (Start b j) = BlockThing b ∷ []

abbrev parent_block : Option ℕ → List Thing
parent_block None = []
parent_block (Some parent) = BlockThing parent ∷ []

abbrev pub choice_tests : Option Choice → List ℕ
choice_tests None = []
choice_tests (Some choice) = choice.conds

abbrev strong_test : AutoMove → List ℕ
strong_test move = when move.strong move.cond

abbrev pub strong_tests : Option Auto → List ℕ
strong_tests None = []
strong_tests (Some auto) = flat_map (flat_map strong_test) auto.states

-- the tests that decide whether a block of this kind is active
abbrev pub tests_for : FlatForm → BlockKind → List ℕ
tests_for f Main = []
tests_for f (Arm of arm) = choice_tests (slice_get f.choices of)
tests_for f (Guard of state) = []
tests_for f (Body of state) = strong_tests (slice_get f.automata of)
tests_for f (Reset k) = k ∷ []

pub block-in : (d : Definer) (b : ℕ) → IsBlockOf d b → Has (definer_blocks d) (BlockThing b)
block-in (Input n) b of = absurd of
block-in (Plain a j) b of = record { index = 0; is = ap (λ c. Some (BlockThing c)) of }
block-in (Der a slope arms) b of = record { index = 0; is = ap (λ c. Some (BlockThing c)) of }
block-in (Start a j) b of = record { index = 0; is = ap (λ c. Some (BlockThing c)) of }

pub strong-in : (f : FlatForm) (of k : ℕ) → IsStrongTest f of k → Has (strong_tests (slice_get f.automata of)) k
strong-in f of k test =
    subst (λ o. Has (strong_tests o) k) (sym test.is)
    (has-flat_map (flat_map strong_test) test.auto.states test.moves k (record { index = test.state; is = test.in_state })
    (has-flat_map strong_test test.moves test.move k test.among (subst (λ j. Has (strong_test test.move) j) test.test (has-when test.move.strong test.move.cond test.strong))))

module _ (f : FlatForm) (well : IsWellFormed f) (v : IsOrder f well) where
  -- what occurrence number `k` reads
  abbrev read_of : ℕ → List Thing
  read_of k = reads f (suc (v.order k)) k

  abbrev definer_needs : Definer → List Thing
  definer_needs d = definer_blocks d ++ flat_map read_of (read_by d)

  abbrev call_needs : Option ℕ → List Thing
  call_needs None = []
  call_needs (Some call) = flat_map read_of (conditions f (top f well) call)

  abbrev place_needs : Option PlaceInfo → List Thing
  place_needs None = []
  place_needs (Some x) = BlockThing x.block ∷ (flat_map definer_needs x.definers ++ call_needs x.call)

  abbrev block_needs : Option Block → List Thing
  block_needs None = []
  block_needs (Some x) = parent_block x.parent ++ flat_map read_of (tests_for f x.kind)

  -- what a place or a block depends on in one step
  abbrev pub needs_of : Thing → List Thing
  needs_of (PlaceThing p) = place_needs (slice_get f.places p)
  needs_of (BlockThing b) = block_needs (slice_get f.blocks b)

  -- ---- all that is listed is a dependency

  reads-all : (a : Thing) (ks : List ℕ) → ((k : ℕ) → Has ks k → (thing : Thing) → OccReads f k thing → DependsAtOnce f a thing) → AllByRecursion (DependsAtOnce f a) (flat_map read_of ks)
  reads-all a ks all =
      all-flat_map (DependsAtOnce f a) read_of ks
      (each (λ k. AllByRecursion (DependsAtOnce f a) (read_of k)) ks (λ k h. all-map (OccReads f k) (DependsAtOnce f a) (all k h) (read_of k) (reads-sound f (suc (v.order k)) k)))

  definer-sound : (p : ℕ) (d : Definer) → HasDefiner f p d → AllByRecursion (DependsAtOnce f (PlaceThing p)) (definer_needs d)
  definer-sound p d has =
      all-append (DependsAtOnce f (PlaceThing p)) (definer_blocks d) (flat_map read_of (read_by d)) (blocks d has)
      (reads-all (PlaceThing p) (read_by d) (λ k h thing r. PlaceOnValue p k d thing has h r))
    where
      blocks : (d : Definer) → HasDefiner f p d → AllByRecursion (DependsAtOnce f (PlaceThing p)) (definer_blocks d)
      blocks (Input n) has = tt
      blocks (Plain b j) has = (PlaceOnDefiner p b (Plain b j) has refl, tt)
      blocks (Der b slope arms) has = (PlaceOnDefiner p b (Der b slope arms) has refl, tt)
      blocks (Start b j) has = (PlaceOnDefiner p b (Start b j) has refl, tt)

  decided-at-once : (p call : ℕ) → place_call f p ≡ Some call → (t : ℕ) (thing : Thing) → IsDecidedBy f call t → OccReads f t thing → DependsAtOnce f (PlaceThing p) thing
  decided-at-once p call at t thing (ByCondition whole side under) reads = PlaceOnCondition p call whole t side thing at under reads
  decided-at-once p call at t thing (ByEvent of all arm under h) reads = PlaceOnEvent p call t arm of all thing at under h reads

  call-sound : (p : ℕ) (call : Option ℕ) → place_call f p ≡ call → AllByRecursion (DependsAtOnce f (PlaceThing p)) (call_needs call)
  call-sound p None at = tt
  call-sound p (Some call) at =
      reads-all (PlaceThing p) (conditions f (top f well) call)
      (λ t h thing r. decided-at-once p call at t thing (all-has (IsDecidedBy f call) (conditions f (top f well) call) t (conditions-sound f (top f well) call) h) r)

  place-sound : (p : ℕ) (o : Option PlaceInfo) → slice_get f.places p ≡ o → AllByRecursion (DependsAtOnce f (PlaceThing p)) (place_needs o)
  place-sound p None is = tt
  place-sound p (Some x) is = (
    PlaceOnBlock p x is,
    all-append (DependsAtOnce f (PlaceThing p)) (flat_map definer_needs x.definers) (call_needs x.call)
        (all-flat_map (DependsAtOnce f (PlaceThing p)) definer_needs x.definers
        (each (λ d. AllByRecursion (DependsAtOnce f (PlaceThing p)) (definer_needs d)) x.definers (λ d h. definer-sound p d (x, is, h))))
        (call-sound p x.call (ap (option_and_then (λ (y : PlaceInfo). y.call)) is)),
  )

  strong-tests : (of : ℕ) (auto : Auto) → slice_get f.automata of ≡ Some auto → AllByRecursion (IsStrongTest f of) (flat_map (flat_map strong_test) auto.states)
  strong-tests of auto is =
      all-flat_map (IsStrongTest f of) (flat_map strong_test) auto.states
      (each (λ moves. AllByRecursion (IsStrongTest f of) (flat_map strong_test moves)) auto.states (λ moves in_state.
      all-flat_map (IsStrongTest f of) strong_test moves
      (each (λ move. AllByRecursion (IsStrongTest f of) (strong_test move)) moves (λ move h.
      all-when (IsStrongTest f of) move.strong move.cond
      (λ e. record { auto = auto; is = is; state = in_state.index; moves = moves; in_state = in_state.is; move = move; among = h; strong = e; test = refl })))))

  tests-sound : (b : ℕ) (kind : BlockKind) → kind_of f b ≡ Some kind → AllByRecursion (DependsAtOnce f (BlockThing b)) (flat_map read_of (tests_for f kind))
  tests-sound b Main is = tt
  tests-sound b (Guard of state) is = tt
  tests-sound b (Reset k) is = reads-all (BlockThing b) (k ∷ []) (λ j h thing r. ResetOnTest b k thing is (subst (λ i. OccReads f i thing) (one k j h) r))
    where
      one : (k j : ℕ) → Has (k ∷ []) j → j ≡ k
      one k j h = all-has (λ i. i ≡ k) (k ∷ []) j (refl, tt) h
  tests-sound b (Arm of arm) is = by_choice (slice_get f.choices of) refl
    where
      by_choice : (o : Option Choice) → slice_get f.choices of ≡ o → AllByRecursion (DependsAtOnce f (BlockThing b)) (flat_map read_of (choice_tests o))
      by_choice None there = tt
      by_choice (Some choice) there = reads-all (BlockThing b) choice.conds (λ k h thing r. ArmOnTest b of arm k thing is (record { choice = choice; is = there; test = h }) r)
  tests-sound b (Body of state) is = by_auto (slice_get f.automata of) refl
    where
      by_auto : (o : Option Auto) → slice_get f.automata of ≡ o → AllByRecursion (DependsAtOnce f (BlockThing b)) (flat_map read_of (strong_tests o))
      by_auto None there = tt
      by_auto (Some auto) there =
          reads-all (BlockThing b) (strong_tests (Some auto))
          (λ k h thing r. BodyOnTest b of state k thing is (all-has (IsStrongTest f of) (strong_tests (Some auto)) k (strong-tests of auto there) h) r)

  block-sound : (b : ℕ) (o : Option Block) → slice_get f.blocks b ≡ o → AllByRecursion (DependsAtOnce f (BlockThing b)) (block_needs o)
  block-sound b None is = tt
  block-sound b (Some x) is =
      all-append (DependsAtOnce f (BlockThing b)) (parent_block x.parent) (flat_map read_of (tests_for f x.kind)) (parent x.parent (ap (option_and_then (λ (y : Block). y.parent)) is))
      (tests-sound b x.kind (ap (option_map (λ (y : Block). y.kind)) is))
    where
      parent : (q : Option ℕ) → parent_of f b ≡ q → AllByRecursion (DependsAtOnce f (BlockThing b)) (parent_block q)
      parent None up = tt
      parent (Some q) up = (BlockOnParent b q up, tt)

  pub needs-sound : (a : Thing) → AllByRecursion (DependsAtOnce f a) (needs_of a)
  needs-sound (PlaceThing p) = place-sound p (slice_get f.places p) refl
  needs-sound (BlockThing b) = block-sound b (slice_get f.blocks b) refl

  -- ---- all dependencies are listed

  read-in : (ks : List ℕ) (k : ℕ) (thing : Thing) → Has ks k → OccReads f k thing → Has (flat_map read_of ks) thing
  read-in ks k thing h r = has-flat_map read_of ks k thing h (reads-whole f v.order v.grows (suc (v.order k)) k thing (omega arith) r)

  in-place : (p : ℕ) (x : PlaceInfo) (thing : Thing) → slice_get f.places p ≡ Some x → Has (place_needs (Some x)) thing → Has (needs_of (PlaceThing p)) thing
  in-place p x thing is h = subst (λ o. Has (place_needs o) thing) (sym is) h

  in-definer : (p : ℕ) (d : Definer) (thing : Thing) → HasDefiner f p d → Has (definer_needs d) thing → Has (needs_of (PlaceThing p)) thing
  in-definer p d thing has h =
      in-place p has.0 thing has.1
      (has-later (BlockThing has.0.block) (flat_map definer_needs has.0.definers ++ call_needs has.0.call) thing
      (has-left (flat_map definer_needs has.0.definers) (call_needs has.0.call) thing (has-flat_map definer_needs has.0.definers d thing has.2 h)))

  call-in : (p call t : ℕ) (thing : Thing) → place_call f p ≡ Some call → IsDecidedBy f call t → OccReads f t thing → Has (needs_of (PlaceThing p)) thing
  call-in p call t thing at decided r = by_place (slice_get f.places p) refl at
    where
      of_place : (x : PlaceInfo) → slice_get f.places p ≡ Some x → x.call ≡ Some call → IsCalled f x.block (Some call) → Has (needs_of (PlaceThing p)) thing
      of_place x is e there =
          let most = below-most well.heights.height (length f.occs) call (slice_get_within f.occs call there.0 there.1) in
          let listed = conditions-whole f well call t (omega (arith, most)) decided in
          in-place p x thing is
          (has-later (BlockThing x.block) (flat_map definer_needs x.definers ++ call_needs x.call) thing
          (has-right (flat_map definer_needs x.definers) (call_needs x.call) thing
          (subst (λ o. Has (call_needs o) thing) (sym e) (read-in (conditions f (top f well) call) t thing listed r))))

      by_place : (o : Option PlaceInfo) → slice_get f.places p ≡ o → option_and_then (λ (x : PlaceInfo). x.call) o ≡ Some call → Has (needs_of (PlaceThing p)) thing
      by_place None is e = absurd (cc)
      by_place (Some x) is e = of_place x is e (subst (IsCalled f x.block) e (well.places p x is).call)

  test-in : (b k : ℕ) (kind : BlockKind) (thing : Thing) → kind_of f b ≡ Some kind → Has (tests_for f kind) k → OccReads f k thing → Has (needs_of (BlockThing b)) thing
  test-in b k kind thing is h r = by_block (slice_get f.blocks b) is
    where
      same : (x : BlockKind) → Some x ≡ Some kind → kind ≡ x
      same x e = cc

      by_block : (o : Option Block) → option_map (λ (y : Block). y.kind) o ≡ Some kind → Has (block_needs o) thing
      by_block None e = absurd (cc)
      by_block (Some x) e = has-right (parent_block x.parent) (flat_map read_of (tests_for f x.kind)) thing (read-in (tests_for f x.kind) k thing (subst (λ c. Has (tests_for f c) k) (same x.kind e) h) r)

  parent-in : (b parent : ℕ) → parent_of f b ≡ Some parent → Has (needs_of (BlockThing b)) (BlockThing parent)
  parent-in b parent up = by_block (slice_get f.blocks b) up
    where
      by_block : (o : Option Block) → option_and_then (λ (y : Block). y.parent) o ≡ Some parent → Has (block_needs o) (BlockThing parent)
      by_block None e = absurd (cc)
      by_block (Some x) e =
          has-left (parent_block x.parent) (flat_map read_of (tests_for f x.kind)) (BlockThing parent) (subst (λ q. Has (parent_block q) (BlockThing parent)) (sym e) (record { index = 0; is = refl }))

  pub needs-whole : ((p : ℕ) → LeadsTo f p p → ⊥) → (a b : Thing) → DependsAtOnce f a b → Has (needs_of a) b
  needs-whole alone _ _ (PlaceOnBlock p x is) = in-place p x (BlockThing x.block) is (record { index = 0; is = refl })
  needs-whole alone _ _ (PlaceOnDefiner p b d has of) = in-definer p d (BlockThing b) has (has-left (definer_blocks d) (flat_map read_of (read_by d)) (BlockThing b) (block-in d b of))
  needs-whole alone _ thing (PlaceOnValue p k d _ has h r) = in-definer p d thing has (has-right (definer_blocks d) (flat_map read_of (read_by d)) thing (read-in (read_by d) k thing h r))
  needs-whole alone _ thing (PlaceOnCondition p call whole c side _ at under r) = call-in p call c thing at (ByCondition whole side under) r
  needs-whole alone _ thing (PlaceOnEvent p call event arm of events _ at under h r) = call-in p call event thing at (ByEvent of events arm under h) r
  needs-whole alone _ _ (PlaceOnItself p leads) = absurd (alone p leads)
  needs-whole alone _ _ (BlockOnParent b parent up) = parent-in b parent up
  needs-whole alone _ thing (ArmOnTest b of arm k _ is test r) = test-in b k (Arm of arm) thing is (subst (λ o. Has (choice_tests o) k) (sym test.is) test.test) r
  needs-whole alone _ thing (BodyOnTest b of state k _ is test r) = test-in b k (Body of state) thing is (strong-in f of k test) r
  needs-whole alone _ thing (ResetOnTest b k _ is r) = test-in b k (Reset k) thing is (record { index = 0; is = refl }) r
