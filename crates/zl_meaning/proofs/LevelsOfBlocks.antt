-- Ranks of places and blocks: a block has twice its rank, a guard just more than its parent; what a place or a block reads by
-- its tests, definers and calls stays below.
use Rattle.std.specs.Prelude.{◌≡◌, ℕ, suc, ◌+◌, ◌<◌, ◌≤◌, Bool, true, false, List, slice_get, Option, Some, None}
use Rattle.std.specs.Option.{option_map, option_and_then}
use Rattle.std.proofs.Common.{refl, sym, ap, ◌∙◌, subst, arith}
use Rattle.zl_value.specs.Lists.{Has}
use Rattle.zl_meaning.specs.FlatForm.{FlatForm, HasDefiner, kind_of, parent_of, place_call}
use Rattle.zl_meaning.specs.WellFormed.{IsWellFormed, IsBlock, IsCalled, IsMove, IsParent, Stands, tests_of}
use Rattle.zl_meaning.specs.Depends.{Thing, PlaceThing, BlockThing, OccReads, LeadsTo, IsBlockOf, IsChoiceTest, IsStrongTest, read_by, DependsAtOnce, PlaceOnBlock, PlaceOnDefiner, PlaceOnValue, PlaceOnCondition, PlaceOnEvent, PlaceOnItself, BlockOnParent, ArmOnTest, BodyOnTest, ResetOnTest, AreRanks, rank_in}
use Rattle.zl_value.specs.declared.value.Ty.TheVariants.{Bool as BoolTy}
use Rattle.zl_meaning.specs.declared.block.Block.{Block}
use Rattle.zl_meaning.specs.declared.block.BlockKind.{BlockKind}
use Rattle.zl_meaning.specs.declared.block.BlockKind.TheVariants.{Main, Arm, Guard, State as Body, Reset}
use Rattle.zl_meaning.specs.declared.place.Definer.{Definer}
use Rattle.zl_meaning.specs.declared.place.PlaceInfo.{PlaceInfo}
use Rattle.zl_meaning.proofs.LevelTurns.{turns, value_step, used_step, level_in, StandsBelow, IsDecidedBy, ByCondition, ByEvent, value-bounded, used-bounded, within-rises, below-in, decided-below}
use Rattle.zl_meaning.proofs.Members.{all-has}
use Rattle.zl_meaning.proofs.Standing.{IsIn, definer-in, read-named}

-- twice the rank of a block; a guard stands just above its parent, whatever its own rank
abbrev pub lifted : ℕ → (ℕ → ℕ) → Option BlockKind → Option ℕ → ℕ
lifted r of_parent (Some (Guard of state)) (Some parent) = suc (of_parent parent + of_parent parent)
lifted r of_parent (Some (Guard of state)) None = r + r
lifted r of_parent (Some Main) parent = r + r
lifted r of_parent (Some (Arm of arm)) parent = r + r
lifted r of_parent (Some (Body of state)) parent = r + r
lifted r of_parent (Some (Reset k)) parent = r + r
lifted r of_parent None parent = r + r

abbrev is_guard : BlockKind → Bool
is_guard Main = false
is_guard (Arm of arm) = false
is_guard (Guard of state) = true
is_guard (Body of state) = false
is_guard (Reset k) = false

-- a block of this kind has a parent, which is that of such a block
pub record HasParent (f : FlatForm) (b : ℕ) (kind : BlockKind) : Type 0 where
  pub parent : ℕ
  pub up : parent_of f b ≡ Some parent
  pub is : IsParent f parent kind

has-parent : (f : FlatForm) → IsWellFormed f → (b : ℕ) (kind : BlockKind) → kind_of f b ≡ Some kind → (kind ≡ Main → ⊥) → HasParent f b kind
has-parent f well b kind is other = by_block (slice_get f.blocks b) refl is
  where
    alone : (kind : BlockKind) → (kind ≡ Main → ⊥) → IsBlock f b None kind → HasParent f b kind
    alone Main other block = absurd (other refl)
    alone (Arm of arm) other block = absurd block
    alone (Guard of state) other block = absurd block
    alone (Body of state) other block = absurd block
    alone (Reset k) other block = absurd block

    by_parent : (x : Block) → slice_get f.blocks b ≡ Some x → (q : Option ℕ) → x.parent ≡ q → IsBlock f b q kind → HasParent f b kind
    by_parent x at None up block = alone kind other block
    by_parent x at (Some parent) up block = record { parent = parent; up = ap (option_and_then (λ (y : Block). y.parent)) at ∙ up; is = block.1 }

    by_block : (o : Option Block) → slice_get f.blocks b ≡ o → option_map (λ (y : Block). y.kind) o ≡ Some kind → HasParent f b kind
    by_block None at e = absurd (cc)
    by_block (Some x) at e = by_parent x at x.parent refl (subst (IsBlock f b x.parent) (same e) (well.blocks b x at))
      where
        same : Some x.kind ≡ Some kind → x.kind ≡ kind
        same e = cc

module _ (f : FlatForm) (well : IsWellFormed f) (of_places of_blocks : List ℕ) (ranks : AreRanks f of_places of_blocks) where
  abbrev rank : Thing → ℕ
  rank = rank_in of_places of_blocks

  abbrev rank_of : ℕ → ℕ
  rank_of b = rank (BlockThing b)

  abbrev pub block : ℕ → ℕ
  block b = lifted (rank_of b) rank_of (kind_of f b) (parent_of f b)

  abbrev pub place : ℕ → ℕ
  place p = rank (PlaceThing p) + rank (PlaceThing p)

  pub no-circle : (p : ℕ) → LeadsTo f p p → ⊥
  no-circle p leads = let low = ranks.grow (PlaceThing p) (PlaceThing p) (PlaceOnItself p leads) in omega (arith, low)

  parent-lower : (b parent : ℕ) → parent_of f b ≡ Some parent → rank_of parent < rank_of b
  parent-lower b parent up = ranks.grow (BlockThing b) (BlockThing parent) (BlockOnParent b parent up)

  -- no block is higher than its rank says
  block-most : (b : ℕ) → block b ≤ rank_of b + rank_of b
  block-most b = by_kind (kind_of f b) (parent_of f b) refl
    where
      by_kind : (kind : Option BlockKind) (q : Option ℕ) → parent_of f b ≡ q → lifted (rank_of b) rank_of kind q ≤ rank_of b + rank_of b
      by_kind (Some (Guard of state)) (Some parent) up = let low = parent-lower b parent up in omega (arith, low)
      by_kind (Some (Guard of state)) None up = omega arith
      by_kind (Some Main) q up = omega arith
      by_kind (Some (Arm of arm)) q up = omega arith
      by_kind (Some (Body of state)) q up = omega arith
      by_kind (Some (Reset k)) q up = omega arith
      by_kind None q up = omega arith

  -- each is above its parent
  pub rise : (b parent : ℕ) → parent_of f b ≡ Some parent → block parent < block b
  rise b parent up =
      let most = block-most parent in
      let e : block b ≡ lifted (rank_of b) rank_of (kind_of f b) (Some parent) = ap (lifted (rank_of b) rank_of (kind_of f b)) up in
      let more = by_kind (kind_of f b) (parent-lower b parent up) in
      omega (arith, most, e, more)
    where
      by_kind : (kind : Option BlockKind) → rank_of parent < rank_of b → rank_of parent + rank_of parent < lifted (rank_of b) rank_of kind (Some parent)
      by_kind (Some (Guard of state)) low = omega arith
      by_kind (Some Main) low = omega (arith, low)
      by_kind (Some (Arm of arm)) low = omega (arith, low)
      by_kind (Some (Body of state)) low = omega (arith, low)
      by_kind (Some (Reset k)) low = omega (arith, low)
      by_kind None low = omega (arith, low)

  -- what a place, or a block that is no guard, depends on is lower
  thing-most : (t : Thing) → level_in place block t ≤ rank t + rank t
  thing-most (PlaceThing p) = omega arith
  thing-most (BlockThing b) = block-most b

  below-place : (p : ℕ) (t : Thing) → DependsAtOnce f (PlaceThing p) t → level_in place block t < place p
  below-place p t d = let most = thing-most t in let low = ranks.grow (PlaceThing p) t d in omega (arith, most, low)

  below-block : (b : ℕ) (t : Thing) → block b ≡ rank_of b + rank_of b → DependsAtOnce f (BlockThing b) t → level_in place block t < block b
  below-block b t e d = let most = thing-most t in let low = ranks.grow (BlockThing b) t d in omega (arith, most, low, e)

  -- the level of the value of `k`, by `m` turns
  abbrev pub value_by : ℕ → ℕ → ℕ
  value_by m k = turns (value_step f place block) m k

  -- a test is below a block that is no guard and is above the block of the test
  test-below : (b k around m : ℕ) → IsIn f around k → block around < block b → block b ≡ rank_of b + rank_of b → ((t : Thing) → OccReads f k t → DependsAtOnce f (BlockThing b) t) → value_by m k < block b
  test-below b k around m stands low e reads =
      value-bounded f well place block rise m (block b) k (omega (arith, low)) (below-in f well place block rise (block b) k around stands low) (λ t r. below-block b t e (reads t r))

  pub arm-above : (b of arm k m : ℕ) → kind_of f b ≡ Some (Arm of arm) → IsChoiceTest f of k → value_by m k < block b
  arm-above b of arm k m is test =
      let outer = has-parent f well b (Arm of arm) is (λ e. absurd (cc)) in
      let low = rise b outer.parent outer.up in
      let stands = all-has (Stands f test.choice.block BoolTy) test.choice.conds k (well.choices of test.choice test.is).tests test.test in
      let at : test.choice.block ≡ outer.parent = ap_block outer.is.0 outer.is.1 outer.is.2 in
      test-below b k test.choice.block m (BoolTy, stands) (subst (λ c. block c < block b) (sym at) low) (ap (λ kind. lifted (rank_of b) rank_of kind (parent_of f b)) is) (λ t reads. ArmOnTest b of arm k t is test reads)
    where
      ap_block : (choice : _) → slice_get f.choices of ≡ Some choice → {q : ℕ} → choice.block ≡ q → test.choice.block ≡ q
      ap_block choice there e = let same = test.is in cc

  pub body-above : (b of state k m : ℕ) → kind_of f b ≡ Some (Body of state) → IsStrongTest f of k → value_by m k < block b
  body-above b of state k m is test =
      let own : block b ≡ rank_of b + rank_of b = ap (λ kind. lifted (rank_of b) rank_of kind (parent_of f b)) is in
      let outer = has-parent f well b (Body of state) is (λ e. absurd (cc)) in
      let move : IsMove f test.auto of test.state test.move = all-has (IsMove f test.auto of test.state) test.moves test.move ((well.automata of test.auto test.is).moves test.state test.moves test.in_state) test.among in
      let guards : kind_of f move.block ≡ Some (Guard of test.state) = move.is ∙ ap (λ s. Some (tests_of s of test.state)) test.strong in
      let around = has-parent f well move.block (Guard of test.state) guards (λ e. absurd (cc)) in
      let level : block move.block ≡ suc (rank_of around.parent + rank_of around.parent) =
      ap (λ kind. lifted (rank_of move.block) rank_of kind (parent_of f move.block)) guards ∙ ap (lifted (rank_of move.block) rank_of (Some (Guard of test.state))) around.up in
      let same : around.parent ≡ outer.parent = one_auto around.is.0 around.is.1 around.is.2 outer.is.0 outer.is.1 outer.is.2 in
      let at = ap rank_of same in
      let low = parent-lower b outer.parent outer.up in
      test-below b k move.block m (BoolTy, subst (Stands f move.block BoolTy) test.test move.test) (omega (arith, own, level, at, low)) own (λ t reads. BodyOnTest b of state k t is test reads)
    where
      one_auto : (x : _) → slice_get f.automata of ≡ Some x → {p : ℕ} → x.block ≡ p → (y : _) → slice_get f.automata of ≡ Some y → {q : ℕ} → y.block ≡ q → p ≡ q
      one_auto x there e y here g = cc

  pub reset-above : (b k m : ℕ) → kind_of f b ≡ Some (Reset k) → value_by m k < block b
  reset-above b k m is =
      let outer = has-parent f well b (Reset k) is (λ e. absurd (cc)) in
      test-below b k outer.parent m (BoolTy, outer.is) (rise b outer.parent outer.up) (ap (λ kind. lifted (rank_of b) rank_of kind (parent_of f b)) is) (λ t reads. ResetOnTest b k t is reads)

  -- a place is above its block, those of its definers and what these name
  pub place-above : (p : ℕ) (x : PlaceInfo) → slice_get f.places p ≡ Some x → block x.block < place p
  place-above p x is = below-place p (BlockThing x.block) (PlaceOnBlock p x is)

  pub definer-above : (p b : ℕ) (d : Definer) → HasDefiner f p d → IsBlockOf d b → block b < place p
  definer-above p b d has of = below-place p (BlockThing b) (PlaceOnDefiner p b d has of)

  pub named-above : (p k m : ℕ) (d : Definer) → HasDefiner f p d → Has (read_by d) k → value_by m k < place p
  named-above p k m d has named =
      let in_block = definer-in f well p k d has (read-named d k named) in
      let low = definer-above p in_block.0 d has in_block.1 in
      value-bounded f well place block rise m (place p) k (omega (arith, low)) (below-in f well place block rise (place p) k in_block.0 in_block.2 low) (λ t reads. below-place p t (PlaceOnValue p k d t has named reads))

  -- and above all that decides whether its call is evaluated
  pub call-above : (turn : ℕ → ℕ) (p c m : ℕ) → place_call f p ≡ Some c → turns (used_step f block (λ k. value_by (turn k) k)) m c < place p
  call-above turn p c m at = by_place (slice_get f.places p) refl at
    where
      decided : (t : ℕ) (thing : Thing) → IsDecidedBy f c t → OccReads f t thing → DependsAtOnce f (PlaceThing p) thing
      decided t thing (ByCondition whole side under) reads = PlaceOnCondition p c whole t side thing at under reads
      decided t thing (ByEvent call all arm under h) reads = PlaceOnEvent p c t arm call all thing at under h reads

      of_place : (x : PlaceInfo) → slice_get f.places p ≡ Some x → IsCalled f x.block (Some c) → turns (used_step f block (λ k. value_by (turn k) k)) m c < place p
      of_place x is there =
          let inside = within-rises f well place block rise there.0.block x.block there.2 in
          let low = place-above p x is in
          let around : block there.0.block < place p = omega (arith, inside, low) in
          let own : StandsBelow f block (place p) c = below-in f well place block rise (place p) c there.0.block (_, record { occ = there.0; is = there.1; block = refl; typed = refl }) around in
          used-bounded f well place block rise (λ k. value_by (turn k) k) m (place p) c (omega (arith, low)) own
          (λ t d. value-bounded f well place block rise (turn t) (place p) t (omega (arith, low)) (decided-below f well place block rise (place p) c t d own) (λ thing reads. below-place p thing (decided t thing d reads)))

      by_place : (o : Option PlaceInfo) → slice_get f.places p ≡ o → option_and_then (λ (x : PlaceInfo). x.call) o ≡ Some c → turns (used_step f block (λ k. value_by (turn k) k)) m c < place p
      by_place None is e = absurd (cc)
      by_place (Some x) is e = of_place x is (subst (IsCalled f x.block) e (well.places p x is).call)
