-- Ranks of a written form: levels, as lists of numbers, whose inequalities are tested one by one.
use Rattle.std.specs.Prelude.{◌≡◌, ℕ, zero, suc, ◌+◌, ◌<◌, nat_eq, nat_lt, Bool, true, false, ◌&&◌, if◌then◌else◌, List, [], ◌∷◌, length, slice_get, get_or, Option, Some, None}
use Rattle.std.specs.List.{list_all}
use Rattle.std.specs.Option.{option_map}
use Rattle.std.proofs.Common.{refl, sym, ap, subst, ◌∙◌, arith}
use Rattle.std.proofs.lemmas.Bool.{ltb-true, eqb-true}
use Rattle.std.proofs.lemmas.Option.{option_and_then_some}
use Rattle.zl_value.specs.Lists.{Has}
use Rattle.zl_value.specs.declared.value.Ty.{Ty}
use Rattle.zl_meaning.specs.FlatForm.{FlatForm, HasDefiner, kind_of}
use Rattle.zl_meaning.specs.Uses.{BranchOf, ResetOf, IsUse, AsBranch, AsReset, parts, events_of}
use Rattle.zl_meaning.specs.WellFormed.{Stands}
use Rattle.zl_meaning.specs.Depends.{Thing, PlaceThing, BlockThing, read_by, rank_in}
use Rattle.zl_meaning.specs.Causality.{HasRanks}
use Rattle.zl_meaning.specs.Levels.{HasLevels, level_of}
use Rattle.zl_meaning.specs.declared.block.Block.{Block}
use Rattle.zl_meaning.specs.declared.block.BlockKind.{BlockKind}
use Rattle.zl_meaning.specs.declared.block.BlockKind.TheVariants.{Arm, State as Body, Reset}
use Rattle.zl_meaning.specs.declared.place.Definer.{Definer}
use Rattle.zl_meaning.specs.declared.place.Definer.TheVariants.{Input, Plain, Der, Start}
use Rattle.zl_meaning.specs.declared.place.DerArm.{DerArm}
use Rattle.zl_meaning.specs.declared.place.PlaceInfo.{PlaceInfo}
use Rattle.zl_meaning.specs.declared.occurrence.Form.{Form}
use Rattle.zl_meaning.specs.declared.occurrence.Form.TheVariants.{Read, If}
use Rattle.zl_meaning.specs.declared.occurrence.Occ.{Occ}
use Rattle.zl_meaning.proofs.DependencyLists.{definer_blocks, tests_for, choice_tests, block-in, strong-in}
use Rattle.zl_meaning.proofs.LevelsGrow.{levels-rise}
use Rattle.zl_meaning.proofs.Members.{both-hold, has-none, has-cases}
use Rattle.zl_meaning.proofs.ValueOrder.{Needs, OfPart, OfStart, made_of, made-needs, has-form}

-- ---- tests of lists

passes : {X : Type 0} (p : X → Bool) (xs : List X) (x : X) → list_all p xs ≡ true → Has xs x → p x ≡ true
passes p [] x e h = absurd (has-none x h)
passes p (y ∷ ys) x e h =
    let both = both-hold {a = p y} {b = list_all p ys} e in has-cases (p x ≡ true) y ys x h (λ same. ap p (sym same) ∙ both.0) (λ more. passes p ys x both.1 more)

-- the test holds of each element and its number
abbrev pub all_from : {X : Type 0} → (ℕ → X → Bool) → ℕ → List X → Bool
all_from p n [] = true
all_from p n (x ∷ xs) = p n x && all_from p (suc n) xs

passes_from : {X : Type 0} (p : ℕ → X → Bool) (n : ℕ) (xs : List X) → all_from p n xs ≡ true → (k : ℕ) (x : X) → slice_get xs k ≡ Some x → p (n + k) x ≡ true
passes_from p n [] e k x is = absurd (cc)
passes_from p n (y ∷ ys) e zero x is =
    let here : n ≡ n + 0 = omega arith in
    let same : y ≡ x = cc in
    subst (λ j. p j x ≡ true) here (subst (λ z. p n z ≡ true) same (both-hold {a = p n y} {b = all_from p (suc n) ys} e).0)
passes_from p n (y ∷ ys) e (suc k) x is =
    let there : suc n + k ≡ n + suc k = omega arith in
    subst (λ j. p j x ≡ true) there (passes_from p (suc n) ys (both-hold {a = p n y} {b = all_from p (suc n) ys} e).1 k x is)

numbered-passes : {X : Type 0} (p : ℕ → X → Bool) (xs : List X) → all_from p 0 xs ≡ true → (k : ℕ) (x : X) → slice_get xs k ≡ Some x → p k x ≡ true
numbered-passes p xs e k x is = let same : 0 + k ≡ k = omega arith in subst (λ j. p j x ≡ true) same (passes_from p 0 xs e k x is)

-- ---- the tests of levels

abbrev is_in : ℕ → Option Occ → Bool
is_in b None = false
is_in b (Some occ) = nat_eq occ.block b

abbrev call_below : (ℕ → ℕ) → ℕ → Option ℕ → Bool
call_below used n None = true
call_below used n (Some call) = nat_lt (used call) n

module _ (f : FlatForm) (of_places of_blocks of_values of_uses : List ℕ) where
  abbrev place : ℕ → ℕ
  place p = get_or of_places p 0

  abbrev block : ℕ → ℕ
  block b = get_or of_blocks b 0

  abbrev value : ℕ → ℕ
  value k = get_or of_values k 0

  abbrev used : ℕ → ℕ
  used k = get_or of_uses k 0

  abbrev parent_below : ℕ → Option ℕ → Bool
  parent_below n None = true
  parent_below n (Some parent) = nat_lt (block parent) n

  abbrev block_holds : ℕ → Block → Bool
  block_holds b x = parent_below (block b) x.parent && list_all (λ k. nat_lt (value k) (block b)) (tests_for f x.kind)

  abbrev start_holds : Definer → Bool
  start_holds (Start b j) = is_in b (slice_get f.occs j)
  start_holds (Input n) = true
  start_holds (Plain b j) = true
  start_holds (Der b slope arms) = true

  abbrev arms_hold : Definer → Bool
  arms_hold (Der b slope arms) = list_all (λ (arm : DerArm). list_all (λ event. nat_lt (value event) (used arm.value)) (events_of arms)) arms
  arms_hold (Start b j) = true
  arms_hold (Input n) = true
  arms_hold (Plain b j) = true

  abbrev definer_holds : ℕ → Definer → Bool
  definer_holds p d =
      list_all (λ t. nat_lt (rank_in of_places of_blocks t) (place p)) (definer_blocks d)
      && (list_all (λ k. nat_lt (value k) (place p)) (read_by d) && (start_holds d && arms_hold d))

  abbrev place_holds : ℕ → PlaceInfo → Bool
  place_holds p x = nat_lt (block x.block) (place p) && (list_all (definer_holds p) x.definers && call_below used (place p) x.call)

  abbrev name_below : ℕ → Form → Bool
  name_below n (Read p) = nat_lt (place p) n
  name_below n form = true

  abbrev branches_hold : Form → Bool
  branches_hold (If c x y) = nat_lt (value c) (used x) && nat_lt (value c) (used y)
  branches_hold form = true

  abbrev value_holds : ℕ → Occ → Bool
  value_holds k x = nat_lt (block x.block) (value k) && (name_below (value k) x.form && list_all (λ j. nat_lt (value j) (value k)) (made_of f x.form))

  abbrev use_holds : ℕ → Occ → Bool
  use_holds k x =
      nat_lt (block x.block) (used k) && (list_all (λ j. nat_lt (used k) (used j)) (parts x.form) && (call_below used (used k) x.call && branches_hold x.form))

  -- the levels of places and blocks, of values and of uses of occurrences keep every inequality
  pub record AreLevels : Type 0 where
    pub places : all_from place_holds 0 f.places ≡ true
    pub blocks : all_from block_holds 0 f.blocks ≡ true
    pub values : all_from value_holds 0 f.occs ≡ true
    pub uses : all_from use_holds 0 f.occs ≡ true

  module _ (are : AreLevels) where
    block-at : (b : ℕ) (x : Block) → slice_get f.blocks b ≡ Some x → (parent_below (block b) x.parent ≡ true) × (list_all (λ k. nat_lt (value k) (block b)) (tests_for f x.kind) ≡ true)
    block-at b x is = both-hold (numbered-passes block_holds f.blocks are.blocks b x is)

    test-low : (b k : ℕ) (kind : BlockKind) → kind_of f b ≡ Some kind → Has (tests_for f kind) k → value k < block b
    test-low b k kind is h = by_block (slice_get f.blocks b) refl is
      where
        same : (x : BlockKind) → Some x ≡ Some kind → kind ≡ x
        same x e = cc

        by_block : (o : Option Block) → slice_get f.blocks b ≡ o → option_map (λ (x : Block). x.kind) o ≡ Some kind → value k < block b
        by_block None there e = absurd (cc)
        by_block (Some x) there e =
            ltb-true (value k) (block b) (passes (λ j. nat_lt (value j) (block b)) (tests_for f x.kind) k (block-at b x there).1 (subst (λ c. Has (tests_for f c) k) (same x.kind e) h))

    record PlaceAt (p : ℕ) (x : PlaceInfo) : Type 0 where
      pub declared : nat_lt (block x.block) (place p) ≡ true
      pub definers : list_all (definer_holds p) x.definers ≡ true
      pub call : call_below used (place p) x.call ≡ true

    place-at : (p : ℕ) (x : PlaceInfo) → slice_get f.places p ≡ Some x → PlaceAt p x
    place-at p x is = let a = both-hold (numbered-passes place_holds f.places are.places p x is) in let b = both-hold a.1 in record { declared = a.0; definers = b.0; call = b.1 }

    record DefinerAt (p : ℕ) (d : Definer) : Type 0 where
      pub blocks : list_all (λ t. nat_lt (rank_in of_places of_blocks t) (place p)) (definer_blocks d) ≡ true
      pub named : list_all (λ k. nat_lt (value k) (place p)) (read_by d) ≡ true
      pub start : start_holds d ≡ true
      pub arms : arms_hold d ≡ true

    definer-at : (p : ℕ) (d : Definer) → HasDefiner f p d → DefinerAt p d
    definer-at p d has =
        let a = both-hold (passes (definer_holds p) has.0.definers d (place-at p has.0 has.1).definers has.2) in
        let b = both-hold a.1 in
        let c = both-hold b.1 in
        record { blocks = a.0; named = b.0; start = c.0; arms = c.1 }

    starts-stand : (p b k : ℕ) → HasDefiner f p (Start b k) → (ty : Ty) × Stands f b ty k
    starts-stand p b k has = by_occ (slice_get f.occs k) refl (definer-at p (Start b k) has).start
      where
        by_occ : (o : Option Occ) → slice_get f.occs k ≡ o → is_in b o ≡ true → (ty : Ty) × Stands f b ty k
        by_occ None is e = absurd (cc)
        by_occ (Some occ) is e = (occ.ty, record { occ = occ; is = is; block = eqb-true occ.block b e; typed = refl })

    record ValueAt (k : ℕ) (x : Occ) : Type 0 where
      pub stands : nat_lt (block x.block) (value k) ≡ true
      pub names : name_below (value k) x.form ≡ true
      pub made : list_all (λ j. nat_lt (value j) (value k)) (made_of f x.form) ≡ true

    value-at : (k : ℕ) (x : Occ) → slice_get f.occs k ≡ Some x → ValueAt k x
    value-at k x is = let a = both-hold (numbered-passes value_holds f.occs are.values k x is) in let b = both-hold a.1 in record { stands = a.0; names = b.0; made = b.1 }

    made-low : (k j : ℕ) → Needs f k j → value j < value k
    made-low k j needs =
        let o = has-form f k j needs in
        ltb-true (value j) (value k) (passes (λ i. nat_lt (value i) (value k)) (made_of f o.0.form) j (value-at k o.0 o.1).made (made-needs f k j o.0 o.1 needs))

    record UseAt (k : ℕ) (x : Occ) : Type 0 where
      pub stands : nat_lt (block x.block) (used k) ≡ true
      pub parts_above : list_all (λ j. nat_lt (used k) (used j)) (parts x.form) ≡ true
      pub call : call_below used (used k) x.call ≡ true
      pub branches : branches_hold x.form ≡ true

    use-at : (k : ℕ) (x : Occ) → slice_get f.occs k ≡ Some x → UseAt k x
    use-at k x is =
        let a = both-hold (numbered-passes use_holds f.occs are.uses k x is) in
        let b = both-hold a.1 in
        let c = both-hold b.1 in
        record { stands = a.0; parts_above = b.0; call = c.0; branches = c.1 }

    branch-low : (k whole c : ℕ) (side : Bool) → IsUse f k (BranchOf whole c side) → value c < used k
    branch-low k _ _ _ (AsBranch whole c x y side there e) = by_side side e
      where
        both : (nat_lt (value c) (used x) ≡ true) × (nat_lt (value c) (used y) ≡ true)
        both = both-hold (subst (λ form. branches_hold form ≡ true) there.2 (use-at whole there.0 there.1).branches)

        by_side : (s : Bool) → k ≡ (if s then x else y) → value c < used k
        by_side true e = subst (λ j. value c < used j) (sym e) (ltb-true (value c) (used x) both.0)
        by_side false e = subst (λ j. value c < used j) (sym e) (ltb-true (value c) (used y) both.1)

    event-low : (k event arm : ℕ) (of : Option ℕ) (all : List ℕ) → IsUse f k (ResetOf of all arm) → Has all event → value event < used k
    event-low k event _ _ _ (AsReset p b slope n arms arm call has there e at) h =
        let of_arm = passes (λ (a : DerArm). list_all (λ i. nat_lt (value i) (used a.value)) (events_of arms)) arms arm (definer-at p (Der b slope arms) has).arms (record { index = n; is = there }) in
        subst (λ j. value event < used j) e (ltb-true (value event) (used arm.value) (passes (λ i. nat_lt (value i) (used arm.value)) (events_of arms) event of_arm h))

    call-low : (n call : ℕ) (o : Option ℕ) → call_below used n o ≡ true → o ≡ Some call → used call < n
    call-low n call o e is = ltb-true (used call) n (subst (λ x. call_below used n x ≡ true) is e)

    levels : HasLevels f
    levels = record {
      place = place;
      block = block;
      value = value;
      used = used;
      parents = λ b parent up. option_and_then_some (λ (x : Block). x.parent) (slice_get f.blocks b) parent up (λ x is e. ltb-true (block parent) (block b) (subst (λ q. parent_below (block b) q ≡ true) e (block-at b x is).0));
      arms = λ b of arm k is test. test-low b k (Arm of arm) is (subst (λ o. Has (choice_tests o) k) (sym test.is) test.test);
      bodies = λ b of state k is test. test-low b k (Body of state) is (strong-in f of k test);
      resets = λ b k is. test-low b k (Reset k) is (record { index = 0; is = refl });
      declared = λ p x is. ltb-true (block x.block) (place p) (place-at p x is).declared;
      definers = λ p b d has of. ltb-true (block b) (place p) (passes (λ t. nat_lt (rank_in of_places of_blocks t) (place p)) (definer_blocks d) (BlockThing b) (definer-at p d has).blocks (block-in d b of));
      named = λ p k d has h. ltb-true (value k) (place p) (passes (λ j. nat_lt (value j) (place p)) (read_by d) k (definer-at p d has).named h);
      called = λ p call at. option_and_then_some (λ (x : PlaceInfo). x.call) (slice_get f.places p) call at (λ x is e. call-low (place p) call x.call (place-at p x is).call e);
      stands = λ k occ is. ltb-true (block occ.block) (value k) (value-at k occ is).stands;
      names = λ k p there. ltb-true (place p) (value k) (subst (λ form. name_below (value k) form ≡ true) there.2 (value-at k there.0 there.1).names);
      parts = λ k part form is h. made-low k part (OfPart form is h);
      lasts = λ k p b start is has. made-low k start (OfStart p b is has);
      asked = λ k occ is. ltb-true (block occ.block) (used k) (use-at k occ is).stands;
      wholes = λ k whole part. ltb-true (used whole) (used k) (passes (λ j. nat_lt (used whole) (used j)) (parts part.occ.form) k (use-at whole part.occ part.is).parts_above part.part);
      calls = λ k call at. option_and_then_some (λ (x : Occ). x.call) (slice_get f.occs k) call at (λ x is e. call-low (used k) call x.call (use-at k x is).call e);
      branches = branch-low;
      events = event-low;
    }

    level-is : (t : Thing) → level_of f levels t ≡ rank_in of_places of_blocks t
    unfolding levels
    level-is (PlaceThing p) = refl
    level-is (BlockThing b) = refl

    -- so those of places and blocks are ranks
    pub ranks-of-lists : length of_places ≡ length f.places → length of_blocks ≡ length f.blocks → HasRanks f
    ranks-of-lists p q = record {
      of_places = of_places;
      of_blocks = of_blocks;
      grow = record {
        places = p;
        blocks = q;
        grow = λ a b d. let low = levels-rise f starts-stand levels a b d in let x = level-is a in let y = level-is b in omega (arith, low, x, y);
      };
    }
