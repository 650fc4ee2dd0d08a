-- A use as data, by cases, is one of the list of uses, and each of the list is one.
use Rattle.std.proofs.Common.{◌≡◌, ◌⊎◌, inl, inr, ℕ, zero, suc, ◌+◌, Bool, true, false, if◌then◌else◌, ◌||◌, nat_eq, List, [], ◌∷◌, ◌++◌, slice_get, Option, Some, None, refl, sym, ap, subst, ◌∙◌, arith}
use Rattle.std.specs.List.{AllByRecursion, flat_map, list_any}
use Rattle.std.specs.Option.{option_map}
use Rattle.std.proofs.lemmas.Bool.{eqb-true, eq-eqb}
use Rattle.zl_value.specs.Lists.{Has, among, when}
use Rattle.zl_meaning.specs.FlatForm.{FlatForm, HasForm, HasDefiner, kind_of, place_call}
use Rattle.zl_meaning.specs.Uses.{Use, PartOf, BranchOf, DefinerOf, SlopeOf, EventOf, StartOf, ResetOf, TestOf, ArgumentOf, AgainOf, IsUse, AsPart, AsBranch, AsDefiner, AsSlope, AsEvent, AsStart, AsReset, AsTest, AsArgument, AsAgain, IsTest, OfChoice, OfReset, OfMove, parts, steady_parts, part_uses, uses_in_occs, events_of, arm_uses, definer_uses, place_uses, is_choice_test, is_reset_test, is_move_test, is_test, is_argument, uses_of}
use Rattle.zl_meaning.specs.declared.block.Block.{Block}
use Rattle.zl_meaning.specs.declared.block.BlockKind.{BlockKind}
use Rattle.zl_meaning.specs.declared.block.BlockKind.TheVariants.{Main, Arm, Guard, State as Body, Reset}
use Rattle.zl_meaning.specs.declared.block.Choice.{Choice}
use Rattle.zl_meaning.specs.declared.block.Auto.{Auto}
use Rattle.zl_meaning.specs.declared.block.AutoMove.{AutoMove}
use Rattle.zl_meaning.specs.declared.place.Definer.{Definer}
use Rattle.zl_meaning.specs.declared.place.Definer.TheVariants.{Input, Plain, Der, Start}
use Rattle.zl_meaning.specs.declared.place.DerArm.{DerArm}
use Rattle.zl_meaning.specs.declared.place.PlaceInfo.{PlaceInfo}
use Rattle.zl_meaning.specs.declared.occurrence.Form.{Form}
use Rattle.zl_meaning.specs.declared.occurrence.Form.TheVariants.{If}
use Rattle.zl_meaning.specs.declared.occurrence.Occ.{Occ}
use Rattle.zl_meaning.specs.declared.occurrence.SiteInfo.{SiteInfo}
use Rattle.zl_meaning.proofs.Members.{has-left, has-right, has-later, has-none, has-case, has-cases, has-when, has-flat_map, has-among, among-has, all-has, all-when, all-append, all-flat_map, all-map, any-has, has-any, Found, each-has, or-true, or-left}

-- each entry of a list stands in the whole, from this number on
abbrev StandsFrom : {X : Type 0} → List X → ℕ → List X → Type 0
StandsFrom whole n xs = (j : ℕ) (x : _) → slice_get xs j ≡ Some x → slice_get whole (n + j) ≡ Some x

stands-all : {X : Type 0} (xs : List X) → StandsFrom xs 0 xs
stands-all xs j x is = ap (λ n. slice_get xs n) (from_none j) ∙ is
  where
    from_none : (j : ℕ) → 0 + j ≡ j
    from_none j = omega arith

stands-first : {X : Type 0} (whole : List X) (n : ℕ) (x : X) (xs : List X) → StandsFrom whole n (x ∷ xs) → slice_get whole n ≡ Some x
stands-first whole n x xs h = ap (λ m. slice_get whole m) (none_more n) ∙ h 0 x refl
  where
    none_more : (n : ℕ) → n ≡ n + 0
    none_more n = omega arith

stands-rest : {X : Type 0} (whole : List X) (n : ℕ) (x : X) (xs : List X) → StandsFrom whole n (x ∷ xs) → StandsFrom whole (suc n) xs
stands-rest whole n x xs h j y is = ap (λ m. slice_get whole m) (one_more n j) ∙ h (suc j) y is
  where
    one_more : (n j : ℕ) → suc n + j ≡ n + suc j
    one_more n j = omega arith

module _ (f : FlatForm) (k : ℕ) where
  -- ---- what the list has is a use

  by-form : (n : ℕ) (form : Form) → HasForm f n form → AllByRecursion (IsUse f k) (part_uses k n form)
  by-form n (If c x y) is =
      all-append (IsUse f k) (when (nat_eq c k) (PartOf n) ++ when (nat_eq x k) (BranchOf n c true)) (when (nat_eq y k) (BranchOf n c false))
      (all-append (IsUse f k) (when (nat_eq c k) (PartOf n)) (when (nat_eq x k) (BranchOf n c true))
      (all-when (IsUse f k) (nat_eq c k) (PartOf n) (λ g. AsPart n (If c x y) is (record { index = 0; is = ap (λ j. Some j) (eqb-true c k g) })))
      (all-when (IsUse f k) (nat_eq x k) (BranchOf n c true) (λ g. AsBranch n c x y true is (sym (eqb-true x k g)))))
      (all-when (IsUse f k) (nat_eq y k) (BranchOf n c false) (λ g. AsBranch n c x y false is (sym (eqb-true y k g))))
  by-form n form is = all-when (IsUse f k) (among k (parts form)) (PartOf n) (λ g. AsPart n form is (has-among k (parts form) g))

  by-occs : (n : ℕ) (occs : List Occ) → StandsFrom f.occs n occs → AllByRecursion (IsUse f k) (uses_in_occs k n occs)
  by-occs n [] h = tt
  by-occs n (x ∷ occs) h =
      all-append (IsUse f k) (part_uses k n x.form) (uses_in_occs k (suc n) occs) (by-form n x.form (x, stands-first f.occs n x occs h, refl)) (by-occs (suc n) occs (stands-rest f.occs n x occs h))

  module _ (p : ℕ) (call : Option ℕ) (called : place_call f p ≡ call) where
    by-arms : (b slope n : ℕ) (resets arms : List DerArm) → HasDefiner f p (Der b slope resets) → StandsFrom resets n arms → AllByRecursion (IsUse f k) (arm_uses k call (events_of resets) n arms)
    by-arms b slope n resets [] has h = tt
    by-arms b slope n resets (a ∷ arms) has h =
        let there : slice_get resets n ≡ Some a = stands-first resets n a arms h in
        all-append (IsUse f k) (when (nat_eq a.event k) (EventOf call) ++ when (nat_eq a.value k) (ResetOf call (events_of resets) n)) (arm_uses k call (events_of resets) (suc n) arms)
        (all-append (IsUse f k) (when (nat_eq a.event k) (EventOf call)) (when (nat_eq a.value k) (ResetOf call (events_of resets) n))
        (all-when (IsUse f k) (nat_eq a.event k) (EventOf call) (λ g. AsEvent p b slope resets a call has (record { index = n; is = there }) (eqb-true a.event k g) called))
        (all-when (IsUse f k) (nat_eq a.value k) (ResetOf call (events_of resets) n) (λ g. AsReset p b slope n resets a call has there (eqb-true a.value k g) called)))
        (by-arms b slope (suc n) resets arms has (stands-rest resets n a arms h))

    by-definer : (definer : Definer) → HasDefiner f p definer → AllByRecursion (IsUse f k) (definer_uses k call definer)
    by-definer (Input n) has = tt
    by-definer (Plain b j) has = all-when (IsUse f k) (nat_eq j k) (DefinerOf call) (λ g. AsDefiner p b call (subst (λ i. HasDefiner f p (Plain b i)) (eqb-true j k g) has) called)
    by-definer (Der b slope resets) has =
        all-append (IsUse f k) (when (nat_eq slope k) (SlopeOf call)) (arm_uses k call (events_of resets) 0 resets)
        (all-when (IsUse f k) (nat_eq slope k) (SlopeOf call) (λ g. AsSlope p b resets call (subst (λ i. HasDefiner f p (Der b i resets)) (eqb-true slope k g) has) called))
        (by-arms b slope 0 resets resets has (stands-all resets))
    by-definer (Start b j) has = all-when (IsUse f k) (nat_eq j k) (StartOf call b) (λ g. AsStart p b call (subst (λ i. HasDefiner f p (Start b i)) (eqb-true j k g) has) called)

  by-places : (p : ℕ) (places : List PlaceInfo) → StandsFrom f.places p places → AllByRecursion (IsUse f k) (flat_map (place_uses k) places)
  by-places p [] h = tt
  by-places p (x ∷ places) h =
      let is : slice_get f.places p ≡ Some x = stands-first f.places p x places h in
      all-append (IsUse f k) (place_uses k x) (flat_map (place_uses k) places)
      (all-flat_map (IsUse f k) (definer_uses k x.call) x.definers (all-map (Has x.definers) (λ d. AllByRecursion (IsUse f k) (definer_uses k x.call d)) (λ d has. by-definer p x.call (call_is p x is) d (x, is, has)) x.definers (each-has x.definers)))
      (by-places (suc p) places (stands-rest f.places p x places h))
    where
      call_is : (p : ℕ) (place : PlaceInfo) → slice_get f.places p ≡ Some place → place_call f p ≡ place.call
      call_is p place is = cc

  abbrev of_a_choice : Bool
  of_a_choice = list_any (is_choice_test k) f.choices

  abbrev of_a_block : Bool
  of_a_block = list_any (λ (block : Block). is_reset_test k block.kind) f.blocks

  abbrev of_a_move : Bool
  of_a_move = list_any (is_move_test k) f.automata

  is-test : is_test f k ≡ true → IsTest f k
  is-test h = by_choice of_a_choice refl of_a_block refl h
    where
      by_move : (auto : Found (is_move_test k) f.automata) → IsTest f k
      by_move auto =
          let moves = has-any (λ moves. list_any (λ (move : AutoMove). nat_eq move.cond k) moves) auto.element.states auto.meets in
          let move = has-any (λ (move : AutoMove). nat_eq move.cond k) moves.element moves.meets in
          OfMove auto.has.index auto.element moves.element move.element auto.has.is moves.has move.has (eqb-true move.element.cond k move.meets)

      by_kind : (b : ℕ) (block : Block) (kind : BlockKind) → slice_get f.blocks b ≡ Some block → block.kind ≡ kind → is_reset_test k kind ≡ true → IsTest f k
      by_kind b block (Reset cond) is e g = OfReset b (let same : cond ≡ k = eqb-true cond k g in cc)
      by_kind b block Main is e g = absurd (cc)
      by_kind b block (Arm of arm) is e g = absurd (cc)
      by_kind b block (Guard of state) is e g = absurd (cc)
      by_kind b block (Body of state) is e g = absurd (cc)

      by_choice : (c : Bool) → of_a_choice ≡ c → (d : Bool) → of_a_block ≡ d → (c || d || of_a_move) ≡ true → IsTest f k
      by_choice true e d e' g = let found = has-any (is_choice_test k) f.choices e in OfChoice found.has.index found.element found.has.is (has-among k found.element.conds found.meets)
      by_choice false e true e' g = let found = has-any (λ (block : Block). is_reset_test k block.kind) f.blocks e' in by_kind found.has.index found.element found.element.kind found.has.is refl found.meets
      by_choice false e false e' g = by_move (has-any (is_move_test k) f.automata g)

  is-argument : is_argument f k ≡ true → IsUse f k ArgumentOf
  is-argument h = let found = has-any (λ (site : SiteInfo). nat_eq site.arg k) f.sites h in AsArgument found.has.index found.element found.has.is (eqb-true found.element.arg k found.meets)

  all-uses : AllByRecursion (IsUse f k) (uses_of f k)
  all-uses =
      let us = uses_in_occs k 0 f.occs in
      let vs = flat_map (place_uses k) f.places in
      let ts = when (is_test f k) TestOf in
      let gs = when (is_argument f k) ArgumentOf in
      all-append (IsUse f k) (us ++ vs ++ ts ++ gs) (when (among k f.again) AgainOf)
      (all-append (IsUse f k) (us ++ vs ++ ts) gs
      (all-append (IsUse f k) (us ++ vs) ts
      (all-append (IsUse f k) us vs (by-occs 0 f.occs (stands-all f.occs)) (by-places 0 f.places (stands-all f.places)))
      (all-when (IsUse f k) (is_test f k) TestOf (λ g. AsTest (is-test g))))
      (all-when (IsUse f k) (is_argument f k) ArgumentOf is-argument))
      (all-when (IsUse f k) (among k f.again) AgainOf (λ g. AsAgain (has-among k f.again g)))

  -- what the list has is a use
  pub use-of-listed : (of : Use) → Has (uses_of f k) of → IsUse f k of
  use-of-listed of has = all-has (IsUse f k) (uses_of f k) of all-uses has

  -- ---- a use is one of the list

  abbrev of_occs : List Use
  of_occs = uses_in_occs k 0 f.occs

  abbrev of_places : List Use
  of_places = flat_map (place_uses k) f.places

  abbrev of_test : List Use
  of_test = when (is_test f k) TestOf

  abbrev of_argument : List Use
  of_argument = when (is_argument f k) ArgumentOf

  abbrev of_again : List Use
  of_again = when (among k f.again) AgainOf

  from-occs : (of : Use) → Has of_occs of → Has (uses_of f k) of
  from-occs of h =
      has-left (of_occs ++ of_places ++ of_test ++ of_argument) of_again of
      (has-left (of_occs ++ of_places ++ of_test) of_argument of (has-left (of_occs ++ of_places) of_test of (has-left of_occs of_places of h)))

  from-places : (of : Use) → Has of_places of → Has (uses_of f k) of
  from-places of h =
      has-left (of_occs ++ of_places ++ of_test ++ of_argument) of_again of
      (has-left (of_occs ++ of_places ++ of_test) of_argument of (has-left (of_occs ++ of_places) of_test of (has-right of_occs of_places of h)))

  from-test : is_test f k ≡ true → Has (uses_of f k) TestOf
  from-test e =
      has-left (of_occs ++ of_places ++ of_test ++ of_argument) of_again TestOf
      (has-left (of_occs ++ of_places ++ of_test) of_argument TestOf (has-right (of_occs ++ of_places) of_test TestOf (has-when (is_test f k) TestOf e)))

  from-argument : is_argument f k ≡ true → Has (uses_of f k) ArgumentOf
  from-argument e =
      has-left (of_occs ++ of_places ++ of_test ++ of_argument) of_again ArgumentOf
      (has-right (of_occs ++ of_places ++ of_test) of_argument ArgumentOf (has-when (is_argument f k) ArgumentOf e))

  from-again : among k f.again ≡ true → Has (uses_of f k) AgainOf
  from-again e = has-right (of_occs ++ of_places ++ of_test ++ of_argument) of_again AgainOf (has-when (among k f.again) AgainOf e)

  -- what one occurrence of many has
  in-occs : (m n : ℕ) (occs : List Occ) (occ : Occ) (of : Use) → slice_get occs n ≡ Some occ → Has (part_uses k (m + n) occ.form) of → Has (uses_in_occs k m occs) of
  in-occs m n [] occ of is h = absurd (cc)
  in-occs m zero (x ∷ occs) occ of is h =
      has-left (part_uses k m x.form) (uses_in_occs k (suc m) occs) of (subst (λ j. Has (part_uses k j x.form) of) (none_more m) (subst (λ (o : Occ). Has (part_uses k (m + 0) o.form) of) (sym (the_same is)) h))
    where
      none_more : (m : ℕ) → m + 0 ≡ m
      none_more m = omega arith

      the_same : Some x ≡ Some occ → x ≡ occ
      the_same e = cc
  in-occs m (suc n) (x ∷ occs) occ of is h =
      has-right (part_uses k m x.form) (uses_in_occs k (suc m) occs) of (in-occs (suc m) n occs occ of is (subst (λ j. Has (part_uses k j occ.form) of) (one_more m n) h))
    where
      one_more : (m n : ℕ) → m + suc n ≡ suc m + n
      one_more m n = omega arith

  of-form : (n : ℕ) (form : Form) (of : Use) → HasForm f n form → Has (part_uses k n form) of → Has (uses_of f k) of
  of-form n form of (occ, is, e) h =
      from-occs of (in-occs 0 n f.occs occ of is (subst (λ j. Has (part_uses k j occ.form) of) (from_none n) (subst (λ form. Has (part_uses k n form) of) (sym e) h)))
    where
      from_none : (n : ℕ) → n ≡ 0 + n
      from_none n = omega arith

  as-part : (n : ℕ) (form : Form) → Has (steady_parts form) k → Has (part_uses k n form) (PartOf n)
  as-part n (If c x y) h = by_case (has-case c [] k h)
    where
      by_case : (c ≡ k) ⊎ Has [] k → Has (part_uses k n (If c x y)) (PartOf n)
      by_case (inl e) = has-left (when (nat_eq c k) (PartOf n) ++ when (nat_eq x k) (BranchOf n c true)) (when (nat_eq y k) (BranchOf n c false)) (PartOf n) (has-left (when (nat_eq c k) (PartOf n)) (when (nat_eq x k) (BranchOf n c true)) (PartOf n) (has-when (nat_eq c k) (PartOf n) (eq-eqb c k e)))
      by_case (inr i) = absurd (has-none k i)
  as-part n form h = has-when (among k (parts form)) (PartOf n) (among-has k (parts form) h)

  as-branch : (n c x y : ℕ) (side : Bool) → k ≡ (if side then x else y) → Has (part_uses k n (If c x y)) (BranchOf n c side)
  as-branch n c x y true e =
      has-left (when (nat_eq c k) (PartOf n) ++ when (nat_eq x k) (BranchOf n c true)) (when (nat_eq y k) (BranchOf n c false)) (BranchOf n c true)
      (has-right (when (nat_eq c k) (PartOf n)) (when (nat_eq x k) (BranchOf n c true)) (BranchOf n c true) (has-when (nat_eq x k) (BranchOf n c true) (eq-eqb x k (sym e))))
  as-branch n c x y false e =
      has-right (when (nat_eq c k) (PartOf n) ++ when (nat_eq x k) (BranchOf n c true)) (when (nat_eq y k) (BranchOf n c false)) (BranchOf n c false) (has-when (nat_eq y k) (BranchOf n c false) (eq-eqb y k (sym e)))

  -- what one definer of many has
  of-definer : (p : ℕ) (call : Option ℕ) (definer : Definer) (of : Use) → HasDefiner f p definer → place_call f p ≡ call → Has (definer_uses k call definer) of → Has (uses_of f k) of
  of-definer p call definer of (place, is, has) e h =
      from-places of (has-flat_map (place_uses k) f.places place of (record { index = p; is = is }) (has-flat_map (definer_uses k place.call) place.definers definer of has (subst (λ c. Has (definer_uses k c definer) of) (sym call_is) h)))
    where
      call_is : place.call ≡ call
      call_is = cc

  -- what a reset arm has
  in-arms : (call : Option ℕ) (events : List ℕ) (m n : ℕ) (arms : List DerArm) (arm : DerArm) (of : Use) → slice_get arms n ≡ Some arm → Has (when (nat_eq arm.event k) (EventOf call) ++ when (nat_eq arm.value k) (ResetOf call events (m + n))) of → Has (arm_uses k call events m arms) of
  in-arms call events m n [] arm of is h = absurd (cc)
  in-arms call events m zero (a ∷ arms) arm of is h =
      has-left (when (nat_eq a.event k) (EventOf call) ++ when (nat_eq a.value k) (ResetOf call events m)) (arm_uses k call events (suc m) arms) of
      (subst (λ j. Has (when (nat_eq a.event k) (EventOf call) ++ when (nat_eq a.value k) (ResetOf call events j)) of) (none_more m) (subst (λ (b : DerArm). Has (when (nat_eq b.event k) (EventOf call) ++ when (nat_eq b.value k) (ResetOf call events (m + 0))) of) (sym (the_same is)) h))
    where
      none_more : (m : ℕ) → m + 0 ≡ m
      none_more m = omega arith

      the_same : Some a ≡ Some arm → a ≡ arm
      the_same e = cc
  in-arms call events m (suc n) (a ∷ arms) arm of is h =
      has-right (when (nat_eq a.event k) (EventOf call) ++ when (nat_eq a.value k) (ResetOf call events m)) (arm_uses k call events (suc m) arms) of
      (in-arms call events (suc m) n arms arm of is (subst (λ j. Has (when (nat_eq arm.event k) (EventOf call) ++ when (nat_eq arm.value k) (ResetOf call events j)) of) (one_more m n) h))
    where
      one_more : (m n : ℕ) → m + suc n ≡ suc m + n
      one_more m n = omega arith

  of-arm : (p b slope n : ℕ) (resets : List DerArm) (arm : DerArm) (call : Option ℕ) (of : Use) → HasDefiner f p (Der b slope resets) → place_call f p ≡ call → slice_get resets n ≡ Some arm → Has (when (nat_eq arm.event k) (EventOf call) ++ when (nat_eq arm.value k) (ResetOf call (events_of resets) n)) of → Has (uses_of f k) of
  of-arm p b slope n resets arm call of has e is h =
      of-definer p call (Der b slope resets) of has e
      (has-right (when (nat_eq slope k) (SlopeOf call)) (arm_uses k call (events_of resets) 0 resets) of
      (in-arms call (events_of resets) 0 n resets arm of is (subst (λ j. Has (when (nat_eq arm.event k) (EventOf call) ++ when (nat_eq arm.value k) (ResetOf call (events_of resets) j)) of) (from_none n) h)))
    where
      from_none : (n : ℕ) → n ≡ 0 + n
      from_none n = omega arith

  test-is : IsTest f k → is_test f k ≡ true
  test-is (OfChoice of choice is has) =
      or-left (of_a_choice || of_a_block) of_a_move
      (or-left of_a_choice of_a_block (any-has (is_choice_test k) f.choices choice (record { index = of; is = is }) (among-has k choice.conds has)))
  test-is (OfReset b is) = by_block (slice_get f.blocks b) refl is
    where
      tested : (block : Block) → block.kind ≡ Reset k → is_reset_test k block.kind ≡ true
      tested block e = ap (λ kind. is_reset_test k kind) e ∙ eq-eqb k k refl

      the_same : (a c : BlockKind) → Some a ≡ Some c → a ≡ c
      the_same a c e = cc

      by_block : (block : Option Block) → slice_get f.blocks b ≡ block → option_map (λ (x : Block). x.kind) block ≡ Some (Reset k) → is_test f k ≡ true
      by_block None there e = absurd (cc)
      by_block (Some block) there e =
          or-left (of_a_choice || of_a_block) of_a_move
          (or-true of_a_choice of_a_block
          (any-has (λ (x : Block). is_reset_test k x.kind) f.blocks block (record { index = b; is = there }) (tested block (the_same block.kind (Reset k) e))))
  test-is (OfMove of auto moves move is in_state among_moves e) =
      or-true (of_a_choice || of_a_block) of_a_move
      (any-has (is_move_test k) f.automata auto (record { index = of; is = is })
      (any-has (λ ms. list_any (λ (m : AutoMove). nat_eq m.cond k) ms) auto.states moves in_state
      (any-has (λ (m : AutoMove). nat_eq m.cond k) moves move among_moves (eq-eqb move.cond k e))))

  -- a use is one of the list
  pub listed-of-use : (of : Use) → IsUse f k of → Has (uses_of f k) of
  listed-of-use _ (AsPart whole form is has) = of-form whole form (PartOf whole) is (as-part whole form has)
  listed-of-use _ (AsBranch whole c x y side is e) = of-form whole (If c x y) (BranchOf whole c side) is (as-branch whole c x y side e)
  listed-of-use _ (AsDefiner p b call has e) = of-definer p call (Plain b k) (DefinerOf call) has e (has-when (nat_eq k k) (DefinerOf call) (eq-eqb k k refl))
  listed-of-use _ (AsSlope p b resets call has e) = of-definer p call (Der b k resets) (SlopeOf call) has e (has-left (when (nat_eq k k) (SlopeOf call)) (arm_uses k call (events_of resets) 0 resets) (SlopeOf call) (has-when (nat_eq k k) (SlopeOf call) (eq-eqb k k refl)))
  listed-of-use _ (AsEvent p b slope resets arm call has within same e) =
      of-arm p b slope within.index resets arm call (EventOf call) has e within.is
      (has-left (when (nat_eq arm.event k) (EventOf call)) (when (nat_eq arm.value k) (ResetOf call (events_of resets) within.index)) (EventOf call) (has-when (nat_eq arm.event k) (EventOf call) (eq-eqb arm.event k same)))
  listed-of-use _ (AsStart p b call has e) = of-definer p call (Start b k) (StartOf call b) has e (has-when (nat_eq k k) (StartOf call b) (eq-eqb k k refl))
  listed-of-use _ (AsReset p b slope n resets arm call has is same e) =
      of-arm p b slope n resets arm call (ResetOf call (events_of resets) n) has e is
      (has-right (when (nat_eq arm.event k) (EventOf call)) (when (nat_eq arm.value k) (ResetOf call (events_of resets) n)) (ResetOf call (events_of resets) n) (has-when (nat_eq arm.value k) (ResetOf call (events_of resets) n) (eq-eqb arm.value k same)))
  listed-of-use _ (AsTest test) = from-test (test-is test)
  listed-of-use _ (AsArgument n site is e) = from-argument (any-has (λ (s : SiteInfo). nat_eq s.arg k) f.sites site (record { index = n; is = is }) (eq-eqb site.arg k e))
  listed-of-use _ (AsAgain has) = from-again (among-has k f.again has)
