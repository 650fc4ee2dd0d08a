-- A well-formed form with ranks of its places and blocks has levels.
use Rattle.std.specs.Prelude.{◌≡◌, ℕ, suc, ◌+◌, ◌-◌, ◌*◌, ◌<◌, ◌≤◌, max, Bool, List, ◌∷◌, length, slice_get, Option, Some, None}
use Rattle.std.specs.Option.{option_and_then}
use Rattle.std.proofs.Common.{refl, ap, subst, ⊎_elim, arith}
use Rattle.std.proofs.Math.Nat.{mul-le-mul_right, suc-mul}
use Rattle.std.proofs.lemmas.Option.{slice_get_within}
use Rattle.zl_value.specs.Lists.{Has}
use Rattle.zl_meaning.specs.FlatForm.{FlatForm, HasForm, call_of}
use Rattle.zl_meaning.specs.Uses.{Use, PartOf, BranchOf, ResetOf, IsUse, AsBranch, AsReset, events_of, uses_of}
use Rattle.zl_meaning.specs.Branches.{IsPart}
use Rattle.zl_meaning.specs.WellFormed.{IsWellFormed, IsCalled, named_in}
use Rattle.zl_meaning.specs.Depends.{AreRanks}
use Rattle.zl_meaning.specs.Levels.{HasLevels}
use Rattle.zl_meaning.specs.declared.place.Definer.TheVariants.{Der}
use Rattle.zl_meaning.specs.declared.occurrence.Form.TheVariants.{Read}
use Rattle.zl_meaning.specs.declared.occurrence.Occ.{Occ}
use Rattle.zl_meaning.proofs.Greatest.{most_of, most_below, max-left, max-right, in-most, below-most}
use Rattle.zl_meaning.proofs.LevelLists.{named-value}
use Rattle.zl_meaning.proofs.LevelTurns.{turns, turn-least, named_level, value_level, value_step, call_level, use_level, used_level, used_step, value-more, used-more}
use Rattle.zl_meaning.proofs.Members.{has-later}
use Rattle.zl_meaning.proofs.LevelsOfBlocks.{block, place, rise, no-circle, value_by, arm-above, body-above, reset-above, place-above, definer-above, named-above, call-above}
use Rattle.zl_meaning.proofs.Standing.{part-in, part-used, branch-part, definer-in}
use Rattle.zl_meaning.proofs.UseCases.{listed-of-use}
use Rattle.zl_meaning.proofs.ValueOrder.{Needs, OfPart, OfStart, IsOrder, value-order, made_of, made-needs, has-form}

-- within a level numbers go by an offset below the width: lower in level, or not higher and lower within it
spot : ℕ → ℕ → ℕ → ℕ
spot width level offset = level * width + offset

jump : (n l m o i : ℕ) → l < m → o < n → spot n l o < spot n m i
unfolding spot
jump n l m o i lower inside = let le : suc l * n ≤ m * n = mul-le-mul_right n lower in let e : suc l * n ≡ l * n + n = suc-mul l n in omega (arith, le, e, inside)

stay : (n l m o i : ℕ) → l ≤ m → o < i → spot n l o < spot n m i
unfolding spot
stay n l m o i lower inside = let le : l * n ≤ m * n = mul-le-mul_right n lower in omega (arith, le, inside)

module _ (f : FlatForm) (well : IsWellFormed f) (of_places of_blocks : List ℕ) (ranks : AreRanks f of_places of_blocks) where
  abbrev blocks : ℕ → ℕ
  blocks = block f well of_places of_blocks ranks

  abbrev places : ℕ → ℕ
  places = place f well of_places of_blocks ranks

  abbrev ordered : IsOrder f well
  ordered = value-order f well (no-circle f well of_places of_blocks ranks)

  -- how deep below its wholes and calls an occurrence stands
  abbrev height : ℕ → ℕ
  height = well.heights.height

  abbrev highest : ℕ
  highest = most_below height (length f.occs)

  abbrev depth : ℕ → ℕ
  depth k = highest - height k

  abbrev values : ℕ → ℕ
  values k = value_by f well of_places of_blocks ranks (suc (ordered.order k)) k

  abbrev uses : ℕ → ℕ
  uses k = turns (used_step f blocks values) (suc (depth k)) k

  -- ---- values

  value-is : (k : ℕ) (occ : Occ) → slice_get f.occs k ≡ Some occ → values k ≡ value_level f places blocks (turns (value_step f places blocks) (ordered.order k)) (Some occ)
  value-is k occ is = ap (value_level f places blocks (turns (value_step f places blocks) (ordered.order k))) is

  block-value : (k : ℕ) (occ : Occ) → slice_get f.occs k ≡ Some occ → blocks occ.block ≤ values k
  block-value k occ is =
      let e = value-is k occ is in
      let low = max-left (blocks occ.block) (max (named_level places occ.form) (most_of (turns (value_step f places blocks) (ordered.order k)) (made_of f occ.form))) in
      omega (arith, e, low)

  place-value : (k p : ℕ) → HasForm f k (Read p) → places p ≤ values k
  place-value k p there =
      let occ : Occ = there.0 in
      let e = value-is k occ there.1 in
      let made : ℕ = most_of (turns (value_step f places blocks) (ordered.order k)) (made_of f occ.form) in
      let name : named_level places occ.form ≡ places p = ap (named_level places) there.2 in
      let low : named_level places occ.form ≤ max (named_level places occ.form) made = max-left (named_level places occ.form) made in
      let more = max-right (blocks occ.block) (max (named_level places occ.form) made) in
      omega (arith, e, name, low, more)

  need-value : (k j : ℕ) → Needs f k j → values j ≤ values k
  need-value k j needs =
      let o = has-form f k j needs in
      let occ : Occ = o.0 in
      let below : ℕ → ℕ = turns (value_step f places blocks) (ordered.order k) in
      let e = value-is k occ o.1 in
      let turn = turn-least (value_step f places blocks) (value-more f places blocks places) (suc (ordered.order j)) (ordered.order k) j (ordered.grows k j needs) in
      let among = in-most below (made_of f occ.form) j (made-needs f k j occ o.1 needs) in
      let low = max-right (named_level places occ.form) (most_of below (made_of f occ.form)) in
      let more = max-right (blocks occ.block) (max (named_level places occ.form) (most_of below (made_of f occ.form))) in
      omega (arith, e, turn, among, low, more)

  -- ---- uses

  module _ (k : ℕ) (occ : Occ) (is : slice_get f.occs k ≡ Some occ) where
    abbrev below : ℕ → ℕ
    below = turns (used_step f blocks values) (depth k)

    abbrev asked : ℕ
    asked = most_of (use_level values below) (uses_of f k)

    use-is : uses k ≡ max (blocks occ.block) (max (call_level below occ.call) asked)
    use-is = ap (used_level f blocks values below k) is

    block-use : blocks occ.block ≤ uses k
    block-use = let e = use-is in let low = max-left (blocks occ.block) (max (call_level below occ.call) asked) in omega (arith, e, low)

    call-use : (call : ℕ) → occ.call ≡ Some call → below call ≤ uses k
    call-use call at =
        let e = use-is in
        let same : call_level below occ.call ≡ below call = ap (call_level below) at in
        let low = max-left (call_level below occ.call) asked in
        let more = max-right (blocks occ.block) (max (call_level below occ.call) asked) in
        omega (arith, e, same, low, more)

    one-use : (of : Use) → IsUse f k of → use_level values below of ≤ uses k
    one-use of use_of =
        let e = use-is in
        let one = in-most (use_level values below) (uses_of f k) of (listed-of-use f k of use_of) in
        let low = max-right (call_level below occ.call) asked in
        let more = max-right (blocks occ.block) (max (call_level below occ.call) asked) in
        omega (arith, e, one, low, more)

    turned : (j : ℕ) → depth j < depth k → uses j ≤ below j
    turned j deeper = turn-least (used_step f blocks values) (used-more f places blocks values) (suc (depth j)) (depth k) j deeper

  deeper-part : (k whole : ℕ) → IsPart f k whole → depth whole < depth k
  deeper-part k whole part =
      let low = well.heights.parts whole k part.occ part.is part.part in
      let most = below-most height (length f.occs) whole (slice_get_within f.occs whole part.occ part.is) in
      omega (arith, low, most)

  whole-use : (k whole : ℕ) → IsPart f k whole → uses whole ≤ uses k
  whole-use k whole part =
      let s = (part-in f well k whole part).1 in
      let turn = turned k s.occ s.is whole (deeper-part k whole part) in
      ⊎_elim
      (λ (u : IsUse f k (PartOf whole)). let low = one-use k s.occ s.is (PartOf whole) u in omega (arith, turn, low))
      (λ (u : (c : ℕ) × (side : Bool) × IsUse f k (BranchOf whole c side)).
      let low = one-use k s.occ s.is (BranchOf whole u.0 u.1) u.2 in
      let both = max-left (below k s.occ s.is whole) (values u.0) in
      omega (arith, turn, low, both))
      (part-used f k whole part)

  branch-use : (k whole c : ℕ) (side : Bool) → IsUse f k (BranchOf whole c side) → values c ≤ uses k
  branch-use k _ _ _ (AsBranch whole c x y side there e) =
      let s = (part-in f well k whole (branch-part f side k whole c x y there e)).1 in
      let low = one-use k s.occ s.is (BranchOf whole c side) (AsBranch whole c x y side there e) in
      let both = max-right (below k s.occ s.is whole) (values c) in
      omega (arith, low, both)

  event-use : (k event arm : ℕ) (of : Option ℕ) (all : List ℕ) → IsUse f k (ResetOf of all arm) → Has all event → values event ≤ uses k
  event-use k event _ _ _ (AsReset p b slope n arms arm call has there e at) h =
      let in_block = definer-in f well p k (Der b slope arms) has (subst (Has (slope ∷ named_in arms)) e (has-later slope (named_in arms) arm.value (named-value arms arm (record { index = n; is = there })))) in
      let s = in_block.2.1 in
      let low = one-use k s.occ s.is (ResetOf call (events_of arms) n) (AsReset p b slope n arms arm call has there e at) in
      let one = in-most values (events_of arms) event h in
      omega (arith, low, one)

  pub record IsAfterCall (k call : ℕ) : Type 0 where
    pub deeper : depth call < depth k
    pub after : uses call ≤ uses k

  after-call : (k call : ℕ) → call_of f k ≡ Some call → IsAfterCall k call
  after-call k call at = by_occ (slice_get f.occs k) refl at
    where
      of_occ : (occ : Occ) → slice_get f.occs k ≡ Some occ → occ.call ≡ Some call → IsCalled f occ.block (Some call) → IsAfterCall k call
      of_occ occ is e there =
          let low = well.heights.calls k call occ is e in
          let most = below-most height (length f.occs) call (slice_get_within f.occs call there.0 there.1) in
          let deeper : depth call < depth k = omega (arith, low, most) in
          let turn = turned k occ is call deeper in
          let one = call-use k occ is call e in
          record { deeper = deeper; after = omega (arith, turn, one) }

      by_occ : (o : Option Occ) → slice_get f.occs k ≡ o → option_and_then (λ (occ : Occ). occ.call) o ≡ Some call → IsAfterCall k call
      by_occ None is e = absurd (cc)
      by_occ (Some occ) is e = of_occ occ is e (subst (IsCalled f occ.block) e (well.occs k occ is).call)

  -- ---- levels

  abbrev most : ℕ
  most = suc (length f.occs + highest)

  abbrev width : ℕ
  width = 2 + (most + most)

  order-most : (k : ℕ) → ordered.order k < most
  order-most k = let low = ordered.most k in omega (arith, low)

  value-in : (k : ℕ) → suc (ordered.order k) < width
  value-in k = let low = order-most k in omega (arith, low)

  use-in : (k : ℕ) → suc (most + depth k) < width
  use-in k = let low : depth k ≤ highest = omega arith in omega (arith, low)

  -- a use is after what isn't above it
  value-use : (k c : ℕ) → values c ≤ uses k → spot width (values c) (suc (ordered.order c)) < spot width (uses k) (suc (most + depth k))
  value-use k c le = let low = order-most c in stay width (values c) (uses k) (suc (ordered.order c)) (suc (most + depth k)) le (omega (arith, low))

  pub levels-of-ranks : HasLevels f
  levels-of-ranks = record {
    place = λ p. spot width (places p) 0;
    block = λ b. spot width (blocks b) 0;
    value = λ k. spot width (values k) (suc (ordered.order k));
    used = λ k. spot width (uses k) (suc (most + depth k));
    parents = λ b parent up. jump width (blocks parent) (blocks b) 0 0 (rise f well of_places of_blocks ranks b parent up) (omega arith);
    arms = λ b of arm k is test. jump width (values k) (blocks b) (suc (ordered.order k)) 0 (arm-above f well of_places of_blocks ranks b of arm k (suc (ordered.order k)) is test) (value-in k);
    bodies = λ b of state k is test. jump width (values k) (blocks b) (suc (ordered.order k)) 0 (body-above f well of_places of_blocks ranks b of state k (suc (ordered.order k)) is test) (value-in k);
    resets = λ b k is. jump width (values k) (blocks b) (suc (ordered.order k)) 0 (reset-above f well of_places of_blocks ranks b k (suc (ordered.order k)) is) (value-in k);
    declared = λ p x is. jump width (blocks x.block) (places p) 0 0 (place-above f well of_places of_blocks ranks p x is) (omega arith);
    definers = λ p b d has of. jump width (blocks b) (places p) 0 0 (definer-above f well of_places of_blocks ranks p b d has of) (omega arith);
    named = λ p k d has named. jump width (values k) (places p) (suc (ordered.order k)) 0 (named-above f well of_places of_blocks ranks p k (suc (ordered.order k)) d has named) (value-in k);
    called = λ p call at. jump width (uses call) (places p) (suc (most + depth call)) 0 (call-above f well of_places of_blocks ranks (λ k. suc (ordered.order k)) p call (suc (depth call)) at) (use-in call);
    stands = λ k occ is. stay width (blocks occ.block) (values k) 0 (suc (ordered.order k)) (block-value k occ is) (omega arith);
    names = λ k p is. stay width (places p) (values k) 0 (suc (ordered.order k)) (place-value k p is) (omega arith);
    parts = λ k part form is h. needed k part (OfPart form is h);
    lasts = λ k p b start is has. needed k start (OfStart p b is has);
    asked = λ k occ is. stay width (blocks occ.block) (uses k) 0 (suc (most + depth k)) (block-use k occ is) (omega arith);
    wholes = λ k whole part. let deep = deeper-part k whole part in stay width (uses whole) (uses k) (suc (most + depth whole)) (suc (most + depth k)) (whole-use k whole part) (omega (arith, deep));
    calls = λ k call at. let after = after-call k call at in let deep = after.deeper in stay width (uses call) (uses k) (suc (most + depth call)) (suc (most + depth k)) after.after (omega (arith, deep));
    branches = λ k whole c side u. value-use k c (branch-use k whole c side u);
    events = λ k event arm of all u h. value-use k event (event-use k event arm of all u h);
  }
    where
      needed : (k j : ℕ) → Needs f k j → spot width (values j) (suc (ordered.order j)) < spot width (values k) (suc (ordered.order k))
      needed k j needs = let low = ordered.grows k j needs in stay width (values j) (values k) (suc (ordered.order j)) (suc (ordered.order k)) (need-value k j needs) (omega (arith, low))
