-- From levels of a form of the main block alone there are levels in which a use is below its value, and so ranks.
use Rattle.std.specs.Prelude.{◌≡◌, ◌⊎◌, ℕ, zero, suc, ◌+◌, ◌-◌, ◌<◌, ◌≤◌, Bool, true, false, List, [], ◌∷◌, slice_get, Option, Some, None}
use Rattle.std.specs.Option.{option_and_then}
use Rattle.std.proofs.Common.{refl, sym, ap, ◌∙◌, subst, ⊎_elim, inl, inr, arith}
use Rattle.zl_value.specs.Lists.{Has}
use Rattle.zl_meaning.specs.FlatForm.{FlatForm, HasForm, HasDefiner, call_of, place_call}
use Rattle.zl_meaning.specs.Uses.{Use, PartOf, BranchOf, DefinerOf, SlopeOf, EventOf, StartOf, ResetOf, TestOf, ArgumentOf, AgainOf, IsUse, AsPart, AsBranch, AsDefiner, AsEvent, AsStart, AsReset, events_of, uses_of}
use Rattle.zl_meaning.specs.Branches.{IsPart, Is, Part, Called}
use Rattle.zl_meaning.specs.Causality.{HasRanks}
use Rattle.zl_meaning.specs.Copies.{IsOfUnused, IsByDefiner, KeepsCopies}
use Rattle.zl_meaning.specs.Depends.{read_by, read_parts}
use Rattle.zl_meaning.specs.Levels.{HasLevels}
use Rattle.zl_meaning.specs.Single.{IsOneUse, Unused, Once, OfCall, OfBranches, IsSingle}
use Rattle.zl_meaning.specs.WellFormed.{IsCalled, IsWellFormed, named_in}
use Rattle.zl_meaning.specs.declared.block.BlockKind.TheVariants.{Main, State as Body}
use Rattle.zl_meaning.specs.declared.place.Definer.{Definer}
use Rattle.zl_meaning.specs.declared.place.Definer.TheVariants.{Input, Plain, Der, Start}
use Rattle.zl_meaning.specs.declared.place.DerArm.{DerArm}
use Rattle.zl_meaning.specs.declared.place.PlaceInfo.{PlaceInfo}
use Rattle.zl_meaning.specs.declared.occurrence.Form.{Form}
use Rattle.zl_meaning.specs.declared.occurrence.Form.TheVariants.{Last, If}
use Rattle.zl_meaning.specs.declared.occurrence.Occ.{Occ}
use Rattle.zl_meaning.proofs.Greatest.{most_of, most-less, in-most}
use Rattle.zl_meaning.proofs.LevelLists.{named-value, jump}
use Rattle.zl_meaning.proofs.LevelsOfRanks.{levels-of-ranks}
use Rattle.zl_meaning.proofs.RanksOfBlocks.{rank}
use Rattle.zl_meaning.proofs.Members.{has-none, has-cases, has-map_from}
use Rattle.zl_meaning.proofs.Standing.{part-of-form, read-part, part-used, definer-in, branch-part, event-named, part-in, read-named}
use Rattle.zl_meaning.proofs.UseCases.{listed-of-use}
use Rattle.zl_meaning.proofs.GradesKept.UsesSay.{whole-of-part, whole-of-branch}
use Rattle.zl_normal.specs.Evaluated.{HasGuardRanks}
use Rattle.zl_normal.specs.MainBlock.{IsMain}
use Rattle.zl_premises.specs.Guards.{IsUndecided, KeepsInits}
use Rattle.zl_premises.proofs.Climbs.{climb, climb-least, climb-more, next-weight, weight-next, weight-some, weight-more}
use Rattle.zl_premises.proofs.Turns.{after_use, outer_call as outer_call_in, outer_definer as outer_definer_in, deeper_part as deeper_part_in, at_most as at_most_in, above_use as above_use_in, above_call as above_call_in, above_floor as above_floor_in}
use Rattle.zl_premises.proofs.GuardLevels.{top as top_in, W as W_in, weigh as weigh_in, floor as floor_in, depth as depth_in, U as U_in, V as V_in, B as B_in, part_at_most as part_at_most_in, definer_at_most as definer_at_most_in, has-one}
use Rattle.zl_premises.proofs.EntryRanks.{lower}
use Rattle.zl_premises.proofs.Untested.{only_main, no_arm, no_reset}

-- a condition of an `if` is no branch of it
not-both : (f : FlatForm) (k whole n c : ℕ) (side : Bool) (us : List Use) → IsOneUse f k us → Has us (PartOf whole) → Has us (BranchOf n c side) → ⊥
not-both f k whole n c side _ Unused h g = has-none (PartOf whole) h
not-both f k whole n c side _ (Once v) h g = let e : PartOf whole ≡ BranchOf n c side = sym (has-one v (PartOf whole) h) ∙ has-one v (BranchOf n c side) g in let z : ⊥ = cc in z
not-both f k whole n c side _ (OfCall m form unused) h g =
    has-cases ⊥ (PartOf m) (DefinerOf (call_of f m) ∷ []) (BranchOf n c side) g (λ e. let z : ⊥ = cc in z) (λ l. let e = has-one (DefinerOf (call_of f m)) (BranchOf n c side) l in let z : ⊥ = cc in z)
not-both f k whole n c side _ (OfBranches m d p form) h g =
    has-cases ⊥ (BranchOf m d true) (BranchOf m d false ∷ []) (PartOf whole) h (λ e. let z : ⊥ = cc in z) (λ l. let e = has-one (BranchOf m d false) (PartOf whole) l in let z : ⊥ = cc in z)

-- what reset arms name
abbrev IsOfArm : List DerArm → ℕ → Type 0
IsOfArm arms k = (n : ℕ) × (arm : DerArm) × (slice_get arms n ≡ Some arm) × ((arm.event ≡ k) ⊎ (arm.value ≡ k))

of-arm : (arms : List DerArm) (k : ℕ) → Has (named_in arms) k → IsOfArm arms k
of-arm [] k h = absurd (has-none k h)
of-arm (arm ∷ arms) k h =
    has-cases (IsOfArm (arm ∷ arms) k) arm.event (arm.value ∷ named_in arms) k h (λ e. (0, arm, refl, inl e))
    (λ more. has-cases (IsOfArm (arm ∷ arms) k) arm.value (named_in arms) k more (λ e. (0, arm, refl, inr e)) (λ rest. let r = of-arm arms k rest in (suc r.0, r.1, r.2, r.3)))

module _ (f : FlatForm) (well : IsWellFormed f) (main : IsMain f) (single : IsSingle f) (copies : KeepsCopies f) (inits : KeepsInits f) (v : HasLevels f) where
  abbrev top : ℕ
  top = top_in f well main single copies v

  abbrev W : ℕ → ℕ
  W n = W_in f well main single copies v n

  abbrev weigh : ℕ → ℕ
  weigh k = weigh_in f well main single copies v k

  abbrev floor : ℕ
  floor = floor_in f well main single copies v

  abbrev depth : ℕ → ℕ
  depth k = depth_in f well main single copies v k

  abbrev U : ℕ → ℕ
  U k = U_in f well main single copies v k

  abbrev V : ℕ → ℕ
  V k = V_in f well main single copies v k

  abbrev B : Option ℕ → ℕ
  B call = B_in f well main single copies v call

  -- lower levels weigh no more than the one just below
  light : (a b : ℕ) → a < b → W a ≤ W (b - 1)
  light a b low = weight-more top a (b - 1) (omega (arith, low))

  heavy : (a b : ℕ) → a < b → W (b - 1) + (W (b - 1) + 3) ≤ W b
  heavy a b low = let e : b ≡ suc (b - 1) = omega (arith, low) in let same = ap (λ x. W x) e in let next = weight-next top (b - 1) in omega (arith, same, next)

  -- much heavier, by a whole chain
  whole-chain : (a b : ℕ) → a < b → climb (W (b - 1)) (suc top) + (((W (b - 1) + 3) + (W (b - 1) + 3)) + ((W (b - 1) + 3) + (W (b - 1) + 3))) ≤ W b
  whole-chain a b low = let e : b ≡ suc (b - 1) = omega (arith, low) in let same = ap (λ x. W x) e in let next = next-weight top (b - 1) in omega (arith, same, next)

  stands-in : (k : ℕ) (occ : Occ) → slice_get f.occs k ≡ Some occ → (v.block 0 < v.used k) × (v.block 0 < v.value k)
  stands-in k occ is = let e = ap (λ b. v.block b) (main.occs k occ is) in let a = v.asked k occ is in let b = v.stands k occ is in (omega (arith, e, a), omega (arith, e, b))

  -- ---- numbers of uses are bounded by weights

  used-lower : (k : ℕ) (of : Use) (call : ℕ) → IsUse f k of → IsByDefiner of (Some call) → v.used call < v.used k
  used-lower k of call used by =
      ⊎_elim (λ e. v.calls k call e) (λ (u : IsOfUnused f (Some call) k). let a = v.calls k u.whole u.of in let b = v.calls u.whole call u.outer in omega (arith, a, b)) (copies.definers k of (Some call) used by)

  module _ (k : ℕ) (occ : Occ) (is : slice_get f.occs k ≡ Some occ) (m : ℕ) (le : v.used k ≤ suc m) (ih : (j : ℕ) (o : Occ) → slice_get f.occs j ≡ Some o → depth j < depth k → v.used j ≤ suc m → U j ≤ climb (W m) (suc (depth j))) where
    step : climb (W m) (suc (depth k)) ≡ climb (W m) (depth k) + (W m + 3)
    step = refl

    ground : floor ≤ suc (W m)
    ground = let s = (stands-in k occ is).0 in let low = weight-more top (v.block 0) m (omega (arith, s, le)) in omega (arith, low)

    start : suc (W m) ≤ climb (W m) (depth k)
    start = climb-more (W m) 0 (depth k) (omega arith)

    further : (j : ℕ) (o : Occ) → slice_get f.occs j ≡ Some o → depth j < depth k → v.used j < v.used k → U j ≤ climb (W m) (depth k)
    further j o there deeper low =
        let rest = ih j o there deeper (omega (arith, low, le)) in
        let more = climb-more (W m) (suc (depth j)) (depth k) deeper in
        omega (arith, rest, more)

    of_whole : (whole : ℕ) (part : IsPart f k whole) → U whole ≤ climb (W m) (depth k)
    of_whole whole part = further whole part.occ part.is (deeper_part_in f weigh floor well copies k whole part) (v.wholes k whole part)

    of_base : (of : Use) (call : Option ℕ) → IsUse f k of → IsByDefiner of call → B call ≤ climb (W m) (depth k)
    of_base of None used by = omega (arith, ground, start)
    of_base of (Some c) used by =
        let o = outer_definer_in f weigh floor well copies k of c used by in let low = further c o.occ o.is o.deeper (used-lower k of c used by) in omega (arith, low, ground, start)

    bound_use : (u : Use) → IsUse f k u → after_use f weigh floor U u ≤ climb (W m) (suc (depth k))
    bound_use (PartOf whole) used = let low = of_whole whole (whole-of-part f k whole used) in omega (arith, low, step)
    bound_use (BranchOf whole c side) used =
        let low = of_whole whole (whole-of-branch f k whole c side used) in
        let cond = v.branches k whole c side used in
        let w = weight-more top (v.value c) m (omega (arith, cond, le)) in
        omega (arith, low, w, step)
    bound_use (ResetOf call events arm) used =
        let low = of_base (ResetOf call events arm) call used refl in
        let most : most_of weigh events < suc (W m) = most-less weigh events (suc (W m)) (omega arith) (λ e has. let x = v.events k e arm call events used has in let w = weight-more top (v.value e) m (omega (arith, x, le)) in omega (arith, w)) in
        omega (arith, low, most, step)
    bound_use (DefinerOf call) used = omega arith
    bound_use (SlopeOf call) used = omega arith
    bound_use (EventOf call) used = omega arith
    bound_use (StartOf call b) used = omega arith
    bound_use TestOf used = omega arith
    bound_use ArgumentOf used = omega arith
    bound_use AgainOf used = omega arith

    bounded : U k ≤ climb (W m) (suc (depth k))
    bounded =
        at_most_in f weigh floor well copies k occ is (climb (W m) (suc (depth k))) (omega (arith, ground, start, step))
        (λ c at.
        let o = outer_call_in f weigh floor well copies k c at in
        let used = v.calls k c at in
        let low = further c o.occ o.is o.deeper used in
        omega (arith, low, step))
        bound_use

  bound : (n k : ℕ) (occ : Occ) → slice_get f.occs k ≡ Some occ → depth k < n → (m : ℕ) → v.used k ≤ suc m → U k ≤ climb (W m) (suc (depth k))
  bound zero k occ is l m le = absurd (omega (arith, l))
  bound (suc n) k occ is l m le = bounded k occ is m le (λ j o there deeper low. bound n j o there (omega (arith, deeper, l)) m low)

  -- what nothing decides on is after its wholes and calls alone
  module _ (k : ℕ) (occ : Occ) (is : slice_get f.occs k ≡ Some occ) (free : IsUndecided f k) (ih : (j : ℕ) (o : Occ) → slice_get f.occs j ≡ Some o → depth j < depth k → IsUndecided f j → U j ≤ floor + suc (depth j)) where
    free_use : (u : Use) → IsUse f k u → after_use f weigh floor U u ≤ floor + suc (depth k)
    free_use (PartOf whole) used =
        let part = whole-of-part f k whole used in
        let deeper = deeper_part_in f weigh floor well copies k whole part in
        let rest = ih whole part.occ part.is deeper (record { branches = λ w x s u. free.branches w x s (Part k whole part u); resets = λ w e a u. free.resets w e a (Part k whole part u) }) in
        omega (arith, rest, deeper)
    free_use (BranchOf whole c side) used = absurd (free.branches whole c side (Is k used))
    free_use (ResetOf call events arm) used = absurd (free.resets call events arm (Is k used))
    free_use (DefinerOf call) used = omega arith
    free_use (SlopeOf call) used = omega arith
    free_use (EventOf call) used = omega arith
    free_use (StartOf call b) used = omega arith
    free_use TestOf used = omega arith
    free_use ArgumentOf used = omega arith
    free_use AgainOf used = omega arith

    free_bounded : U k ≤ floor + suc (depth k)
    free_bounded =
        at_most_in f weigh floor well copies k occ is (floor + suc (depth k)) (omega arith)
        (λ c at.
        let o = outer_call_in f weigh floor well copies k c at in
        let deeper = o.deeper in
        let rest = ih c o.occ o.is deeper (record { branches = λ w x s u. free.branches w x s (Called k c at u); resets = λ w e a u. free.resets w e a (Called k c at u) }) in
        omega (arith, rest, deeper))
        free_use

  undecided : (n k : ℕ) (occ : Occ) → slice_get f.occs k ≡ Some occ → depth k < n → IsUndecided f k → U k ≤ floor + suc (depth k)
  undecided zero k occ is l free = absurd (omega (arith, l))
  undecided (suc n) k occ is l free = free_bounded k occ is free (λ j o there deeper low. undecided n j o there (omega (arith, deeper, l)) low)

  -- ---- levels

  condition-low : (k whole c : ℕ) (side : Bool) → IsUse f k (BranchOf whole c side) → v.value c < v.value whole
  condition-low k _ _ _ (AsBranch whole c x y side there e) = v.parts whole c (If c x y) there (record { index = 0; is = refl })

  part-value : (k part : ℕ) (form : Form) → HasForm f k form → Has (read_parts form) part → V part < V k
  part-value k part form there h =
      let low = v.parts k part form there h in
      let own = light (v.value part) (v.value k) low in
      let much = heavy (v.value part) (v.value k) low in
      let le : U part ≤ suc (suc (U k + W (v.value k - 1))) = part_at_most_in f well main single copies v part k (part-of-form f part k form there (read-part form part h)) (suc (suc (U k + W (v.value k - 1)))) (omega arith) (λ c side used. let w = light (v.value c) (v.value k) (condition-low part k c side used) in omega (arith, w)) in
      omega (arith, own, much, le)

  branch-value : (k whole c : ℕ) (side : Bool) → IsUse f k (BranchOf whole c side) → V c < U k
  branch-value k _ _ _ (AsBranch whole c x y side there e) =
      let used : IsUse f k (BranchOf whole c side) = AsBranch whole c x y side there e in
      let own = stands-of k whole (branch-part f side k whole c x y there e) in
      let above = above_use_in f weigh floor well copies k own.0 own.1 (BranchOf whole c side) used in
      let first : IsUse f c (PartOf whole) = AsPart whole (If c x y) there (record { index = 0; is = refl }) in
      let part = whole-of-part f c whole first in
      let own_c = stands-of c whole part in
      let le : U c ≤ suc (U whole) = part_at_most_in f well main single copies v c whole part (suc (U whole)) (omega arith)
      (λ d s u. absurd (not-both f c whole whole d s (uses_of f c) (single.uses c own_c.0 own_c.1) (listed-of-use f c (PartOf whole) first) (listed-of-use f c (BranchOf whole d s) u))) in
      omega (arith, above, le)
    where
      stands-of : (j whole : ℕ) → IsPart f j whole → (o : Occ) × (slice_get f.occs j ≡ Some o)
      stands-of j whole part = let s = (part-in f well j whole part).1 in (s.occ, s.is)

  named-there : (p k : ℕ) (d : Definer) → HasDefiner f p d → Has (read_by d) k → (o : Occ) × (slice_get f.occs k ≡ Some o)
  named-there p k d has named = let s = (definer-in f well p k d has (read-named d k named)).2.1 in (s.occ, s.is)

  event-value : (k event arm : ℕ) (of : Option ℕ) (all : List ℕ) → IsUse f k (ResetOf of all arm) → Has all event → V event < U k
  event-value k event _ _ _ (AsReset p b slope n arms arm call has there e at) h =
      let used : IsUse f k (ResetOf call (events_of arms) n) = AsReset p b slope n arms arm call has there e at in
      let value : Has (named_in arms) k = subst (λ j. Has (named_in arms) j) e (named-value arms arm (record { index = n; is = there })) in
      let own = named-there p k (Der b slope arms) has value in
      let above = above_use_in f weigh floor well copies k own.0 own.1 (ResetOf call (events_of arms) n) used in
      let one = in-most weigh (events_of arms) event h in
      let from = has-map_from (λ (x : DerArm). x.event) arms event h in
      let own_e = named-there p event (Der b slope arms) has (event-named arms event h) in
      let le : U event ≤ suc (suc (B call)) = definer_at_most_in f well main single copies v event own_e.0 own_e.1 (EventOf call) call (AsEvent p b slope arms from.0 call has from.1 from.2 at) refl (suc (suc (B call))) (omega arith) (omega arith) in
      omega (arith, above, one, le)

  module _ (p : ℕ) (x : PlaceInfo) (is : slice_get f.places p ≡ Some x) where
    abbrev w : ℕ
    w = W (v.place p - 1)

    main-low : v.block 0 < v.place p
    main-low = let low = v.declared p x is in let e = ap (λ b. v.block b) (main.places p x is).0 in omega (arith, low, e)

    depth-top : (k : ℕ) → depth k ≤ top
    depth-top k = omega arith

    called-low : (c : ℕ) → place_call f p ≡ Some c → (o : Occ) → slice_get f.occs c ≡ Some o → U c ≤ climb w (suc top)
    called-low c at o there =
        let low = v.called p c at in
        let e = bound (suc (depth c)) c o there (omega arith) (v.place p - 1) (omega (arith, low)) in
        let t = depth-top c in
        let more = climb-more w (suc (depth c)) (suc top) (omega (arith, t)) in
        omega (arith, e, more)

    base-low : (k : ℕ) (of : Use) (call : Option ℕ) → place_call f p ≡ call → IsUse f k of → IsByDefiner of call → B call ≤ climb w (suc top)
    base-low k of None at used by = let s = light (v.block 0) (v.place p) main-low in let c = climb-least w (suc top) in omega (arith, s, c)
    base-low k of (Some c) at used by =
        let o = outer_definer_in f weigh floor well copies k of c used by in
        let e = called-low c at o.occ o.is in
        let s = light (v.block 0) (v.place p) main-low in
        let l = climb-least w (suc top) in
        omega (arith, e, s, l)

    definer-value : (k : ℕ) (d : Definer) → Has x.definers d → Has (read_by d) k → (of : Use) → IsUse f k of → IsByDefiner of x.call → after_use f weigh floor U of ≤ climb w (suc top) + (w + 5) → V k < W (v.place p)
    definer-value k d h named of used by own =
        let has : HasDefiner f p d = (x, is, h) in
        let there = named-there p k d has named in
        let low = v.named p k d has named in
        let b = base-low k of x.call (ap (λ o. option_and_then (λ (y : PlaceInfo). y.call) o) is) used by in
        let le = definer_at_most_in f well main single copies v k there.0 there.1 of x.call used by (climb w (suc top) + (w + 5)) (omega (arith, b)) own in
        let light_k = light (v.value k) (v.place p) low in
        let chain = whole-chain (v.value k) (v.place p) low in
        omega (arith, le, light_k, chain)

    reset-low : (b slope : ℕ) (arms : List DerArm) → Has x.definers (Der b slope arms) → most_of weigh (events_of arms) ≤ w
    reset-low b slope arms h =
        let l : most_of weigh (events_of arms) < suc w = most-less weigh (events_of arms) (suc w) (omega arith) (λ e has. let low = v.named p e (Der b slope arms) (x, is, h) (event-named arms e has) in let q = light (v.value e) (v.place p) low in omega (arith, q)) in
        omega (arith, l)

    call-is : place_call f p ≡ x.call
    call-is = ap (λ o. option_and_then (λ (y : PlaceInfo). y.call) o) is

    named-value-low : (k : ℕ) (d : Definer) → Has x.definers d → Has (read_by d) k → V k < W (v.place p)
    named-value-low k (Input n) h named = absurd (has-none k named)
    named-value-low k (Plain b j) h named =
        let e : j ≡ k = has-cases (j ≡ k) j [] k named (λ q. q) (λ q. absurd (has-none k q)) in
        definer-value k (Plain b j) h named (DefinerOf x.call) (AsDefiner p b x.call (x, is, subst (λ q. Has x.definers (Plain b q)) e h) call-is) refl (omega arith)
    named-value-low k (Start b j) h named =
        let e : j ≡ k = has-cases (j ≡ k) j [] k named (λ q. q) (λ q. absurd (has-none k q)) in
        definer-value k (Start b j) h named (StartOf x.call b) (AsStart p b x.call (x, is, subst (λ q. Has x.definers (Start b q)) e h) call-is) refl (omega arith)
    named-value-low k (Der b slope arms) h named =
        let r = of-arm arms k named in
        ⊎_elim
        (λ (e : r.1.event ≡ k). definer-value k (Der b slope arms) h named (EventOf x.call) (AsEvent p b slope arms r.1 x.call (x, is, h) (record { index = r.0; is = r.2 }) e call-is) refl (omega arith))
        (λ (e : r.1.value ≡ k).
        let used : IsUse f k (ResetOf x.call (events_of arms) r.0) = AsReset p b slope r.0 arms r.1 x.call (x, is, h) r.2 e call-is in
        let low = base-low k (ResetOf x.call (events_of arms) r.0) x.call call-is used refl in
        let most = reset-low b slope arms h in
        definer-value k (Der b slope arms) h named (ResetOf x.call (events_of arms) r.0) used refl (omega (arith, low, most)))
        r.3

  -- `last` is after the `init` values of its place
  init-value : (k p b start : ℕ) → HasForm f k (Last p) → HasDefiner f p (Start b start) → V start < V k
  init-value k p b start form has =
      let low = v.lasts k p b start form has in
      let there = named-there p start (Start b start) has (record { index = 0; is = refl }) in
      let call_at : place_call f p ≡ has.0.call = ap (λ o. option_and_then (λ (y : PlaceInfo). y.call) o) has.1 in
      let used : IsUse f start (StartOf has.0.call b) = AsStart p b has.0.call has call_at in
      let base : B has.0.call ≤ floor + suc top = by_call has.0.call used in
      let le = definer_at_most_in f well main single copies v start there.0 there.1 (StartOf has.0.call b) has.0.call used refl (suc (suc (floor + suc top))) (omega (arith, base)) (omega arith) in
      let light_s = light (v.value start) (v.value k) low in
      let ground = (stands-in start there.0 there.1).1 in
      let light_b = light (v.block 0) (v.value k) (omega (arith, ground, low)) in
      let chain = whole-chain (v.value start) (v.value k) low in
      let least = climb-least (W (v.value k - 1)) (suc top) in
      omega (arith, le, light_s, light_b, chain, least)
    where
      by_call : (call : Option ℕ) → IsUse f start (StartOf call b) → B call ≤ floor + suc top
      by_call None used = omega arith
      by_call (Some c) used =
          let o = outer_definer_in f weigh floor well copies start (StartOf (Some c) b) c used refl in
          let e = undecided (suc (depth c)) c o.occ o.is (omega arith) (inits start b c used) in
          let t : depth c ≤ top = omega arith in
          omega (arith, e, t)

  guard-levels : HasLevels f
  guard-levels = record {
    place = λ p. W (v.place p);
    block = λ b. W (v.block b);
    value = λ k. V k;
    used = λ k. U k;
    parents = λ b parent up. heavier (v.block parent) (v.block b) (v.parents b parent up);
    arms = λ b of arm k is test. absurd (no_arm f main b of arm is);
    bodies = λ b of state k is test. absurd (not-body of state (only_main f main b (Body of state) is));
    resets = λ b k is. absurd (no_reset f main b k is);
    declared = λ p x is. heavier (v.block x.block) (v.place p) (v.declared p x is);
    definers = λ p b d has of. heavier (v.block b) (v.place p) (v.definers p b d has of);
    named = λ p k d has named. named-value-low p has.0 has.1 k d has.2 named;
    called = λ p call at. called-place p call at;
    stands = λ k occ is. let low = heavier (v.block occ.block) (v.value k) (v.stands k occ is) in omega (arith, low);
    names = λ k p is. let low = heavier (v.place p) (v.value k) (v.names k p is) in omega (arith, low);
    parts = part-value;
    lasts = init-value;
    asked = λ k occ is. let low = above_floor_in f weigh floor well copies k occ is in let e = ap (λ b. W (v.block b)) (main.occs k occ is) in omega (arith, low, e);
    wholes = whole-used;
    calls = λ k call at. after-call k call at;
    branches = branch-value;
    events = event-value;
  }
    where
      heavier : (a b : ℕ) → a < b → W a < W b
      heavier a b low = let l = light a b low in let m = heavy a b low in omega (arith, l, m)

      not-body : (of state : ℕ) → Body of state ≡ Main → ⊥
      not-body of state e = cc

      after-call : (k call : ℕ) → call_of f k ≡ Some call → U call < U k
      after-call k call at = by (slice_get f.occs k) refl at
        where
          by : (o : Option Occ) → slice_get f.occs k ≡ o → option_and_then (λ (occ : Occ). occ.call) o ≡ Some call → U call < U k
          by None is e = absurd cc
          by (Some occ) is e = above_call_in f weigh floor well copies k occ is call e

      whole-used : (k whole : ℕ) → IsPart f k whole → U whole < U k
      whole-used k whole part =
          let s = (part-in f well k whole part).1 in
          ⊎_elim (λ (u : IsUse f k (PartOf whole)). above_use_in f weigh floor well copies k s.occ s.is (PartOf whole) u)
          (λ (u : (c : ℕ) × (side : Bool) × IsUse f k (BranchOf whole c side)). let low = above_use_in f weigh floor well copies k s.occ s.is (BranchOf whole u.0 u.1) u.2 in omega (arith, low))
          (part-used f k whole part)

      called-place : (p call : ℕ) → place_call f p ≡ Some call → U call < W (v.place p)
      called-place p call at = by (slice_get f.places p) refl at
        where
          there : (x : PlaceInfo) → slice_get f.places p ≡ Some x → IsCalled f x.block (Some call) → U call < W (v.place p)
          there x is stands =
              let low = called-low p x is call at stands.0 stands.1 in
              let used = v.called p call at in
              let chain = whole-chain (v.used call) (v.place p) used in
              omega (arith, low, chain)

          by : (o : Option PlaceInfo) → slice_get f.places p ≡ o → option_and_then (λ (x : PlaceInfo). x.call) o ≡ Some call → U call < W (v.place p)
          by None is e = absurd cc
          by (Some x) is e = there x is (subst (IsCalled f x.block) e (well.places p x is).call)

  pub guard-ranks : HasGuardRanks f
  unfolding guard-levels
  guard-ranks = record {
    entries = record { rank = rank f well guard-levels; lower = lower f well guard-levels };
    guards = λ k. jump (U k) (V k) 0 0 (let some = weight-some top (v.value k) in omega (arith, some)) (omega arith);
  }

pub ranks_give_guard_ranks : (f : FlatForm) → IsWellFormed f → IsMain f → IsSingle f → KeepsCopies f → KeepsInits f → HasRanks f → HasGuardRanks f
ranks_give_guard_ranks f well main single copies inits ranks = guard-ranks f well main single copies inits (levels-of-ranks f well ranks.of_places ranks.of_blocks ranks.grow)
