-- The guards of occurrences stand low, by the ranks of the form's entries.
use Rattle.std.specs.Prelude.{◌≡◌, ℕ, zero, suc, ◌+◌, ◌<◌, ◌≤◌, Bool, true, false, not, ◌||◌, if◌then◌else◌, List, [], ◌∷◌, length, slice_get, get_or, Option, Some, None, ⊤}
use Rattle.std.specs.List.{AllByRecursion}
use Rattle.std.specs.Option.{option_and_then}
use Rattle.std.proofs.Common.{refl, sym, ap, ◌∙◌, arith, subst}
use Rattle.std.proofs.lemmas.Option.{slice_get_within}
use Rattle.zl_value.specs.Lists.{Has}
use Rattle.zl_meaning.specs.FlatForm.{FlatForm, HasDefiner, call_of, place_call}
use Rattle.zl_meaning.specs.State.{AtUsed, AtValue}
use Rattle.zl_meaning.specs.Uses.{Use, PartOf, BranchOf, DefinerOf, uses_of}
use Rattle.zl_meaning.specs.WellFormed.{IsCalled, IsWellFormed}
use Rattle.zl_meaning.specs.Single.{IsSingle}
use Rattle.zl_meaning.specs.Reading.{ReadsCall, ReadsAsked, ReadsUsed, HasNodeRanks}
use Rattle.zl_meaning.specs.declared.place.Definer.{Definer}
use Rattle.zl_meaning.specs.declared.place.Definer.TheVariants.{Der}
use Rattle.zl_meaning.specs.declared.place.DerArm.{DerArm}
use Rattle.zl_meaning.specs.declared.place.PlaceInfo.{PlaceInfo}
use Rattle.zl_meaning.specs.declared.occurrence.Occ.{Occ}
use Rattle.zl_meaning.proofs.Members.{all-has, has-when}
use Rattle.zl_normal.specs.Wiring.{call_guard}
use Rattle.zl_normal.specs.PlaceWires.{definer_of}
use Rattle.zl_normal.specs.MainBlock.{IsMain}
use Rattle.zl_normal.specs.Tables.{Tables, is_guarded, is_free}
use Rattle.zl_normal.specs.Keys.{guard_keys, keys}
use Rattle.zl_normal.specs.KernelOf.{Numbers}
use Rattle.zl_normal.specs.Layout.{IsLayout, IsGuardAt}
use Rattle.zl_normal.specs.Roles.{IsPartAlone, Alone, OfCall, IsRole, AreRoles}
use Rattle.zl_normal.specs.declared.role.Role.{Role}
use Rattle.zl_normal.specs.declared.role.Role.TheVariants.{Unused, Part, Branch, Both, Definer as OfDefiner, Slope as OfSlope, Event as OfEvent, Start as OfStart, Reset as OfReset, Argument, Again as OfAgain}
use Rattle.zl_normal.specs.declared.key.Key.{Key}
use Rattle.zl_normal.specs.declared.key.Key.TheVariants.{Fresh, Guard, Taken}
use Rattle.zl_normal.proofs.MadeFlows.Placed.{fresh_there, guard_there}
use Rattle.zl_meaning.specs.Reading.{ReadsValues}
use Rattle.zl_meaning.specs.Uses.{events_of}
use Rattle.zl_normal.specs.Evaluated.{HasGuardRanks}
use Rattle.zl_normal.proofs.MadeFlows.Guards.{arm_there, der_of, role_there, used, whole_there, test_there}
use Rattle.zl_normal.proofs.MadeFlows.Levels.{width, arms_width, level, climb, highest, highest_below, der_arms, event_rank, key_rank}
use Rattle.zl_normal.proofs.MadeFlows.LowRoots.{R as rank_of, rank_is, value_low}

module _ (f : FlatForm) (grades : List ℕ) (t : Tables) (n : Numbers) (formed : IsWellFormed f) (main : IsMain f) (single : IsSingle f) (ranks : HasGuardRanks f) (roles : AreRoles f t.roles) (layout : IsLayout f grades t n) where
  abbrev entries : HasNodeRanks f
  entries = ranks.entries

  abbrev pub R : ℕ → ℕ
  R m = rank_of f grades t n formed ranks.entries layout m

  -- a guard, where there is one, stands at most here
  abbrev pub GuardLow : ℕ → Option ℕ → Type 0
  GuardLow b None = Unit {0}
  GuardLow b (Some g) = rank_of f grades t n formed ranks.entries layout g ≤ b

  abbrev Low : ℕ → Option ℕ → Type 0
  Low h g = GuardLow (level f h + 1) g

  -- a lower guard stands lower
  pub guard_under : (b c : ℕ) → b ≤ c → (g : Option ℕ) → GuardLow b g → GuardLow c g
  guard_under b c l None s = tt
  guard_under b c l (Some g) s = omega (arith, l, s)

  pub key_rank_is : (key : Key) → Has (keys f grades t) key → (m : ℕ) → m ≡ n.wire key → rank_of f grades t n formed ranks.entries layout m ≡ key_rank f ranks.entries key
  key_rank_is key h m e = rank_is f grades t n formed ranks.entries layout key h m e

  own_guard : (j : ℕ) (occ : Occ) → slice_get f.occs j ≡ Some occ → (role : Role) → slice_get t.roles j ≡ Some role → Has (guard_keys f grades t j (Some role)) (Guard j) → R (n.wire (Guard j)) ≤ level f (entries.rank (AtUsed j)) + 1
  own_guard j occ is role at h =
      let r = key_rank_is (Guard j) (guard_there f grades t j occ (Guard j) is (subst (λ r. Has (guard_keys f grades t j r) (Guard j)) (sym at) h)) (n.wire (Guard j)) refl in
      omega (arith, r)

  choose : (b : Bool) (x y bound : ℕ) → (b ≡ true → R x ≤ bound) → (b ≡ false → R y ≤ bound) → R (if b then x else y) ≤ bound
  choose true x y bound g k = g refl
  choose false x y bound g k = k refl

  -- what arm number `i` of a place stands for has the rank of the events
  pub arm_rank : (p : ℕ) (place : PlaceInfo) → slice_get f.places p ≡ Some place → (b slope : ℕ) (arms : List DerArm) → definer_of place.definers ≡ Some (Der b slope arms) → event_rank f ranks.entries (slice_get f.places p) ≡ highest (λ j. ranks.entries.rank (AtValue j)) arms
  arm_rank p place is b slope arms e = ap (λ o. event_rank f ranks.entries o) is ∙ ap (λ d. highest (λ j. ranks.entries.rank (AtValue j)) (der_arms d)) e

  pub events_low : (b : ℕ) (arms : List DerArm) → ReadsValues (λ a. entries.rank a < b) (events_of arms) → AllByRecursion (λ (arm : DerArm). entries.rank (AtValue arm.event) < b) arms
  events_low b [] all = tt
  events_low b (arm ∷ arms) all = (all.0, events_low b arms all.1)

  -- the wire that is true where an arm is taken
  pub taken_low : (p : ℕ) (place : PlaceInfo) → slice_get f.places p ≡ Some place → (b slope : ℕ) (arms : List DerArm) → definer_of place.definers ≡ Some (Der b slope arms) → (i : ℕ) (arm : DerArm) → slice_get arms i ≡ Some arm → (h : ℕ) → AllByRecursion (λ (arm : DerArm). ranks.entries.rank (AtValue arm.event) < h) arms → rank_of f grades t n formed ranks.entries layout (n.wire (Taken p i)) + 1 ≤ level f h
  taken_low p place is b slope arms e i arm at h all =
      let r = key_rank_is (Taken p i) (arm_there f grades t n formed main single entries roles layout p place is b slope arms e i arm at (Taken p i) (record { index = 0; is = refl })) (n.wire (Taken p i)) refl in
      let same : level f (event_rank f entries (slice_get f.places p)) ≡ level f (highest (λ j. entries.rank (AtValue j)) arms) = ap (λ a. level f a) (arm_rank p place is b slope arms e) in
      let one : entries.rank (AtValue arm.event) < h = all-has (λ (arm : DerArm). entries.rank (AtValue arm.event) < h) arms arm all (record { index = i; is = at }) in
      let c = climb f (highest (λ j. entries.rank (AtValue j)) arms) h (highest_below (λ j. entries.rank (AtValue j)) h arms (omega (arith, one)) all) in
      let inside = slice_get_within arms i arm at in
      let wide : length (der_arms (definer_of place.definers)) ≤ width f = arms_width f p place is in
      let count : length (der_arms (definer_of place.definers)) ≡ length arms = ap (λ d. length (der_arms d)) e in
      omega (arith, r, same, c, inside, wide, count)

  module _ (h : ℕ) (below : (j : ℕ) (occ : Occ) → slice_get f.occs j ≡ Some occ → entries.rank (AtUsed j) < h → Low (entries.rank (AtUsed j)) (n.wiring.G j)) where
    lower_guard : (j : ℕ) (occ : Occ) → slice_get f.occs j ≡ Some occ → entries.rank (AtUsed j) < h → Low h (n.wiring.G j)
    lower_guard j occ is l = let c = climb f (entries.rank (AtUsed j)) h l in guard_under (level f (entries.rank (AtUsed j)) + 1) (level f h + 1) (omega (arith, c)) (n.wiring.G j) (below j occ is l)

    call_low : (block : ℕ) (call : Option ℕ) → IsCalled f block call → ReadsCall (λ a. entries.rank a < h) call → Low h (call_guard n.wiring call)
    call_low block None called rd = tt
    call_low block (Some call) called rd = lower_guard call called.0 called.1 rd

    place_low : (p : ℕ) (d : Definer) → HasDefiner f p d → ReadsCall (λ a. entries.rank a < h) (place_call f p) → Low h (call_guard n.wiring (place_call f p))
    place_low p d has rd =
        let same : place_call f p ≡ has.0.call = ap (λ o. option_and_then (λ (place : PlaceInfo). place.call) o) has.1 in
        call_low has.0.block (place_call f p) (subst (λ call. IsCalled f has.0.block call) (sym same) (formed.places p has.0 has.1).call) rd

    guard_by : (j : ℕ) (occ : Occ) → slice_get f.occs j ≡ Some occ → entries.rank (AtUsed j) ≡ h → ReadsAsked (λ a. entries.rank a < h) (λ a. ⊤) occ.call (uses_of f j) → (role : Role) → slice_get t.roles j ≡ Some role → IsRole f j role → IsGuardAt f grades t n j role → Low h (n.wiring.G j)
    guard_by j occ is top rd Unused at is_role g =
        let same : call_of f j ≡ occ.call = ap (λ o. option_and_then (λ (occ : Occ). occ.call) o) is in
        subst (Low h) (sym (g ∙ ap (λ c. call_guard n.wiring c) same)) (call_low occ.block occ.call (formed.occs j occ is).call (subst (λ us. ReadsAsked (λ a. entries.rank a < h) (λ a. ⊤) occ.call us) is_role rd))
    guard_by j occ is top rd (Part whole) at is_role g = subst (Low h) (sym g) (by is_role)
      where
        first : (us : List Use) → uses_of f j ≡ PartOf whole ∷ us → Low h (n.wiring.G whole)
        first us e =
            let w = whole_there f j whole (used f j (PartOf whole ∷ us) (PartOf whole) e (record { index = 0; is = refl })) in
            let r = subst (λ us. ReadsAsked (λ a. entries.rank a < h) (λ a. ⊤) occ.call us) e rd in
            lower_guard whole w.0 w.1 r.0

        by : IsPartAlone f j whole → Low h (n.wiring.G whole)
        by (Alone e) = first [] e
        by (OfCall e has unused) = first (DefinerOf (call_of f whole) ∷ []) e
    guard_by j occ is top rd (Branch whole c true) at is_role g =
        let c_is = test_there f formed j whole c true (used f j _ (BranchOf whole c true) is_role (record { index = 0; is = refl })) in
        let r = subst (λ us. ReadsAsked (λ a. entries.rank a < h) (λ a. ⊤) occ.call us) is_role rd in
        let up : level f (entries.rank (AtUsed j)) ≡ level f h = ap (λ h. level f h) top in
        subst (Low h) (sym g)
        (choose (get_or t.free whole false || is_guarded f t c) (n.wiring.w c) (n.wire (Guard j)) (level f h + 1)
        (λ e. let v = value_low f grades t n formed entries layout c c_is.0 c_is.1 in let k = climb f (entries.rank (AtValue c)) h r.0.1 in omega (arith, v, k))
        (λ e. let o = own_guard j occ is (Branch whole c true) at (has-when _ (Guard j) (ap (λ b. not b) e)) in omega (arith, o, up)))
    guard_by j occ is top rd (Branch whole c false) at is_role g =
        let o = own_guard j occ is (Branch whole c false) at (record { index = 0; is = refl }) in
        let up : level f (entries.rank (AtUsed j)) ≡ level f h = ap (λ h. level f h) top in
        let l : R (n.wire (Guard j)) ≤ level f h + 1 = omega (arith, o, up) in
        subst (Low h) (sym g) l
    guard_by j occ is top rd (Both whole c) at is_role g =
        let o = own_guard j occ is (Both whole c) at (record { index = 1; is = refl }) in
        let up : level f (entries.rank (AtUsed j)) ≡ level f h = ap (λ h. level f h) top in
        let l : R (n.wire (Guard j)) ≤ level f h + 1 = omega (arith, o, up) in
        subst (Low h) (sym g) l
    guard_by j occ is top rd (OfDefiner p) at is_role g =
        subst (Low h) (sym g) (place_low p _ is_role.has (subst (λ us. ReadsAsked (λ a. entries.rank a < h) (λ a. ⊤) occ.call us) is_role.uses rd).0)
    guard_by j occ is top rd (OfSlope p) at is_role g =
        subst (Low h) (sym g) (place_low p _ is_role.has (subst (λ us. ReadsAsked (λ a. entries.rank a < h) (λ a. ⊤) occ.call us) is_role.uses rd).0)
    guard_by j occ is top rd (OfEvent p) at is_role g =
        subst (Low h) (sym g) (place_low p _ is_role.has (subst (λ us. ReadsAsked (λ a. entries.rank a < h) (λ a. ⊤) occ.call us) is_role.uses rd).0)
    guard_by j occ is top rd (OfStart p) at is_role g =
        let up : level f (entries.rank (AtUsed j)) ≡ level f h = ap (λ h. level f h) top in
        subst (Low h) (sym g)
        (choose (is_free t (place_call f p)) n.wiring.fresh (n.wire (Guard j)) (level f h + 1) (λ e. let r = key_rank_is Fresh (fresh_there f grades t) n.wiring.fresh layout.wired.fresh in omega (arith, r))
        (λ e. let o = own_guard j occ is (OfStart p) at (has-when _ (Guard j) (ap (λ b. not b) e)) in omega (arith, o, up)))
    guard_by j occ is top rd (OfReset p arm) at is_role g =
        let up : level f (entries.rank (AtUsed j)) ≡ level f h = ap (λ h. level f h) top in
        let r = subst (λ us. ReadsAsked (λ a. entries.rank a < h) (λ a. ⊤) occ.call us) is_role.uses rd in
        let der = der_of f grades t n formed main single entries roles layout p is_role.block is_role.slope is_role.resets is_role.has in
        subst (Low h) (sym g)
        (choose (is_free t (place_call f p)) (n.wire (Taken p arm)) (n.wire (Guard j)) (level f h + 1)
        (λ e. let l = taken_low p is_role.has.0 is_role.has.1 is_role.block is_role.slope is_role.resets der arm is_role.arm is_role.is h (events_low h is_role.resets r.0.1) in omega (arith, l))
        (λ e. let o = own_guard j occ is (OfReset p arm) at (has-when _ (Guard j) (ap (λ b. not b) e)) in omega (arith, o, up)))
    guard_by j occ is top rd Argument at is_role g = subst (Low h) (sym g) tt
    guard_by j occ is top rd OfAgain at is_role g = subst (Low h) (sym g) tt

  pub used_reads : (j : ℕ) (occ : Occ) → slice_get f.occs j ≡ Some occ → ReadsAsked (λ a. ranks.entries.rank a < ranks.entries.rank (AtUsed j)) (λ a. ⊤) occ.call (uses_of f j)
  used_reads j occ is =
      let reads : ReadsUsed f (λ a. entries.rank a < entries.rank (AtUsed j)) (λ a. ⊤) j (Some occ) = subst (λ o. ReadsUsed f (λ a. entries.rank a < entries.rank (AtUsed j)) (λ a. ⊤) j o) is (entries.lower (AtUsed j)) in
      reads.1

  guards_below : (h : ℕ) (j : ℕ) (occ : Occ) → slice_get f.occs j ≡ Some occ → entries.rank (AtUsed j) < h → Low (entries.rank (AtUsed j)) (n.wiring.G j)
  guards_below zero j occ is l = absurd (omega arith)
  guards_below (suc h) j occ is l =
      let role = role_there f t.roles roles j occ is in
      guard_by (entries.rank (AtUsed j)) (λ i other at k. guards_below h i other at (omega (arith, l, k))) j occ is refl (used_reads j occ is) role.0 role.1 (roles.each j role.0 role.1) (layout.wired.guards j role.0 role.1)

  -- the guard of an occurrence, and of what stands in the copy of a call
  pub guard_low : (j : ℕ) (occ : Occ) → slice_get f.occs j ≡ Some occ → GuardLow (level f (ranks.entries.rank (AtUsed j)) + 1) (n.wiring.G j)
  guard_low j occ is = guards_below (suc (entries.rank (AtUsed j))) j occ is (omega arith)

  pub called_low : (block : ℕ) (call : Option ℕ) → IsCalled f block call → (h : ℕ) → ReadsCall (λ a. ranks.entries.rank a < h) call → GuardLow (level f h) (call_guard n.wiring call)
  called_low block None called h rd = tt
  called_low block (Some call) called h rd =
      let c = climb f (entries.rank (AtUsed call)) h rd in
      guard_under (level f (entries.rank (AtUsed call)) + 1) (level f h) (omega (arith, c)) (n.wiring.G call) (guard_low call called.0 called.1)
