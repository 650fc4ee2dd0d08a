-- The reset arms of places, in the kernel that is made of a form.
use Rattle.std.specs.Prelude.{◌≡◌, ℕ, zero, suc, ◌+◌, List, [], ◌∷◌, drop, slice_get, Some}
use Rattle.std.specs.List.{AllByRecursion}
use Rattle.std.proofs.Common.{refl, sym, ap, ◌∙◌, arith, subst}
use Rattle.zl_value.specs.Lists.{Has}
use Rattle.zl_meaning.specs.FlatForm.{FlatForm, HasDefiner}
use Rattle.zl_meaning.specs.Uses.{ResetOf, AsEvent, AsReset, events_of}
use Rattle.zl_meaning.specs.WellFormed.{IsResetArm, IsDefiner}
use Rattle.zl_meaning.specs.declared.place.Definer.TheVariants.{Der}
use Rattle.zl_meaning.specs.declared.place.DerArm.{DerArm}
use Rattle.zl_meaning.specs.declared.place.PlaceInfo.{PlaceInfo}
use Rattle.zl_meaning.specs.declared.occurrence.Occ.{Occ}
use Rattle.zl_meaning.proofs.Members.{all-has, has-map_from}
use Rattle.zl_kernel.specs.KernelForm.{KernelForm}
use Rattle.zl_normal.specs.Wiring.{call_guard}
use Rattle.zl_normal.specs.KernelParts.{IsWire}
use Rattle.zl_normal.specs.Guards.{IsUnder, Copied, IsBut, Turned}
use Rattle.zl_normal.specs.UseGuards.{IsPartOf, IsTaken, Here, Later}
use Rattle.zl_normal.specs.PlaceWires.{definer_of, IsReset, Stays, Tested}
use Rattle.zl_normal.specs.Tables.{Tables}
use Rattle.zl_normal.specs.Keys.{arm_keys, keys, definer_keys}
use Rattle.zl_normal.specs.KernelOf.{Numbers, by_arms, before_arm, arms_of, taken_wire, passed_wire, chosen_wire, wire_of}
use Rattle.zl_normal.specs.Roles.{IsRole}
use Rattle.zl_normal.specs.declared.role.Role.{Role}
use Rattle.zl_normal.specs.declared.role.Role.TheVariants.{Reset}
use Rattle.zl_normal.specs.declared.key.Key.{Key}
use Rattle.zl_normal.specs.declared.key.Key.TheVariants.{Taken, Passed, Chosen}
use Rattle.zl_normal.proofs.Slopes.MovingPlaces.{definer_has}
use Rattle.zl_normal.proofs.MadeFlows.Placed.{each-has, definer_there}
use Rattle.zl_normal.proofs.Made.Wires.{IsMade, solved_as}
use Rattle.zl_normal.proofs.Made.Uses.{Fits, fits, HasRole, has_role, event_guard}
use Rattle.zl_normal.proofs.Made.UnderGuards.{reset_guard}
use Rattle.zl_normal.proofs.Made.Forms.{all_of, drop_next, drop_first}
use Rattle.zl_normal.proofs.Made.Namings.{one_place}
use Rattle.zl_normal.proofs.Made.Lasts.{call_is}

module _ (f : FlatForm) (grades : List ℕ) (t : Tables) (n : Numbers) (k : KernelForm) (made : IsMade f grades t n k) (p : ℕ) (place : PlaceInfo) (is : slice_get f.places p ≡ Some place) (b s : ℕ) (all : List DerArm) (der : definer_of place.definers ≡ Some (Der b s all)) where
  pub has_der : HasDefiner f p (Der b s all)
  has_der = (place, is, definer_has place.definers (Der b s all) der)

  definer : IsDefiner f p place (Der b s all)
  definer = all-has (IsDefiner f p place) place.definers (Der b s all) (made.formed.places p place is).definers (definer_has place.definers (Der b s all) der)

  stands : (arm : DerArm) → Has all arm → IsResetArm f b arm
  stands arm h = all-has (IsResetArm f b) all arm definer.3 h

  -- its events
  pub event_part : (arm : DerArm) → Has all arm → IsPartOf f k n.wiring place.call arm.event
  event_part arm h =
      let st = stands arm h in
      record {
        there = (st.0.occ, st.0.is);
        guard = event_guard f grades t n k made arm.event st.0.occ st.0.is place.call (AsEvent p b s all arm place.call has_der h refl (call_is f p place is));
      }

  pub events_part : AllByRecursion (IsPartOf f k n.wiring place.call) (events_of all)
  events_part = all_of (IsPartOf f k n.wiring place.call) (events_of all) by
    where
      by : (e : ℕ) → Has (events_of all) e → IsPartOf f k n.wiring place.call e
      by e h =
          let from = has-map_from (λ (arm : DerArm). arm.event) all e h in
          subst (λ x. IsPartOf f k n.wiring place.call x) from.2 (event_part from.0 from.1)

  -- its values
  value_role : (i : ℕ) (arm : DerArm) → slice_get all i ≡ Some arm → (occ : Occ) → slice_get f.occs arm.value ≡ Some occ → slice_get t.roles arm.value ≡ Some (Reset p i)
  value_role i arm at occ there = by r.role r.at r.is (fits f arm.value r.role r.is (ResetOf place.call (events_of all) i) (AsReset p b s i all arm place.call has_der at refl (call_is f p place is)))
    where
      r : HasRole f grades t n k made arm.value
      r = has_role f grades t n k made arm.value occ there

      by : (role : Role) → slice_get t.roles arm.value ≡ Some role → IsRole f arm.value role → Fits f arm.value role (ResetOf place.call (events_of all) i) → slice_get t.roles arm.value ≡ Some (Reset p i)
      by (Reset q m) at_q d fit =
          let same : q ≡ p = one_place f arm.value _ d.uses q p d.block d.slope b s d.resets all d.has has_der m i d.arm arm d.is d.value at refl in
          let here : Reset q m ≡ Reset p i = let z = fit in cc in
          at_q ∙ ap (λ role. Some role) here
      by role at_q d fit = absurd fit

  pub value_guard : (i : ℕ) (arm : DerArm) → slice_get all i ≡ Some arm → (occ : Occ) → slice_get f.occs arm.value ≡ Some occ → IsUnder k (call_guard n.wiring place.call) (n.wire (Taken p i)) (n.wiring.G arm.value)
  value_guard i arm at occ there =
      subst (λ call. IsUnder k (call_guard n.wiring call) (n.wire (Taken p i)) (n.wiring.G arm.value)) (call_is f p place is)
      (reset_guard f grades t n k made arm.value occ there p i (value_role i arm at occ there))

  module _ (i : ℕ) (arm : DerArm) (arms : List DerArm) (from : drop i all ≡ arm ∷ arms) where
    abbrev at : slice_get all i ≡ Some arm
    at = drop_first i all arm arms from

    listed : (key : Key) → Has (arm_keys f grades t p i arm) key → Has (keys f grades t) key
    listed key h =
        let of_arms = each-has (arm_keys f grades t p) 0 all key (record { index = i; number = i; entry = arm; is = at; counted = omega arith; has = h }) in
        let mine : Has (definer_keys f grades t p place.call (Some (Der b s all))) key = record { index = suc (suc (suc of_arms.index)); is = of_arms.is } in
        definer_there f grades t p place key is (subst (λ d. Has (definer_keys f grades t p place.call d) key) (sym der) mine)

    left : drop i (arms_of f grades t n (definer_of place.definers)) ≡ arm ∷ arms
    left = ap (λ d. drop i (arms_of f grades t n d)) der ∙ from

    taken_is : wire_of f grades t n (Taken p i) ≡ taken_wire f grades t n p i (arm ∷ arms)
    taken_is = rw is (ap (λ l. taken_wire f grades t n p i l) left)

    pub taken_as : IsUnder k (Some (before_arm f grades t n p i)) (n.wiring.w arm.event) (Some (n.wire (Taken p i)))
    taken_as =
        Copied (n.wire (Taken p i))
        (solved_as f grades t n k made (Taken p i) (listed (Taken p i) (record { index = 0; is = refl })) refl (taken_wire f grades t n p i (arm ∷ arms)) taken_is (n.wire (Taken p i)) refl)

    passed_is : wire_of f grades t n (Passed p i) ≡ passed_wire f grades t n p i (arm ∷ arms)
    passed_is = rw is (ap (λ l. passed_wire f grades t n p i l) left)

    pub passed_as : IsBut k (Some (before_arm f grades t n p i)) (n.wiring.w arm.event) (Some (n.wire (Passed p i)))
    passed_as =
        Turned (n.wire (Passed p i))
        (solved_as f grades t n k made (Passed p i) (listed (Passed p i) (record { index = 1; is = refl })) refl (passed_wire f grades t n p i (arm ∷ arms)) passed_is (n.wire (Passed p i)) refl)

    chosen_is : wire_of f grades t n (Chosen p i) ≡ chosen_wire f grades t n p i (arm ∷ arms)
    chosen_is = rw is (ap (λ l. chosen_wire f grades t n p i l) left)

    pub chosen_as : IsWire k (n.wire (Chosen p i)) (chosen_wire f grades t n p i (arm ∷ arms)).def (chosen_wire f grades t n p i (arm ∷ arms)).guard
    chosen_as =
        solved_as f grades t n k made (Chosen p i) (listed (Chosen p i) (record { index = 2; is = refl })) refl (chosen_wire f grades t n p i (arm ∷ arms)) chosen_is (n.wire (Chosen p i)) refl

  -- what the place has by its arms from one on
  pub reset : (arms : List DerArm) (i : ℕ) → drop i all ≡ arms → IsReset f k n.wiring (n.wiring.L p) place.call arms (before_arm f grades t n p i) (by_arms f grades t n p i arms)
  reset [] i from = Stays (before_arm f grades t n p i)
  reset (arm ∷ arms) i from =
      let here = drop_first i all arm arms from in
      let h : Has all arm = record { index = i; is = here } in
      let st = stands arm h in
      Tested arm arms (before_arm f grades t n p i) (n.wire (Taken p i)) (n.wire (Passed p i)) (n.wire (Chosen p i)) (by_arms f grades t n p (suc i) arms) (event_part arm h) (taken_as i arm arms from) (passed_as i arm arms from) (st.1.occ, st.1.is) (value_guard i arm here st.1.occ st.1.is)
      (reset arms (suc i) (drop_next i all arm arms from)) (chosen_as i arm arms from)

  -- an arm is taken
  pub taken : (m : ℕ) (arms : List DerArm) (i c : ℕ) → drop i all ≡ arms → (arm : DerArm) → slice_get arms m ≡ Some arm → c ≡ i + m → IsTaken f k n.wiring (events_of arms) m (before_arm f grades t n p i) (n.wire (Taken p c))
  taken m [] i c from arm at e = absurd cc
  taken zero (x ∷ arms) i c from arm at e =
      let same : c ≡ i = omega (arith, e) in
      Here x.event (events_of arms) (before_arm f grades t n p i) (n.wire (Taken p c)) (subst (λ m. IsUnder k (Some (before_arm f grades t n p i)) (n.wiring.w x.event) (Some (n.wire (Taken p m)))) (sym same) (taken_as i x arms from))
  taken (suc m) (x ∷ arms) i c from arm at e =
      Later x.event (events_of arms) m (before_arm f grades t n p i) (n.wire (Passed p i)) (n.wire (Taken p c)) (passed_as i x arms from)
      (taken m arms (suc i) c (drop_next i all x arms from) arm at (omega (arith, e)))
