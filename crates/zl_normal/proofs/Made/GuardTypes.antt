-- Guards are bools, in the kernel that is made of a form.
use Rattle.std.specs.Prelude.{◌≡◌, ℕ, zero, suc, ◌<◌, Bool, true, false, not, ◌||◌, List, [], ◌∷◌, drop, slice_get, get_or, Option, Some, None, ⊤}
use Rattle.std.specs.Option.{option_and_then}
use Rattle.std.proofs.Common.{refl, sym, ap, ◌∙◌, arith, subst}
use Rattle.zl_value.specs.Lists.{Has}
use Rattle.zl_value.specs.declared.value.Ty.TheVariants.{Bool as BoolTy}
use Rattle.zl_meaning.specs.FlatForm.{FlatForm, HasDefiner, call_of, place_call}
use Rattle.zl_meaning.specs.State.{AtUsed}
use Rattle.zl_meaning.specs.Uses.{Use, PartOf, BranchOf, DefinerOf, IsUse, uses_of}
use Rattle.zl_meaning.specs.WellFormed.{IsForm, IsCalled}
use Rattle.zl_meaning.specs.Reading.{ReadsCall, ReadsAsked, ReadsUsed, HasNodeRanks}
use Rattle.zl_meaning.specs.declared.place.Definer.{Definer}
use Rattle.zl_meaning.specs.declared.place.DerArm.{DerArm}
use Rattle.zl_meaning.specs.declared.place.PlaceInfo.{PlaceInfo}
use Rattle.zl_meaning.specs.declared.occurrence.Form.TheVariants.{If}
use Rattle.zl_meaning.specs.declared.occurrence.Occ.{Occ}
use Rattle.zl_meaning.proofs.Members.{has-when}
use Rattle.zl_kernel.specs.KernelForm.{KernelForm}
use Rattle.zl_kernel.specs.WellFormed.{HasWire, IsGuard}
use Rattle.zl_normal.specs.Wiring.{call_guard}
use Rattle.zl_normal.specs.PlaceWires.{definer_of}
use Rattle.zl_normal.specs.Tables.{Tables, is_guarded, is_free}
use Rattle.zl_normal.specs.Keys.{guard_keys}
use Rattle.zl_normal.specs.KernelOf.{Numbers, arms_of, guard_wire, taken_wire, passed_wire, wire_of}
use Rattle.zl_normal.specs.Layout.{IsGuardAt}
use Rattle.zl_normal.specs.Roles.{IsRole, IsPartAlone, Alone, OfCall}
use Rattle.zl_normal.specs.declared.role.Role.{Role}
use Rattle.zl_normal.specs.declared.role.Role.TheVariants.{Unused, Part, Branch, Both, Definer as OfDefiner, Slope as OfSlope, Event as OfEvent, Start as OfStart, Reset as OfReset, Argument, Again as OfAgain}
use Rattle.zl_normal.specs.declared.key.Key.TheVariants.{Fresh, Step, Guard, Taken, Passed}
use Rattle.zl_normal.proofs.MadeFlows.Placed.{step_there, fresh_there, guard_there}
use Rattle.zl_normal.proofs.MadeFlows.Guards.{role_there, used, whole_there, branch_whole, arm_there, der_of}
use Rattle.zl_normal.proofs.Made.Wires.{IsMade}
use Rattle.zl_normal.proofs.Made.UnderGuards.{choose}
use Rattle.zl_normal.proofs.Made.Types.{shown, typed_as, moved_to, value_typed}

module _ (f : FlatForm) (grades : List ℕ) (t : Tables) (n : Numbers) (k : KernelForm) (made : IsMade f grades t n k) (entries : HasNodeRanks f) where
  guard_type : (j : ℕ) (r : Option Role) → (guard_wire f grades t n j r).ty ≡ BoolTy
  guard_type j (Some (Branch whole c true)) = refl
  guard_type j (Some (Branch whole c false)) = refl
  guard_type j (Some (Both whole c)) = refl
  guard_type j (Some (OfStart p)) = refl
  guard_type j (Some (OfReset p arm)) = refl
  guard_type j r = refl

  taken_arm : (p i : ℕ) (arms : List DerArm) → (taken_wire f grades t n p i arms).ty ≡ BoolTy
  taken_arm p i [] = refl
  taken_arm p i (arm ∷ arms) = refl

  passed_arm : (p i : ℕ) (arms : List DerArm) → (passed_wire f grades t n p i arms).ty ≡ BoolTy
  passed_arm p i [] = refl
  passed_arm p i (arm ∷ arms) = refl

  pub taken_type : (p i : ℕ) → (wire_of f grades t n (Taken p i)).ty ≡ BoolTy
  taken_type p i = by (slice_get f.places p) refl
    where
      by : (o : Option PlaceInfo) → slice_get f.places p ≡ o → (wire_of f grades t n (Taken p i)).ty ≡ BoolTy
      by None e = rw e refl
      by (Some place) e = rw e (taken_arm p i (drop i (arms_of f grades t n (definer_of place.definers))))

  pub passed_type : (p i : ℕ) → (wire_of f grades t n (Passed p i)).ty ≡ BoolTy
  passed_type p i = by (slice_get f.places p) refl
    where
      by : (o : Option PlaceInfo) → slice_get f.places p ≡ o → (wire_of f grades t n (Passed p i)).ty ≡ BoolTy
      by None e = rw e refl
      by (Some place) e = rw e (passed_arm p i (drop i (arms_of f grades t n (definer_of place.definers))))

  pub step_typed : HasWire k BoolTy n.wiring.step
  step_typed = typed_as f grades t n k made entries Step (step_there f grades t) BoolTy refl n.wiring.step made.layout.wired.step

  pub fresh_typed : HasWire k BoolTy n.wiring.fresh
  fresh_typed = typed_as f grades t n k made entries Fresh (fresh_there f grades t) BoolTy refl n.wiring.fresh made.layout.wired.fresh

  own_guard : (j : ℕ) (occ : Occ) → slice_get f.occs j ≡ Some occ → (role : Role) → slice_get t.roles j ≡ Some role → Has (guard_keys f grades t j (Some role)) (Guard j) → HasWire k BoolTy (n.wire (Guard j))
  own_guard j occ is role at h =
      typed_as f grades t n k made entries (Guard j) (guard_there f grades t j occ (Guard j) is (subst (λ r. Has (guard_keys f grades t j r) (Guard j)) (sym at) h)) BoolTy (guard_type j (slice_get t.roles j)) (n.wire (Guard j)) refl

  -- the test of a branch
  pub test_typed : (j whole c : ℕ) (side : Bool) → IsUse f j (BranchOf whole c side) → HasWire k BoolTy (n.wiring.w c)
  test_typed j whole c side named =
      let w = branch_whole f j whole c side named in
      let st : IsForm f w.0.block w.0.ty (If c w.2.0 w.2.1) = subst (λ form. IsForm f w.0.block w.0.ty form) w.2.2 (made.formed.occs whole w.0 w.1).form in
      moved_to f grades t n k made entries _ _ _ _ refl (ap (λ ty. shown ty) st.0.typed) (value_typed f grades t n k made entries c st.0.occ st.0.is)

  module _ (h : ℕ) (below : (j : ℕ) (occ : Occ) → slice_get f.occs j ≡ Some occ → entries.rank (AtUsed j) < h → IsGuard k (n.wiring.G j)) where
    call_typed : (block : ℕ) (call : Option ℕ) → IsCalled f block call → ReadsCall (λ a. entries.rank a < h) call → IsGuard k (call_guard n.wiring call)
    call_typed block None called rd = tt
    call_typed block (Some call) called rd = below call called.0 called.1 rd

    place_typed : (p : ℕ) (d : Definer) → HasDefiner f p d → ReadsCall (λ a. entries.rank a < h) (place_call f p) → IsGuard k (call_guard n.wiring (place_call f p))
    place_typed p d has rd =
        let same : place_call f p ≡ has.0.call = ap (λ o. option_and_then (λ (place : PlaceInfo). place.call) o) has.1 in
        call_typed has.0.block (place_call f p) (subst (λ call. IsCalled f has.0.block call) (sym same) (made.formed.places p has.0 has.1).call) rd

    guard_by : (j : ℕ) (occ : Occ) → slice_get f.occs j ≡ Some occ → ReadsAsked (λ a. entries.rank a < h) (λ a. ⊤) occ.call (uses_of f j) → (role : Role) → slice_get t.roles j ≡ Some role → IsRole f j role → IsGuardAt f grades t n j role → IsGuard k (n.wiring.G j)
    guard_by j occ is rd Unused at is_role g =
        let same : call_of f j ≡ occ.call = ap (λ o. option_and_then (λ (occ : Occ). occ.call) o) is in
        subst (λ g. IsGuard k g) (sym (g ∙ ap (λ c. call_guard n.wiring c) same)) (call_typed occ.block occ.call (made.formed.occs j occ is).call (subst (λ us. ReadsAsked (λ a. entries.rank a < h) (λ a. ⊤) occ.call us) is_role rd))
    guard_by j occ is rd (Part whole) at is_role g = subst (λ g. IsGuard k g) (sym g) (by is_role)
      where
        first : (us : List Use) → uses_of f j ≡ PartOf whole ∷ us → IsGuard k (n.wiring.G whole)
        first us e =
            let w = whole_there f j whole (used f j (PartOf whole ∷ us) (PartOf whole) e (record { index = 0; is = refl })) in
            let r = subst (λ us. ReadsAsked (λ a. entries.rank a < h) (λ a. ⊤) occ.call us) e rd in
            below whole w.0 w.1 r.0

        by : IsPartAlone f j whole → IsGuard k (n.wiring.G whole)
        by (Alone e) = first [] e
        by (OfCall e has unused) = first (DefinerOf (call_of f whole) ∷ []) e
    guard_by j occ is rd (Branch whole c true) at is_role g =
        subst (λ g. IsGuard k g) (sym g)
        (choose (HasWire k BoolTy) (get_or t.free whole false || is_guarded f t c) (n.wiring.w c) (n.wire (Guard j)) (λ e. test_typed j whole c true (used f j _ (BranchOf whole c true) is_role (record { index = 0; is = refl })))
        (λ e. own_guard j occ is (Branch whole c true) at (has-when _ (Guard j) (ap (λ b. not b) e))))
    guard_by j occ is rd (Branch whole c false) at is_role g = subst (λ g. IsGuard k g) (sym g) (own_guard j occ is (Branch whole c false) at (record { index = 0; is = refl }))
    guard_by j occ is rd (Both whole c) at is_role g = subst (λ g. IsGuard k g) (sym g) (own_guard j occ is (Both whole c) at (record { index = 1; is = refl }))
    guard_by j occ is rd (OfDefiner p) at is_role g =
        subst (λ g. IsGuard k g) (sym g) (place_typed p _ is_role.has (subst (λ us. ReadsAsked (λ a. entries.rank a < h) (λ a. ⊤) occ.call us) is_role.uses rd).0)
    guard_by j occ is rd (OfSlope p) at is_role g =
        subst (λ g. IsGuard k g) (sym g) (place_typed p _ is_role.has (subst (λ us. ReadsAsked (λ a. entries.rank a < h) (λ a. ⊤) occ.call us) is_role.uses rd).0)
    guard_by j occ is rd (OfEvent p) at is_role g =
        subst (λ g. IsGuard k g) (sym g) (place_typed p _ is_role.has (subst (λ us. ReadsAsked (λ a. entries.rank a < h) (λ a. ⊤) occ.call us) is_role.uses rd).0)
    guard_by j occ is rd (OfStart p) at is_role g =
        subst (λ g. IsGuard k g) (sym g)
        (choose (HasWire k BoolTy) (is_free t (place_call f p)) n.wiring.fresh (n.wire (Guard j)) (λ e. fresh_typed)
        (λ e. own_guard j occ is (OfStart p) at (has-when _ (Guard j) (ap (λ b. not b) e))))
    guard_by j occ is rd (OfReset p arm) at is_role g =
        subst (λ g. IsGuard k g) (sym g)
        (choose (HasWire k BoolTy) (is_free t (place_call f p)) (n.wire (Taken p arm)) (n.wire (Guard j)) (λ e. typed_as f grades t n k made entries (Taken p arm)
        (arm_there f grades t n made.formed made.main made.single entries made.roles made.layout p is_role.has.0 is_role.has.1 is_role.block is_role.slope is_role.resets
        (der_of f grades t n made.formed made.main made.single entries made.roles made.layout p is_role.block is_role.slope is_role.resets is_role.has) arm is_role.arm is_role.is (Taken p arm) (record { index = 0; is = refl })) BoolTy (taken_type p arm) (n.wire (Taken p arm)) refl)
        (λ e. own_guard j occ is (OfReset p arm) at (has-when _ (Guard j) (ap (λ b. not b) e))))
    guard_by j occ is rd Argument at is_role g = subst (λ g. IsGuard k g) (sym g) tt
    guard_by j occ is rd OfAgain at is_role g = subst (λ g. IsGuard k g) (sym g) tt

  guards_below : (h : ℕ) (j : ℕ) (occ : Occ) → slice_get f.occs j ≡ Some occ → entries.rank (AtUsed j) < h → IsGuard k (n.wiring.G j)
  guards_below zero j occ is l = absurd (omega arith)
  guards_below (suc h) j occ is l =
      let role = role_there f t.roles made.roles j occ is in
      let reads : ReadsUsed f (λ a. entries.rank a < entries.rank (AtUsed j)) (λ a. ⊤) j (Some occ) = subst (λ o. ReadsUsed f (λ a. entries.rank a < entries.rank (AtUsed j)) (λ a. ⊤) j o) is (entries.lower (AtUsed j)) in
      guard_by (entries.rank (AtUsed j)) (λ i other at k. guards_below h i other at (omega (arith, l, k))) j occ is reads.1 role.0 role.1 (made.roles.each j role.0 role.1) (made.layout.wired.guards j role.0 role.1)

  -- the guard of an occurrence, and of what stands in the copy of a call
  pub guard_typed : (j : ℕ) (occ : Occ) → slice_get f.occs j ≡ Some occ → IsGuard k (n.wiring.G j)
  guard_typed j occ is = guards_below (suc (entries.rank (AtUsed j))) j occ is (omega arith)

  pub called_typed : (block : ℕ) (call : Option ℕ) → IsCalled f block call → IsGuard k (call_guard n.wiring call)
  called_typed block None called = tt
  called_typed block (Some call) called = guard_typed call called.0 called.1
