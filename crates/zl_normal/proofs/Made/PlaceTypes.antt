-- The wires of guards and places agree in types with what they are made from, in the kernel that is made of a form.
use Rattle.std.specs.Prelude.{◌≡◌, ℕ, zero, suc, Bool, true, false, not, if◌then◌else◌, List, [], ◌∷◌, drop, slice_get, get_or, Option, Some, None}
use Rattle.std.specs.Option.{option_and_then}
use Rattle.std.proofs.Common.{refl, sym, ap, ◌∙◌, subst}
use Rattle.zl_value.specs.Lists.{Has}
use Rattle.zl_value.specs.declared.value.Ty.TheVariants.{Bool as BoolTy, Float, Zero as ZeroTy}
use Rattle.zl_value.specs.declared.op.Op.TheVariants.{Or, Not}
use Rattle.zl_meaning.specs.FlatForm.{FlatForm, HasDefiner, place_call}
use Rattle.zl_meaning.specs.Uses.{BranchOf, IsUse}
use Rattle.zl_meaning.specs.WellFormed.{IsDefiner, IsResetArm, IsCalled}
use Rattle.zl_meaning.specs.Reading.{HasNodeRanks}
use Rattle.zl_meaning.specs.declared.place.Definer.{Definer}
use Rattle.zl_meaning.specs.declared.place.Definer.TheVariants.{Input, Plain, Der, Start}
use Rattle.zl_meaning.specs.declared.place.DerArm.{DerArm}
use Rattle.zl_meaning.specs.declared.place.PlaceInfo.{PlaceInfo}
use Rattle.zl_meaning.proofs.Members.{all-has, has-left, has-when, or-true}
use Rattle.zl_kernel.specs.KernelForm.{KernelForm}
use Rattle.zl_kernel.specs.WellFormed.{HasWire, HasMemory, HasInput, IsGuard, IsWire}
use Rattle.zl_kernel.specs.declared.wire.Def.TheVariants.{Copy, Mem, Op as OpWire, If}
use Rattle.zl_normal.specs.Wiring.{call_guard}
use Rattle.zl_normal.specs.PlaceWires.{definer_of, start_of}
use Rattle.zl_normal.specs.Tables.{Tables, is_literal, is_computed, has_last, asks_itself}
use Rattle.zl_normal.specs.Keys.{keys, guard_keys, arm_keys, definer_keys}
use Rattle.zl_normal.specs.KernelOf.{Numbers, plain, arms_of, by_arms, before_arm, other_wire, guard_wire, defined_wire, taken_wire, passed_wire, chosen_wire, last_wire, wire_of, memory_of}
use Rattle.zl_normal.specs.declared.role.Role.{Role}
use Rattle.zl_normal.specs.declared.role.Role.TheVariants.{Branch, Both, Start as OfStart, Reset as OfReset}
use Rattle.zl_normal.specs.declared.key.Key.{Key}
use Rattle.zl_normal.specs.declared.key.Key.TheVariants.{Other, Between, Taken, Passed, Chosen, Remembered}
use Rattle.zl_normal.specs.declared.key.Kept.TheVariants.{Before}
use Rattle.zl_normal.proofs.Slopes.MovingPlaces.{definer_has}
use Rattle.zl_normal.proofs.MadeFlows.Placed.{guard_there, definer_there, remembered_there}
use Rattle.zl_normal.proofs.MadeFlows.Guards.{occ_there, used, branch_whole, arm_there, der_of}
use Rattle.zl_normal.proofs.MadeFlows.Reads.{ArmAt, arm_at, arm_here, before_here, dropped_next, start_has}
use Rattle.zl_normal.proofs.Made.Wires.{IsMade, place_memory_there}
use Rattle.zl_normal.proofs.Made.Types.{typed_as, moved_to, last_typed}
use Rattle.zl_normal.proofs.Made.GuardTypes.{taken_type, passed_type, step_typed, fresh_typed, test_typed, guard_typed, called_typed}
use Rattle.zl_normal.proofs.Made.ValueTypes.{plain_fits, bool_fits, float_fits, blank_fits, value_stands, test_stands, number_stands, memory_typed}

module _ (f : FlatForm) (grades : List ℕ) (t : Tables) (n : Numbers) (k : KernelForm) (made : IsMade f grades t n k) (entries : HasNodeRanks f) where
  -- the wires of a guard
  other_type : (r : Option Role) → (other_wire f grades t n r).ty ≡ BoolTy
  other_type (Some (Both whole c)) = refl
  other_type r = refl

  module _ (j whole c : ℕ) (side : Bool) (named : IsUse f j (BranchOf whole c side)) where
    test_is : HasWire k BoolTy (n.wiring.w c)
    test_is = test_typed f grades t n k made entries j whole c side named

    whole_is : IsGuard k (n.wiring.G whole)
    whole_is = let w = branch_whole f j whole c side named in guard_typed f grades t n k made entries whole w.0 w.1

  place_guard : (p : ℕ) (d : Definer) → HasDefiner f p d → IsGuard k (call_guard n.wiring (place_call f p))
  place_guard p d has =
      let same : place_call f p ≡ has.0.call = ap (λ o. option_and_then (λ (place : PlaceInfo). place.call) o) has.1 in
      called_typed f grades t n k made entries has.0.block (place_call f p) (subst (λ call. IsCalled f has.0.block call) (sym same) (made.formed.places p has.0 has.1).call)

  pub other_fits : (j : ℕ) (role : Option Role) → slice_get t.roles j ≡ role → IsWire k (other_wire f grades t n role)
  other_fits j (Some (Both whole c)) at =
      let u = used f j _ (BranchOf whole c true) (made.roles.each j (Both whole c) at) (record { index = 0; is = refl }) in
      bool_fits k (OpWire Not (n.wiring.w c ∷ [])) (n.wiring.G whole) ((test_is j whole c true u, tt), refl) (whole_is j whole c true u)
  other_fits j role at = blank_fits k

  pub guard_fits : (j : ℕ) (role : Option Role) → slice_get t.roles j ≡ role → IsWire k (guard_wire f grades t n j role)
  guard_fits j (Some (Branch whole c true)) at =
      let u = used f j _ (BranchOf whole c true) (made.roles.each j (Branch whole c true) at) (record { index = 0; is = refl }) in
      bool_fits k (Copy (n.wiring.w c)) (n.wiring.G whole) (test_is j whole c true u) (whole_is j whole c true u)
  guard_fits j (Some (Branch whole c false)) at =
      let u = used f j _ (BranchOf whole c false) (made.roles.each j (Branch whole c false) at) (record { index = 0; is = refl }) in
      bool_fits k (OpWire Not (n.wiring.w c ∷ [])) (n.wiring.G whole) ((test_is j whole c false u, tt), refl) (whole_is j whole c false u)
  guard_fits j (Some (Both whole c)) at =
      let u = used f j _ (BranchOf whole c true) (made.roles.each j (Both whole c) at) (record { index = 0; is = refl }) in
      let o = occ_there f t.roles made.roles j (Both whole c) at in
      let there : Has (keys f grades t) (Other j) = guard_there f grades t j o.0 (Other j) o.1 (subst (λ r. Has (guard_keys f grades t j r) (Other j)) (sym at) (record { index = 0; is = refl })) in
      let other : HasWire k BoolTy (n.wire (Other j)) = typed_as f grades t n k made entries (Other j) there BoolTy (other_type (slice_get t.roles j)) (n.wire (Other j)) refl in
      bool_fits k (OpWire Or (n.wiring.w c ∷ n.wire (Other j) ∷ [])) (n.wiring.G whole) ((test_is j whole c true u, (other, tt)), refl) (whole_is j whole c true u)
  guard_fits j (Some (OfStart p)) at =
      let is_role = made.roles.each j (OfStart p) at in
      bool_fits k (Copy n.wiring.fresh) (call_guard n.wiring (place_call f p)) (fresh_typed f grades t n k made entries) (place_guard p (Start 0 j) is_role.has)
  guard_fits j (Some (OfReset p arm)) at =
      let is_role = made.roles.each j (OfReset p arm) at in
      let der = der_of f grades t n made.formed made.main made.single entries made.roles made.layout p is_role.block is_role.slope is_role.resets is_role.has in
      let there = arm_there f grades t n made.formed made.main made.single entries made.roles made.layout p is_role.has.0 is_role.has.1 is_role.block is_role.slope is_role.resets der arm is_role.arm is_role.is (Taken p arm) (record { index = 0; is = refl }) in
      bool_fits k (Copy (n.wire (Taken p arm))) (call_guard n.wiring (place_call f p))
      (typed_as f grades t n k made entries (Taken p arm) there BoolTy (taken_type f grades t n k made entries p arm) (n.wire (Taken p arm)) refl)
      (place_guard p (Der is_role.block is_role.slope is_role.resets) is_role.has)
  guard_fits j role at = blank_fits k

  -- the wires of a place
  module _ (p : ℕ) (place : PlaceInfo) (is : slice_get f.places p ≡ Some place) where
    own_guard : IsGuard k (call_guard n.wiring place.call)
    own_guard = called_typed f grades t n k made entries place.block place.call (made.formed.places p place is).call

    value : place.ty ≡ ZeroTy → ⊥
    value = (made.formed.places p place is).value

    definer_is : (d : Definer) → Has place.definers d → IsDefiner f p place d
    definer_is d has = all-has (IsDefiner f p place) place.definers d (made.formed.places p place is).definers has

    pub first_is : (d : Definer) → definer_of place.definers ≡ Some d → IsDefiner f p place d
    first_is d e = definer_is d (definer_has place.definers d e)

    -- `last` of a place that asks for it itself
    itself_last : (d : Option Definer) → definer_of place.definers ≡ d → asks_itself d ≡ true → HasWire k place.ty (n.wiring.L p)
    itself_last d e asks = last_typed f grades t n k made entries p place is (or-true (get_or t.lasts p false) _ (ap (λ d. asks_itself d) e ∙ asks))

    -- the wires of an arm
    arm_key : (i : ℕ) (arm : DerArm) → ArmAt i place arm → (key : Key) → Has (arm_keys f grades t p i arm) key → Has (keys f grades t) key
    arm_key i arm a key h = arm_there f grades t n made.formed made.main made.single entries made.roles made.layout p place is a.block a.slope a.arms a.der i arm a.at key h

    arm_stands : (i : ℕ) (arm : DerArm) → (a : ArmAt i place arm) → IsResetArm f a.block arm
    arm_stands i arm a = all-has (IsResetArm f a.block) a.arms arm (first_is (Der a.block a.slope a.arms) a.der).3 (record { index = i; is = a.at })

    before_typed : (i : ℕ) (arm : DerArm) → ArmAt i place arm → HasWire k BoolTy (before_arm f grades t n p i)
    before_typed zero arm a = step_typed f grades t n k made entries
    before_typed (suc i) arm a =
        let b = before_here a.arms i arm a.at in
        typed_as f grades t n k made entries (Passed p i)
        (arm_key i b.0 (record { block = a.block; slope = a.slope; arms = a.arms; der = a.der; at = b.1 }) (Passed p i) (record { index = 1; is = refl })) BoolTy
        (passed_type f grades t n k made entries p i) (n.wire (Passed p i)) refl

    chosen_type : (i : ℕ) (d : Option Definer) → definer_of place.definers ≡ d → (arm : DerArm) (rest : List DerArm) → drop i (arms_of f grades t n d) ≡ arm ∷ rest → (wire_of f grades t n (Chosen p i)).ty ≡ Float
    chosen_type i d e arm rest q = rw is (ap (λ arms. (chosen_wire f grades t n p i arms).ty) (ap (λ d. drop i (arms_of f grades t n d)) e ∙ q))

    -- what the arms from one on give
    arms_typed : (b slope : ℕ) (arms : List DerArm) → definer_of place.definers ≡ Some (Der b slope arms) → (i : ℕ) (rest : List DerArm) → drop i arms ≡ rest → HasWire k Float (by_arms f grades t n p i rest)
    arms_typed b slope arms e i [] q =
        let d : IsDefiner f p place (Der b slope arms) = first_is (Der b slope arms) e in
        moved_to f grades t n k made entries _ _ _ _ refl d.1 (itself_last (Some (Der b slope arms)) e refl)
    arms_typed b slope arms e i (arm ∷ rest) q =
        typed_as f grades t n k made entries (Chosen p i)
        (arm_key i arm (record { block = b; slope = slope; arms = arms; der = e; at = arm_here arms i arm rest q }) (Chosen p i) (record { index = 2; is = refl })) Float
        (chosen_type i (Some (Der b slope arms)) e arm rest q) (n.wire (Chosen p i)) refl

    pub defined_fits : ((i : ℕ) → slice_get f.ins i ≡ Some p → HasInput k place.ty i) → (d : Option Definer) → definer_of place.definers ≡ d → IsWire k (defined_wire f grades t n p place d)
    defined_fits inputs None e = plain_fits k place.ty _ (call_guard n.wiring place.call) value (itself_last None e refl) own_guard
    defined_fits inputs (Some (Input i)) e = plain_fits k place.ty _ (call_guard n.wiring place.call) value (inputs i (first_is (Input i) e).0) own_guard
    defined_fits inputs (Some (Plain b j)) e =
        plain_fits k place.ty _ (call_guard n.wiring place.call) value (value_stands f grades t n k made entries b place.ty j value (first_is (Plain b j) e).1) own_guard
    defined_fits inputs (Some (Der b j arms)) e =
        let d : IsDefiner f p place (Der b j arms) = first_is (Der b j arms) e in
        let there = definer_there f grades t p place (Between p) is (subst (λ d. Has (definer_keys f grades t p place.call d) (Between p)) (sym e) (record { index = 1; is = refl })) in
        let between : HasWire k Float (n.wire (Between p)) = typed_as f grades t n k made entries (Between p) there Float refl (n.wire (Between p)) refl in
        let arm : HasWire k Float (by_arms f grades t n p 0 arms) = arms_typed b j arms e 0 arms refl in
        plain_fits k place.ty _ (call_guard n.wiring place.call) value
        (step_typed f grades t n k made entries, moved_to f grades t n k made entries _ _ _ _ refl (sym d.1) arm, moved_to f grades t n k made entries _ _ _ _ refl (sym d.1) between) own_guard
    defined_fits inputs (Some (Start b j)) e = blank_fits k

    pub taken_fits : (i : ℕ) (arms : List DerArm) → drop i (arms_of f grades t n (definer_of place.definers)) ≡ arms → IsWire k (taken_wire f grades t n p i arms)
    taken_fits i [] q = blank_fits k
    taken_fits i (arm ∷ rest) q =
        let a = arm_at f grades t n i place (definer_of place.definers) refl arm rest q in
        bool_fits k _ (Some (before_arm f grades t n p i)) (test_stands f grades t n k made entries a.block arm.event (arm_stands i arm a).0) (before_typed i arm a)

    pub passed_fits : (i : ℕ) (arms : List DerArm) → drop i (arms_of f grades t n (definer_of place.definers)) ≡ arms → IsWire k (passed_wire f grades t n p i arms)
    passed_fits i [] q = blank_fits k
    passed_fits i (arm ∷ rest) q =
        let a = arm_at f grades t n i place (definer_of place.definers) refl arm rest q in
        bool_fits k _ (Some (before_arm f grades t n p i)) ((test_stands f grades t n k made entries a.block arm.event (arm_stands i arm a).0, tt), refl) (before_typed i arm a)

    pub chosen_fits : (i : ℕ) (arms : List DerArm) → drop i (arms_of f grades t n (definer_of place.definers)) ≡ arms → IsWire k (chosen_wire f grades t n p i arms)
    chosen_fits i [] q = blank_fits k
    chosen_fits i (arm ∷ rest) q =
        let a = arm_at f grades t n i place (definer_of place.definers) refl arm rest q in
        let s = arm_stands i arm a in
        let q' : drop i a.arms ≡ arm ∷ rest = sym (ap (λ d. drop i (arms_of f grades t n d)) a.der) ∙ q in
        let taken : HasWire k BoolTy (n.wire (Taken p i)) = typed_as f grades t n k made entries (Taken p i) (arm_key i arm a (Taken p i) (record { index = 0; is = refl })) BoolTy (taken_type f grades t n k made entries p i) (n.wire (Taken p i)) refl in
        float_fits k _ None (taken, number_stands f grades t n k made entries a.block arm.value s.1, arms_typed a.block a.slope a.arms a.der (suc i) rest (dropped_next a.arms i arm rest q')) tt

    -- what a place had before
    module _ (own : has_last t p place ≡ true) where
      before_memory : HasMemory k place.ty (n.memory (Before p))
      before_memory = memory_typed f grades t n k made entries (Before p) (place_memory_there f grades t n k made p place (Before p) is (has-left _ _ (Before p) (has-when _ (Before p) own))) place.ty memory_type
        where
          memory_type : (memory_of f grades t n (Before p)).ty ≡ place.ty
          memory_type = rw is refl

      pub remembered_fits : IsWire k (plain place.ty (Mem (n.memory (Before p))) None)
      remembered_fits = plain_fits k place.ty _ None value before_memory tt

      pub last_fits : (s : Option ℕ) → start_of place.definers ≡ s → IsWire k (last_wire f grades t n p place s)
      last_fits None e = remembered_fits
      last_fits (Some j) e = by (is_literal f j) refl
        where
          by : (b : Bool) → is_literal f j ≡ b → IsWire k (if b then plain place.ty (Mem (n.memory (Before p))) None else plain place.ty (If n.wiring.fresh (n.wiring.w j) (n.wire (Remembered p))) None)
          by true q = remembered_fits
          by false q =
              let h = start_has place.definers j e in
              let s : IsDefiner f p place (Start h.0 j) = definer_is (Start h.0 j) h.1 in
              let computed : is_computed f (start_of place.definers) ≡ true = ap (λ s. is_computed f s) e ∙ ap (λ b. not b) q in
              let remembered : HasWire k place.ty (n.wire (Remembered p)) = typed_as f grades t n k made entries (Remembered p) (remembered_there f grades t p place is own computed) place.ty (rw is refl) (n.wire (Remembered p)) refl in
              plain_fits k place.ty _ None value (fresh_typed f grades t n k made entries, value_stands f grades t n k made entries h.0 place.ty j value s.1, remembered) tt
