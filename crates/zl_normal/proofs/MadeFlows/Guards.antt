-- The guards of occurrences are solved at instants.
use Rattle.std.specs.Prelude.{◌≡◌, ℕ, zero, suc, ◌<◌, ◌≤◌, Bool, true, false, not, ◌||◌, if◌then◌else◌, List, [], ◌∷◌, length, slice_get, get_or, Option, Some, None, ⊤}
use Rattle.std.specs.List.{AllByRecursion}
use Rattle.std.specs.Option.{option_and_then}
use Rattle.std.proofs.Common.{refl, sym, ap, ◌∙◌, arith, subst, ◌⊎◌, inl, inr}
use Rattle.std.proofs.lemmas.Option.{slice_get_within, slice_get_cases}
use Rattle.zl_value.specs.Lists.{Has}
use Rattle.zl_meaning.specs.FlatForm.{FlatForm, HasDefiner, call_of, place_call}
use Rattle.zl_meaning.specs.State.{AtUsed}
use Rattle.zl_meaning.specs.Uses.{Use, PartOf, BranchOf, DefinerOf, IsUse, AsPart, AsBranch, uses_of}
use Rattle.zl_meaning.specs.WellFormed.{IsForm, IsCalled, IsWellFormed}
use Rattle.zl_meaning.specs.Single.{is_start, IsSingle}
use Rattle.zl_meaning.specs.Reading.{ReadsCall, ReadsAsked, ReadsUsed, HasNodeRanks}
use Rattle.zl_meaning.specs.declared.place.Definer.{Definer}
use Rattle.zl_meaning.specs.declared.place.Definer.TheVariants.{Input, Plain, Der, Start}
use Rattle.zl_meaning.specs.declared.place.DerArm.{DerArm}
use Rattle.zl_meaning.specs.declared.place.PlaceInfo.{PlaceInfo}
use Rattle.zl_meaning.specs.declared.occurrence.Form.TheVariants.{If}
use Rattle.zl_meaning.specs.declared.occurrence.Occ.{Occ}
use Rattle.zl_meaning.proofs.Members.{all-has, has-when, has-cases, has-none}
use Rattle.zl_meaning.proofs.UseCases.{use-of-listed}
use Rattle.zl_normal.specs.Wiring.{call_guard}
use Rattle.zl_normal.specs.PlaceWires.{definer_of}
use Rattle.zl_normal.specs.MainBlock.{IsMain}
use Rattle.zl_normal.specs.Tables.{Tables, is_guarded, is_free}
use Rattle.zl_normal.specs.Keys.{each, arm_keys, guard_keys, definer_keys, keys}
use Rattle.zl_normal.specs.KernelOf.{Numbers}
use Rattle.zl_normal.specs.Layout.{IsLayout, IsGuardAt}
use Rattle.zl_normal.specs.Roles.{IsPartAlone, Alone, OfCall, IsRole, AreRoles}
use Rattle.zl_normal.specs.declared.role.Role.{Role}
use Rattle.zl_normal.specs.declared.role.Role.TheVariants.{Unused, Part, Branch, Both, Definer as OfDefiner, Slope as OfSlope, Event as OfEvent, Start as OfStart, Reset as OfReset, Argument, Again as OfAgain}
use Rattle.zl_normal.specs.declared.key.Key.{Key}
use Rattle.zl_normal.specs.declared.key.Key.TheVariants.{Fresh, Guard, Taken}
use Rattle.zl_normal.proofs.Flows.Motions.{IsAlone, alone}
use Rattle.zl_normal.proofs.MadeFlows.Placed.{at_instants, StandsFor, stands_for, fresh_there, guard_there, definer_there, each-has}
use Rattle.zl_normal.proofs.MadeFlows.Roots.{value_solved}

-- the one definer beside `init` is the first of them
only_start : (definers : List Definer) (d : Definer) → AllByRecursion (λ other. is_start other ≡ true) definers → Has definers d → is_start d ≡ false → ⊥
only_start definers d all h off = let on : is_start d ≡ true = all-has (λ other. is_start other ≡ true) definers d all h in cc

pub first_definer : (definers : List Definer) → IsAlone definers → (d : Definer) → Has definers d → is_start d ≡ false → definer_of definers ≡ Some d
first_definer [] alone d h off = absurd (has-none d h)
first_definer (Input n ∷ definers) alone d h off = has-cases _ (Input n) definers d h (λ e. ap (λ d. Some d) e) (λ l. absurd (only_start definers d alone l off))
first_definer (Plain b j ∷ definers) alone d h off = has-cases _ (Plain b j) definers d h (λ e. ap (λ d. Some d) e) (λ l. absurd (only_start definers d alone l off))
first_definer (Der b j arms ∷ definers) alone d h off = has-cases _ (Der b j arms) definers d h (λ e. ap (λ d. Some d) e) (λ l. absurd (only_start definers d alone l off))
first_definer (Start b j ∷ definers) alone d h off =
    has-cases _ (Start b j) definers d h (λ e. let on : is_start (Start b j) ≡ is_start d = ap (λ d. is_start d) e in absurd cc) (λ l. first_definer definers alone d l off)

pub role_there : (f : FlatForm) (roles : List Role) → AreRoles f roles → (j : ℕ) (occ : Occ) → slice_get f.occs j ≡ Some occ → (role : Role) × (slice_get roles j ≡ Some role)
role_there f roles are j occ is = by (slice_get_cases roles j).1
  where
    inside : j < length f.occs
    inside = slice_get_within f.occs j occ is

    by : (((x : Role) × (j < length roles) × (slice_get roles j ≡ Some x) × (get_or roles j x ≡ x)) ⊎ ((length roles ≤ j) × (slice_get roles j ≡ None))) → (role : Role) × (slice_get roles j ≡ Some role)
    by (inl x) = (x.0, x.2)
    by (inr past) = let s = are.size in let p = past.0 in absurd (omega (arith, s, p, inside))

pub occ_there : (f : FlatForm) (roles : List Role) → AreRoles f roles → (j : ℕ) (role : Role) → slice_get roles j ≡ Some role → (occ : Occ) × (slice_get f.occs j ≡ Some occ)
occ_there f roles are j role is = by (slice_get_cases f.occs j).1
  where
    inside : j < length roles
    inside = slice_get_within roles j role is

    by : (((x : Occ) × (j < length f.occs) × (slice_get f.occs j ≡ Some x) × (get_or f.occs j x ≡ x)) ⊎ ((length f.occs ≤ j) × (slice_get f.occs j ≡ None))) → (occ : Occ) × (slice_get f.occs j ≡ Some occ)
    by (inl x) = (x.0, x.2)
    by (inr past) = let s = are.size in let p = past.0 in absurd (omega (arith, s, p, inside))

-- the occurrence that a use names
pub used : (f : FlatForm) (j : ℕ) (us : List Use) (of : Use) → uses_of f j ≡ us → Has us of → IsUse f j of
used f j us of e h = use-of-listed f j of (subst (λ us. Has us of) (sym e) h)

pub whole_there : (f : FlatForm) (j whole : ℕ) → IsUse f j (PartOf whole) → (occ : Occ) × (slice_get f.occs whole ≡ Some occ)
whole_there f j whole (AsPart _ form has part) = (has.0, has.1)

pub branch_whole : (f : FlatForm) (j whole c : ℕ) (side : Bool) → IsUse f j (BranchOf whole c side) → (occ : Occ) × (slice_get f.occs whole ≡ Some occ) × ((x : ℕ) × (y : ℕ) × (occ.form ≡ If c x y))
branch_whole f j whole c side (AsBranch _ _ x y _ has e) = (has.0, has.1, (x, y, has.2))

pub test_there : (f : FlatForm) → IsWellFormed f → (j whole c : ℕ) (side : Bool) → IsUse f j (BranchOf whole c side) → (occ : Occ) × (slice_get f.occs c ≡ Some occ)
test_there f formed j whole c side named =
    let w = branch_whole f j whole c side named in
    let st : IsForm f w.0.block w.0.ty (If c w.2.0 w.2.1) = subst (λ form. IsForm f w.0.block w.0.ty form) w.2.2 (formed.occs whole w.0 w.1).form in
    (st.0.occ, st.0.is)

module _ (f : FlatForm) (grades : List ℕ) (t : Tables) (n : Numbers) (formed : IsWellFormed f) (main : IsMain f) (single : IsSingle f) (entries : HasNodeRanks f) (roles : AreRoles f t.roles) (layout : IsLayout f grades t n) where
  pub solved_as : (key : Key) → Has (keys f grades t) key → at_instants key ≡ true → StandsFor at_instants (keys f grades t) (n.wire key)
  solved_as key h e = stands_for at_instants (keys f grades t) n.wire layout.wires key h e

  -- a guard, where there is one, is solved at instants
  abbrev pub GuardSolved : Option ℕ → Type 0
  GuardSolved None = Unit {0}
  GuardSolved (Some g) = StandsFor at_instants (keys f grades t) g

  -- an arm has its wires
  pub arm_there : (p : ℕ) (place : PlaceInfo) → slice_get f.places p ≡ Some place → (b slope : ℕ) (arms : List DerArm) → definer_of place.definers ≡ Some (Der b slope arms) → (i : ℕ) (arm : DerArm) → slice_get arms i ≡ Some arm → (key : Key) → Has (arm_keys f grades t p i arm) key → Has (keys f grades t) key
  arm_there p place is b slope arms e i arm at key h =
      let within : Has (each (arm_keys f grades t p) 0 arms) key = each-has (arm_keys f grades t p) 0 arms key (record { index = i; number = i; entry = arm; is = at; counted = omega arith; has = h }) in
      let there : Has (definer_keys f grades t p place.call (Some (Der b slope arms))) key = record { index = suc (suc (suc within.index)); is = within.is } in
      definer_there f grades t p place key is (subst (λ d. Has (definer_keys f grades t p place.call d) key) (sym e) there)

  own_guard : (j : ℕ) (occ : Occ) → slice_get f.occs j ≡ Some occ → (role : Role) → slice_get t.roles j ≡ Some role → Has (guard_keys f grades t j (Some role)) (Guard j) → StandsFor at_instants (keys f grades t) (n.wire (Guard j))
  own_guard j occ is role at h = solved_as (Guard j) (guard_there f grades t j occ (Guard j) is (subst (λ r. Has (guard_keys f grades t j r) (Guard j)) (sym at) h)) refl

  choose : (b : Bool) (x y : ℕ) → (b ≡ true → StandsFor at_instants (keys f grades t) x) → (b ≡ false → StandsFor at_instants (keys f grades t) y) → StandsFor at_instants (keys f grades t) (if b then x else y)
  choose true x y g k = g refl
  choose false x y g k = k refl

  pub der_of : (p b slope : ℕ) (arms : List DerArm) → (has : HasDefiner f p (Der b slope arms)) → definer_of has.0.definers ≡ Some (Der b slope arms)
  der_of p b slope arms has = first_definer has.0.definers (alone f main single p has.0 has.1) (Der b slope arms) has.2 refl

  module _ (h : ℕ) (below : (j : ℕ) (occ : Occ) → slice_get f.occs j ≡ Some occ → entries.rank (AtUsed j) < h → GuardSolved (n.wiring.G j)) where
    call_solved : (block : ℕ) (call : Option ℕ) → IsCalled f block call → ReadsCall (λ a. entries.rank a < h) call → GuardSolved (call_guard n.wiring call)
    call_solved block None called rd = tt
    call_solved block (Some call) called rd = below call called.0 called.1 rd

    place_solved : (p : ℕ) (d : Definer) → HasDefiner f p d → ReadsCall (λ a. entries.rank a < h) (place_call f p) → GuardSolved (call_guard n.wiring (place_call f p))
    place_solved p d has rd =
        let same : place_call f p ≡ has.0.call = ap (λ o. option_and_then (λ (place : PlaceInfo). place.call) o) has.1 in
        call_solved has.0.block (place_call f p) (subst (λ call. IsCalled f has.0.block call) (sym same) (formed.places p has.0 has.1).call) rd

    guard_by : (j : ℕ) (occ : Occ) → slice_get f.occs j ≡ Some occ → ReadsAsked (λ a. entries.rank a < h) (λ a. ⊤) occ.call (uses_of f j) → (role : Role) → slice_get t.roles j ≡ Some role → IsRole f j role → IsGuardAt f grades t n j role → GuardSolved (n.wiring.G j)
    guard_by j occ is rd Unused at is_role g =
        let same : call_of f j ≡ occ.call = ap (λ o. option_and_then (λ (occ : Occ). occ.call) o) is in
        subst GuardSolved (sym (g ∙ ap (λ c. call_guard n.wiring c) same)) (call_solved occ.block occ.call (formed.occs j occ is).call (subst (λ us. ReadsAsked (λ a. entries.rank a < h) (λ a. ⊤) occ.call us) is_role rd))
    guard_by j occ is rd (Part whole) at is_role g = subst GuardSolved (sym g) (by is_role)
      where
        first : (us : List Use) → uses_of f j ≡ PartOf whole ∷ us → GuardSolved (n.wiring.G whole)
        first us e =
            let w = whole_there f j whole (used f j (PartOf whole ∷ us) (PartOf whole) e (record { index = 0; is = refl })) in
            let r = subst (λ us. ReadsAsked (λ a. entries.rank a < h) (λ a. ⊤) occ.call us) e rd in
            below whole w.0 w.1 r.0

        by : IsPartAlone f j whole → GuardSolved (n.wiring.G whole)
        by (Alone e) = first [] e
        by (OfCall e has unused) = first (DefinerOf (call_of f whole) ∷ []) e
    guard_by j occ is rd (Branch whole c true) at is_role g =
        let c_is = test_there f formed j whole c true (used f j _ (BranchOf whole c true) is_role (record { index = 0; is = refl })) in
        subst GuardSolved (sym g)
        (choose (get_or t.free whole false || is_guarded f t c) (n.wiring.w c) (n.wire (Guard j)) (λ e. value_solved f grades t n formed entries layout c c_is.0 c_is.1)
        (λ e. own_guard j occ is (Branch whole c true) at (has-when _ (Guard j) (ap (λ b. not b) e))))
    guard_by j occ is rd (Branch whole c false) at is_role g = subst GuardSolved (sym g) (own_guard j occ is (Branch whole c false) at (record { index = 0; is = refl }))
    guard_by j occ is rd (Both whole c) at is_role g = subst GuardSolved (sym g) (own_guard j occ is (Both whole c) at (record { index = 1; is = refl }))
    guard_by j occ is rd (OfDefiner p) at is_role g =
        subst GuardSolved (sym g) (place_solved p _ is_role.has (subst (λ us. ReadsAsked (λ a. entries.rank a < h) (λ a. ⊤) occ.call us) is_role.uses rd).0)
    guard_by j occ is rd (OfSlope p) at is_role g =
        subst GuardSolved (sym g) (place_solved p _ is_role.has (subst (λ us. ReadsAsked (λ a. entries.rank a < h) (λ a. ⊤) occ.call us) is_role.uses rd).0)
    guard_by j occ is rd (OfEvent p) at is_role g =
        subst GuardSolved (sym g) (place_solved p _ is_role.has (subst (λ us. ReadsAsked (λ a. entries.rank a < h) (λ a. ⊤) occ.call us) is_role.uses rd).0)
    guard_by j occ is rd (OfStart p) at is_role g =
        subst GuardSolved (sym g)
        (choose (is_free t (place_call f p)) n.wiring.fresh (n.wire (Guard j)) (λ e. subst (λ m. StandsFor at_instants (keys f grades t) m) (sym layout.wired.fresh) (solved_as Fresh (fresh_there f grades t) refl))
        (λ e. own_guard j occ is (OfStart p) at (has-when _ (Guard j) (ap (λ b. not b) e))))
    guard_by j occ is rd (OfReset p arm) at is_role g =
        subst GuardSolved (sym g)
        (choose (is_free t (place_call f p)) (n.wire (Taken p arm)) (n.wire (Guard j)) (λ e. solved_as (Taken p arm)
        (arm_there p is_role.has.0 is_role.has.1 is_role.block is_role.slope is_role.resets (der_of p is_role.block is_role.slope is_role.resets is_role.has) arm is_role.arm is_role.is (Taken p arm) (record { index = 0; is = refl })) refl)
        (λ e. own_guard j occ is (OfReset p arm) at (has-when _ (Guard j) (ap (λ b. not b) e))))
    guard_by j occ is rd Argument at is_role g = subst GuardSolved (sym g) tt
    guard_by j occ is rd OfAgain at is_role g = subst GuardSolved (sym g) tt

  guards_below : (h : ℕ) (j : ℕ) (occ : Occ) → slice_get f.occs j ≡ Some occ → entries.rank (AtUsed j) < h → GuardSolved (n.wiring.G j)
  guards_below zero j occ is l = absurd (omega arith)
  guards_below (suc h) j occ is l =
      let role = role_there f t.roles roles j occ is in
      let reads : ReadsUsed f (λ a. entries.rank a < entries.rank (AtUsed j)) (λ a. ⊤) j (Some occ) = subst (λ o. ReadsUsed f (λ a. entries.rank a < entries.rank (AtUsed j)) (λ a. ⊤) j o) is (entries.lower (AtUsed j)) in
      guard_by (entries.rank (AtUsed j)) (λ i other at k. guards_below h i other at (omega (arith, l, k))) j occ is reads.1 role.0 role.1 (roles.each j role.0 role.1) (layout.wired.guards j role.0 role.1)

  -- the guard of an occurrence, and of what stands in the copy of a call
  pub guard_solved : (j : ℕ) (occ : Occ) → slice_get f.occs j ≡ Some occ → GuardSolved (n.wiring.G j)
  guard_solved j occ is = guards_below (suc (entries.rank (AtUsed j))) j occ is (omega arith)

  pub called_solved : (block : ℕ) (call : Option ℕ) → IsCalled f block call → GuardSolved (call_guard n.wiring call)
  called_solved block None called = tt
  called_solved block (Some call) called = guard_solved call called.0 called.1
