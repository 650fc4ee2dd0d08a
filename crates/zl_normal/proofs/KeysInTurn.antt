-- The wires of a form stand in turn in the list of all.
use Rattle.std.proofs.Common.{◌≡◌, ◌⊎◌, inl, inr, ℕ, zero, suc, ◌+◌, ◌*◌, ◌<◌, ◌≤◌, nat_eq, Bool, true, false, not, ◌||◌, List, [], ◌∷◌, ◌++◌, slice_get, get_or, Option, Some, None, refl, sym, ap, ◌∙◌, arith}
use Rattle.std.specs.List.{AllByRecursion}
use Rattle.zl_value.specs.Lists.{when}
use Rattle.zl_meaning.specs.FlatForm.{FlatForm, place_call}
use Rattle.zl_meaning.specs.declared.place.Definer.{Definer}
use Rattle.zl_meaning.specs.declared.place.Definer.TheVariants.{Input, Plain, Der, Start}
use Rattle.zl_meaning.specs.declared.place.DerArm.{DerArm}
use Rattle.zl_meaning.specs.declared.place.PlaceInfo.{PlaceInfo}
use Rattle.zl_meaning.specs.declared.occurrence.Form.{Form}
use Rattle.zl_meaning.specs.declared.occurrence.Form.TheVariants.{Lit, Read, Last as LastOf, Op as Apply, If, Arrow, Pre, Result, Up, Fired, Step as AtSteps}
use Rattle.zl_meaning.specs.declared.occurrence.Occ.{Occ}
use Rattle.zl_meaning.proofs.Members.{all-append, all-map, all-when}
use Rattle.zl_normal.specs.PlaceWires.{definer_of, start_of}
use Rattle.zl_normal.specs.Tables.{Tables, is_guarded, is_free, is_computed, has_last, has_own_slope}
use Rattle.zl_normal.specs.Keys.{each, joints, value_keys, guard_keys, form_slope_keys, slope_keys, occ_keys, arm_keys, definer_keys, last_keys, place_keys, keys}
use Rattle.zl_normal.specs.Slots.{slot, offset, AreInTurn}
use Rattle.zl_normal.specs.declared.role.Role.{Role}
use Rattle.zl_normal.specs.declared.role.Role.TheVariants.{Unused, Part, Branch, Both, Definer as OfDefiner, Slope as OfSlope, Event as OfEvent, Start as OfStart, Reset as OfReset, Argument, Again as ForAgain}
use Rattle.zl_normal.specs.declared.key.Key.{Key}
use Rattle.zl_normal.specs.declared.key.Key.TheVariants.{Step, Fresh, No, Zero, Value, Rest, Next, Other, Guard, Place, Between, Taken, Passed, Chosen, Last, Remembered, Again, Present, Slope, Motion}
use Rattle.zl_normal.specs.declared.slot.Slot.{Slot}
use Rattle.zl_normal.specs.declared.slot.Slot.TheVariants.{Fixed, OfOcc, OfPlace, OfAgain}
use Rattle.zl_normal.proofs.InTurn.{InTurn, none_in_turn, run, one, one_if, behind, apart_by, all_each, each_in_turn}

-- which of the tables an entry is of, the occurrence or the place, and which of its entries
abbrev pub part : Slot → ℕ
part Fixed = 0
part (OfOcc j kind) = 1
part (OfPlace p kind) = 2
part OfAgain = 3

abbrev pub number : Slot → ℕ
number (OfOcc j kind) = j
number (OfPlace p kind) = p
number other = 0

abbrev pub kind : Slot → ℕ
kind (OfOcc j k) = k
kind (OfPlace p k) = k
kind other = 0

-- an entry of occurrence `j`, or of place `p`, of these
pub record OfThis (which j low high : ℕ) (s : Slot) : Type 0 where
  pub part_is : part s ≡ which
  pub number_is : number s ≡ j
  pub above : low ≤ kind s
  pub below : kind s < high

occ_entry : (j k low high : ℕ) → low ≤ k → k < high → OfThis 1 j low high (OfOcc j k)
occ_entry j k low high a b = record { part_is = refl; number_is = refl; above = a; below = b }

pub place_entry : (p k low high : ℕ) → low ≤ k → k < high → OfThis 2 p low high (OfPlace p k)
place_entry p k low high a b = record { part_is = refl; number_is = refl; above = a; below = b }

-- all keys of a list have such an entry
abbrev pub All : (Slot → Type 0) → List Key → Type 0
All P = AllByRecursion (λ key. P (slot key))

pub wider : (which j low high lower higher : ℕ) → lower ≤ low → high ≤ higher → (keys : List Key) → All (OfThis which j low high) keys → All (OfThis which j lower higher) keys
wider which j low high lower higher a b ks all =
    all-map (λ key. OfThis which j low high (slot key)) (λ key. OfThis which j lower higher (slot key))
    (λ key o. record { part_is = o.part_is; number_is = o.number_is; above = (let c = o.above in omega arith); below = (let c = o.below in omega arith) }) ks all

-- lists of lower and of higher entries
pub split : (which j low middle high : ℕ) (xs ys : List Key) → InTurn slot offset xs → InTurn slot offset ys → All (OfThis which j low middle) xs → All (OfThis which j middle high) ys → InTurn slot offset (xs ++ ys)
split which j low middle high xs ys a b p q =
    behind slot offset xs ys a b (apart_by slot offset (OfThis which j low middle) (OfThis which j middle high) (λ s x y. let m = x.below in let n = y.above in omega arith) xs ys p q)

pub joints_run : (key : ℕ → Key) (s : Slot) → ((i : ℕ) → slot (key i) ≡ s) → ((i : ℕ) → offset (key i) ≡ i) → (n : ℕ) (us : List ℕ) (m : ℕ) (x : Key) → slice_get (joints key n us) m ≡ Some x → (slot x ≡ s) × (offset x ≡ n + m)
joints_run key s a b n [] m x e = absurd cc
joints_run key s a b n (u ∷ []) m x e = absurd cc
joints_run key s a b n (u ∷ v ∷ us) zero x e =
    let same : x ≡ key n = cc in
    let far : offset x ≡ n = ap offset same ∙ b n in
    (ap slot same ∙ a n, (omega arith))
joints_run key s a b n (u ∷ v ∷ us) (suc m) x e =
    let rest = joints_run key s a b (suc n) (v ∷ us) m x e in
    (rest.0, (let far : offset x ≡ suc n + m = rest.1 in omega arith))

pub joints_turn : (key : ℕ → Key) (s : Slot) → ((i : ℕ) → slot (key i) ≡ s) → ((i : ℕ) → offset (key i) ≡ i) → (us : List ℕ) → InTurn slot offset (joints key 0 us)
joints_turn key s a b us = run slot offset s (joints key 0 us) (λ m x e. let r = joints_run key s a b 0 us m x e in (r.0, (let far : offset x ≡ 0 + m = r.1 in omega arith)))

pub joints_all : (P : Slot → Type 0) (key : ℕ → Key) → ((i : ℕ) → P (slot (key i))) → (n : ℕ) (us : List ℕ) → All P (joints key n us)
joints_all P key h n [] = tt
joints_all P key h n (u ∷ []) = tt
joints_all P key h n (u ∷ v ∷ us) = (h n, joints_all P key h (suc n) (v ∷ us))

pub when_all : (P : Slot → Type 0) (b : Bool) (key : Key) → P (slot key) → All P (when b key)
when_all P true key h = (h, tt)
when_all P false key h = tt

module _ (f : FlatForm) (grades : List ℕ) (t : Tables) where
  values_all : (j : ℕ) (form : Form) → All (OfThis 1 j 0 3) (value_keys f grades t j form)
  values_all j (Lit v) = when_all (OfThis 1 j 0 3) (nat_eq (get_or t.firsts j 0) j) (Value j) (occ_entry j 0 0 3 (omega arith) (omega arith))
  values_all j (Read p) = tt
  values_all j (LastOf p) = tt
  values_all j (Apply op ks) = (occ_entry j 0 0 3 (omega arith) (omega arith), tt)
  values_all j (If c x y) = (occ_entry j 0 0 3 (omega arith) (omega arith), tt)
  values_all j (Arrow x y) = (occ_entry j 0 0 3 (omega arith) (omega arith), tt)
  values_all j (Pre x) = (occ_entry j 0 0 3 (omega arith) (omega arith), when_all (OfThis 1 j 0 3) (not (is_guarded f t x)) (Next j) (occ_entry j 2 0 3 (omega arith) (omega arith)))
  values_all j (Result x) = tt
  values_all j (Up s) = (occ_entry j 0 0 3 (omega arith) (omega arith), tt)
  values_all j (Fired ks) = joints_all (OfThis 1 j 0 3) (Rest j) (λ i. occ_entry j 1 0 3 (omega arith) (omega arith)) 0 ks
  values_all j AtSteps = tt

  guard_all : (j : ℕ) → OfThis 1 j 3 5 (slot (Guard j))
  guard_all j = occ_entry j 4 3 5 (omega arith) (omega arith)

  guards_all : (j : ℕ) (role : Option Role) → All (OfThis 1 j 3 5) (guard_keys f grades t j role)
  guards_all j None = tt
  guards_all j (Some Unused) = tt
  guards_all j (Some (Part whole)) = tt
  guards_all j (Some (Branch whole c true)) = when_all (OfThis 1 j 3 5) (not (get_or t.free whole false || is_guarded f t c)) (Guard j) (guard_all j)
  guards_all j (Some (Branch whole c false)) = (guard_all j, tt)
  guards_all j (Some (Both whole c)) = (occ_entry j 3 3 5 (omega arith) (omega arith), (guard_all j, tt))
  guards_all j (Some (OfDefiner p)) = tt
  guards_all j (Some (OfSlope p)) = tt
  guards_all j (Some (OfEvent p)) = tt
  guards_all j (Some (OfStart p)) = when_all (OfThis 1 j 3 5) (not (is_free t (place_call f p))) (Guard j) (guard_all j)
  guards_all j (Some (OfReset p arm)) = when_all (OfThis 1 j 3 5) (not (is_free t (place_call f p))) (Guard j) (guard_all j)
  guards_all j (Some Argument) = tt
  guards_all j (Some ForAgain) = tt

  slope_all : (j : ℕ) → OfThis 1 j 5 7 (slot (Slope j))
  slope_all j = occ_entry j 6 5 7 (omega arith) (omega arith)

  slopes_all : (j : ℕ) (occ : Occ) → All (OfThis 1 j 5 7) (slope_keys f grades t j occ)
  slopes_all j occ = by_own (has_own_slope f grades j occ) refl
    where
      by_form : (form : Form) → All (OfThis 1 j 5 7) (form_slope_keys f grades t j form)
      by_form (Apply op ks) = (occ_entry j 5 5 7 (omega arith) (omega arith), (slope_all j, tt))
      by_form (Lit v) = (slope_all j, tt)
      by_form (Read p) = (slope_all j, tt)
      by_form (LastOf p) = (slope_all j, tt)
      by_form (If c x y) = (slope_all j, tt)
      by_form (Arrow x y) = (slope_all j, tt)
      by_form (Pre x) = (slope_all j, tt)
      by_form (Result x) = (slope_all j, tt)
      by_form (Up s) = (slope_all j, tt)
      by_form (Fired ks) = (slope_all j, tt)
      by_form AtSteps = (slope_all j, tt)

      by_own : (b : Bool) → has_own_slope f grades j occ ≡ b → All (OfThis 1 j 5 7) (slope_keys f grades t j occ)
      by_own true e = rw e (by_form occ.form)
      by_own false e = rw e tt

  values_turn : (j : ℕ) (form : Form) → InTurn slot offset (value_keys f grades t j form)
  values_turn j (Lit v) = one_if slot offset (nat_eq (get_or t.firsts j 0) j) (Value j) refl
  values_turn j (Read p) = none_in_turn slot offset
  values_turn j (LastOf p) = none_in_turn slot offset
  values_turn j (Apply op ks) = one slot offset (Value j) refl
  values_turn j (If c x y) = one slot offset (Value j) refl
  values_turn j (Arrow x y) = one slot offset (Value j) refl
  values_turn j (Pre x) =
      split 1 j 0 1 3 (Value j ∷ []) (when (not (is_guarded f t x)) (Next j)) (one slot offset (Value j) refl) (one_if slot offset (not (is_guarded f t x)) (Next j) refl)
      (occ_entry j 0 0 1 (omega arith) (omega arith), tt)
      (when_all (OfThis 1 j 1 3) (not (is_guarded f t x)) (Next j) (occ_entry j 2 1 3 (omega arith) (omega arith)))
  values_turn j (Result x) = none_in_turn slot offset
  values_turn j (Up s) = one slot offset (Value j) refl
  values_turn j (Fired ks) = joints_turn (Rest j) (OfOcc j 1) (λ i. refl) (λ i. refl) ks
  values_turn j AtSteps = none_in_turn slot offset

  guards_turn : (j : ℕ) (role : Option Role) → InTurn slot offset (guard_keys f grades t j role)
  guards_turn j None = none_in_turn slot offset
  guards_turn j (Some Unused) = none_in_turn slot offset
  guards_turn j (Some (Part whole)) = none_in_turn slot offset
  guards_turn j (Some (Branch whole c true)) = one_if slot offset (not (get_or t.free whole false || is_guarded f t c)) (Guard j) refl
  guards_turn j (Some (Branch whole c false)) = one slot offset (Guard j) refl
  guards_turn j (Some (Both whole c)) =
      split 1 j 3 4 5 (Other j ∷ []) (Guard j ∷ []) (one slot offset (Other j) refl) (one slot offset (Guard j) refl)
      (occ_entry j 3 3 4 (omega arith) (omega arith), tt) (occ_entry j 4 4 5 (omega arith) (omega arith), tt)
  guards_turn j (Some (OfDefiner p)) = none_in_turn slot offset
  guards_turn j (Some (OfSlope p)) = none_in_turn slot offset
  guards_turn j (Some (OfEvent p)) = none_in_turn slot offset
  guards_turn j (Some (OfStart p)) = one_if slot offset (not (is_free t (place_call f p))) (Guard j) refl
  guards_turn j (Some (OfReset p arm)) = one_if slot offset (not (is_free t (place_call f p))) (Guard j) refl
  guards_turn j (Some Argument) = none_in_turn slot offset
  guards_turn j (Some ForAgain) = none_in_turn slot offset

  slopes_turn : (j : ℕ) (occ : Occ) → InTurn slot offset (slope_keys f grades t j occ)
  slopes_turn j occ = by_own (has_own_slope f grades j occ) refl
    where
      alone : InTurn slot offset (Slope j ∷ [])
      alone = one slot offset (Slope j) refl

      by_form : (form : Form) → InTurn slot offset (form_slope_keys f grades t j form)
      by_form (Apply op ks) =
          split 1 j 5 6 7 (Present j ∷ []) (Slope j ∷ []) (one slot offset (Present j) refl) alone
          (occ_entry j 5 5 6 (omega arith) (omega arith), tt) (occ_entry j 6 6 7 (omega arith) (omega arith), tt)
      by_form (Lit v) = alone
      by_form (Read p) = alone
      by_form (LastOf p) = alone
      by_form (If c x y) = alone
      by_form (Arrow x y) = alone
      by_form (Pre x) = alone
      by_form (Result x) = alone
      by_form (Up s) = alone
      by_form (Fired ks) = alone
      by_form AtSteps = alone

      by_own : (b : Bool) → has_own_slope f grades j occ ≡ b → InTurn slot offset (slope_keys f grades t j occ)
      by_own true e = rw e (by_form occ.form)
      by_own false e = rw e (none_in_turn slot offset)

  front_all : (j : ℕ) (occ : Occ) → All (OfThis 1 j 0 5) (value_keys f grades t j occ.form ++ guard_keys f grades t j (slice_get t.roles j))
  front_all j occ =
      all-append (λ key. OfThis 1 j 0 5 (slot key)) (value_keys f grades t j occ.form) (guard_keys f grades t j (slice_get t.roles j))
      (wider 1 j 0 3 0 5 (omega arith) (omega arith) (value_keys f grades t j occ.form) (values_all j occ.form))
      (wider 1 j 3 5 0 5 (omega arith) (omega arith) (guard_keys f grades t j (slice_get t.roles j)) (guards_all j (slice_get t.roles j)))

  pub occ_all : (j : ℕ) (occ : Occ) → All (OfThis 1 j 0 7) (occ_keys f grades t j occ)
  occ_all j occ =
      all-append (λ key. OfThis 1 j 0 7 (slot key)) (value_keys f grades t j occ.form ++ guard_keys f grades t j (slice_get t.roles j)) (slope_keys f grades t j occ)
      (wider 1 j 0 5 0 7 (omega arith) (omega arith) (value_keys f grades t j occ.form ++ guard_keys f grades t j (slice_get t.roles j)) (front_all j occ))
      (wider 1 j 5 7 0 7 (omega arith) (omega arith) (slope_keys f grades t j occ) (slopes_all j occ))

  pub occ_turn : (j : ℕ) (occ : Occ) → InTurn slot offset (occ_keys f grades t j occ)
  occ_turn j occ =
      split 1 j 0 5 7 (value_keys f grades t j occ.form ++ guard_keys f grades t j (slice_get t.roles j)) (slope_keys f grades t j occ)
      (split 1 j 0 3 5 (value_keys f grades t j occ.form) (guard_keys f grades t j (slice_get t.roles j)) (values_turn j occ.form) (guards_turn j (slice_get t.roles j)) (values_all j occ.form) (guards_all j (slice_get t.roles j)))
      (slopes_turn j occ) (front_all j occ) (slopes_all j occ)
