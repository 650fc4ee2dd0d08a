-- The wires of places stand in turn, and so do all.
use Rattle.std.proofs.Common.{◌≡◌, ◌⊎◌, inl, inr, ℕ, zero, suc, ◌+◌, ◌*◌, ◌<◌, ◌≤◌, Bool, true, false, not, ◌||◌, List, [], ◌∷◌, ◌++◌, slice_get, Option, Some, None, refl, sym, ap, ◌∙◌, arith}
use Rattle.std.specs.List.{AllByRecursion}
use Rattle.zl_value.specs.Lists.{when}
use Rattle.zl_meaning.specs.FlatForm.{FlatForm}
use Rattle.zl_meaning.specs.declared.place.Definer.{Definer}
use Rattle.zl_meaning.specs.declared.place.Definer.TheVariants.{Input, Plain, Der, Start}
use Rattle.zl_meaning.specs.declared.place.DerArm.{DerArm}
use Rattle.zl_meaning.specs.declared.place.PlaceInfo.{PlaceInfo}
use Rattle.zl_meaning.specs.declared.occurrence.Occ.{Occ}
use Rattle.zl_meaning.proofs.Members.{all-append, all-map}
use Rattle.zl_normal.specs.PlaceWires.{definer_of, start_of}
use Rattle.zl_normal.specs.Tables.{Tables, is_guarded, is_free, is_computed, has_last}
use Rattle.zl_normal.specs.Keys.{each, joints, occ_keys, arm_keys, definer_keys, last_keys, place_keys, keys}
use Rattle.zl_normal.specs.Slots.{slot, offset, AreInTurn}
use Rattle.zl_normal.specs.declared.key.Key.{Key}
use Rattle.zl_normal.specs.declared.key.Key.TheVariants.{Step, Fresh, No, Zero, Place, Between, Taken, Passed, Chosen, Last, Remembered, Again, Motion}
use Rattle.zl_normal.specs.declared.slot.Slot.{Slot}
use Rattle.zl_normal.specs.declared.slot.Slot.TheVariants.{Fixed, OfPlace, OfAgain}
use Rattle.zl_normal.proofs.InTurn.{InTurn, none_in_turn, run, one, one_if, behind, apart_by, all_each, each_in_turn}
use Rattle.zl_normal.proofs.KeysInTurn.{part, number, kind, All, OfThis, place_entry, split, joints_turn, joints_all, when_all, occ_all, occ_turn}

-- an entry of place `p` for its value, or one for `last` of it
record OfValue (p : ℕ) (s : Slot) : Type 0 where
  part_is : part s ≡ 2
  number_is : number s ≡ p
  outside : (kind s < 3) ⊎ (5 ≤ kind s)

low_entry : (p k : ℕ) → k < 3 → OfValue p (OfPlace p k)
low_entry p k le = record { part_is = refl; number_is = refl; outside = inl le }

never_both : (p : ℕ) (s : Slot) → OfValue p s → OfThis 2 p 3 5 s → ⊥
never_both p s x y = by_case x.outside
  where
    by_case : (kind s < 3) ⊎ (5 ≤ kind s) → ⊥
    by_case (inl h) = let n = y.above in omega arith
    by_case (inr h) = let n = y.below in omega arith

module _ (f : FlatForm) (grades : List ℕ) (t : Tables) where
  arm_entry : (p : ℕ) → OfThis 2 p 5 6 (OfPlace p 5)
  arm_entry p = place_entry p 5 5 6 (omega arith) (omega arith)

  arms_all : (p i : ℕ) (arms : List DerArm) → All (OfThis 2 p 5 6) (each (arm_keys f grades t p) i arms)
  arms_all p i [] = tt
  arms_all p i (arm ∷ arms) = (arm_entry p, (arm_entry p, (arm_entry p, arms_all p (suc i) arms)))

  arms_run : (p i : ℕ) (arms : List DerArm) (m : ℕ) (x : Key) → slice_get (each (arm_keys f grades t p) i arms) m ≡ Some x → (slot x ≡ OfPlace p 5) × (offset x ≡ i * 3 + m)
  arms_run p i [] m x e = absurd cc
  arms_run p i (arm ∷ arms) zero x e =
      let same : x ≡ Taken p i = cc in
      let far : offset x ≡ i * 3 = ap offset same in
      (ap slot same, (omega arith))
  arms_run p i (arm ∷ arms) (suc zero) x e =
      let same : x ≡ Passed p i = cc in
      let far : offset x ≡ i * 3 + 1 = ap offset same in
      (ap slot same, (omega arith))
  arms_run p i (arm ∷ arms) (suc (suc zero)) x e =
      let same : x ≡ Chosen p i = cc in
      let far : offset x ≡ i * 3 + 2 = ap offset same in
      (ap slot same, (omega arith))
  arms_run p i (arm ∷ arms) (suc (suc (suc m))) x e =
      let rest = arms_run p (suc i) arms m x e in
      (rest.0, (let far : offset x ≡ suc i * 3 + m = rest.1 in omega arith))

  arms_turn : (p : ℕ) (arms : List DerArm) → InTurn slot offset (each (arm_keys f grades t p) 0 arms)
  arms_turn p arms =
      run slot offset (OfPlace p 5) (each (arm_keys f grades t p) 0 arms)
      (λ m x e. let r = arms_run p 0 arms m x e in (r.0, (let far : offset x ≡ 0 * 3 + m = r.1 in omega arith)))

  definers_all : (p : ℕ) (call : Option ℕ) (d : Option Definer) → All (OfValue p) (definer_keys f grades t p call d)
  definers_all p call None = when_all (OfValue p) (not (is_free t call)) (Place p) (low_entry p 0 (omega arith))
  definers_all p call (Some (Input i)) = (low_entry p 0 (omega arith), tt)
  definers_all p call (Some (Plain b j)) = when_all (OfValue p) (not (is_free t call || is_guarded f t j)) (Place p) (low_entry p 0 (omega arith))
  definers_all p call (Some (Der b j arms)) = (
    low_entry p 0 (omega arith),
    (
      low_entry p 1 (omega arith),
      (
        low_entry p 2 (omega arith),
        all-map (λ key. OfThis 2 p 5 6 (slot key)) (λ key. OfValue p (slot key)) (λ key o. record { part_is = o.part_is; number_is = o.number_is; outside = inr o.above }) (each (arm_keys f grades t p) 0 arms) (arms_all p 0 arms),
      ),
    ),
  )
  definers_all p call (Some (Start b j)) = tt

  moving_turn : (p : ℕ) (arms : List DerArm) → InTurn slot offset (Place p ∷ Between p ∷ Motion p ∷ each (arm_keys f grades t p) 0 arms)
  moving_turn p arms =
      split 2 p 0 1 6 (Place p ∷ []) (Between p ∷ Motion p ∷ each (arm_keys f grades t p) 0 arms) (one slot offset (Place p) refl)
      (split 2 p 1 2 6 (Between p ∷ []) (Motion p ∷ each (arm_keys f grades t p) 0 arms) (one slot offset (Between p) refl)
      (split 2 p 2 3 6 (Motion p ∷ []) (each (arm_keys f grades t p) 0 arms) (one slot offset (Motion p) refl) (arms_turn p arms) (place_entry p 2 2 3 (omega arith) (omega arith), tt) (arms_from 3 (omega arith)))
      (place_entry p 1 1 2 (omega arith) (omega arith), tt) (place_entry p 2 2 6 (omega arith) (omega arith), arms_from 2 (omega arith)))
      (place_entry p 0 0 1 (omega arith) (omega arith), tt) (place_entry p 1 1 6 (omega arith) (omega arith), (place_entry p 2 1 6 (omega arith) (omega arith), arms_from 1 (omega arith)))
    where
      arms_from : (low : ℕ) → low ≤ 5 → All (OfThis 2 p low 6) (each (arm_keys f grades t p) 0 arms)
      arms_from low le =
          all-map (λ key. OfThis 2 p 5 6 (slot key)) (λ key. OfThis 2 p low 6 (slot key)) (λ key o. record { part_is = o.part_is; number_is = o.number_is; above = (let c = o.above in omega arith); below = o.below }) (each (arm_keys f grades t p) 0 arms) (arms_all p 0 arms)

  definers_turn : (p : ℕ) (call : Option ℕ) (d : Option Definer) → InTurn slot offset (definer_keys f grades t p call d)
  definers_turn p call None = one_if slot offset (not (is_free t call)) (Place p) refl
  definers_turn p call (Some (Input i)) = one slot offset (Place p) refl
  definers_turn p call (Some (Plain b j)) = one_if slot offset (not (is_free t call || is_guarded f t j)) (Place p) refl
  definers_turn p call (Some (Der b j arms)) = moving_turn p arms
  definers_turn p call (Some (Start b j)) = none_in_turn slot offset

  lasts_all : (p : ℕ) (place : PlaceInfo) → All (OfThis 2 p 3 5) (last_keys f grades t p place)
  lasts_all p place = by_last (has_last t p place) refl
    where
      by_last : (b : Bool) → has_last t p place ≡ b → All (OfThis 2 p 3 5) (last_keys f grades t p place)
      by_last true e = rw e ((place_entry p 3 3 5 (omega arith) (omega arith), when_all (OfThis 2 p 3 5) (is_computed f (start_of place.definers)) (Remembered p) (place_entry p 4 3 5 (omega arith) (omega arith))))
      by_last false e = rw e tt

  lasts_turn : (p : ℕ) (place : PlaceInfo) → InTurn slot offset (last_keys f grades t p place)
  lasts_turn p place = by_last (has_last t p place) refl
    where
      with_memory : InTurn slot offset (Last p ∷ when (is_computed f (start_of place.definers)) (Remembered p))
      with_memory =
          split 2 p 3 4 5 (Last p ∷ []) (when (is_computed f (start_of place.definers)) (Remembered p)) (one slot offset (Last p) refl) (one_if slot offset (is_computed f (start_of place.definers)) (Remembered p) refl)
          (place_entry p 3 3 4 (omega arith) (omega arith), tt) (when_all (OfThis 2 p 4 5) (is_computed f (start_of place.definers)) (Remembered p) (place_entry p 4 4 5 (omega arith) (omega arith)))

      by_last : (b : Bool) → has_last t p place ≡ b → InTurn slot offset (last_keys f grades t p place)
      by_last true e = rw e with_memory
      by_last false e = rw e (none_in_turn slot offset)

  place_turn : (p : ℕ) (place : PlaceInfo) → InTurn slot offset (place_keys f grades t p place)
  place_turn p place =
      behind slot offset (definer_keys f grades t p place.call (definer_of place.definers)) (last_keys f grades t p place)
      (definers_turn p place.call (definer_of place.definers)) (lasts_turn p place)
      (apart_by slot offset (OfValue p) (OfThis 2 p 3 5) (never_both p) (definer_keys f grades t p place.call (definer_of place.definers)) (last_keys f grades t p place) (definers_all p place.call (definer_of place.definers)) (lasts_all p place))

  -- what holds of the entries of a place
  place_all : (P : Slot → Type 0) (p : ℕ) (place : PlaceInfo) → ((s : Slot) → part s ≡ 2 → number s ≡ p → P s) → All P (place_keys f grades t p place)
  place_all P p place h =
      all-append (λ key. P (slot key)) (definer_keys f grades t p place.call (definer_of place.definers)) (last_keys f grades t p place)
      (all-map (λ key. OfValue p (slot key)) (λ key. P (slot key)) (λ key o. h (slot key) o.part_is o.number_is) (definer_keys f grades t p place.call (definer_of place.definers)) (definers_all p place.call (definer_of place.definers)))
      (all-map (λ key. OfThis 2 p 3 5 (slot key)) (λ key. P (slot key)) (λ key o. h (slot key) o.part_is o.number_is) (last_keys f grades t p place) (lasts_all p place))

  occs_all : (P : Slot → Type 0) (j : ℕ) (occ : Occ) → ((s : Slot) → part s ≡ 1 → number s ≡ j → P s) → All P (occ_keys f grades t j occ)
  occs_all P j occ h = all-map (λ key. OfThis 1 j 0 7 (slot key)) (λ key. P (slot key)) (λ key o. h (slot key) o.part_is o.number_is) (occ_keys f grades t j occ) (occ_all f grades t j occ)

  -- those of one table, by which it is
  abbrev IsOf : ℕ → Slot → Type 0
  IsOf which s = part s ≡ which

  occs_part : All (IsOf 1) (each (occ_keys f grades t) 0 f.occs)
  occs_part = all_each slot offset (occ_keys f grades t) (λ key. IsOf 1 (slot key)) (λ j occ. occs_all (IsOf 1) j occ (λ s e n. e)) 0 f.occs

  places_part : All (IsOf 2) (each (place_keys f grades t) 0 f.places)
  places_part = all_each slot offset (place_keys f grades t) (λ key. IsOf 2 (slot key)) (λ p place. place_all (IsOf 2) p place (λ s e n. e)) 0 f.places

  again_part : All (IsOf 3) (joints Again 0 f.again)
  again_part = joints_all (IsOf 3) Again (λ i. refl) 0 f.again

  occs_turn : InTurn slot offset (each (occ_keys f grades t) 0 f.occs)
  occs_turn = each_in_turn slot offset (occ_keys f grades t) number (λ j occ. occs_all (λ s. number s ≡ j) j occ (λ s e n. n)) (λ j occ. occ_turn f grades t j occ) 0 f.occs

  places_turn : InTurn slot offset (each (place_keys f grades t) 0 f.places)
  places_turn = each_in_turn slot offset (place_keys f grades t) number (λ p place. place_all (λ s. number s ≡ p) p place (λ s e n. n)) place_turn 0 f.places

  -- lists of different tables
  tables_behind : (P : Slot → Type 0) (which : ℕ) (xs ys : List Key) → ((s : Slot) → P s → part s < which) → InTurn slot offset xs → InTurn slot offset ys → All P xs → All (IsOf which) ys → InTurn slot offset (xs ++ ys)
  tables_behind P which xs ys below a b p q = behind slot offset xs ys a b (apart_by slot offset P (IsOf which) (λ s x y. let m = below s x in omega arith) xs ys p q)

  fixed_turn : InTurn slot offset (Step ∷ Fresh ∷ No ∷ Zero ∷ [])
  fixed_turn = run slot offset Fixed (Step ∷ Fresh ∷ No ∷ Zero ∷ []) there
    where
      there : (m : ℕ) (x : Key) → slice_get (Step ∷ Fresh ∷ No ∷ Zero ∷ []) m ≡ Some x → (slot x ≡ Fixed) × (offset x ≡ m)
      there zero x e = let same : x ≡ Step = cc in (ap slot same, ap offset same)
      there (suc zero) x e = let same : x ≡ Fresh = cc in (ap slot same, ap offset same)
      there (suc (suc zero)) x e = let same : x ≡ No = cc in (ap slot same, ap offset same)
      there (suc (suc (suc zero))) x e = let same : x ≡ Zero = cc in (ap slot same, ap offset same)
      there (suc (suc (suc (suc m)))) x e = absurd cc

  -- one of occurrences or places
  abbrev Before : Slot → Type 0
  Before s = (1 ≤ part s) × (part s < 3)

  all_turn : InTurn slot offset (keys f grades t)
  all_turn =
      behind slot offset (Step ∷ Fresh ∷ No ∷ Zero ∷ []) (each (occ_keys f grades t) 0 f.occs ++ each (place_keys f grades t) 0 f.places ++ joints Again 0 f.again) fixed_turn behind_fixed
      (apart_by slot offset (IsOf 0) (λ s. 1 ≤ part s) (λ s x y. omega arith) (Step ∷ Fresh ∷ No ∷ Zero ∷ []) (each (occ_keys f grades t) 0 f.occs ++ each (place_keys f grades t) 0 f.places ++ joints Again 0 f.again) (refl, (refl, (refl, (refl, tt)))) all_above)
    where
      within : All Before (each (occ_keys f grades t) 0 f.occs ++ each (place_keys f grades t) 0 f.places)
      within =
          all-append (λ key. Before (slot key)) (each (occ_keys f grades t) 0 f.occs) (each (place_keys f grades t) 0 f.places)
          (all-map (λ key. IsOf 1 (slot key)) (λ key. Before (slot key)) (λ key e. (omega arith, omega arith)) (each (occ_keys f grades t) 0 f.occs) occs_part)
          (all-map (λ key. IsOf 2 (slot key)) (λ key. Before (slot key)) (λ key e. (omega arith, omega arith)) (each (place_keys f grades t) 0 f.places) places_part)

      behind_fixed : InTurn slot offset (each (occ_keys f grades t) 0 f.occs ++ each (place_keys f grades t) 0 f.places ++ joints Again 0 f.again)
      behind_fixed =
          tables_behind Before 3 (each (occ_keys f grades t) 0 f.occs ++ each (place_keys f grades t) 0 f.places) (joints Again 0 f.again) (λ s x. x.1)
          (tables_behind (IsOf 1) 2 (each (occ_keys f grades t) 0 f.occs) (each (place_keys f grades t) 0 f.places) (λ s x. omega arith) occs_turn places_turn occs_part places_part)
          (joints_turn Again OfAgain (λ i. refl) (λ i. refl) f.again) within again_part

      all_above : All (λ s. 1 ≤ part s) (each (occ_keys f grades t) 0 f.occs ++ each (place_keys f grades t) 0 f.places ++ joints Again 0 f.again)
      all_above =
          all-append (λ key. 1 ≤ part (slot key)) (each (occ_keys f grades t) 0 f.occs ++ each (place_keys f grades t) 0 f.places) (joints Again 0 f.again)
          (all-map (λ key. Before (slot key)) (λ key. 1 ≤ part (slot key)) (λ key b. b.0) (each (occ_keys f grades t) 0 f.occs ++ each (place_keys f grades t) 0 f.places) within)
          (all-map (λ key. IsOf 3 (slot key)) (λ key. 1 ≤ part (slot key)) (λ key e. omega arith) (joints Again 0 f.again) again_part)

  -- the list of all wires can be numbered by their places in it
  pub keys_in_turn : AreInTurn slot offset (keys f grades t)
  keys_in_turn = record {
    same = all_turn.same;
    after = all_turn.after;
    fixed = λ n b is e. let h : 0 + offset b ≡ n + 0 = all_turn.same 0 n Step b refl is (sym e) in omega arith;
  }
