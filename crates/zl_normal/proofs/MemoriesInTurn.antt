-- The memories of a form stand in turn in the list of all.
use Rattle.std.proofs.Common.{◌≡◌, ℕ, zero, suc, ◌+◌, ◌<◌, ◌≤◌, Bool, true, false, List, [], ◌∷◌, ◌++◌, slice_get, Option, Some, None, refl, sym, arith}
use Rattle.std.specs.List.{AllByRecursion}
use Rattle.zl_value.specs.Lists.{when}
use Rattle.zl_meaning.specs.FlatForm.{FlatForm}
use Rattle.zl_meaning.specs.declared.place.Definer.{Definer}
use Rattle.zl_meaning.specs.declared.place.Definer.TheVariants.{Input, Plain, Der, Start}
use Rattle.zl_meaning.specs.declared.place.PlaceInfo.{PlaceInfo}
use Rattle.zl_meaning.specs.declared.occurrence.Form.{Form}
use Rattle.zl_meaning.specs.declared.occurrence.Form.TheVariants.{Lit, Read, Last as LastOf, Op as Apply, If, Arrow, Pre, Result, Up, Fired, Step as AtSteps}
use Rattle.zl_meaning.specs.declared.occurrence.Occ.{Occ}
use Rattle.zl_meaning.proofs.Members.{all-append, all-map}
use Rattle.zl_normal.specs.PlaceWires.{definer_of}
use Rattle.zl_normal.specs.Tables.{Tables, has_last}
use Rattle.zl_normal.specs.Keys.{each, motion_memories, place_memories, form_memories, occ_memories, memories}
use Rattle.zl_normal.specs.Slots.{kept_slot, no_offset, AreInTurn}
use Rattle.zl_normal.specs.declared.key.Kept.{Kept}
use Rattle.zl_normal.specs.declared.key.Kept.TheVariants.{First, Before, Moving, Derivative, Pre as OfPre}
use Rattle.zl_normal.specs.declared.slot.Slot.{Slot}
use Rattle.zl_normal.specs.declared.slot.Slot.TheVariants.{Fixed, OfOcc, OfPlace}
use Rattle.zl_normal.proofs.InTurn.{InTurn, none_in_turn, one, one_if, behind, apart_by, all_each, each_in_turn}
use Rattle.zl_normal.proofs.KeysInTurn.{part, number, kind, OfThis, place_entry}

-- all memories of a list have such an entry
abbrev All : (Slot → Type 0) → List Kept → Type 0
All P = AllByRecursion (λ kept. P (kept_slot kept))

-- lists of lower and of higher entries of a place
split : (p middle : ℕ) (xs ys : List Kept) → InTurn kept_slot no_offset xs → InTurn kept_slot no_offset ys → All (OfThis 2 p 0 middle) xs → All (OfThis 2 p middle 3) ys → InTurn kept_slot no_offset (xs ++ ys)
split p middle xs ys a b l h =
    behind kept_slot no_offset xs ys a b (apart_by kept_slot no_offset (OfThis 2 p 0 middle) (OfThis 2 p middle 3) (λ s x y. let m = x.below in let n = y.above in omega arith) xs ys l h)

when_all : (P : Slot → Type 0) (b : Bool) (kept : Kept) → P (kept_slot kept) → All P (when b kept)
when_all P true kept h = (h, tt)
when_all P false kept h = tt

module _ (f : FlatForm) (grades : List ℕ) (t : Tables) where
  motion_all : (p : ℕ) (d : Option Definer) → All (OfThis 2 p 1 3) (motion_memories f grades t p d)
  motion_all p None = tt
  motion_all p (Some (Input i)) = tt
  motion_all p (Some (Plain b j)) = tt
  motion_all p (Some (Der b j arms)) = (place_entry p 1 1 3 (omega arith) (omega arith), (place_entry p 2 1 3 (omega arith) (omega arith), tt))
  motion_all p (Some (Start b j)) = tt

  motion_turn : (p : ℕ) (d : Option Definer) → InTurn kept_slot no_offset (motion_memories f grades t p d)
  motion_turn p None = none_in_turn kept_slot no_offset
  motion_turn p (Some (Input i)) = none_in_turn kept_slot no_offset
  motion_turn p (Some (Plain b j)) = none_in_turn kept_slot no_offset
  motion_turn p (Some (Der b j arms)) =
      split p 2 (Moving p ∷ []) (Derivative p ∷ []) (one kept_slot no_offset (Moving p) refl) (one kept_slot no_offset (Derivative p) refl)
      (place_entry p 1 0 2 (omega arith) (omega arith), tt) (place_entry p 2 2 3 (omega arith) (omega arith), tt)
  motion_turn p (Some (Start b j)) = none_in_turn kept_slot no_offset

  place_turn : (p : ℕ) (place : PlaceInfo) → InTurn kept_slot no_offset (place_memories f grades t p place)
  place_turn p place =
      split p 1 (when (has_last t p place) (Before p)) (motion_memories f grades t p (definer_of place.definers))
      (one_if kept_slot no_offset (has_last t p place) (Before p) refl) (motion_turn p (definer_of place.definers))
      (when_all (OfThis 2 p 0 1) (has_last t p place) (Before p) (place_entry p 0 0 1 (omega arith) (omega arith))) (motion_all p (definer_of place.definers))

  place_all : (P : Slot → Type 0) (p : ℕ) (place : PlaceInfo) → ((s : Slot) → part s ≡ 2 → number s ≡ p → P s) → All P (place_memories f grades t p place)
  place_all P p place h =
      all-append (λ kept. P (kept_slot kept)) (when (has_last t p place) (Before p)) (motion_memories f grades t p (definer_of place.definers))
      (when_all P (has_last t p place) (Before p) (h (OfPlace p 0) refl refl))
      (all-map (λ kept. OfThis 2 p 1 3 (kept_slot kept)) (λ kept. P (kept_slot kept)) (λ kept o. h (kept_slot kept) o.part_is o.number_is) (motion_memories f grades t p (definer_of place.definers)) (motion_all p (definer_of place.definers)))

  form_turn : (j : ℕ) (form : Form) → InTurn kept_slot no_offset (form_memories f grades t j form)
  form_turn j (Pre x) = one kept_slot no_offset (OfPre j) refl
  form_turn j (Lit v) = none_in_turn kept_slot no_offset
  form_turn j (Read p) = none_in_turn kept_slot no_offset
  form_turn j (LastOf p) = none_in_turn kept_slot no_offset
  form_turn j (Apply op ks) = none_in_turn kept_slot no_offset
  form_turn j (If c x y) = none_in_turn kept_slot no_offset
  form_turn j (Arrow x y) = none_in_turn kept_slot no_offset
  form_turn j (Result x) = none_in_turn kept_slot no_offset
  form_turn j (Up s) = none_in_turn kept_slot no_offset
  form_turn j (Fired ks) = none_in_turn kept_slot no_offset
  form_turn j AtSteps = none_in_turn kept_slot no_offset

  form_all : (P : Slot → Type 0) (j : ℕ) → P (OfOcc j 0) → (form : Form) → All P (form_memories f grades t j form)
  form_all P j h (Pre x) = (h, tt)
  form_all P j h (Lit v) = tt
  form_all P j h (Read p) = tt
  form_all P j h (LastOf p) = tt
  form_all P j h (Apply op ks) = tt
  form_all P j h (If c x y) = tt
  form_all P j h (Arrow x y) = tt
  form_all P j h (Result x) = tt
  form_all P j h (Up s) = tt
  form_all P j h (Fired ks) = tt
  form_all P j h AtSteps = tt

  -- those of one table, by which it is
  abbrev IsOf : ℕ → Slot → Type 0
  IsOf which s = part s ≡ which

  places_part : All (IsOf 2) (each (place_memories f grades t) 0 f.places)
  places_part = all_each kept_slot no_offset (place_memories f grades t) (λ kept. IsOf 2 (kept_slot kept)) (λ p place. place_all (IsOf 2) p place (λ s e n. e)) 0 f.places

  occs_part : All (IsOf 1) (each (occ_memories f grades t) 0 f.occs)
  occs_part = all_each kept_slot no_offset (occ_memories f grades t) (λ kept. IsOf 1 (kept_slot kept)) (λ j occ. form_all (IsOf 1) j refl occ.form) 0 f.occs

  places_turn : InTurn kept_slot no_offset (each (place_memories f grades t) 0 f.places)
  places_turn = each_in_turn kept_slot no_offset (place_memories f grades t) number (λ p place. place_all (λ s. number s ≡ p) p place (λ s e n. n)) place_turn 0 f.places

  occs_turn : InTurn kept_slot no_offset (each (occ_memories f grades t) 0 f.occs)
  occs_turn = each_in_turn kept_slot no_offset (occ_memories f grades t) number (λ j occ. form_all (λ s. number s ≡ j) j refl occ.form) (λ j occ. form_turn j occ.form) 0 f.occs

  both_turn : InTurn kept_slot no_offset (each (place_memories f grades t) 0 f.places ++ each (occ_memories f grades t) 0 f.occs)
  both_turn =
      behind kept_slot no_offset (each (place_memories f grades t) 0 f.places) (each (occ_memories f grades t) 0 f.occs) places_turn occs_turn
      (apart_by kept_slot no_offset (IsOf 2) (IsOf 1) (λ s x y. omega arith) (each (place_memories f grades t) 0 f.places) (each (occ_memories f grades t) 0 f.occs) places_part occs_part)

  both_above : All (λ s. 1 ≤ part s) (each (place_memories f grades t) 0 f.places ++ each (occ_memories f grades t) 0 f.occs)
  both_above =
      all-append (λ kept. 1 ≤ part (kept_slot kept)) (each (place_memories f grades t) 0 f.places) (each (occ_memories f grades t) 0 f.occs)
      (all-map (λ kept. IsOf 2 (kept_slot kept)) (λ kept. 1 ≤ part (kept_slot kept)) (λ kept e. omega arith) (each (place_memories f grades t) 0 f.places) places_part)
      (all-map (λ kept. IsOf 1 (kept_slot kept)) (λ kept. 1 ≤ part (kept_slot kept)) (λ kept e. omega arith) (each (occ_memories f grades t) 0 f.occs) occs_part)

  all_turn : InTurn kept_slot no_offset (memories f grades t)
  all_turn =
      behind kept_slot no_offset (First ∷ []) (each (place_memories f grades t) 0 f.places ++ each (occ_memories f grades t) 0 f.occs) (one kept_slot no_offset First refl) both_turn
      (apart_by kept_slot no_offset (IsOf 0) (λ s. 1 ≤ part s) (λ s x y. omega arith) (First ∷ []) (each (place_memories f grades t) 0 f.places ++ each (occ_memories f grades t) 0 f.occs) (refl, tt) both_above)

  -- the list of all memories can be numbered by their places in it
  pub memories_in_turn : AreInTurn kept_slot no_offset (memories f grades t)
  memories_in_turn = record {
    same = all_turn.same;
    after = all_turn.after;
    fixed = λ n b is e. let h : 0 + 0 ≡ n + 0 = all_turn.same 0 n First b refl is (sym e) in omega arith;
  }
