-- The memories of the kernel that is made of a form: those that move are those of the places with a `der`.
use Rattle.std.specs.Prelude.{◌≡◌, ℕ, suc, Bool, true, false, List, [], ◌∷◌, ◌++◌, slice_get, Option, Some, None}
use Rattle.std.proofs.Common.{refl, sym, arith, subst, ◌⊎◌, inl, inr}
use Rattle.zl_value.specs.Lists.{Has, when}
use Rattle.zl_meaning.specs.FlatForm.{FlatForm}
use Rattle.zl_meaning.specs.declared.place.Definer.{Definer}
use Rattle.zl_meaning.specs.declared.place.Definer.TheVariants.{Input, Plain, Der, Start}
use Rattle.zl_meaning.specs.declared.place.DerArm.{DerArm}
use Rattle.zl_meaning.specs.declared.place.PlaceInfo.{PlaceInfo}
use Rattle.zl_meaning.specs.declared.occurrence.Form.{Form}
use Rattle.zl_meaning.specs.declared.occurrence.Form.TheVariants.{Pre}
use Rattle.zl_meaning.proofs.Members.{has-cases, has-none, has-left, has-right, has-append_case}
use Rattle.zl_normal.specs.PlaceWires.{definer_of}
use Rattle.zl_normal.specs.Tables.{Tables, has_last}
use Rattle.zl_normal.specs.Keys.{each, motion_memories, place_memories, form_memories, occ_memories, memories}
use Rattle.zl_normal.specs.declared.key.Kept.{Kept}
use Rattle.zl_normal.specs.declared.key.Kept.TheVariants.{First, Before, Moving, Derivative, Pre as OfPre}
use Rattle.zl_normal.proofs.MadeFlows.Placed.{ByEntry, each-has, has-each}

module _ (f : FlatForm) (grades : List ℕ) (t : Tables) where
  -- it belongs to a place with a `der`
  pub record OfMoving (p : ℕ) : Type 0 where
    pub place : PlaceInfo
    pub is : slice_get f.places p ≡ Some place
    pub block : ℕ
    pub slope : ℕ
    pub arms : List DerArm
    pub der : definer_of place.definers ≡ Some (Der block slope arms)

  in_motion : (q p : ℕ) (place : PlaceInfo) → slice_get f.places q ≡ Some place → (d : Option Definer) → definer_of place.definers ≡ d → Has (motion_memories f grades t q d) (Moving p) → OfMoving p
  in_motion q p place is None e h = absurd (has-none (Moving p) h)
  in_motion q p place is (Some (Input i)) e h = absurd (has-none (Moving p) h)
  in_motion q p place is (Some (Plain b j)) e h = absurd (has-none (Moving p) h)
  in_motion q p place is (Some (Start b j)) e h = absurd (has-none (Moving p) h)
  in_motion q p place is (Some (Der b j arms)) e h =
      has-cases (OfMoving p) (Moving q) (Derivative q ∷ []) (Moving p) h
      (λ s. let same : q ≡ p = cc in record { place = place; is = subst (λ i. slice_get f.places i ≡ Some place) same is; block = b; slope = j; arms = arms; der = e })
      (λ k. has-cases (OfMoving p) (Derivative q) [] (Moving p) k (λ s. absurd cc) (λ l. absurd (has-none (Moving p) l)))

  in_when : (b : Bool) (q p : ℕ) → Has (when b (Before q)) (Moving p) → ⊥
  in_when true q p h = has-cases ⊥ (Before q) [] (Moving p) h (λ s. cc) (λ l. has-none (Moving p) l)
  in_when false q p h = has-none (Moving p) h

  in_place : (q p : ℕ) (place : PlaceInfo) → slice_get f.places q ≡ Some place → Has (place_memories f grades t q place) (Moving p) → OfMoving p
  in_place q p place is h = by (has-append_case (when (has_last t q place) (Before q)) (motion_memories f grades t q (definer_of place.definers)) (Moving p) h)
    where
      by : Has (when (has_last t q place) (Before q)) (Moving p) ⊎ Has (motion_memories f grades t q (definer_of place.definers)) (Moving p) → OfMoving p
      by (inl a) = absurd (in_when (has_last t q place) q p a)
      by (inr a) = in_motion q p place is (definer_of place.definers) refl a

  in_form : (q p : ℕ) (form : Form) → Has (form_memories f grades t q form) (Moving p) → ⊥
  in_form q p (Pre x) h = has-cases ⊥ (OfPre q) [] (Moving p) h (λ s. cc) (λ l. has-none (Moving p) l)
  in_form q p form h = has-none (Moving p) h

  pub of_moving : (p : ℕ) → Has (memories f grades t) (Moving p) → OfMoving p
  of_moving p h =
      has-cases (OfMoving p) First (each (place_memories f grades t) 0 f.places ++ each (occ_memories f grades t) 0 f.occs) (Moving p) h (λ s. absurd cc)
      (λ k. past (has-append_case (each (place_memories f grades t) 0 f.places) (each (occ_memories f grades t) 0 f.occs) (Moving p) k))
    where
      place_entry : ByEntry (place_memories f grades t) 0 f.places (Moving p) → OfMoving p
      place_entry b =
          let same : b.number ≡ b.index = let c = b.counted in omega arith in
          in_place b.number p b.entry (subst (λ i. slice_get f.places i ≡ Some b.entry) (sym same) b.is) b.has

      occ_entry : ByEntry (occ_memories f grades t) 0 f.occs (Moving p) → ⊥
      occ_entry b = in_form b.number p b.entry.form b.has

      past : Has (each (place_memories f grades t) 0 f.places) (Moving p) ⊎ Has (each (occ_memories f grades t) 0 f.occs) (Moving p) → OfMoving p
      past (inl a) = place_entry (has-each (place_memories f grades t) 0 f.places (Moving p) a)
      past (inr a) = absurd (occ_entry (has-each (occ_memories f grades t) 0 f.occs (Moving p) a))

  pub place_memory_there : (p : ℕ) (place : PlaceInfo) (kept : Kept) → slice_get f.places p ≡ Some place → Has (place_memories f grades t p place) kept → Has (memories f grades t) kept
  place_memory_there p place kept is h =
      let there = has-left (each (place_memories f grades t) 0 f.places) (each (occ_memories f grades t) 0 f.occs) kept (each-has (place_memories f grades t) 0 f.places kept (record { index = p; number = p; entry = place; is = is; counted = omega arith; has = h })) in
      record { index = suc there.index; is = there.is }

  pub motion_there : (p : ℕ) (place : PlaceInfo) (kept : Kept) → slice_get f.places p ≡ Some place → Has (motion_memories f grades t p (definer_of place.definers)) kept → Has (memories f grades t) kept
  motion_there p place kept is h =
      place_memory_there p place kept is (has-right (when (has_last t p place) (Before p)) (motion_memories f grades t p (definer_of place.definers)) kept h)
