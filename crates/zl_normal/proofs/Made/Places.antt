-- The places of a form, in the kernel that is made of it.
use Rattle.std.specs.Prelude.{◌≡◌, ℕ, Bool, true, false, not, ◌||◌, List, slice_get, get_or, Option, Some, None}
use Rattle.std.proofs.Common.{refl, sym, ap, ◌∙◌, subst, ◌⊎◌, inl, inr}
use Rattle.zl_value.specs.Lists.{Has, when}
use Rattle.zl_value.specs.declared.value.Ty.TheVariants.{Float}
use Rattle.zl_meaning.specs.FlatForm.{FlatForm}
use Rattle.zl_meaning.specs.Uses.{AsDefiner}
use Rattle.zl_meaning.specs.WellFormed.{IsForm, IsDefiner, IsCalled}
use Rattle.zl_meaning.specs.declared.place.Definer.{Definer}
use Rattle.zl_meaning.specs.declared.place.Definer.TheVariants.{Input, Plain, Der, Start}
use Rattle.zl_meaning.specs.declared.place.DerArm.{DerArm}
use Rattle.zl_meaning.specs.declared.place.PlaceInfo.{PlaceInfo}
use Rattle.zl_meaning.specs.declared.occurrence.Form.TheVariants.{Last as LastOf}
use Rattle.zl_meaning.specs.declared.occurrence.Occ.{Occ}
use Rattle.zl_meaning.proofs.Members.{all-has, has-right, has-when}
use Rattle.zl_kernel.specs.KernelForm.{KernelForm}
use Rattle.zl_kernel.specs.declared.wire.Def.TheVariants.{Mem}
use Rattle.zl_normal.specs.Wiring.{call_guard}
use Rattle.zl_normal.specs.KernelParts.{IsWire}
use Rattle.zl_normal.specs.Guards.{IsGuarded, Free, Copied}
use Rattle.zl_normal.specs.FormWires.{IsCall}
use Rattle.zl_normal.specs.PlaceWires.{definer_of, start_of, IsMoving, IsDefined}
use Rattle.zl_normal.specs.Normal.{HasLast}
use Rattle.zl_normal.specs.Tables.{Tables, is_guarded, is_free, has_last, asks_itself}
use Rattle.zl_normal.specs.Keys.{keys, definer_keys, motion_memories}
use Rattle.zl_normal.specs.KernelOf.{Numbers, plain, by_arms, defined_wire, wire_of, moving_memory, memory_of}
use Rattle.zl_normal.specs.Layout.{IsPlaceAt}
use Rattle.zl_normal.specs.declared.key.Key.{Key}
use Rattle.zl_normal.specs.declared.key.Key.TheVariants.{Place, Between}
use Rattle.zl_normal.specs.declared.key.Kept.TheVariants.{Before, Moving}
use Rattle.zl_normal.proofs.Slopes.MovingPlaces.{definer_has, no_start}
use Rattle.zl_normal.proofs.MadeFlows.Placed.{definer_there}
use Rattle.zl_normal.proofs.Made.Wires.{IsMade, has_first, solved_as, memory_as, place_memory_there}
use Rattle.zl_normal.proofs.Made.Uses.{definer_guard}
use Rattle.zl_normal.proofs.Made.UnderGuards.{choose, or_either, guarded_alone, free_call}
use Rattle.zl_normal.proofs.Made.Lasts.{call_is, last_wires}
use Rattle.zl_normal.proofs.Made.Arms.{reset}

or_true : (b : Bool) → (b || true) ≡ true
or_true true = refl
or_true false = refl

-- the call of what stands in a block is an occurrence
pub called : (f : FlatForm) (b : ℕ) (call : Option ℕ) → IsCalled f b call → IsCall f call
called f b None is = tt
called f b (Some call) is = (is.0, is.1)

module _ (f : FlatForm) (grades : List ℕ) (t : Tables) (n : Numbers) (k : KernelForm) (made : IsMade f grades t n k) where
  module _ (p : ℕ) (place : PlaceInfo) (is : slice_get f.places p ≡ Some place) where
    abbrev guard : Option ℕ
    guard = call_guard n.wiring place.call

    asks : (d : Option Definer) → definer_of place.definers ≡ d → asks_itself d ≡ true → has_last t p place ≡ true
    asks d e own = ap (λ d. get_or t.lasts p false || asks_itself d) e ∙ ap (λ b. get_or t.lasts p false || b) own ∙ or_true (get_or t.lasts p false)

    module _ (d : Option Definer) (e : definer_of place.definers ≡ d) where
      listed : (key : Key) → Has (definer_keys f grades t p place.call d) key → Has (keys f grades t) key
      listed key h = definer_there f grades t p place key is (subst (λ d. Has (definer_keys f grades t p place.call d) key) (sym e) h)

      place_is : wire_of f grades t n (Place p) ≡ defined_wire f grades t n p place d
      place_is = rw is (ap (λ d. defined_wire f grades t n p place d) e)

      defined_as : Has (definer_keys f grades t p place.call d) (Place p) → (m : ℕ) → m ≡ n.wire (Place p) → IsWire k m (defined_wire f grades t n p place d).def (defined_wire f grades t n p place d).guard
      defined_as h m same = solved_as f grades t n k made (Place p) (listed (Place p) h) refl (defined_wire f grades t n p place d) place_is m same

    moving : (b j : ℕ) (arms : List DerArm) → definer_of place.definers ≡ Some (Der b j arms) → IsPlaceAt f grades t n p place.call (Some (Der b j arms)) → IsMoving f k n.wiring p place.call (start_of place.definers) arms
    moving b j arms e at = record {
      at_step = by_arms f grades t n p 0 arms;
      between = n.wire (Between p);
      memory = n.memory (Moving p);
      slope = n.wiring.D p;
      last = last_wires f grades t n k made p place is (asks (Some (Der b j arms)) e refl);
      reset = reset f grades t n k made p place is b j arms e arms 0 refl;
      wire = defined_as (Some (Der b j arms)) e (has_first _ _) (n.wiring.P p) at;
      kept = solved_as f grades t n k made (Between p) (listed (Some (Der b j arms)) e (Between p) (record { index = 1; is = refl })) refl (plain Float (Mem (n.memory (Moving p))) None) refl (n.wire (Between p)) refl;
      moves = memory_as f grades t n k made (Moving p)
          (place_memory_there f grades t n k made p place (Moving p) is
          (has-right (when (has_last t p place) (Before p)) (motion_memories f grades t p (definer_of place.definers)) (Moving p)
          (subst (λ d. Has (motion_memories f grades t p d) (Moving p)) (sym e) (record { index = 0; is = refl })))) (moving_memory f grades t n p place) memory_is (n.memory (Moving p)) refl;
    }
      where
        memory_is : memory_of f grades t n (Moving p) ≡ moving_memory f grades t n p place
        memory_is = rw is refl

    by_definer : (d : Option Definer) → definer_of place.definers ≡ d → IsPlaceAt f grades t n p place.call d → IsDefined f k n.wiring p place d
    by_definer None e at = (
      last_wires f grades t n k made p place is (asks None e refl),
      subst (λ m. IsGuarded k (n.wiring.L p) (call_guard n.wiring place.call) m) (sym at)
          (choose (λ m. IsGuarded k (n.wiring.L p) (call_guard n.wiring place.call) m) (is_free t place.call) (n.wiring.L p) (n.wire (Place p)) (λ free. Free (free_call f grades t n k made place.call free))
          (λ free. Copied (n.wire (Place p)) (defined_as None e (has-when _ (Place p) (ap (λ b. not b) free)) (n.wire (Place p)) refl))),
    )
    by_definer (Some (Input m)) e at = defined_as (Some (Input m)) e (has_first _ _) (n.wiring.P p) at
    by_definer (Some (Plain b j)) e at = (
      (stands.1.occ, stands.1.is),
      same,
      subst (λ m. IsGuarded k (n.wiring.w j) (call_guard n.wiring place.call) m) (sym at)
          (choose (λ m. IsGuarded k (n.wiring.w j) (call_guard n.wiring place.call) m) (is_free t place.call || is_guarded f t j) (n.wiring.w j) (n.wire (Place p)) alone
          (λ free. Copied (n.wire (Place p)) (defined_as (Some (Plain b j)) e (has-when _ (Place p) (ap (λ b. not b) free)) (n.wire (Place p)) refl))),
    )
      where
        stands : IsDefiner f p place (Plain b j)
        stands = all-has (IsDefiner f p place) place.definers (Plain b j) (made.formed.places p place is).definers (definer_has place.definers (Plain b j) e)

        same : n.wiring.G j ≡ call_guard n.wiring place.call
        same = definer_guard f grades t n k made j stands.1.occ stands.1.is place.call (AsDefiner p b place.call (place, is, definer_has place.definers (Plain b j) e) (call_is f p place is))

        alone : (is_free t place.call || is_guarded f t j) ≡ true → IsGuarded k (n.wiring.w j) (call_guard n.wiring place.call) (n.wiring.w j)
        alone free = by (or_either (is_free t place.call) (is_guarded f t j) free)
          where
            by : (is_free t place.call ≡ true) ⊎ (is_guarded f t j ≡ true) → IsGuarded k (n.wiring.w j) (call_guard n.wiring place.call) (n.wiring.w j)
            by (inl always) = Free (free_call f grades t n k made place.call always)
            by (inr guarded) = guarded_alone f grades t n k made j (call_guard n.wiring place.call) same guarded
    by_definer (Some (Der b j arms)) e at = moving b j arms e at
    by_definer (Some (Start b j)) e at = no_start place.definers b j e

    pub place_wires : IsCall f place.call × IsDefined f k n.wiring p place (definer_of place.definers)
    place_wires = (called f place.block place.call (made.formed.places p place is).call, by_definer (definer_of place.definers) refl (made.layout.wired.places p place is))

  -- `last` that an occurrence names
  pub named_last : (j p : ℕ) (occ : Occ) → slice_get f.occs j ≡ Some occ → occ.form ≡ LastOf p → HasLast f k n.wiring p
  named_last j p occ is of =
      let formed = subst (λ form. IsForm f occ.block occ.ty form) of (made.formed.occs j occ is).form in
      let place = formed.0.place in
      (place, formed.0.is, last_wires f grades t n k made p place formed.0.is (ap (λ b. b || asks_itself (definer_of place.definers)) (made.layout.tables.lasts j p (occ, is, of))))
