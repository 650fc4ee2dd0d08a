-- `last` of the places of a form, in the kernel that is made of it.
use Rattle.std.specs.Prelude.{◌≡◌, ℕ, Bool, true, false, not, if◌then◌else◌, List, [], ◌∷◌, slice_get, Option, Some, None}
use Rattle.std.specs.Option.{option_and_then}
use Rattle.std.proofs.Common.{refl, ap, ◌∙◌, subst}
use Rattle.zl_value.specs.Lists.{Has, when}
use Rattle.zl_value.specs.declared.value.Value.{Value as AValue}
use Rattle.zl_meaning.specs.FlatForm.{FlatForm, place_call}
use Rattle.zl_meaning.specs.Uses.{AsStart}
use Rattle.zl_meaning.specs.WellFormed.{IsDefiner}
use Rattle.zl_meaning.specs.declared.place.Definer.{Definer}
use Rattle.zl_meaning.specs.declared.place.Definer.TheVariants.{Input, Plain, Der, Start}
use Rattle.zl_meaning.specs.declared.place.PlaceInfo.{PlaceInfo}
use Rattle.zl_meaning.specs.declared.occurrence.Form.{Form}
use Rattle.zl_meaning.specs.declared.occurrence.Form.TheVariants.{Lit}
use Rattle.zl_meaning.specs.declared.occurrence.Occ.{Occ}
use Rattle.zl_meaning.proofs.Members.{all-has, has-left, has-right, has-later, has-when}
use Rattle.zl_kernel.specs.KernelForm.{KernelForm}
use Rattle.zl_kernel.specs.declared.wire.Def.TheVariants.{Mem, If}
use Rattle.zl_normal.specs.KernelParts.{IsWire, IsMemory}
use Rattle.zl_normal.specs.PlaceWires.{definer_of, start_of, IsLast, NoStart, LitStart, ByStart}
use Rattle.zl_normal.specs.Tables.{Tables, is_literal_form, is_literal_occ, is_literal, is_computed, has_last}
use Rattle.zl_normal.specs.Keys.{keys, definer_keys, last_keys, motion_memories}
use Rattle.zl_normal.specs.KernelOf.{Numbers, plain, still, literal_form, literal_occ, literal_start, last_wire, wire_of, memory_of}
use Rattle.zl_normal.specs.declared.key.Key.TheVariants.{Last, Remembered}
use Rattle.zl_normal.specs.declared.key.Kept.TheVariants.{Before}
use Rattle.zl_normal.proofs.MadeFlows.Placed.{of_place, last_there}
use Rattle.zl_normal.proofs.Made.Wires.{IsMade, solved_as, memory_as, place_memory_there}
use Rattle.zl_normal.proofs.Made.UnderGuards.{start_under}

-- the first `init` is a definer
pub start_has : (definers : List Definer) (j : ℕ) → start_of definers ≡ Some j → (b : ℕ) × Has definers (Start b j)
start_has [] j e = absurd cc
start_has (Start b x ∷ definers) j e = let same : x ≡ j = cc in (b, record { index = 0; is = ap (λ y. Some (Start b y)) same })
start_has (Input m ∷ definers) j e = let h = start_has definers j e in (h.0, has-later _ _ _ h.1)
start_has (Plain b x ∷ definers) j e = let h = start_has definers j e in (h.0, has-later _ _ _ h.1)
start_has (Der b x arms ∷ definers) j e = let h = start_has definers j e in (h.0, has-later _ _ _ h.1)

pub call_is : (f : FlatForm) (p : ℕ) (place : PlaceInfo) → slice_get f.places p ≡ Some place → place_call f p ≡ place.call
call_is f p place is = ap (λ o. option_and_then (λ (place : PlaceInfo). place.call) o) is

module _ (f : FlatForm) (grades : List ℕ) (t : Tables) (n : Numbers) (k : KernelForm) (made : IsMade f grades t n k) (p : ℕ) (place : PlaceInfo) (is : slice_get f.places p ≡ Some place) (own : has_last t p place ≡ true) where
  -- the memory of the place at the instant before
  before : (start : Option ℕ) → start_of place.definers ≡ start → IsMemory k (n.memory (Before p)) (literal_start f grades t n start) (n.wiring.P p) None
  before start e =
      memory_as f grades t n k made (Before p)
      (place_memory_there f grades t n k made p place (Before p) is
      (has-left (when (has_last t p place) (Before p)) (motion_memories f grades t p (definer_of place.definers)) (Before p) (has-when _ (Before p) own)))
      (still f grades t n place.ty (literal_start f grades t n start) (n.wiring.P p)) memory_is (n.memory (Before p)) refl
    where
      memory_is : memory_of f grades t n (Before p) ≡ still f grades t n place.ty (literal_start f grades t n start) (n.wiring.P p)
      memory_is = rw is (ap (λ s. still f grades t n place.ty (literal_start f grades t n s) (n.wiring.P p)) e)

  last_as : (start : Option ℕ) → start_of place.definers ≡ start → IsWire k (n.wiring.L p) (last_wire f grades t n p place start).def (last_wire f grades t n p place start).guard
  last_as start e = solved_as f grades t n k made (Last p) (last_there f grades t p place is own) refl (last_wire f grades t n p place start) wire_is (n.wiring.L p) (made.layout.wired.lasts p)
    where
      wire_is : wire_of f grades t n (Last p) ≡ last_wire f grades t n p place start
      wire_is = rw is (ap (λ s. last_wire f grades t n p place s) e)

  remembered_as : is_computed f (start_of place.definers) ≡ true → IsWire k (n.wire (Remembered p)) (Mem (n.memory (Before p))) None
  remembered_as computed = solved_as f grades t n k made (Remembered p) there refl (plain place.ty (Mem (n.memory (Before p))) None) wire_is (n.wire (Remembered p)) refl
    where
      last : Has (Last p ∷ when (is_computed f (start_of place.definers)) (Remembered p)) (Remembered p)
      last = has-later (Last p) _ (Remembered p) (has-when _ (Remembered p) computed)

      listed : Has (last_keys f grades t p place) (Remembered p)
      listed = rw own last

      there : Has (keys f grades t) (Remembered p)
      there = of_place f grades t p place (Remembered p) is (has-right (definer_keys f grades t p place.call (definer_of place.definers)) (last_keys f grades t p place) (Remembered p) listed)

      wire_is : wire_of f grades t n (Remembered p) ≡ plain place.ty (Mem (n.memory (Before p))) None
      wire_is = rw is refl

  -- a literal, and its value
  record IsLitAt (j : ℕ) : Type 0 where
    occ : Occ
    v : AValue
    there : slice_get f.occs j ≡ Some occ
    form : occ.form ≡ Lit v
    value : literal_start f grades t n (Some j) ≡ Some v

  literal_by : (j : ℕ) (o : Option Occ) → slice_get f.occs j ≡ o → is_literal_occ o ≡ true → IsLitAt j
  literal_by j None there e = absurd cc
  literal_by j (Some occ) there e = by occ.form refl e
    where
      by : (form : Form) → occ.form ≡ form → is_literal_form form ≡ true → IsLitAt j
      by (Lit v) of e = record { occ = occ; v = v; there = there; form = of; value = ap (λ o. literal_occ f grades t n o) there ∙ ap (λ form. literal_form f grades t n form) of }
      by form of e = absurd cc

  not_literal : (j : ℕ) → is_literal f j ≡ false → literal_start f grades t n (Some j) ≡ None
  not_literal j e = by (slice_get f.occs j) e
    where
      by_form : (form : Form) → is_literal_form form ≡ false → literal_form f grades t n form ≡ None
      by_form (Lit v) e = absurd cc
      by_form form e = refl

      by : (o : Option Occ) → is_literal_occ o ≡ false → literal_occ f grades t n o ≡ None
      by None e = refl
      by (Some occ) e = by_form occ.form e

  by_start : (start : Option ℕ) → start_of place.definers ≡ start → IsLast f k n.wiring p place.call start (n.wiring.L p)
  by_start None e = NoStart (n.wiring.L p) (n.memory (Before p)) (last_as None e) (before None e)
  by_start (Some j) e = by (is_literal f j) refl
    where
      wire_by : (b : Bool) → is_literal f j ≡ b → IsWire k (n.wiring.L p) (if b then plain place.ty (Mem (n.memory (Before p))) None else plain place.ty (If n.wiring.fresh (n.wiring.w j) (n.wire (Remembered p))) None).def (if b then plain place.ty (Mem (n.memory (Before p))) None else plain place.ty (If n.wiring.fresh (n.wiring.w j) (n.wire (Remembered p))) None).guard
      wire_by b same =
          subst (λ b. IsWire k (n.wiring.L p) (if b then plain place.ty (Mem (n.memory (Before p))) None else plain place.ty (If n.wiring.fresh (n.wiring.w j) (n.wire (Remembered p))) None).def (if b then plain place.ty (Mem (n.memory (Before p))) None else plain place.ty (If n.wiring.fresh (n.wiring.w j) (n.wire (Remembered p))) None).guard) same
          (last_as (Some j) e)

      by : (b : Bool) → is_literal f j ≡ b → IsLast f k n.wiring p place.call (Some j) (n.wiring.L p)
      by true literal =
          let lit = literal_by j (slice_get f.occs j) refl literal in
          LitStart j (n.wiring.L p) (n.memory (Before p)) lit.occ lit.v lit.there lit.form (wire_by true literal)
          (subst (λ o. IsMemory k (n.memory (Before p)) o (n.wiring.P p) None) lit.value (before (Some j) e))
      by false literal =
          let h = start_has place.definers j e in
          let s = all-has (IsDefiner f p place) place.definers (Start h.0 j) (made.formed.places p place is).definers h.1 in
          ByStart j (n.wiring.L p) (n.wire (Remembered p)) (n.memory (Before p)) (s.1.occ, s.1.is)
          (start_under f grades t n k made j s.1.occ s.1.is place.call h.0 (AsStart p h.0 place.call (place, is, h.1) (call_is f p place is))) (wire_by false literal)
          (remembered_as (ap (λ o. is_computed f o) e ∙ ap (λ b. not b) literal))
          (subst (λ o. IsMemory k (n.memory (Before p)) o (n.wiring.P p) None) (not_literal j literal) (before (Some j) e))

  pub last_wires : IsLast f k n.wiring p place.call (start_of place.definers) (n.wiring.L p)
  last_wires = by_start (start_of place.definers) refl
