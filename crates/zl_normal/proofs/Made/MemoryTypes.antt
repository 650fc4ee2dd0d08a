-- Memories and sites agree in types with the wires that they name, in the kernel that is made of a form.
use Rattle.std.specs.Prelude.{◌≡◌, ℕ, nat_eq, Bool, true, false, not, if◌then◌else◌, List, [], ◌∷◌, map, slice_get, Option, Some, None}
use Rattle.std.specs.List.{AllByRecursion}
use Rattle.std.proofs.Common.{refl, sym, ap, subst}
use Rattle.zl_value.specs.Lists.{Has}
use Rattle.zl_value.specs.declared.value.Ty.{Ty}
use Rattle.zl_value.specs.declared.value.Ty.TheVariants.{Bool as BoolTy, Float, Zero as ZeroTy}
use Rattle.zl_value.specs.declared.value.Value.TheVariants.{B}
use Rattle.zl_meaning.specs.FlatForm.{FlatForm}
use Rattle.zl_meaning.specs.WellFormed.{Stands, IsForm, IsDefiner, IsAgain}
use Rattle.zl_meaning.specs.Reading.{HasNodeRanks}
use Rattle.zl_meaning.specs.declared.place.Definer.{Definer}
use Rattle.zl_meaning.specs.declared.place.Definer.TheVariants.{Der, Start}
use Rattle.zl_meaning.specs.declared.place.PlaceInfo.{PlaceInfo}
use Rattle.zl_meaning.specs.declared.occurrence.Form.{Form}
use Rattle.zl_meaning.specs.declared.occurrence.Form.TheVariants.{Lit, If as IfOf, Pre}
use Rattle.zl_meaning.specs.declared.occurrence.Occ.{Occ}
use Rattle.zl_meaning.specs.declared.occurrence.SiteInfo.{SiteInfo}
use Rattle.zl_meaning.proofs.Members.{all-has, has-later, has-when}
use Rattle.zl_kernel.specs.KernelForm.{KernelForm}
use Rattle.zl_kernel.specs.WellFormed.{HasWire, IsStart, IsMemory, IsSite}
use Rattle.zl_kernel.specs.declared.memory.KMem.{KMem}
use Rattle.zl_normal.specs.PlaceWires.{definer_of, start_of}
use Rattle.zl_normal.specs.Tables.{Tables, is_guarded}
use Rattle.zl_normal.specs.Keys.{value_keys, memories}
use Rattle.zl_normal.specs.KernelOf.{Numbers, next_wire, still, no_memory, literal_form, literal_occ, literal_start, moving_memory, derivative_memory, pre_memory, memory_of_occ, memory_of_place, memory_of, fresh_form, fresh_occ, site_of, any_again, wire_of}
use Rattle.zl_normal.specs.declared.key.Key.TheVariants.{No, Value, Next, Again}
use Rattle.zl_normal.specs.declared.key.Kept.{Kept}
use Rattle.zl_normal.specs.declared.key.Kept.TheVariants.{First, Before, Moving, Derivative, Pre as OfPre}
use Rattle.zl_normal.proofs.MadeFlows.Placed.{no_there, value_there, again_there}
use Rattle.zl_normal.proofs.MadeFlows.Memories.{OfMoving, of_moving}
use Rattle.zl_normal.proofs.MadeFlows.Reads.{start_has}
use Rattle.zl_normal.proofs.Made.Wires.{IsMade, has_first}
use Rattle.zl_normal.proofs.Made.Forms.{joint_there}
use Rattle.zl_normal.proofs.Made.Types.{typed_as, moved_to, plain_type, place_typed, slope_typed, motion_typed, joined_type}
use Rattle.zl_normal.proofs.Made.GuardTypes.{fresh_typed}
use Rattle.zl_normal.proofs.Made.ValueTypes.{value_stands, test_stands, number_stands}
use Rattle.zl_normal.proofs.Made.PlaceTypes.{first_is}

-- what holds of what each gives holds of all that they give
pub all_mapped : {X Y : Type 0} (P : Y → Type 0) (g : X → Y) (xs : List X) → ((x : X) → Has xs x → P (g x)) → AllByRecursion P (map g xs)
all_mapped P g [] h = tt
all_mapped P g (x ∷ xs) h = (h x (has_first x xs), all_mapped P g xs (λ y k. h y (has-later x xs y k)))

module _ (f : FlatForm) (grades : List ℕ) (t : Tables) (n : Numbers) (k : KernelForm) (made : IsMade f grades t n k) (entries : HasNodeRanks f) where
  no_typed : HasWire k BoolTy (n.wire No)
  no_typed = typed_as f grades t n k made entries No (no_there f grades t) BoolTy refl (n.wire No) refl

  still_fits : (ty : Ty) (start : _) (next : ℕ) → (ty ≡ ZeroTy → ⊥) → IsStart ty start → HasWire k ty next → IsMemory k (still f grades t n ty start next)
  still_fits ty start next value starts typed = record { value = value; start = starts; next = typed; slope = tt }

  none_fits : IsMemory k (no_memory f grades t n)
  none_fits = still_fits BoolTy None (n.wire No) (λ e. cc) tt no_typed

  -- an `init` value that is a literal
  literal_fits : (b : ℕ) (ty : Ty) (j : ℕ) → Stands f b ty j → IsStart ty (literal_occ f grades t n (slice_get f.occs j))
  literal_fits b ty j s = subst (λ o. IsStart ty (literal_occ f grades t n o)) (sym s.is) (subst (λ ty. IsStart ty (literal_form f grades t n s.occ.form)) s.typed (by s.occ.form (made.formed.occs j s.occ s.is).form))
    where
      by : (form : Form) → IsForm f s.occ.block s.occ.ty form → IsStart s.occ.ty (literal_form f grades t n form)
      by (Lit v) st = st
      by form st = tt

  start_fits : (p : ℕ) (place : PlaceInfo) → slice_get f.places p ≡ Some place → (s : Option ℕ) → start_of place.definers ≡ s → IsStart place.ty (literal_start f grades t n s)
  start_fits p place is None e = tt
  start_fits p place is (Some j) e =
      let h = start_has place.definers j e in
      let d : IsDefiner f p place (Start h.0 j) = all-has (IsDefiner f p place) place.definers (Start h.0 j) (made.formed.places p place is).definers h.1 in
      literal_fits h.0 place.ty j d.1

  -- the memories of a place
  place_fits : (make : PlaceInfo → KMem) (p : ℕ) → ((place : PlaceInfo) → slice_get f.places p ≡ Some place → IsMemory k (make place)) → (o : Option PlaceInfo) → slice_get f.places p ≡ o → IsMemory k (memory_of_place f grades t n make o)
  place_fits make p h None is = none_fits
  place_fits make p h (Some place) is = h place is

  occ_fits : (make : Occ → KMem) (j : ℕ) → ((occ : Occ) → slice_get f.occs j ≡ Some occ → IsMemory k (make occ)) → (o : Option Occ) → slice_get f.occs j ≡ o → IsMemory k (memory_of_occ f grades t n make o)
  occ_fits make j h None is = none_fits
  occ_fits make j h (Some occ) is = h occ is

  moving_fits : (p : ℕ) (m : OfMoving f grades t p) → IsMemory k (moving_memory f grades t n p m.place)
  moving_fits p m = record {
    value = λ e. cc;
    start = tt;
    next = moved_to f grades t n k made entries _ _ _ _ refl ty (place_typed f grades t n k made entries p m.place m.is);
    slope = (refl, motion_typed f grades t n k made entries p m.place m.is ty);
  }
    where
      ty : m.place.ty ≡ Float
      ty = let d : IsDefiner f p m.place (Der m.block m.slope m.arms) = first_is f grades t n k made entries p m.place m.is (Der m.block m.slope m.arms) m.der in d.1

  derivative_fits : (p : ℕ) (place : PlaceInfo) → slice_get f.places p ≡ Some place → (d : Option Definer) → definer_of place.definers ≡ d → IsMemory k (derivative_memory f grades t n d)
  derivative_fits p place is (Some (Der b j arms)) e =
      let d : IsDefiner f p place (Der b j arms) = first_is f grades t n k made entries p place is (Der b j arms) e in
      still_fits Float None (n.wiring.w j) (λ e. cc) tt (number_stands f grades t n k made entries b j d.2)
  derivative_fits p place is d e = none_fits

  -- that of a `pre`
  pre_fits : (j : ℕ) (occ : Occ) → slice_get f.occs j ≡ Some occ → (form : Form) → occ.form ≡ form → IsForm f occ.block occ.ty form → IsMemory k (pre_memory f grades t n j form occ.ty)
  pre_fits j occ is (Pre x) of st = still_fits occ.ty None (if is_guarded f t x then n.wiring.w x else n.wire (Next j)) value tt (by (is_guarded f t x) refl)
    where
      value : occ.ty ≡ ZeroTy → ⊥
      value = plain_type f grades t n k made entries j occ is (Pre x) of (λ s e. cc)

      next_type : (wire_of f grades t n (Next j)).ty ≡ occ.ty
      next_type = rw is (ap (λ form. (next_wire f grades t n form occ.ty).ty) of)

      by : (b : Bool) → is_guarded f t x ≡ b → HasWire k occ.ty (if b then n.wiring.w x else n.wire (Next j))
      by true e = value_stands f grades t n k made entries occ.block occ.ty x value st
      by false e =
          let own : Has (value_keys f grades t j (Pre x)) (Next j) = has-later (Value j) _ (Next j) (has-when _ (Next j) (ap (λ b. not b) e)) in
          typed_as f grades t n k made entries (Next j) (value_there f grades t j occ (Next j) is (subst (λ form. Has (value_keys f grades t j form) (Next j)) (sym of) own)) occ.ty next_type (n.wire (Next j)) refl
  pre_fits j occ is form of st = none_fits

  pub memory_fits : (kept : Kept) → Has (memories f grades t) kept → IsMemory k (memory_of f grades t n kept)
  memory_fits First h = still_fits BoolTy (Some (B true)) (n.wire No) (λ e. cc) tt no_typed
  memory_fits (Before p) h =
      place_fits _ p
      (λ place is. still_fits place.ty _ (n.wiring.P p) (made.formed.places p place is).value (start_fits p place is (start_of place.definers) refl) (place_typed f grades t n k made entries p place is))
      (slice_get f.places p) refl
  memory_fits (Moving p) h =
      let m : OfMoving f grades t p = of_moving f grades t p h in
      subst (λ o. IsMemory k (memory_of_place f grades t n (moving_memory f grades t n p) o)) (sym m.is) (moving_fits p m)
  memory_fits (Derivative p) h = place_fits _ p (λ place is. derivative_fits p place is (definer_of place.definers) refl) (slice_get f.places p) refl
  memory_fits (OfPre j) h = occ_fits _ j (λ occ is. pre_fits j occ is occ.form refl (made.formed.occs j occ is).form) (slice_get f.occs j) refl

  -- a site
  fresh_by : (b : ℕ) (ty : Ty) (form : Form) → IsForm f b ty form → HasWire k BoolTy (fresh_form f grades t n form)
  fresh_by b ty (IfOf c x y) st = by (nat_eq x y)
    where
      by : (s : Bool) → HasWire k BoolTy (if s then n.wiring.w c else n.wiring.fresh)
      by true = test_stands f grades t n k made entries b c st.0
      by false = fresh_typed f grades t n k made entries
  fresh_by b ty form st = fresh_typed f grades t n k made entries

  pub site_fits : (m : ℕ) (site : SiteInfo) → slice_get f.sites m ≡ Some site → IsSite k (site_of f grades t n site)
  site_fits m site is = record {
    value = number_stands f grades t n k made entries site.block site.arg s;
    fresh = subst (λ o. HasWire k BoolTy (fresh_occ f grades t n o)) (sym s.is) (fresh_by s.occ.block s.occ.ty s.occ.form (made.formed.occs site.arg s.occ s.is).form);
    slope = slope_typed f grades t n k made entries site.arg s.occ s.is;
  }
    where
      s : Stands f site.block Float site.arg
      s = (made.formed.sites m site is).argument

  -- what asks for a further step
  pub again_typed : (ks : List ℕ) → f.again ≡ ks → HasWire k BoolTy (any_again f grades t n ks)
  again_typed [] e = no_typed
  again_typed (u ∷ []) e =
      let a = all-has (IsAgain f) f.again u made.formed.again (subst (λ ks. Has ks u) (sym e) (has_first u [])) in
      test_stands f grades t n k made entries a.occ.block u (record { occ = a.occ; is = a.is; block = refl; typed = a.typed })
  again_typed (u ∷ v ∷ us) e =
      typed_as f grades t n k made entries (Again 0) (again_there f grades t (Again 0) (joint_there Again 0 0 0 f.again u v us e refl)) BoolTy
      (joined_type n.wiring.w (n.wire (Again 1)) f.again) (n.wire (Again 0)) refl
