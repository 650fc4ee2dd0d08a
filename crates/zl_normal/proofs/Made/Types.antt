-- The types of the wires of occurrences and places, and of slopes, in the kernel that is made of a form.
use Rattle.std.specs.Prelude.{◌≡◌, ℕ, zero, suc, ◌<◌, Bool, true, false, not, ◌||◌, List, [], ◌∷◌, slice_get, get_or, Option, Some, None, ⊤}
use Rattle.std.proofs.Common.{refl, sym, ap, ◌∙◌, arith, subst}
use Rattle.std.proofs.lemmas.Bool.{eq-eqb, and_parts}
use Rattle.zl_value.specs.Lists.{Has}
use Rattle.zl_value.specs.Script.{IsOfType}
use Rattle.zl_value.specs.declared.value.Ty.{Ty}
use Rattle.zl_value.specs.declared.value.Ty.TheVariants.{Bool as BoolTy, Int, Float, Zero as ZeroTy}
use Rattle.zl_value.specs.declared.value.Value.{Value as AValue}
use Rattle.zl_value.specs.declared.value.Value.TheVariants.{B, I, F}
use Rattle.zl_meaning.specs.FlatForm.{FlatForm}
use Rattle.zl_meaning.specs.State.{AtPlace, AtValue}
use Rattle.zl_meaning.specs.WellFormed.{Stands, IsForm}
use Rattle.zl_meaning.specs.Reading.{ReadsForm, HasNodeRanks}
use Rattle.zl_meaning.specs.declared.place.Definer.{Definer}
use Rattle.zl_meaning.specs.declared.place.Definer.TheVariants.{Input, Plain, Der, Start}
use Rattle.zl_meaning.specs.declared.place.PlaceInfo.{PlaceInfo}
use Rattle.zl_meaning.specs.declared.occurrence.Form.{Form}
use Rattle.zl_meaning.specs.declared.occurrence.Form.TheVariants.{Lit, Read, Last as LastOf, Op as Apply, If, Arrow, Pre, Result, Up, Fired, Step as AtSteps}
use Rattle.zl_meaning.specs.declared.occurrence.Occ.{Occ}
use Rattle.zl_meaning.proofs.Members.{has-when, or-true}
use Rattle.zl_kernel.specs.KernelForm.{KernelForm}
use Rattle.zl_kernel.specs.WellFormed.{HasWire}
use Rattle.zl_normal.specs.PlaceWires.{definer_of, start_of}
use Rattle.zl_normal.specs.Tables.{Tables, is_guarded, is_free, is_literal, has_last, asks_itself, moves, has_form_slope}
use Rattle.zl_normal.specs.Keys.{keys, value_keys, definer_keys}
use Rattle.zl_normal.specs.KernelOf.{Numbers, joined, value_wire, rest_wire, slope_wire, defined_wire, last_wire, wire_of}
use Rattle.zl_normal.specs.Layout.{IsFirst, IsValueAt, IsPlaceAt}
use Rattle.zl_normal.specs.declared.key.Key.{Key}
use Rattle.zl_normal.specs.declared.key.Key.TheVariants.{Step, No, Zero, Value, Rest, Place, Last, Slope, Motion}
use Rattle.zl_normal.proofs.Slopes.MovingPlaces.{no_start}
use Rattle.zl_normal.proofs.MadeFlows.Placed.{as_slope, step_there, no_there, value_there, definer_there, last_there}
use Rattle.zl_normal.proofs.MadeFlows.Roots.{plain_rank, plain_stands, form_reads}
use Rattle.zl_normal.proofs.MadeFlows.SlopeRoots.{slope_named, motion_named}
use Rattle.zl_normal.proofs.MadeFlows.Owners.{OfSloped, of_sloped}
use Rattle.zl_normal.proofs.Made.Wires.{IsMade, wire_there}
use Rattle.zl_normal.proofs.Made.UnderGuards.{choose}

-- the type of the wire of what has this type: a crossing is a bool
abbrev pub shown : Ty → Ty
shown ZeroTy = BoolTy
shown ty = ty

pub shown_same : (ty : Ty) → (ty ≡ ZeroTy → ⊥) → shown ty ≡ ty
shown_same ZeroTy other = absurd (other refl)
shown_same ty other = refl

-- a value has one type
pub one_type : (v : AValue) (a b : Ty) → IsOfType a v → IsOfType b v → a ≡ b
one_type (B x) BoolTy BoolTy h g = refl
one_type (I x) Int Int h g = refl
one_type (F x) Float Float h g = refl
one_type (B x) BoolTy Int h g = absurd g
one_type (B x) BoolTy Float h g = absurd g
one_type (B x) BoolTy ZeroTy h g = absurd g
one_type (I x) Int BoolTy h g = absurd g
one_type (I x) Int Float h g = absurd g
one_type (I x) Int ZeroTy h g = absurd g
one_type (F x) Float BoolTy h g = absurd g
one_type (F x) Float Int h g = absurd g
one_type (F x) Float ZeroTy h g = absurd g
one_type (B x) Int b h g = absurd h
one_type (B x) Float b h g = absurd h
one_type (B x) ZeroTy b h g = absurd h
one_type (I x) BoolTy b h g = absurd h
one_type (I x) Float b h g = absurd h
one_type (I x) ZeroTy b h g = absurd h
one_type (F x) BoolTy b h g = absurd h
one_type (F x) Int b h g = absurd h
one_type (F x) ZeroTy b h g = absurd h

pub joined_type : (w : ℕ → ℕ) (rest : ℕ) (ks : List ℕ) → (joined w rest ks).ty ≡ BoolTy
joined_type w rest [] = refl
joined_type w rest (u ∷ []) = refl
joined_type w rest (u ∷ v ∷ []) = refl
joined_type w rest (u ∷ v ∷ x ∷ us) = refl

module _ (f : FlatForm) (grades : List ℕ) (t : Tables) (n : Numbers) (k : KernelForm) (made : IsMade f grades t n k) (entries : HasNodeRanks f) where
  pub typed_as : (key : Key) → Has (keys f grades t) key → (ty : Ty) → (wire_of f grades t n key).ty ≡ ty → (m : ℕ) → m ≡ n.wire key → HasWire k ty m
  typed_as key h ty typed m e = record { wire = wire_of f grades t n key; is = ap (λ i. slice_get k.wires i) e ∙ wire_there f grades t n k made key h; typed = typed }

  pub moved_to : (m i : ℕ) (a b : Ty) → m ≡ i → a ≡ b → HasWire k a i → HasWire k b m
  moved_to m i a b e s has = subst (λ ty. HasWire k ty m) s (subst (λ i. HasWire k a i) (sym e) has)

  -- the type of an occurrence that is no crossing is that of its wire
  pub plain_type : (j : ℕ) (occ : Occ) → slice_get f.occs j ≡ Some occ → (form : Form) → occ.form ≡ form → ((s : ℕ) → form ≡ Up s → ⊥) → occ.ty ≡ ZeroTy → ⊥
  plain_type j occ is form of other e = let c = (made.formed.occs j occ is).crossing e in other c.0 (sym of ∙ c.1)

  module _ (p : ℕ) (place : PlaceInfo) (is : slice_get f.places p ≡ Some place) where
    last_type : (start : Option ℕ) → (last_wire f grades t n p place start).ty ≡ place.ty
    last_type None = refl
    last_type (Some j) = by (is_literal f j) refl
      where
        by : (b : Bool) → is_literal f j ≡ b → (last_wire f grades t n p place (Some j)).ty ≡ place.ty
        by true e = rw e refl
        by false e = rw e refl

    pub last_typed : has_last t p place ≡ true → HasWire k place.ty (n.wiring.L p)
    last_typed own = typed_as (Last p) (last_there f grades t p place is own) place.ty wire_type (n.wiring.L p) (made.layout.wired.lasts p)
      where
        wire_type : (wire_of f grades t n (Last p)).ty ≡ place.ty
        wire_type = rw is (last_type (start_of place.definers))

    defined_type : (d : Option Definer) → definer_of place.definers ≡ d → (defined_wire f grades t n p place d).ty ≡ place.ty
    defined_type None e = refl
    defined_type (Some (Input i)) e = refl
    defined_type (Some (Plain b j)) e = refl
    defined_type (Some (Der b j arms)) e = refl
    defined_type (Some (Start b j)) e = absurd (no_start place.definers b j e)

    own_typed : (d : Option Definer) → definer_of place.definers ≡ d → Has (definer_keys f grades t p place.call d) (Place p) → (m : ℕ) → m ≡ n.wire (Place p) → HasWire k place.ty m
    own_typed d e has m same = typed_as (Place p) (definer_there f grades t p place (Place p) is (subst (λ d. Has (definer_keys f grades t p place.call d) (Place p)) (sym e) has)) place.ty wire_type m same
      where
        wire_type : (wire_of f grades t n (Place p)).ty ≡ place.ty
        wire_type = rw is (defined_type (definer_of place.definers) refl)

    place_by : (d : Option Definer) → definer_of place.definers ≡ d → ((b j : ℕ) → d ≡ Some (Plain b j) → HasWire k place.ty (n.wiring.w j)) → IsPlaceAt f grades t n p place.call d → HasWire k place.ty (n.wiring.P p)
    place_by None e plain at =
        moved_to _ _ place.ty place.ty at refl
        (choose (HasWire k place.ty) (is_free t place.call) (n.wiring.L p) (n.wire (Place p)) (λ free. last_typed (ap (λ d. get_or t.lasts p false || asks_itself d) e ∙ or-true (get_or t.lasts p false) true refl))
        (λ free. own_typed None e (has-when _ (Place p) (ap (λ b. not b) free)) _ refl))
    place_by (Some (Plain b j)) e plain at =
        moved_to _ _ place.ty place.ty at refl
        (choose (HasWire k place.ty) (is_free t place.call || is_guarded f t j) (n.wiring.w j) (n.wire (Place p)) (λ free. plain b j refl)
        (λ free. own_typed (Some (Plain b j)) e (has-when _ (Place p) (ap (λ b. not b) free)) _ refl))
    place_by (Some (Input i)) e plain at = own_typed (Some (Input i)) e (record { index = 0; is = refl }) _ at
    place_by (Some (Der b j arms)) e plain at = own_typed (Some (Der b j arms)) e (record { index = 0; is = refl }) _ at
    place_by (Some (Start b j)) e plain at = absurd (no_start place.definers b j e)

  -- those of occurrences and places of a rank below this one
  record Below (h : ℕ) : Type 0 where
    values : (j : ℕ) (occ : Occ) → slice_get f.occs j ≡ Some occ → entries.rank (AtValue j) < h → HasWire k (shown occ.ty) (n.wiring.w j)
    places : (p : ℕ) (place : PlaceInfo) → slice_get f.places p ≡ Some place → entries.rank (AtPlace p) < h → HasWire k place.ty (n.wiring.P p)

  -- a value that has a wire of its own
  own_value : (j : ℕ) (occ : Occ) → slice_get f.occs j ≡ Some occ → (form : Form) → occ.form ≡ form → Has (value_keys f grades t j form) (Value j) → (ty : Ty) → (value_wire f grades t n j occ form).ty ≡ ty → (m : ℕ) → m ≡ n.wire (Value j) → HasWire k ty m
  own_value j occ is form of has ty typed m e =
      typed_as (Value j) (value_there f grades t j occ (Value j) is (subst (λ form. Has (value_keys f grades t j form) (Value j)) (sym of) has)) ty (wire_type ∙ typed) m e
    where
      wire_type : (wire_of f grades t n (Value j)).ty ≡ (value_wire f grades t n j occ form).ty
      wire_type = rw is (ap (λ form. (value_wire f grades t n j occ form).ty) of)

  module _ (h : ℕ) (below : Below h) where
    open below use {values, places}

    by_form : (j : ℕ) (occ : Occ) → slice_get f.occs j ≡ Some occ → (form : Form) → occ.form ≡ form → IsForm f occ.block occ.ty form → ReadsForm f (λ a. entries.rank a < h) (λ a. ⊤) occ.block form → IsValueAt f grades t n j form → HasWire k (shown occ.ty) (n.wiring.w j)
    by_form j occ is (Lit v) of st rd at =
        let first : IsFirst f t j v = made.layout.tables.firsts j v (occ, is, of) in
        let i = get_or t.firsts j 0 in
        let there : IsForm f first.literal.0.block first.literal.0.ty (Lit v) = subst (λ form. IsForm f first.literal.0.block first.literal.0.ty form) first.literal.2 (made.formed.occs i first.literal.0 first.literal.1).form in
        own_value i first.literal.0 first.literal.1 (Lit v) first.literal.2 (has-when _ (Value i) (eq-eqb _ _ first.itself)) (shown occ.ty)
        (one_type v first.literal.0.ty occ.ty there st ∙ sym (shown_same occ.ty (plain_type j occ is (Lit v) of (λ s e. cc)))) (n.wiring.w j) at
    by_form j occ is (Read p) of st rd at = moved_to _ _ _ _ at (st.typed ∙ sym (shown_same occ.ty (plain_type j occ is (Read p) of (λ s e. cc)))) (places p st.place st.is rd)
    by_form j occ is (LastOf p) of st rd at =
        let asked = made.layout.tables.lasts j p (occ, is, of) in
        moved_to _ _ _ _ at (st.0.typed ∙ sym (shown_same occ.ty (plain_type j occ is (LastOf p) of (λ s e. cc))))
        (last_typed p st.0.place st.0.is (ap (λ b. b || asks_itself (definer_of st.0.place.definers)) asked))
    by_form j occ is (Apply op ks) of st rd at =
        own_value j occ is (Apply op ks) of (record { index = 0; is = refl }) (shown occ.ty) (sym (shown_same occ.ty (plain_type j occ is (Apply op ks) of (λ s e. cc)))) (n.wiring.w j) at
    by_form j occ is (If c x y) of st rd at = own_value j occ is (If c x y) of (record { index = 0; is = refl }) (shown occ.ty) (sym (shown_same occ.ty (plain_type j occ is (If c x y) of (λ s e. cc)))) (n.wiring.w j) at
    by_form j occ is (Arrow x y) of st rd at = own_value j occ is (Arrow x y) of (record { index = 0; is = refl }) (shown occ.ty) (sym (shown_same occ.ty (plain_type j occ is (Arrow x y) of (λ s e. cc)))) (n.wiring.w j) at
    by_form j occ is (Pre x) of st rd at = own_value j occ is (Pre x) of (record { index = 0; is = refl }) (shown occ.ty) (sym (shown_same occ.ty (plain_type j occ is (Pre x) of (λ s e. cc)))) (n.wiring.w j) at
    by_form j occ is (Result x) of st rd at = moved_to _ _ _ _ at (ap (λ ty. shown ty) st.typed) (values x st.occ st.is rd)
    by_form j occ is (Up s) of st rd at = own_value j occ is (Up s) of (record { index = 0; is = refl }) (shown occ.ty) (sym (ap (λ ty. shown ty) st.3)) (n.wiring.w j) at
    by_form j occ is (Fired []) of st rd at = typed_as No (no_there f grades t) (shown occ.ty) (sym (ap (λ ty. shown ty) st.1)) (n.wiring.w j) at
    by_form j occ is (Fired (u ∷ [])) of st rd at = moved_to _ _ _ _ at (ap (λ ty. shown ty) st.0.0.typed ∙ sym (ap (λ ty. shown ty) st.1)) (values u st.0.0.occ st.0.0.is rd.0)
    by_form j occ is (Fired (u ∷ v ∷ us)) of st rd at =
        typed_as (Rest j 0) (value_there f grades t j occ (Rest j 0) is (subst (λ form. Has (value_keys f grades t j form) (Rest j 0)) (sym of) (record { index = 0; is = refl }))) (shown occ.ty)
        (wire_type ∙ sym (ap (λ ty. shown ty) st.1)) (n.wiring.w j) at
      where
        wire_type : (wire_of f grades t n (Rest j 0)).ty ≡ BoolTy
        wire_type = rw is (ap (λ form. (rest_wire f grades t n j 0 form).ty) of ∙ joined_type n.wiring.w (n.wire (Rest j 1)) (u ∷ v ∷ us))
    by_form j occ is AtSteps of st rd at = typed_as Step (step_there f grades t) (shown occ.ty) (sym (ap (λ ty. shown ty) st)) (n.wiring.w j) (at ∙ made.layout.wired.step)

  lower : (h i : ℕ) → i < suc h → Below h → Below i
  lower h i l b = record {
    values = λ j occ is k. b.values j occ is (omega arith);
    places = λ p place is k. b.places p place is (omega arith);
  }

  typed_below : (h : ℕ) → Below h
  typed_below zero = record {
    values = λ j occ is k. absurd (omega arith);
    places = λ p place is k. absurd (omega arith);
  }
  typed_below (suc h) = record {
    values = λ j occ is l.
        by_form (entries.rank (AtValue j)) (lower h (entries.rank (AtValue j)) l (typed_below h)) j occ is occ.form refl (made.formed.occs j occ is).form
        (form_reads f grades t n made.formed entries made.layout (entries.rank (AtValue j)) j occ is refl) (made.layout.wired.values j occ is);
    places = λ p place is l.
        place_by p place is (definer_of place.definers) refl
        (λ b j e. let s : Stands f b place.ty j = plain_stands f grades t n made.formed entries made.layout p place is b j e in
        moved_to _ _ _ _ refl (ap (λ ty. shown ty) s.typed ∙ shown_same place.ty (made.formed.places p place is).value)
        ((lower h (entries.rank (AtPlace p)) l (typed_below h)).values j s.occ s.is (plain_rank f grades t n made.formed entries made.layout p place is b j e)))
        (made.layout.wired.places p place is);
  }

  -- the wire of an occurrence, of a place, has its type
  pub value_typed : (j : ℕ) (occ : Occ) → slice_get f.occs j ≡ Some occ → HasWire k (shown occ.ty) (n.wiring.w j)
  value_typed j occ is = (typed_below (suc (entries.rank (AtValue j)))).values j occ is (omega arith)

  pub place_typed : (p : ℕ) (place : PlaceInfo) → slice_get f.places p ≡ Some place → HasWire k place.ty (n.wiring.P p)
  place_typed p place is = (typed_below (suc (entries.rank (AtPlace p)))).places p place is (omega arith)

  pub stands_typed : (b : ℕ) (ty : Ty) (j : ℕ) → Stands f b ty j → HasWire k (shown ty) (n.wiring.w j)
  stands_typed b ty j s = moved_to _ _ _ _ refl (ap (λ ty. shown ty) s.typed) (value_typed j s.occ s.is)

  -- a slope is a number
  slope_type : (j : ℕ) (occ : Occ) (form : Form) → has_form_slope f grades form ≡ true → (slope_wire f grades t n j occ form).ty ≡ Float
  slope_type j occ (Apply op ks) own = refl
  slope_type j occ (If c x y) own = refl
  slope_type j occ form own = absurd cc

  pub as_float : (m : ℕ) (key : Key) → slice_get (keys f grades t) m ≡ Some key → as_slope key ≡ true → HasWire k Float m
  as_float m Zero at on = typed_as Zero (record { index = m; is = at }) Float refl m (sym (made.layout.wires m Zero at))
  as_float m (Motion p) at on = typed_as (Motion p) (record { index = m; is = at }) Float refl m (sym (made.layout.wires m (Motion p) at))
  as_float m (Slope j) at on = typed_as (Slope j) there Float wire_type m (sym (made.layout.wires m (Slope j) at))
    where
      there : Has (keys f grades t) (Slope j)
      there = record { index = m; is = at }

      o : OfSloped f grades t j (Slope j)
      o = of_sloped f grades t (Slope j) j there refl

      own : (slope_wire f grades t n j o.occ o.occ.form).ty ≡ Float
      own = slope_type j o.occ o.occ.form (and_parts (moves grades j o.occ) (has_form_slope f grades o.occ.form) o.own).1

      wire_type : (wire_of f grades t n (Slope j)).ty ≡ Float
      wire_type = let i = o.is in rw i own
  as_float m key at on = absurd cc

  pub slope_typed : (j : ℕ) (occ : Occ) → slice_get f.occs j ≡ Some occ → HasWire k Float (n.wiring.S j)
  slope_typed j occ is = let s = slope_named f grades t n made.formed entries made.layout j occ is in as_float (n.wiring.S j) s.key s.is s.of_kind

  pub motion_typed : (p : ℕ) (place : PlaceInfo) → slice_get f.places p ≡ Some place → place.ty ≡ Float → HasWire k Float (n.wiring.D p)
  motion_typed p place is ty = let s = motion_named f grades t n made.formed entries made.layout p place is ty in as_float (n.wiring.D p) s.key s.is s.of_kind
