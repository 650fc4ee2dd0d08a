-- The wires of occurrences and places stand low, by the ranks of the form's entries.
use Rattle.std.specs.Prelude.{◌≡◌, ℕ, zero, suc, ◌+◌, ◌<◌, ◌≤◌, Bool, true, false, not, ◌||◌, if◌then◌else◌, List, [], ◌∷◌, map, slice_get, get_or, Option, Some, None, ⊤}
use Rattle.std.proofs.Common.{refl, sym, ap, ◌∙◌, arith, subst}
use Rattle.std.proofs.lemmas.Bool.{eq-eqb}
use Rattle.zl_value.specs.Lists.{Has}
use Rattle.zl_meaning.specs.FlatForm.{FlatForm}
use Rattle.zl_meaning.specs.State.{AtPlace, AtValue}
use Rattle.zl_meaning.specs.WellFormed.{Stands, IsForm, IsWellFormed}
use Rattle.zl_meaning.specs.Reading.{ReadsForm, ReadsPlace, HasNodeRanks}
use Rattle.zl_meaning.specs.declared.place.Definer.{Definer}
use Rattle.zl_meaning.specs.declared.place.Definer.TheVariants.{Input, Plain, Der, Start}
use Rattle.zl_meaning.specs.declared.place.PlaceInfo.{PlaceInfo}
use Rattle.zl_meaning.specs.declared.occurrence.Form.{Form}
use Rattle.zl_meaning.specs.declared.occurrence.Form.TheVariants.{Lit, Read, Last as LastOf, Op as Apply, If, Arrow, Pre, Result, Up, Fired, Step as AtSteps}
use Rattle.zl_meaning.specs.declared.occurrence.Occ.{Occ}
use Rattle.zl_meaning.proofs.Members.{all-has, has-when}
use Rattle.zl_normal.specs.PlaceWires.{definer_of, start_of}
use Rattle.zl_normal.specs.Tables.{Tables, is_guarded, is_free, has_last, asks_itself}
use Rattle.zl_normal.specs.Keys.{keys, value_keys, definer_keys}
use Rattle.zl_normal.specs.KernelOf.{Numbers}
use Rattle.zl_normal.specs.Layout.{IsFirst, IsLayout, IsValueAt, IsPlaceAt}
use Rattle.zl_normal.specs.declared.key.Key.{Key}
use Rattle.zl_normal.specs.declared.key.Key.TheVariants.{Step, No, Value, Rest, Place, Last}
use Rattle.zl_normal.proofs.Slopes.MovingPlaces.{no_start}
use Rattle.zl_normal.proofs.MadeFlows.Placed.{step_there, no_there, value_there, definer_there, last_there}
use Rattle.std.specs.Option.{option_map}
use Rattle.std.specs.List.{AllByRecursion}
use Rattle.std.proofs.lemmas.Option.{slice_get-map, get_or_from_slice_get}
use Rattle.zl_meaning.specs.Reading.{ReadsStart, ReadsLastOf}
use Rattle.zl_normal.proofs.MadeFlows.Placed.{numbered}
use Rattle.zl_normal.proofs.MadeFlows.Roots.{plain_rank, plain_stands, form_reads}
use Rattle.zl_normal.proofs.MadeFlows.Reads.{start_has}
use Rattle.zl_normal.proofs.MadeFlows.Levels.{width, level, climb, form_rank, occ_rank, start_rank, last_rank, key_rank}

module _ (f : FlatForm) (grades : List ℕ) (t : Tables) (n : Numbers) (formed : IsWellFormed f) (entries : HasNodeRanks f) (layout : IsLayout f grades t n) where
  -- the rank of a wire
  unfoldable pub R : ℕ → ℕ
  R m = get_or (map (key_rank f entries) (keys f grades t)) m 0

  abbrev W : ℕ
  W = width f

  pub rank_is : (key : Key) → Has (keys f grades t) key → (m : ℕ) → m ≡ n.wire key → R m ≡ key_rank f entries key
  unfolding R
  rank_is key h m e =
      get_or_from_slice_get (map (key_rank f entries) (keys f grades t)) m (key_rank f entries key) 0
      (slice_get-map (key_rank f entries) (keys f grades t) m ∙ ap (λ i. option_map (key_rank f entries) (slice_get (keys f grades t) i)) e ∙ ap (λ o. option_map (key_rank f entries) o) (numbered (keys f grades t) n.wire layout.wires key h))

  abbrev ValueLow : ℕ → Type 0
  ValueLow j = R (n.wiring.w j) ≤ level f (entries.rank (AtValue j)) + width f

  abbrev PlaceLow : ℕ → Type 0
  PlaceLow p = R (n.wiring.P p) ≤ level f (entries.rank (AtPlace p)) + width f + 1

  -- those of occurrences and places of a rank below this one
  record Below (h : ℕ) : Type 0 where
    values : (j : ℕ) (occ : Occ) → slice_get f.occs j ≡ Some occ → entries.rank (AtValue j) < h → ValueLow j
    places : (p : ℕ) (place : PlaceInfo) → slice_get f.places p ≡ Some place → entries.rank (AtPlace p) < h → PlaceLow p

  -- `last` of a place stands below what reads its `init` values
  pub last_low : (p : ℕ) (place : PlaceInfo) → slice_get f.places p ≡ Some place → has_last t p place ≡ true → (b : ℕ) → ((c s : ℕ) → Has place.definers (Start c s) → entries.rank (AtValue s) < b) → R (n.wiring.L p) ≤ level f b
  last_low p place is own b low =
      let r = rank_is (Last p) (last_there f grades t p place is own) (n.wiring.L p) (layout.wired.lasts p) in
      let e : key_rank f entries (Last p) ≡ start_rank f entries (start_of place.definers) = ap (λ o. last_rank f entries o) is in
      let l : start_rank f entries (start_of place.definers) ≤ level f b = by (start_of place.definers) refl in
      omega (arith, r, e, l)
    where
      by : (s : Option ℕ) → start_of place.definers ≡ s → start_rank f entries s ≤ level f b
      by None e = omega arith
      by (Some s) e = let h = start_has place.definers s e in let c = climb f (entries.rank (AtValue s)) b (low h.0 s h.1) in omega (arith, c)

  starts_low : (b : ℕ) (definers : List Definer) → AllByRecursion (ReadsStart (λ a. entries.rank a < b) (λ a. ⊤)) definers → (c s : ℕ) → Has definers (Start c s) → entries.rank (AtValue s) < b
  starts_low b definers reads c s h = (all-has (ReadsStart (λ a. entries.rank a < b) (λ a. ⊤)) definers (Start c s) reads h).1

  pub form_key : (j : ℕ) (occ : Occ) → slice_get f.occs j ≡ Some occ → (form : Form) → occ.form ≡ form → (key : Key) → Has (value_keys f grades t j form) key → Has (keys f grades t) key
  form_key j occ is form e key h = value_there f grades t j occ key is (subst (λ form. Has (value_keys f grades t j form) key) (sym e) h)

  pub occ_rank_is : (j : ℕ) (occ : Occ) → slice_get f.occs j ≡ Some occ → (form : Form) → occ.form ≡ form → occ_rank f entries j (slice_get f.occs j) ≡ form_rank f entries j form
  occ_rank_is j occ is form e = ap (λ o. occ_rank f entries j o) is ∙ ap (λ form. form_rank f entries j form) e

  module _ (h : ℕ) (below : Below h) where
    open below use {values, places}

    value_by_form : (j : ℕ) (occ : Occ) → slice_get f.occs j ≡ Some occ → (form : Form) → occ.form ≡ form → entries.rank (AtValue j) ≡ h → IsForm f occ.block occ.ty form → ReadsForm f (λ a. entries.rank a < h) (λ a. ⊤) occ.block form → IsValueAt f grades t n j form → ValueLow j
    value_by_form j occ is (Lit v) e top st rd at =
        let first : IsFirst f t j v = layout.tables.firsts j v (occ, is, e) in
        let i = get_or t.firsts j 0 in
        let own = has-when _ (Value i) (eq-eqb _ _ first.itself) in
        let r = rank_is (Value i) (form_key i first.literal.0 first.literal.1 (Lit v) first.literal.2 (Value i) own) (n.wiring.w j) at in
        let z = occ_rank_is i first.literal.0 first.literal.1 (Lit v) first.literal.2 in
        omega (arith, r, z)
    value_by_form j occ is (Read p) e top st rd at =
        let l = places p st.place st.is rd in
        let c = climb f (entries.rank (AtPlace p)) (entries.rank (AtValue j)) (omega (arith, rd, top)) in
        let same : R (n.wiring.w j) ≡ R (n.wiring.P p) = ap (λ m. R m) at in
        omega (arith, l, c, same)
    value_by_form j occ is (LastOf p) e top st rd at =
        let asked = layout.tables.lasts j p (occ, is, e) in
        let reads : ReadsLastOf (λ a. entries.rank a < h) (λ a. ⊤) p (Some st.0.place) = subst (λ o. ReadsLastOf (λ a. entries.rank a < h) (λ a. ⊤) p o) st.0.is rd in
        let l = last_low p st.0.place st.0.is (ap (λ b. b || asks_itself (definer_of st.0.place.definers)) asked) h (starts_low h st.0.place.definers reads.2) in
        let same : R (n.wiring.w j) ≡ R (n.wiring.L p) = ap (λ m. R m) at in
        let up : level f h ≡ level f (entries.rank (AtValue j)) = ap (λ h. level f h) (sym top) in
        omega (arith, l, same, up)
    value_by_form j occ is (Apply op ks) e top st rd at = let r = rank_is (Value j) (form_key j occ is (Apply op ks) e (Value j) (record { index = 0; is = refl })) (n.wiring.w j) at in let z = occ_rank_is j occ is (Apply op ks) e in omega (arith, r, z)
    value_by_form j occ is (If c x y) e top st rd at = let r = rank_is (Value j) (form_key j occ is (If c x y) e (Value j) (record { index = 0; is = refl })) (n.wiring.w j) at in let z = occ_rank_is j occ is (If c x y) e in omega (arith, r, z)
    value_by_form j occ is (Arrow x y) e top st rd at = let r = rank_is (Value j) (form_key j occ is (Arrow x y) e (Value j) (record { index = 0; is = refl })) (n.wiring.w j) at in let z = occ_rank_is j occ is (Arrow x y) e in omega (arith, r, z)
    value_by_form j occ is (Pre x) e top st rd at = let r = rank_is (Value j) (form_key j occ is (Pre x) e (Value j) (record { index = 0; is = refl })) (n.wiring.w j) at in let z = occ_rank_is j occ is (Pre x) e in omega (arith, r, z)
    value_by_form j occ is (Up s) e top st rd at = let r = rank_is (Value j) (form_key j occ is (Up s) e (Value j) (record { index = 0; is = refl })) (n.wiring.w j) at in let z = occ_rank_is j occ is (Up s) e in omega (arith, r, z)
    value_by_form j occ is (Result x) e top st rd at =
        let l = values x st.occ st.is rd in
        let c = climb f (entries.rank (AtValue x)) (entries.rank (AtValue j)) (omega (arith, rd, top)) in
        let same : R (n.wiring.w j) ≡ R (n.wiring.w x) = ap (λ m. R m) at in
        omega (arith, l, c, same)
    value_by_form j occ is (Fired []) e top st rd at = let r = rank_is No (no_there f grades t) (n.wiring.w j) at in omega (arith, r)
    value_by_form j occ is (Fired (u ∷ [])) e top st rd at =
        let l = values u st.0.0.occ st.0.0.is rd.0 in
        let c = climb f (entries.rank (AtValue u)) (entries.rank (AtValue j)) (let z = rd.0 in omega (arith, z, top)) in
        let same : R (n.wiring.w j) ≡ R (n.wiring.w u) = ap (λ m. R m) at in
        omega (arith, l, c, same)
    value_by_form j occ is (Fired (u ∷ v ∷ us)) e top st rd at =
        let r = rank_is (Rest j 0) (form_key j occ is (Fired (u ∷ v ∷ us)) e (Rest j 0) (record { index = 0; is = refl })) (n.wiring.w j) at in omega (arith, r)
    value_by_form j occ is AtSteps e top st rd at = let r = rank_is Step (step_there f grades t) (n.wiring.w j) (at ∙ layout.wired.step) in omega (arith, r)

    place_by : (p : ℕ) (place : PlaceInfo) → slice_get f.places p ≡ Some place → (d : Option Definer) → definer_of place.definers ≡ d → ((c s : ℕ) → Has place.definers (Start c s) → entries.rank (AtValue s) < entries.rank (AtPlace p)) → ((b j : ℕ) → d ≡ Some (Plain b j) → (entries.rank (AtValue j) < entries.rank (AtPlace p)) × ValueLow j) → IsPlaceAt f grades t n p place.call d → PlaceLow p
    place_by p place is d e starts plain at = by d e plain at
      where
        own : (d : Option Definer) → definer_of place.definers ≡ d → Has (definer_keys f grades t p place.call d) (Place p) → (m : ℕ) → m ≡ n.wire (Place p) → R m ≤ level f (entries.rank (AtPlace p)) + width f + 1
        own d e has m same = let r = rank_is (Place p) (definer_there f grades t p place (Place p) is (subst (λ d. Has (definer_keys f grades t p place.call d) (Place p)) (sym e) has)) m same in omega (arith, r)

        choose : (b : Bool) (x y : ℕ) → (b ≡ true → R x ≤ level f (entries.rank (AtPlace p)) + width f + 1) → (b ≡ false → R y ≤ level f (entries.rank (AtPlace p)) + width f + 1) → R (if b then x else y) ≤ level f (entries.rank (AtPlace p)) + width f + 1
        choose true x y g k = g refl
        choose false x y g k = k refl

        moved : (m : ℕ) → n.wiring.P p ≡ m → R m ≤ level f (entries.rank (AtPlace p)) + width f + 1 → PlaceLow p
        moved m e l = subst (λ m. R m ≤ level f (entries.rank (AtPlace p)) + width f + 1) (sym e) l

        or_true : (b : Bool) → (b || true) ≡ true
        or_true true = refl
        or_true false = refl

        by : (d : Option Definer) → definer_of place.definers ≡ d → ((b j : ℕ) → d ≡ Some (Plain b j) → (entries.rank (AtValue j) < entries.rank (AtPlace p)) × ValueLow j) → IsPlaceAt f grades t n p place.call d → PlaceLow p
        by None e plain at =
            moved _ at
            (choose (is_free t place.call) _ _
            (λ free. let l = last_low p place is (ap (λ d. get_or t.lasts p false || asks_itself d) e ∙ or_true _) (entries.rank (AtPlace p)) starts in omega (arith, l))
            (λ free. own None e (has-when _ (Place p) (ap (λ b. not b) free)) _ refl))
        by (Some (Plain b j)) e plain at =
            moved _ at
            (choose (is_free t place.call || is_guarded f t j) _ _
            (λ free. let x = plain b j refl in let l = x.1 in let c = climb f (entries.rank (AtValue j)) (entries.rank (AtPlace p)) x.0 in omega (arith, l, c))
            (λ free. own (Some (Plain b j)) e (has-when _ (Place p) (ap (λ b. not b) free)) _ refl))
        by (Some (Input i)) e plain at = own (Some (Input i)) e (record { index = 0; is = refl }) _ at
        by (Some (Der b j arms)) e plain at = own (Some (Der b j arms)) e (record { index = 0; is = refl }) _ at
        by (Some (Start b j)) e plain at = absurd (no_start place.definers b j e)

  pub place_reads : (p : ℕ) (place : PlaceInfo) → slice_get f.places p ≡ Some place → ReadsPlace (λ a. entries.rank a < entries.rank (AtPlace p)) (λ a. ⊤) p (Some place)
  place_reads p place is = subst (λ o. ReadsPlace (λ a. entries.rank a < entries.rank (AtPlace p)) (λ a. ⊤) p o) is (entries.lower (AtPlace p))

  pub place_starts : (p : ℕ) (place : PlaceInfo) → slice_get f.places p ≡ Some place → (c s : ℕ) → Has place.definers (Start c s) → entries.rank (AtValue s) < entries.rank (AtPlace p)
  place_starts p place is = starts_low (entries.rank (AtPlace p)) place.definers (place_reads p place is).3.2

  lower : (h i : ℕ) → i < suc h → Below h → Below i
  lower h i l b = record {
    values = λ j occ is k. b.values j occ is (omega arith);
    places = λ p place is k. b.places p place is (omega arith);
  }

  low_below : (h : ℕ) → Below h
  low_below zero = record {
    values = λ j occ is k. absurd (omega arith);
    places = λ p place is k. absurd (omega arith);
  }
  low_below (suc h) = record {
    values = λ j occ is k.
        value_by_form (entries.rank (AtValue j)) (lower h (entries.rank (AtValue j)) k (low_below h)) j occ is occ.form refl refl (formed.occs j occ is).form (form_reads f grades t n formed entries layout (entries.rank (AtValue j)) j occ is refl) (layout.wired.values j occ is);
    places = λ p place is k.
        place_by (entries.rank (AtPlace p)) (lower h (entries.rank (AtPlace p)) k (low_below h)) p place is (definer_of place.definers) refl (place_starts p place is)
        (λ b j e. let s : Stands f b place.ty j = plain_stands f grades t n formed entries layout p place is b j e in let r = plain_rank f grades t n formed entries layout p place is b j e in (r, (lower h (entries.rank (AtPlace p)) k (low_below h)).values j s.occ s.is r))
        (layout.wired.places p place is);
  }

  -- the wire of an occurrence, of a place
  pub value_low : (j : ℕ) (occ : Occ) → slice_get f.occs j ≡ Some occ → R (n.wiring.w j) ≤ level f (entries.rank (AtValue j)) + width f
  value_low j occ is = (low_below (suc (entries.rank (AtValue j)))).values j occ is (omega arith)

  pub place_low : (p : ℕ) (place : PlaceInfo) → slice_get f.places p ≡ Some place → R (n.wiring.P p) ≤ level f (entries.rank (AtPlace p)) + width f + 1
  place_low p place is = (low_below (suc (entries.rank (AtPlace p)))).places p place is (omega arith)
