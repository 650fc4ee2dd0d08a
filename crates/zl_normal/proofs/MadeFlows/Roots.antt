-- The wires of occurrences and places are those of the values to which their names lead, and their slopes those of the slopes.
use Rattle.std.specs.Prelude.{◌≡◌, ℕ, zero, suc, ◌<◌, Bool, true, false, not, ◌||◌, if◌then◌else◌, List, [], ◌∷◌, slice_get, get_or, Option, Some, None, ⊤}
use Rattle.std.proofs.Common.{refl, sym, ap, ◌∙◌, arith, subst}
use Rattle.std.proofs.lemmas.Bool.{eq-eqb}
use Rattle.zl_value.specs.Lists.{Has}
use Rattle.zl_meaning.specs.FlatForm.{FlatForm}
use Rattle.zl_meaning.specs.State.{AtPlace, AtValue}
use Rattle.zl_meaning.specs.WellFormed.{Stands, IsForm, IsDefiner, IsWellFormed}
use Rattle.zl_meaning.specs.Reading.{ReadsForm, ReadsValue, ReadsDefiner, ReadsPlace, HasNodeRanks}
use Rattle.zl_meaning.specs.declared.place.Definer.{Definer}
use Rattle.zl_meaning.specs.declared.place.Definer.TheVariants.{Input, Plain, Der, Start}
use Rattle.zl_meaning.specs.declared.place.PlaceInfo.{PlaceInfo}
use Rattle.zl_meaning.specs.declared.occurrence.Form.{Form}
use Rattle.zl_meaning.specs.declared.occurrence.Form.TheVariants.{Lit, Read, Last as LastOf, Op as Apply, If, Arrow, Pre, Result, Up, Fired, Step as AtSteps}
use Rattle.zl_meaning.specs.declared.occurrence.Occ.{Occ}
use Rattle.zl_meaning.proofs.Members.{all-has, has-when}
use Rattle.zl_normal.specs.PlaceWires.{definer_of}
use Rattle.zl_normal.specs.Tables.{Tables, is_guarded, is_free, has_last, asks_itself}
use Rattle.zl_normal.specs.Keys.{keys, value_keys, definer_keys}
use Rattle.zl_normal.specs.KernelOf.{Numbers}
use Rattle.zl_normal.specs.Layout.{IsFirst, IsLayout, IsValueAt, IsPlaceAt}
use Rattle.zl_normal.specs.declared.key.Key.{Key}
use Rattle.zl_normal.specs.declared.key.Key.TheVariants.{Step, No, Value, Rest, Place, Last}
use Rattle.zl_normal.proofs.Slopes.MovingPlaces.{definer_has, no_start}
use Rattle.zl_normal.proofs.MadeFlows.Placed.{at_instants, StandsFor, stands_for, step_there, no_there, value_there, definer_there, last_there}

module _ (f : FlatForm) (grades : List ℕ) (t : Tables) (n : Numbers) (formed : IsWellFormed f) (entries : HasNodeRanks f) (layout : IsLayout f grades t n) where
  -- it stands for what is solved at instants
  abbrev pub Solved : ℕ → Type 0
  Solved m = StandsFor at_instants (keys f grades t) m

  listed : (key : Key) → Has (keys f grades t) key → at_instants key ≡ true → (m : ℕ) → m ≡ n.wire key → StandsFor at_instants (keys f grades t) m
  listed key h e m same = subst (λ i. StandsFor at_instants (keys f grades t) i) (sym same) (stands_for at_instants (keys f grades t) n.wire layout.wires key h e)

  abbrev rank : ℕ → ℕ
  rank j = entries.rank (AtValue j)

  moved_to : (m i : ℕ) → m ≡ i → StandsFor at_instants (keys f grades t) i → StandsFor at_instants (keys f grades t) m
  moved_to m i e s = subst (λ i. StandsFor at_instants (keys f grades t) i) (sym e) s

  -- those of occurrences and places of a rank below this one
  record Below (h : ℕ) : Type 0 where
    values : (j : ℕ) (occ : Occ) → slice_get f.occs j ≡ Some occ → entries.rank (AtValue j) < h → StandsFor at_instants (keys f grades t) (n.wiring.w j)
    places : (p : ℕ) (place : PlaceInfo) → slice_get f.places p ≡ Some place → entries.rank (AtPlace p) < h → StandsFor at_instants (keys f grades t) (n.wiring.P p)

  pub last_solved : (p : ℕ) (place : PlaceInfo) → slice_get f.places p ≡ Some place → has_last t p place ≡ true → StandsFor at_instants (keys f grades t) (n.wiring.L p)
  last_solved p place is own = listed (Last p) (last_there f grades t p place is own) refl _ (layout.wired.lasts p)

  module _ (h : ℕ) (below : Below h) where
    open below use {values, places}

    value_by_form : (j : ℕ) (occ : Occ) → slice_get f.occs j ≡ Some occ → (form : Form) → occ.form ≡ form → IsForm f occ.block occ.ty form → ReadsForm f (λ a. entries.rank a < h) (λ a. ⊤) occ.block form → IsValueAt f grades t n j form → StandsFor at_instants (keys f grades t) (n.wiring.w j)
    value_by_form j occ is (Lit v) e st rd at =
        let first : IsFirst f t j v = layout.tables.firsts j v (occ, is, e) in
        let i = get_or t.firsts j 0 in
        let own = has-when _ (Value i) (eq-eqb _ _ first.itself) in
        listed (Value i) (value_there f grades t i first.literal.0 (Value i) first.literal.1 (subst (λ form. Has (value_keys f grades t i form) (Value i)) (sym first.literal.2) own)) refl _ at
    value_by_form j occ is (Read p) e st rd at = moved_to _ _ at (places p st.place st.is rd)
    value_by_form j occ is (LastOf p) e st rd at =
        let asked = layout.tables.lasts j p (occ, is, e) in
        moved_to _ _ at (last_solved p st.0.place st.0.is (ap (λ b. b || asks_itself (definer_of st.0.place.definers)) asked))
    value_by_form j occ is (Apply op ks) e st rd at = listed (Value j) (value_there f grades t j occ (Value j) is (subst (λ form. Has (value_keys f grades t j form) (Value j)) (sym e) (record { index = 0; is = refl }))) refl _ at
    value_by_form j occ is (If c x y) e st rd at = listed (Value j) (value_there f grades t j occ (Value j) is (subst (λ form. Has (value_keys f grades t j form) (Value j)) (sym e) (record { index = 0; is = refl }))) refl _ at
    value_by_form j occ is (Arrow x y) e st rd at = listed (Value j) (value_there f grades t j occ (Value j) is (subst (λ form. Has (value_keys f grades t j form) (Value j)) (sym e) (record { index = 0; is = refl }))) refl _ at
    value_by_form j occ is (Pre x) e st rd at = listed (Value j) (value_there f grades t j occ (Value j) is (subst (λ form. Has (value_keys f grades t j form) (Value j)) (sym e) (record { index = 0; is = refl }))) refl _ at
    value_by_form j occ is (Result x) e st rd at = moved_to _ _ at (values x st.occ st.is rd)
    value_by_form j occ is (Up s) e st rd at = listed (Value j) (value_there f grades t j occ (Value j) is (subst (λ form. Has (value_keys f grades t j form) (Value j)) (sym e) (record { index = 0; is = refl }))) refl _ at
    value_by_form j occ is (Fired []) e st rd at = listed No (no_there f grades t) refl _ at
    value_by_form j occ is (Fired (u ∷ [])) e st rd at = moved_to _ _ at (values u st.0.0.occ st.0.0.is rd.0)
    value_by_form j occ is (Fired (u ∷ v ∷ us)) e st rd at = listed (Rest j 0) (value_there f grades t j occ (Rest j 0) is (subst (λ form. Has (value_keys f grades t j form) (Rest j 0)) (sym e) (record { index = 0; is = refl }))) refl _ at
    value_by_form j occ is AtSteps e st rd at = listed Step (step_there f grades t) refl _ (at ∙ layout.wired.step)

    place_by : (p : ℕ) (place : PlaceInfo) → slice_get f.places p ≡ Some place → (d : Option Definer) → definer_of place.definers ≡ d → ((b j : ℕ) → d ≡ Some (Plain b j) → StandsFor at_instants (keys f grades t) (n.wiring.w j)) → IsPlaceAt f grades t n p place.call d → StandsFor at_instants (keys f grades t) (n.wiring.P p)
    place_by p place is d e plain at = by d e plain at
      where
        own : (d : Option Definer) → definer_of place.definers ≡ d → Has (definer_keys f grades t p place.call d) (Place p) → (m : ℕ) → m ≡ n.wire (Place p) → StandsFor at_instants (keys f grades t) m
        own d e has m same = listed (Place p) (definer_there f grades t p place (Place p) is (subst (λ d. Has (definer_keys f grades t p place.call d) (Place p)) (sym e) has)) refl m same

        choose : (b : Bool) (x y : ℕ) → (b ≡ true → StandsFor at_instants (keys f grades t) x) → (b ≡ false → StandsFor at_instants (keys f grades t) y) → StandsFor at_instants (keys f grades t) (if b then x else y)
        choose true x y g k = g refl
        choose false x y g k = k refl

        by : (d : Option Definer) → definer_of place.definers ≡ d → ((b j : ℕ) → d ≡ Some (Plain b j) → StandsFor at_instants (keys f grades t) (n.wiring.w j)) → IsPlaceAt f grades t n p place.call d → StandsFor at_instants (keys f grades t) (n.wiring.P p)
        by None e plain at =
            moved_to _ _ at
            (choose (is_free t place.call) _ _ (λ free. last_solved p place is (ap (λ d. get_or t.lasts p false || asks_itself d) e ∙ or_true _))
            (λ free. own None e (has-when _ (Place p) (ap (λ b. not b) free)) _ refl))
          where
            or_true : (b : Bool) → (b || true) ≡ true
            or_true true = refl
            or_true false = refl
        by (Some (Plain b j)) e plain at =
            moved_to _ _ at
            (choose (is_free t place.call || is_guarded f t j) _ _ (λ free. plain b j refl)
            (λ free. own (Some (Plain b j)) e (has-when _ (Place p) (ap (λ b. not b) free)) _ refl))
        by (Some (Input i)) e plain at = own (Some (Input i)) e (record { index = 0; is = refl }) _ at
        by (Some (Der b j arms)) e plain at = own (Some (Der b j arms)) e (record { index = 0; is = refl }) _ at
        by (Some (Start b j)) e plain at = absurd (no_start place.definers b j e)

  -- what the place reads by its definer
  pub plain_rank : (p : ℕ) (place : PlaceInfo) → slice_get f.places p ≡ Some place → (b j : ℕ) → definer_of place.definers ≡ Some (Plain b j) → entries.rank (AtValue j) < entries.rank (AtPlace p)
  plain_rank p place is b j e =
      let reads : ReadsPlace (λ a. entries.rank a < entries.rank (AtPlace p)) (λ a. ⊤) p (Some place) = subst (λ o. ReadsPlace (λ a. entries.rank a < entries.rank (AtPlace p)) (λ a. ⊤) p o) is (entries.lower (AtPlace p)) in
      (all-has (ReadsDefiner (λ a. entries.rank a < entries.rank (AtPlace p)) (λ a. ⊤) p) place.definers (Plain b j) reads.2 (definer_has place.definers (Plain b j) e)).1

  pub plain_stands : (p : ℕ) (place : PlaceInfo) → slice_get f.places p ≡ Some place → (b j : ℕ) → definer_of place.definers ≡ Some (Plain b j) → Stands f b place.ty j
  plain_stands p place is b j e = (all-has (IsDefiner f p place) place.definers (Plain b j) (formed.places p place is).definers (definer_has place.definers (Plain b j) e)).1

  pub form_reads : (h j : ℕ) (occ : Occ) → slice_get f.occs j ≡ Some occ → entries.rank (AtValue j) ≡ h → ReadsForm f (λ a. entries.rank a < h) (λ a. ⊤) occ.block occ.form
  form_reads h j occ is e =
      let reads : ReadsValue f (λ a. entries.rank a < entries.rank (AtValue j)) (λ a. ⊤) (Some occ) = subst (λ o. ReadsValue f (λ a. entries.rank a < entries.rank (AtValue j)) (λ a. ⊤) o) is (entries.lower (AtValue j)) in
      subst (λ h. ReadsForm f (λ a. entries.rank a < h) (λ a. ⊤) occ.block occ.form) e reads.1

  lower : (h i : ℕ) → i < suc h → Below h → Below i
  lower h i l b = record {
    values = λ j occ is k. b.values j occ is (omega arith);
    places = λ p place is k. b.places p place is (omega arith);
  }

  solved_below : (h : ℕ) → Below h
  solved_below zero = record {
    values = λ j occ is k. absurd (omega arith);
    places = λ p place is k. absurd (omega arith);
  }
  solved_below (suc h) = record {
    values = λ j occ is k.
        value_by_form (entries.rank (AtValue j)) (lower h (entries.rank (AtValue j)) k (solved_below h)) j occ is occ.form refl (formed.occs j occ is).form (form_reads (entries.rank (AtValue j)) j occ is refl) (layout.wired.values j occ is);
    places = λ p place is k.
        place_by (entries.rank (AtPlace p)) (lower h (entries.rank (AtPlace p)) k (solved_below h)) p place is (definer_of place.definers) refl
        (λ b j e. let s : Stands f b place.ty j = plain_stands p place is b j e in (lower h (entries.rank (AtPlace p)) k (solved_below h)).values j s.occ s.is (plain_rank p place is b j e))
        (layout.wired.places p place is);
  }

  -- the wire of an occurrence, of a place
  pub value_solved : (j : ℕ) (occ : Occ) → slice_get f.occs j ≡ Some occ → StandsFor at_instants (keys f grades t) (n.wiring.w j)
  value_solved j occ is = (solved_below (suc (entries.rank (AtValue j)))).values j occ is (omega arith)

  pub place_solved : (p : ℕ) (place : PlaceInfo) → slice_get f.places p ≡ Some place → StandsFor at_instants (keys f grades t) (n.wiring.P p)
  place_solved p place is = (solved_below (suc (entries.rank (AtPlace p)))).places p place is (omega arith)
