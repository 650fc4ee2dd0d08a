-- The wires of the slopes of occurrences and places stand low among slopes, by the ranks of the form's entries.
use Rattle.std.specs.Prelude.{◌≡◌, ℕ, zero, suc, ◌+◌, ◌<◌, ◌≤◌, Bool, true, false, if◌then◌else◌, List, [], ◌∷◌, slice_get, Option, Some, None, ⊤}
use Rattle.std.proofs.Common.{refl, sym, ◌∙◌, arith, subst}
use Rattle.std.proofs.lemmas.Bool.{and_parts, not_from_false}
use Rattle.zl_value.specs.Lists.{Has}
use Rattle.zl_value.specs.declared.value.Ty.TheVariants.{Float}
use Rattle.zl_value.specs.declared.op.Op.{Op}
use Rattle.zl_value.specs.declared.op.Op.TheVariants.{AddFloat, SubFloat}
use Rattle.zl_value.specs.OperatorTypes.{type_of}
use Rattle.zl_meaning.specs.FlatForm.{FlatForm}
use Rattle.zl_meaning.specs.State.{AtPlace, AtValue}
use Rattle.zl_meaning.specs.WellFormed.{Stands, IsForm, IsWellFormed}
use Rattle.zl_meaning.specs.Reading.{ReadsForm, HasNodeRanks}
use Rattle.zl_meaning.specs.declared.place.Definer.{Definer}
use Rattle.zl_meaning.specs.declared.place.Definer.TheVariants.{Input, Plain, Der, Start}
use Rattle.zl_meaning.specs.declared.place.PlaceInfo.{PlaceInfo}
use Rattle.zl_meaning.specs.declared.occurrence.Form.{Form}
use Rattle.zl_meaning.specs.declared.occurrence.Form.TheVariants.{Lit, Read, Last as LastOf, Op as Apply, If, Arrow, Pre, Result, Up, Fired, Step as AtSteps}
use Rattle.zl_meaning.specs.declared.occurrence.Occ.{Occ}
use Rattle.zl_normal.specs.PlaceWires.{definer_of}
use Rattle.zl_normal.specs.Tables.{Tables, is_float, is_still, is_blank_occ, moves, has_made_slope}
use Rattle.zl_normal.specs.Keys.{keys, definer_keys}
use Rattle.zl_normal.specs.KernelOf.{Numbers}
use Rattle.zl_normal.specs.Layout.{IsLayout, IsSlopeAt, IsMotionAt, taken_slope}
use Rattle.zl_normal.specs.declared.key.Key.{Key}
use Rattle.zl_normal.specs.declared.key.Key.TheVariants.{Zero, Slope, Motion}
use Rattle.zl_normal.proofs.Slopes.MovingPlaces.{no_start}
use Rattle.zl_normal.proofs.MadeFlows.Placed.{zero_there, definer_there}
use Rattle.zl_normal.proofs.MadeFlows.Roots.{plain_rank, plain_stands, form_reads}
use Rattle.zl_normal.proofs.MadeFlows.SlopeRoots.{float_type, operand, operand_rank, own_there}
use Rattle.zl_normal.proofs.MadeFlows.Levels.{level, top, key_rank}
use Rattle.zl_normal.proofs.MadeFlows.LowRoots.{R as rank_of, rank_is}

module _ (f : FlatForm) (grades : List ℕ) (t : Tables) (n : Numbers) (formed : IsWellFormed f) (entries : HasNodeRanks f) (layout : IsLayout f grades t n) where
  -- the rank of a wire, and where slopes begin
  abbrev R : ℕ → ℕ
  R m = rank_of f grades t n formed entries layout m

  abbrev T : ℕ
  T = level f (suc (suc (top f entries)))

  abbrev Low : ℕ → ℕ → Type 0
  Low h m = rank_of f grades t n formed entries layout m ≤ level f (suc (suc (top f entries))) + h

  key_low : (h : ℕ) (key : Key) → Has (keys f grades t) key → key_rank f entries key ≤ T + h → (m : ℕ) → m ≡ n.wire key → Low h m
  key_low h key there l m same = let r = rank_is f grades t n formed entries layout key there m same in omega (arith, r, l)

  zero_low : (h m : ℕ) → m ≡ n.wire Zero → Low h m
  zero_low h m e = key_low h Zero (zero_there f grades t) (omega arith) m e

  moved_to : (h m i : ℕ) → m ≡ i → Low h i → Low h m
  moved_to h m i e s = subst (λ i. Low h i) (sym e) s

  choose : (h : ℕ) (b : Bool) (x y : ℕ) → (b ≡ true → Low h x) → (b ≡ false → Low h y) → Low h (if b then x else y)
  choose h true x y g k = g refl
  choose h false x y g k = k refl

  higher : (i h m : ℕ) → i < h → Low i m → Low h m
  higher i h m l s = omega (arith, l, s)

  -- those of occurrences and places of a rank below this one
  record Below (h : ℕ) : Type 0 where
    values : (j : ℕ) (occ : Occ) → slice_get f.occs j ≡ Some occ → entries.rank (AtValue j) < h → Low (entries.rank (AtValue j)) (n.wiring.S j)
    places : (p : ℕ) (place : PlaceInfo) → slice_get f.places p ≡ Some place → place.ty ≡ Float → entries.rank (AtPlace p) < h → Low (entries.rank (AtPlace p)) (n.wiring.D p)

  module _ (h : ℕ) (below : Below h) where
    open below use {values, places}

    taken : (op : Op) (ks : List ℕ) → ((i k : ℕ) → slice_get ks i ≡ Some k → Low h (n.wiring.S k)) → Low h (taken_slope f grades t n op ks)
    taken AddFloat (a ∷ b ∷ []) part = choose h (is_still grades b) _ _ (λ e. part 0 a refl) (λ e. part 1 b refl)
    taken SubFloat (a ∷ b ∷ []) part = part 0 a refl
    taken op ks part = zero_low h _ refl

    slope_by_form : (j : ℕ) (occ : Occ) → slice_get f.occs j ≡ Some occ → entries.rank (AtValue j) ≡ h → moves grades j occ ≡ true → (form : Form) → occ.form ≡ form → IsForm f occ.block occ.ty form → ReadsForm f (λ a. entries.rank a < h) (λ a. ⊤) occ.block form → IsSlopeAt f grades t n j form → Low h (n.wiring.S j)
    slope_by_form j occ is up m (Lit v) e st rd at = zero_low h _ at
    slope_by_form j occ is up m (Read p) e st rd at = moved_to h _ _ at (higher _ h _ rd (places p st.place st.is (st.typed ∙ float_type occ.ty (and_parts (is_float occ.ty) _ m).0) rd))
    slope_by_form j occ is up m (LastOf p) e st rd at = zero_low h _ at
    slope_by_form j occ is up m (Apply op ks) e st rd at =
        moved_to h _ _ at
        (choose h (has_made_slope grades op ks) _ _
        (λ own. key_low h (Slope j) (own_there f grades t n formed entries layout j occ is m (Apply op ks) e own (Slope j) (record { index = 1; is = refl })) (omega (arith, up)) _ refl)
        (λ other. taken op ks part))
      where
        part : (i k : ℕ) → slice_get ks i ≡ Some k → Low h (n.wiring.S k)
        part i k q =
            let s = (operand f occ.block (type_of op).operands ks st.0 i k q).1 in
            let r = operand_rank (λ k. entries.rank (AtValue k) < h) ks rd i k q in
            higher _ h _ r (values k s.occ s.is r)
    slope_by_form j occ is up m (If c x y) e st rd at =
        moved_to h _ _ at
        (choose h (is_blank_occ f (slice_get f.occs y)) _ _ (λ blank. higher _ h _ rd.1 (values x st.1.occ st.1.is rd.1))
        (λ other. key_low h (Slope j) (own_there f grades t n formed entries layout j occ is m (If c x y) e (not_from_false _ other) (Slope j) (record { index = 0; is = refl })) (omega (arith, up)) _ refl))
    slope_by_form j occ is up m (Arrow x y) e st rd at = moved_to h _ _ at (higher _ h _ rd.2 (values y st.1.occ st.1.is rd.2))
    slope_by_form j occ is up m (Pre x) e st rd at = zero_low h _ at
    slope_by_form j occ is up m (Result x) e st rd at = moved_to h _ _ at (higher _ h _ rd (values x st.occ st.is rd))
    slope_by_form j occ is up m (Up s) e st rd at = zero_low h _ at
    slope_by_form j occ is up m (Fired ks) e st rd at = zero_low h _ at
    slope_by_form j occ is up m AtSteps e st rd at = zero_low h _ at

    slope_by : (j : ℕ) (occ : Occ) → slice_get f.occs j ≡ Some occ → entries.rank (AtValue j) ≡ h → ReadsForm f (λ a. entries.rank a < h) (λ a. ⊤) occ.block occ.form → (b : Bool) → moves grades j occ ≡ b → Low h (n.wiring.S j)
    slope_by j occ is up rd true m = slope_by_form j occ is up m occ.form refl (formed.occs j occ is).form rd (layout.wired.slopes j occ is m)
    slope_by j occ is up rd false m = zero_low h _ (layout.wired.stills j occ is m)

    motion_by : (p : ℕ) (place : PlaceInfo) → slice_get f.places p ≡ Some place → (d : Option Definer) → definer_of place.definers ≡ d → ((b j : ℕ) → d ≡ Some (Plain b j) → Low h (n.wiring.S j)) → IsMotionAt f grades t n p d → Low h (n.wiring.D p)
    motion_by p place is None e plain at = zero_low h _ at
    motion_by p place is (Some (Input i)) e plain at = zero_low h _ at
    motion_by p place is (Some (Plain b j)) e plain at = moved_to h _ _ at (plain b j refl)
    motion_by p place is (Some (Der b j arms)) e plain at =
        key_low h (Motion p) (definer_there f grades t p place (Motion p) is (subst (λ d. Has (definer_keys f grades t p place.call d) (Motion p)) (sym e) (record { index = 2; is = refl }))) (omega arith) _ at
    motion_by p place is (Some (Start b j)) e plain at = absurd (no_start place.definers b j e)

  lower : (h i : ℕ) → i < suc h → Below h → Below i
  lower h i l b = record {
    values = λ j occ is k. b.values j occ is (omega arith);
    places = λ p place is ty k. b.places p place is ty (omega arith);
  }

  low_below : (h : ℕ) → Below h
  low_below zero = record {
    values = λ j occ is k. absurd (omega arith);
    places = λ p place is ty k. absurd (omega arith);
  }
  low_below (suc h) = record {
    values = λ j occ is k.
        slope_by (entries.rank (AtValue j)) (lower h (entries.rank (AtValue j)) k (low_below h)) j occ is refl (form_reads f grades t n formed entries layout (entries.rank (AtValue j)) j occ is refl) (moves grades j occ) refl;
    places = λ p place is ty k.
        motion_by (entries.rank (AtPlace p)) (lower h (entries.rank (AtPlace p)) k (low_below h)) p place is (definer_of place.definers) refl
        (λ b j e. let s : Stands f b place.ty j = plain_stands f grades t n formed entries layout p place is b j e in
        let r = plain_rank f grades t n formed entries layout p place is b j e in
        higher (entries.rank (AtValue j)) (entries.rank (AtPlace p)) (n.wiring.S j) r ((lower h (entries.rank (AtPlace p)) k (low_below h)).values j s.occ s.is r))
        (layout.wired.motions p place is ty);
  }

  -- the slope of an occurrence
  pub slope_low : (j : ℕ) (occ : Occ) → slice_get f.occs j ≡ Some occ → rank_of f grades t n formed entries layout (n.wiring.S j) ≤ level f (suc (suc (top f entries))) + entries.rank (AtValue j)
  slope_low j occ is = (low_below (suc (entries.rank (AtValue j)))).values j occ is (omega arith)
