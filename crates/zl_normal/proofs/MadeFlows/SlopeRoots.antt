-- The wires of the slopes of occurrences and places are those of the slopes to which their names lead.
use Rattle.std.specs.Prelude.{◌≡◌, ℕ, zero, suc, ◌<◌, Bool, true, false, if◌then◌else◌, List, [], ◌∷◌, slice_get, Option, Some, None, ⊤}
use Rattle.std.specs.List.{AllByRecursion}
use Rattle.std.proofs.Common.{refl, sym, ap, ◌∙◌, arith, subst}
use Rattle.std.proofs.lemmas.Bool.{and_parts, not_from_false, and_from}
use Rattle.zl_value.specs.Lists.{Has}
use Rattle.zl_value.specs.declared.value.Ty.{Ty}
use Rattle.zl_value.specs.declared.value.Ty.TheVariants.{Bool as BoolTy, Int, Float, Zero as ZeroTy}
use Rattle.zl_value.specs.declared.op.Op.{Op}
use Rattle.zl_value.specs.declared.op.Op.TheVariants.{AddFloat, SubFloat}
use Rattle.zl_value.specs.OperatorTypes.{type_of}
use Rattle.zl_meaning.specs.FlatForm.{FlatForm}
use Rattle.zl_meaning.specs.State.{AtPlace, AtValue}
use Rattle.zl_meaning.specs.WellFormed.{Stands, IsForm, IsWellFormed, AllStand}
use Rattle.zl_meaning.specs.Reading.{ReadsForm, HasNodeRanks}
use Rattle.zl_meaning.specs.declared.place.Definer.{Definer}
use Rattle.zl_meaning.specs.declared.place.Definer.TheVariants.{Input, Plain, Der, Start}
use Rattle.zl_meaning.specs.declared.place.PlaceInfo.{PlaceInfo}
use Rattle.zl_meaning.specs.declared.occurrence.Form.{Form}
use Rattle.zl_meaning.specs.declared.occurrence.Form.TheVariants.{Lit, Read, Last as LastOf, Op as Apply, If, Arrow, Pre, Result, Up, Fired, Step as AtSteps}
use Rattle.zl_meaning.specs.declared.occurrence.Occ.{Occ}
use Rattle.zl_normal.specs.PlaceWires.{definer_of}
use Rattle.zl_normal.specs.Tables.{Tables, is_float, is_still, is_blank_occ, moves, has_made_slope, has_form_slope}
use Rattle.zl_normal.specs.Keys.{keys, form_slope_keys, definer_keys}
use Rattle.zl_normal.specs.KernelOf.{Numbers}
use Rattle.zl_normal.specs.Layout.{IsLayout, IsSlopeAt, IsMotionAt, taken_slope}
use Rattle.zl_normal.specs.declared.key.Key.{Key}
use Rattle.zl_normal.specs.declared.key.Key.TheVariants.{Zero, Slope, Motion}
use Rattle.zl_normal.proofs.Slopes.MovingPlaces.{no_start}
use Rattle.zl_normal.proofs.MadeFlows.Placed.{as_slope, StandsFor, stands_for, zero_there, slope_there, definer_there}
use Rattle.zl_normal.proofs.MadeFlows.Roots.{plain_rank, plain_stands, form_reads}

pub float_type : (ty : Ty) → is_float ty ≡ true → ty ≡ Float
float_type Float e = refl
float_type BoolTy e = absurd cc
float_type Int e = absurd cc
float_type ZeroTy e = absurd cc

-- operands are occurrences
pub operand : (f : FlatForm) (b : ℕ) (tys : List Ty) (ks : List ℕ) → AllStand f b tys ks → (i k : ℕ) → slice_get ks i ≡ Some k → (ty : Ty) × Stands f b ty k
operand f b [] [] all i k e = absurd cc
operand f b (ty ∷ tys) (j ∷ ks) all zero k e = let same : j ≡ k = cc in (ty, subst (λ k. Stands f b ty k) same all.0)
operand f b (ty ∷ tys) (j ∷ ks) all (suc i) k e = operand f b tys ks all.1 i k e
operand f b [] (j ∷ ks) all i k e = absurd all
operand f b (ty ∷ tys) [] all i k e = absurd cc

pub operand_rank : (P : ℕ → Type 0) (ks : List ℕ) → AllByRecursion P ks → (i k : ℕ) → slice_get ks i ≡ Some k → P k
operand_rank P [] all i k e = absurd cc
operand_rank P (j ∷ ks) all zero k e = let same : j ≡ k = cc in subst P same all.0
operand_rank P (j ∷ ks) all (suc i) k e = operand_rank P ks all.1 i k e

module _ (f : FlatForm) (grades : List ℕ) (t : Tables) (n : Numbers) (formed : IsWellFormed f) (entries : HasNodeRanks f) (layout : IsLayout f grades t n) where
  named : (key : Key) → Has (keys f grades t) key → as_slope key ≡ true → (m : ℕ) → m ≡ n.wire key → StandsFor as_slope (keys f grades t) m
  named key h e m same = subst (λ i. StandsFor as_slope (keys f grades t) i) (sym same) (stands_for as_slope (keys f grades t) n.wire layout.wires key h e)

  zero_named : (m : ℕ) → m ≡ n.wire Zero → StandsFor as_slope (keys f grades t) m
  zero_named m e = named Zero (zero_there f grades t) refl m e

  moved_to : (m i : ℕ) → m ≡ i → StandsFor as_slope (keys f grades t) i → StandsFor as_slope (keys f grades t) m
  moved_to m i e s = subst (λ i. StandsFor as_slope (keys f grades t) i) (sym e) s

  choose : (b : Bool) (x y : ℕ) → (b ≡ true → StandsFor as_slope (keys f grades t) x) → (b ≡ false → StandsFor as_slope (keys f grades t) y) → StandsFor as_slope (keys f grades t) (if b then x else y)
  choose true x y g k = g refl
  choose false x y g k = k refl

  -- those of occurrences and places of a rank below this one
  record Below (h : ℕ) : Type 0 where
    values : (j : ℕ) (occ : Occ) → slice_get f.occs j ≡ Some occ → entries.rank (AtValue j) < h → StandsFor as_slope (keys f grades t) (n.wiring.S j)
    places : (p : ℕ) (place : PlaceInfo) → slice_get f.places p ≡ Some place → place.ty ≡ Float → entries.rank (AtPlace p) < h → StandsFor as_slope (keys f grades t) (n.wiring.D p)

  -- a slope that has a wire of its own
  pub own_there : (j : ℕ) (occ : Occ) → slice_get f.occs j ≡ Some occ → moves grades j occ ≡ true → (form : Form) → occ.form ≡ form → has_form_slope f grades form ≡ true → (key : Key) → Has (form_slope_keys f grades t j form) key → Has (keys f grades t) key
  own_there j occ is m form e own key h =
      slope_there f grades t j occ key is (and_from _ _ m (ap (λ form. has_form_slope f grades form) e ∙ own)) (subst (λ form. Has (form_slope_keys f grades t j form) key) (sym e) h)

  module _ (h : ℕ) (below : Below h) where
    open below use {values, places}

    taken : (op : Op) (ks : List ℕ) → ((i k : ℕ) → slice_get ks i ≡ Some k → StandsFor as_slope (keys f grades t) (n.wiring.S k)) → StandsFor as_slope (keys f grades t) (taken_slope f grades t n op ks)
    taken AddFloat (a ∷ b ∷ []) part = choose (is_still grades b) _ _ (λ e. part 0 a refl) (λ e. part 1 b refl)
    taken SubFloat (a ∷ b ∷ []) part = part 0 a refl
    taken op ks part = zero_named _ refl

    slope_by_form : (j : ℕ) (occ : Occ) → slice_get f.occs j ≡ Some occ → moves grades j occ ≡ true → (form : Form) → occ.form ≡ form → IsForm f occ.block occ.ty form → ReadsForm f (λ a. entries.rank a < h) (λ a. ⊤) occ.block form → IsSlopeAt f grades t n j form → StandsFor as_slope (keys f grades t) (n.wiring.S j)
    slope_by_form j occ is m (Lit v) e st rd at = zero_named _ at
    slope_by_form j occ is m (Read p) e st rd at = moved_to _ _ at (places p st.place st.is (st.typed ∙ float_type occ.ty (and_parts (is_float occ.ty) _ m).0) rd)
    slope_by_form j occ is m (LastOf p) e st rd at = zero_named _ at
    slope_by_form j occ is m (Apply op ks) e st rd at =
        moved_to _ _ at
        (choose (has_made_slope grades op ks) _ _ (λ own. named (Slope j) (own_there j occ is m (Apply op ks) e own (Slope j) (record { index = 1; is = refl })) refl _ refl)
        (λ other. taken op ks part))
      where
        part : (i k : ℕ) → slice_get ks i ≡ Some k → StandsFor as_slope (keys f grades t) (n.wiring.S k)
        part i k q = let s = (operand f occ.block (type_of op).operands ks st.0 i k q).1 in values k s.occ s.is (operand_rank (λ k. entries.rank (AtValue k) < h) ks rd i k q)
    slope_by_form j occ is m (If c x y) e st rd at =
        moved_to _ _ at
        (choose (is_blank_occ f (slice_get f.occs y)) _ _ (λ blank. values x st.1.occ st.1.is rd.1)
        (λ other. named (Slope j) (own_there j occ is m (If c x y) e (not_from_false _ other) (Slope j) (record { index = 0; is = refl })) refl _ refl))
    slope_by_form j occ is m (Arrow x y) e st rd at = moved_to _ _ at (values y st.1.occ st.1.is rd.2)
    slope_by_form j occ is m (Pre x) e st rd at = zero_named _ at
    slope_by_form j occ is m (Result x) e st rd at = moved_to _ _ at (values x st.occ st.is rd)
    slope_by_form j occ is m (Up s) e st rd at = zero_named _ at
    slope_by_form j occ is m (Fired ks) e st rd at = zero_named _ at
    slope_by_form j occ is m AtSteps e st rd at = zero_named _ at

    slope_by : (j : ℕ) (occ : Occ) → slice_get f.occs j ≡ Some occ → ReadsForm f (λ a. entries.rank a < h) (λ a. ⊤) occ.block occ.form → (b : Bool) → moves grades j occ ≡ b → StandsFor as_slope (keys f grades t) (n.wiring.S j)
    slope_by j occ is rd true m = slope_by_form j occ is m occ.form refl (formed.occs j occ is).form rd (layout.wired.slopes j occ is m)
    slope_by j occ is rd false m = zero_named _ (layout.wired.stills j occ is m)

    motion_by : (p : ℕ) (place : PlaceInfo) → slice_get f.places p ≡ Some place → (d : Option Definer) → definer_of place.definers ≡ d → ((b j : ℕ) → d ≡ Some (Plain b j) → StandsFor as_slope (keys f grades t) (n.wiring.S j)) → IsMotionAt f grades t n p d → StandsFor as_slope (keys f grades t) (n.wiring.D p)
    motion_by p place is None e plain at = zero_named _ at
    motion_by p place is (Some (Input i)) e plain at = zero_named _ at
    motion_by p place is (Some (Plain b j)) e plain at = moved_to _ _ at (plain b j refl)
    motion_by p place is (Some (Der b j arms)) e plain at =
        named (Motion p) (definer_there f grades t p place (Motion p) is (subst (λ d. Has (definer_keys f grades t p place.call d) (Motion p)) (sym e) (record { index = 2; is = refl }))) refl _ at
    motion_by p place is (Some (Start b j)) e plain at = absurd (no_start place.definers b j e)

  lower : (h i : ℕ) → i < suc h → Below h → Below i
  lower h i l b = record {
    values = λ j occ is k. b.values j occ is (omega arith);
    places = λ p place is ty k. b.places p place is ty (omega arith);
  }

  named_below : (h : ℕ) → Below h
  named_below zero = record {
    values = λ j occ is k. absurd (omega arith);
    places = λ p place is ty k. absurd (omega arith);
  }
  named_below (suc h) = record {
    values = λ j occ is k.
        slope_by (entries.rank (AtValue j)) (lower h (entries.rank (AtValue j)) k (named_below h)) j occ is (form_reads f grades t n formed entries layout (entries.rank (AtValue j)) j occ is refl) (moves grades j occ) refl;
    places = λ p place is ty k.
        motion_by (entries.rank (AtPlace p)) (lower h (entries.rank (AtPlace p)) k (named_below h)) p place is (definer_of place.definers) refl
        (λ b j e. let s : Stands f b place.ty j = plain_stands f grades t n formed entries layout p place is b j e in (lower h (entries.rank (AtPlace p)) k (named_below h)).values j s.occ s.is (plain_rank f grades t n formed entries layout p place is b j e))
        (layout.wired.motions p place is ty);
  }

  -- the slope of an occurrence, of a place
  pub slope_named : (j : ℕ) (occ : Occ) → slice_get f.occs j ≡ Some occ → StandsFor as_slope (keys f grades t) (n.wiring.S j)
  slope_named j occ is = (named_below (suc (entries.rank (AtValue j)))).values j occ is (omega arith)

  pub motion_named : (p : ℕ) (place : PlaceInfo) → slice_get f.places p ≡ Some place → place.ty ≡ Float → StandsFor as_slope (keys f grades t) (n.wiring.D p)
  motion_named p place is ty = (named_below (suc (entries.rank (AtPlace p)))).places p place is ty (omega arith)
