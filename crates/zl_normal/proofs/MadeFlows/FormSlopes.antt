-- In the kernel that is made of a form occurrences and places have the slopes that their forms and definers give.
use Rattle.std.specs.Prelude.{◌≡◌, ℕ, ◌≤◌, Bool, true, false, not, ◌&&◌, if◌then◌else◌, nat_le, List, [], ◌∷◌, length, slice_get, get_or, Option, Some, None}
use Rattle.std.proofs.Common.{refl, sym, ap, ◌∙◌, subst, ◌⊎◌, inl, inr}
use Rattle.std.proofs.lemmas.Bool.{and_from, or_left, or_right, not_from_false, eqb-true, le-leb}
use Rattle.zl_value.specs.Lists.{Has}
use Rattle.zl_value.specs.declared.value.Ty.TheVariants.{Float}
use Rattle.zl_meaning.specs.FlatForm.{FlatForm}
use Rattle.zl_meaning.specs.WellFormed.{IsWellFormed}
use Rattle.zl_meaning.specs.Single.{IsSingle}
use Rattle.zl_meaning.specs.Reading.{HasNodeRanks}
use Rattle.zl_meaning.specs.declared.place.Definer.{Definer}
use Rattle.zl_meaning.specs.declared.place.Definer.TheVariants.{Input, Plain, Der, Start}
use Rattle.zl_meaning.specs.declared.place.PlaceInfo.{PlaceInfo}
use Rattle.zl_meaning.specs.declared.occurrence.Form.{Form}
use Rattle.zl_meaning.specs.declared.occurrence.Form.TheVariants.{Lit, Read, Last as LastOf, Op as Apply, If as IfOf, Arrow, Pre, Result, Up, Fired, Step as AtSteps}
use Rattle.zl_meaning.specs.declared.occurrence.Occ.{Occ}
use Rattle.zl_kernel.specs.KernelForm.{KernelForm}
use Rattle.zl_kernel.specs.FlowWires.{is_of_flows}
use Rattle.zl_normal.specs.FormWires.{IsBlankName}
use Rattle.zl_normal.specs.MainBlock.{IsMain}
use Rattle.zl_normal.specs.PlaceWires.{definer_of}
use Rattle.zl_normal.specs.SlopeWires.{Moves, IsAppended, IsChosenSlope, Kept, Either, IsFormSlope, IsSlope, IsPlaceSlope}
use Rattle.zl_normal.specs.Tables.{Tables, is_float, is_graded, is_still, has_no_definers, is_blank_place, is_blank_form, is_blank_occ, moves}
use Rattle.zl_normal.specs.Keys.{keys}
use Rattle.zl_normal.specs.KernelOf.{Numbers, slope_wire, kernel_of}
use Rattle.zl_normal.specs.Layout.{IsLayout, IsSlopeAt, IsMotionAt}
use Rattle.zl_normal.specs.Roles.{AreRoles}
use Rattle.zl_normal.specs.HasSlopes.{HasSlopes}
use Rattle.zl_normal.specs.declared.key.Key.TheVariants.{Slope}
use Rattle.zl_normal.proofs.Slopes.MovingPlaces.{no_start}
use Rattle.zl_normal.proofs.MadeFlows.SlopeRoots.{own_there}
use Rattle.zl_normal.proofs.MadeFlows.Named.{occ_is}
use Rattle.zl_normal.proofs.MadeFlows.Alone.{slope_alone}
use Rattle.zl_normal.proofs.MadeFlows.OperatorSlopes.{wire_there, still_slope, operator_slope}

-- a name of a place that is never defined
module _ (f : FlatForm) where
  no_definers : (definers : List Definer) → has_no_definers definers ≡ true → definers ≡ []
  no_definers [] e = refl
  no_definers (d ∷ definers) e = absurd cc

  blank_form : (y : ℕ) (occ : Occ) → slice_get f.occs y ≡ Some occ → (form : Form) → occ.form ≡ form → is_blank_form f form ≡ true → IsBlankName f y
  blank_form y occ is (Read p) e blank = by (slice_get f.places p) refl blank
    where
      by : (o : Option PlaceInfo) → slice_get f.places p ≡ o → is_blank_place o ≡ true → IsBlankName f y
      by None at q = absurd cc
      by (Some place) at q = record { occ = occ; p = p; place = place; is = is; form = e; place_is = at; definers = no_definers place.definers q }
  blank_form y occ is form e blank = absurd cc

  pub blank_name : (y : ℕ) → is_blank_occ f (slice_get f.occs y) ≡ true → IsBlankName f y
  blank_name y blank = by (slice_get f.occs y) refl blank
    where
      by : (o : Option Occ) → slice_get f.occs y ≡ o → is_blank_occ f o ≡ true → IsBlankName f y
      by None at q = absurd cc
      by (Some occ) at q = blank_form y occ at occ.form refl q

module _ (f : FlatForm) (grades : List ℕ) (t : Tables) (n : Numbers) (names : List (List ℕ)) (formed : IsWellFormed f) (main : IsMain f) (single : IsSingle f) (entries : HasNodeRanks f) (roles : AreRoles f t.roles) (has : HasSlopes f grades) (layout : IsLayout f grades t n) where
  abbrev k : KernelForm
  k = kernel_of f grades t n names

  chosen_slope : (j : ℕ) (occ : Occ) → slice_get f.occs j ≡ Some occ → moves grades j occ ≡ true → (c x y : ℕ) → occ.form ≡ IfOf c x y → n.wiring.S j ≡ (if is_blank_occ f (slice_get f.occs y) then n.wiring.S x else n.wire (Slope j)) → IsChosenSlope f grades k n.wiring j c x y
  chosen_slope j occ is m c x y e at = by (is_blank_occ f (slice_get f.occs y)) refl
    where
      by : (b : Bool) → is_blank_occ f (slice_get f.occs y) ≡ b → IsChosenSlope f grades k n.wiring j c x y
      by true q = Kept (blank_name f y q) (at ∙ ap (λ b. if b then n.wiring.S x else n.wire (Slope j)) q)
      by false q =
          let own : n.wiring.S j ≡ n.wire (Slope j) = at ∙ ap (λ b. if b then n.wiring.S x else n.wire (Slope j)) q in
          let there : Has (keys f grades t) (Slope j) = own_there f grades t n formed entries layout j occ is m (IfOf c x y) e (not_from_false _ q) (Slope j) (record { index = 0; is = refl }) in
          Either
          (record {
            wire = slope_wire f grades t n j occ (IfOf c x y);
            is = wire_there f grades t n names formed main single entries roles layout (Slope j) there (n.wiring.S j) own
                ∙ ap (λ wire. Some wire) (occ_is f grades t n (λ occ. slope_wire f grades t n j occ occ.form) j occ is ∙ ap (λ form. slope_wire f grades t n j occ form) e);
            def_is = refl;
            guard_is = refl;
          })
          (subst (λ i. is_of_flows k i ≡ true) (sym own) (slope_alone f grades t n names layout j there))

  form_slope : (j : ℕ) (occ : Occ) → slice_get f.occs j ≡ Some occ → moves grades j occ ≡ true → (form : Form) → occ.form ≡ form → IsSlopeAt f grades t n j form → IsFormSlope f grades k n.wiring j occ form
  form_slope j occ is m (Lit v) e at = at ∙ sym layout.wired.zero
  form_slope j occ is m (Read p) e at = at
  form_slope j occ is m (LastOf p) e at = at ∙ sym layout.wired.zero
  form_slope j occ is m (Apply op ks) e at = operator_slope f grades t n names formed main single entries roles layout j occ is m op ks e (has.operators j occ op ks is e m) at
  form_slope j occ is m (IfOf c x y) e at = chosen_slope j occ is m c x y e at
  form_slope j occ is m (Arrow x y) e at = at
  form_slope j occ is m (Pre x) e at = at ∙ sym layout.wired.zero
  form_slope j occ is m (Result x) e at = at
  form_slope j occ is m (Up s) e at = tt
  form_slope j occ is m (Fired ks) e at = tt
  form_slope j occ is m AtSteps e at = tt

  -- the slope of an occurrence
  pub slope_is : (j : ℕ) (occ : Occ) → slice_get f.occs j ≡ Some occ → occ.ty ≡ Float → Moves f grades (kernel_of f grades t n names) n.wiring j ⊎ IsAppended f grades (kernel_of f grades t n names) n.wiring j → IsSlope f grades (kernel_of f grades t n names) n.wiring j occ
  slope_is j occ is ty low = by (is_still grades j) refl
    where
      graded : ((get_or grades j 3 ≤ 1) ⊎ (length grades ≤ j)) → is_graded grades j ≡ true
      graded (inl l) = or_left (nat_le (get_or grades j 3) 1) (nat_le (length grades) j) (le-leb (get_or grades j 3) 1 l)
      graded (inr l) = or_right (nat_le (get_or grades j 3) 1) (nat_le (length grades) j) (le-leb (length grades) j l)

      by : (b : Bool) → is_still grades j ≡ b → IsSlope f grades k n.wiring j occ
      by true still = inl (eqb-true (get_or grades j 3) 0 still, still_slope f grades t n names formed main single entries roles layout j occ is still)
      by false still =
          let m : moves grades j occ ≡ true = and_from (is_float occ.ty) (is_graded grades j && not (is_still grades j)) (ap (λ ty. is_float ty) ty) (and_from (is_graded grades j) (not (is_still grades j)) (graded low) (not_from_false _ still)) in
          inr (form_slope j occ is m occ.form refl (layout.wired.slopes j occ is m))

  -- the slope of a place
  pub place_slope_is : (p : ℕ) (place : PlaceInfo) → slice_get f.places p ≡ Some place → place.ty ≡ Float → IsPlaceSlope f grades (kernel_of f grades t n names) n.wiring p (definer_of place.definers)
  place_slope_is p place is ty = by (definer_of place.definers) refl (layout.wired.motions p place is ty)
    where
      by : (d : Option Definer) → definer_of place.definers ≡ d → IsMotionAt f grades t n p d → IsPlaceSlope f grades k n.wiring p d
      by None e at = at ∙ sym layout.wired.zero
      by (Some (Input i)) e at = at ∙ sym layout.wired.zero
      by (Some (Plain b j)) e at = at
      by (Some (Der b j arms)) e at = tt
      by (Some (Start b j)) e at = no_start place.definers b j e
