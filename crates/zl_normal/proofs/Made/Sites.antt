-- The sites of a form and what demands a further step, in the kernel that is made of it.
use Rattle.std.specs.Prelude.{◌≡◌, ℕ, suc, Bool, true, false, if◌then◌else◌, nat_eq, List, [], ◌∷◌, ◌++◌, map, drop, length, slice_get, Some, None}
use Rattle.std.specs.List.{AllByRecursion}
use Rattle.std.specs.Option.{option_map}
use Rattle.std.proofs.Common.{refl, sym, ap, ◌∙◌, arith, subst, inl, inr}
use Rattle.std.proofs.lemmas.Bool.{eqb-true, eq-eqb}
use Rattle.std.proofs.lemmas.Option.{slice_get-map}
use Rattle.zl_value.specs.Lists.{Has}
use Rattle.zl_value.specs.declared.value.Ty.TheVariants.{Float}
use Rattle.zl_meaning.specs.FlatForm.{FlatForm}
use Rattle.zl_meaning.specs.Uses.{AsPart, AsArgument, AsAgain}
use Rattle.zl_meaning.specs.WellFormed.{Stands, IsForm, IsAgain}
use Rattle.zl_meaning.specs.declared.occurrence.Form.{Form}
use Rattle.zl_meaning.specs.declared.occurrence.Form.TheVariants.{If}
use Rattle.zl_meaning.specs.declared.occurrence.SiteInfo.{SiteInfo}
use Rattle.zl_meaning.proofs.Members.{all-has, has-right}
use Rattle.zl_kernel.specs.KernelForm.{KernelForm}
use Rattle.zl_normal.specs.KernelParts.{IsWire}
use Rattle.zl_normal.specs.Guards.{IsAny, NoneOf, OneOf}
use Rattle.zl_normal.specs.FormWires.{IsOcc}
use Rattle.zl_normal.specs.SiteWires.{IsFresh, IsSiteWire}
use Rattle.zl_normal.specs.Tables.{Tables}
use Rattle.zl_normal.specs.Keys.{each, joints, occ_keys, place_keys, keys}
use Rattle.zl_normal.specs.KernelOf.{Numbers, joined, fresh_form, fresh_occ, site_of, any_again}
use Rattle.zl_normal.specs.declared.key.Key.TheVariants.{No, Again}
use Rattle.zl_normal.proofs.MadeFlows.Placed.{no_there}
use Rattle.zl_normal.proofs.Made.Wires.{IsMade, has_first, solved_as}
use Rattle.zl_normal.proofs.Made.Uses.{part_guard, argument_guard, again_guard}
use Rattle.zl_normal.proofs.Made.Forms.{all_of, any_joined, joint_there}

pub map_length : {X Y : Type 0} (g : X → Y) (xs : List X) → length (map g xs) ≡ length xs
map_length g [] = refl
map_length g (x ∷ xs) = let rest = map_length g xs in cc

module _ (f : FlatForm) (grades : List ℕ) (t : Tables) (n : Numbers) (k : KernelForm) (made : IsMade f grades t n k) where
  pub site_count : length k.sites ≡ length f.sites
  site_count = ap (λ l. length l) made.sites ∙ map_length (site_of f grades t n) f.sites

  module _ (m : ℕ) (site : SiteInfo) (is : slice_get f.sites m ≡ Some site) where
    abbrev stands : Stands f site.block Float site.arg
    stands = (made.formed.sites m site is).argument

    site_there : slice_get k.sites m ≡ Some (site_of f grades t n site)
    site_there = ap (λ l. slice_get l m) made.sites ∙ slice_get-map (site_of f grades t n) f.sites m ∙ ap (λ o. option_map (site_of f grades t n) o) is

    free : n.wiring.G site.arg ≡ None
    free = argument_guard f grades t n k made site.arg stands.occ stands.is (AsArgument m site is refl)

    fresh_by : (form : Form) → stands.occ.form ≡ form → IsForm f stands.occ.block stands.occ.ty form → IsFresh f k n.wiring form (fresh_form f grades t n form)
    fresh_by (If c x y) of st = by (nat_eq x y) refl
      where
        test_free : n.wiring.G c ≡ None
        test_free = part_guard f grades t n k made c st.0.occ st.0.is site.arg (AsPart site.arg (If c x y) (stands.occ, stands.is, of) (has_first _ _)) ∙ free

        by : (b : Bool) → nat_eq x y ≡ b → IsFresh f k n.wiring (If c x y) (if nat_eq x y then n.wiring.w c else n.wiring.fresh)
        by true e = subst (λ b. IsFresh f k n.wiring (If c x y) (if b then n.wiring.w c else n.wiring.fresh)) (sym e) (inl (eqb-true x y e, (st.0.occ, st.0.is), test_free, refl))
        by false e = subst (λ b. IsFresh f k n.wiring (If c x y) (if b then n.wiring.w c else n.wiring.fresh)) (sym e) (inr (λ s. let z = sym e ∙ eq-eqb x y s in cc, refl))
    fresh_by form of st = refl

    pub site_wires : IsSiteWire f k n.wiring m site
    site_wires = record {
      wires = site_of f grades t n site;
      is = site_there;
      occ = stands.occ;
      argument = stands.is;
      guard = free;
      value = refl;
      fresh = subst (λ o. IsFresh f k n.wiring stands.occ.form (fresh_occ f grades t n o)) (sym stands.is) (fresh_by stands.occ.form refl (made.formed.occs site.arg stands.occ stands.is).form);
      slope = refl;
    }

  -- what demands a further step
  again_free : AllByRecursion (λ a. IsOcc f a × (n.wiring.G a ≡ None)) f.again
  again_free = all_of (λ a. IsOcc f a × (n.wiring.G a ≡ None)) f.again by
    where
      by : (a : ℕ) → Has f.again a → IsOcc f a × (n.wiring.G a ≡ None)
      by a h = let it = all-has (IsAgain f) f.again a made.formed.again h in ((it.occ, it.is), again_guard f grades t n k made a it.occ it.is (AsAgain h))

  joint_listed : (m : ℕ) → Has (joints Again 0 f.again) (Again m) → Has (keys f grades t) (Again m)
  joint_listed m h =
      let behind = has-right (each (occ_keys f grades t) 0 f.occs ++ each (place_keys f grades t) 0 f.places) (joints Again 0 f.again) (Again m) h in
      record { index = suc (suc (suc (suc behind.index))); is = behind.is }

  again_any : (all : List ℕ) → f.again ≡ all → IsAny k (map n.wiring.w all) (any_again f grades t n all)
  again_any [] e = NoneOf (n.wire No) (solved_as f grades t n k made No (no_there f grades t) refl _ refl (n.wire No) refl)
  again_any (u ∷ []) e = OneOf (n.wiring.w u)
  again_any (u ∷ v ∷ us) e = any_joined k n.wiring.w (u ∷ v ∷ us) (λ i. n.wire (Again i)) wires us 0 u v refl
    where
      wires : (m a b : ℕ) (vs : List ℕ) → drop m (u ∷ v ∷ us) ≡ a ∷ b ∷ vs → IsWire k (n.wire (Again m)) (joined n.wiring.w (n.wire (Again (suc m))) (a ∷ b ∷ vs)).def (joined n.wiring.w (n.wire (Again (suc m))) (a ∷ b ∷ vs)).guard
      wires m a b vs from =
          let there : drop m f.again ≡ a ∷ b ∷ vs = ap (λ l. drop m l) e ∙ from in
          subst (λ l. IsWire k (n.wire (Again m)) (joined n.wiring.w (n.wire (Again (suc m))) l).def (joined n.wiring.w (n.wire (Again (suc m))) l).guard) there
          (solved_as f grades t n k made (Again m) (joint_listed m (joint_there Again 0 m m f.again a b vs there (omega arith))) refl (joined n.wiring.w (n.wire (Again (suc m))) (drop m f.again)) refl (n.wire (Again m)) refl)

  pub again_wires : AllByRecursion (λ a. IsOcc f a × (n.wiring.G a ≡ None)) f.again × IsAny k (map n.wiring.w f.again) k.again
  again_wires = (again_free, subst (λ m. IsAny k (map n.wiring.w f.again) m) (sym made.again) (again_any f.again refl))
