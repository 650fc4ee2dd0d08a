-- Each use of an occurrence is claimed, but a test.
use Rattle.std.proofs.Common.{◌≡◌, ◌⊎◌, inl, inr, ℕ, ◌+◌, Bool, true, false, if◌then◌else◌, nat_eq, List, [], ◌∷◌, ◌++◌, map, slice_get, Some, refl, sym, ap, subst, ◌∙◌, arith}
use Rattle.std.proofs.lemmas.Bool.{eqb-true}
use Rattle.zl_value.specs.Lists.{Has}
use Rattle.zl_meaning.specs.FlatForm.{FlatForm, HasForm, HasDefiner}
use Rattle.zl_meaning.specs.Uses.{Use, TestOf, IsUse, AsPart, AsBranch, AsDefiner, AsSlope, AsEvent, AsStart, AsReset, AsTest, AsArgument, AsAgain, parts, steady_parts}
use Rattle.zl_meaning.specs.declared.place.Definer.{Definer as TheDefiner}
use Rattle.zl_meaning.specs.declared.place.Definer.TheVariants.{Plain, Der, Start as Init}
use Rattle.zl_meaning.specs.declared.place.DerArm.{DerArm}
use Rattle.zl_meaning.specs.declared.occurrence.Form.{Form}
use Rattle.zl_meaning.specs.declared.occurrence.Form.TheVariants.{If}
use Rattle.zl_meaning.proofs.Members.{has-left, has-right, has-later, has-none, has-case, has-flat_map, has-map}
use Rattle.zl_normal.specs.declared.role.Role.{Role}
use Rattle.zl_normal.specs.declared.role.Role.TheVariants.{Part, Branch, Both, Definer, Slope, Event, Start, Reset, Argument, Again}
use Rattle.zl_normal.specs.Claims.{Claim, claim, part_claim, branch_claims, form_claims, occ_claims, occs_claims, arm_claims, arms_claims, definer_claims, place_claims, places_claims, site_claim, again_claim, other_claims}
use Rattle.zl_normal.proofs.Claims.FormClaims.{numbered-has}

-- the occurrence is claimed in a list
pub record IsClaimed (cs : List Claim) (j : ℕ) : Type 0 where
  pub role : Role
  pub has : Has cs (claim j role)

module _ (f : FlatForm) (j : ℕ) where
  in-form : (w : ℕ) (form : Form) → HasForm f w form → IsClaimed (form_claims w form) j → IsClaimed (occs_claims 0 f.occs) j
  in-form w form (occ, is, e) c = record { role = c.role; has = numbered-has occ_claims 0 w w f.occs occ (claim j c.role) (from_none w) is (subst (λ (g : Form). Has (form_claims w g) (claim j c.role)) (sym e) c.has) }
    where
      from_none : (n : ℕ) → 0 + n ≡ n
      from_none n = omega arith

  part-claimed : (w : ℕ) (form : Form) → Has (steady_parts form) j → IsClaimed (form_claims w form) j
  part-claimed w (If c x y) h = by_case (has-case c [] j h)
    where
      by_case : (c ≡ j) ⊎ Has [] j → IsClaimed (form_claims w (If c x y)) j
      by_case (inl e) = record { role = Part w; has = record { index = 0; is = ap (λ k. Some (claim k (Part w))) e } }
      by_case (inr g) = absurd (has-none j g)
  part-claimed w form h = record { role = Part w; has = has-map (part_claim w) (parts form) j h }

  branch-claimed : (w c x y : ℕ) (side : Bool) → j ≡ (if side then x else y) → (b : Bool) → nat_eq x y ≡ b → IsClaimed (if b then claim x (Both w c) ∷ [] else claim x (Branch w c true) ∷ claim y (Branch w c false) ∷ []) j
  branch-claimed w c x y true e true g = record { role = Both w c; has = record { index = 0; is = ap (λ k. Some (claim k (Both w c))) (sym e) } }
  branch-claimed w c x y false e true g = record { role = Both w c; has = record { index = 0; is = ap (λ k. Some (claim k (Both w c))) (eqb-true x y g ∙ sym e) } }
  branch-claimed w c x y true e false g = record { role = Branch w c true; has = record { index = 0; is = ap (λ k. Some (claim k (Branch w c true))) (sym e) } }
  branch-claimed w c x y false e false g = record { role = Branch w c false; has = record { index = 1; is = ap (λ k. Some (claim k (Branch w c false))) (sym e) } }

  -- a part is claimed by its whole
  pub whole-claimed : (w : ℕ) (form : Form) → HasForm f w form → Has (steady_parts form) j → IsClaimed (occs_claims 0 f.occs) j
  whole-claimed w form is h = in-form w form is (part-claimed w form h)

  pub if-claimed : (w c x y : ℕ) (side : Bool) → HasForm f w (If c x y) → j ≡ (if side then x else y) → IsClaimed (occs_claims 0 f.occs) j
  if-claimed w c x y side is e =
      let one = branch-claimed w c x y side e (nat_eq x y) refl in
      in-form w (If c x y) is (record { role = one.role; has = has-later (part_claim w c) (branch_claims w c x y) (claim j one.role) one.has })

  in-definer : (p : ℕ) (definer : TheDefiner) → HasDefiner f p definer → IsClaimed (definer_claims p definer) j → IsClaimed (other_claims f) j
  in-definer p definer (place, is, has) c =
      record {
        role = c.role;
        has =
            has-left (places_claims 0 f.places) (map site_claim f.sites ++ map again_claim f.again) (claim j c.role)
            (numbered-has place_claims 0 p p f.places place (claim j c.role) (from_none p) is (has-flat_map (definer_claims p) place.definers definer (claim j c.role) has c.has));
      }
    where
      from_none : (n : ℕ) → 0 + n ≡ n
      from_none n = omega arith

  in-arm : (p b slope n : ℕ) (arms : List DerArm) (arm : DerArm) → HasDefiner f p (Der b slope arms) → slice_get arms n ≡ Some arm → IsClaimed (arm_claims p n arm) j → IsClaimed (other_claims f) j
  in-arm p b slope n arms arm has is c =
      in-definer p (Der b slope arms) has
      (record { role = c.role; has = has-later (claim slope (Slope p)) (arms_claims p 0 arms) (claim j c.role) (numbered-has (arm_claims p) 0 n n arms arm (claim j c.role) (from_none n) is c.has) })
    where
      from_none : (n : ℕ) → 0 + n ≡ n
      from_none n = omega arith

  -- what is no part of a whole and no test is claimed otherwise
  pub use-claimed : (of : Use) → (of ≡ TestOf → ⊥) → IsUse f j of → IsClaimed (occs_claims 0 f.occs ++ other_claims f) j
  use-claimed of not_test used = by_case of used not_test
    where
      first : IsClaimed (occs_claims 0 f.occs) j → IsClaimed (occs_claims 0 f.occs ++ other_claims f) j
      first c = record { role = c.role; has = has-left (occs_claims 0 f.occs) (other_claims f) (claim j c.role) c.has }

      second : IsClaimed (other_claims f) j → IsClaimed (occs_claims 0 f.occs ++ other_claims f) j
      second c = record { role = c.role; has = has-right (occs_claims 0 f.occs) (other_claims f) (claim j c.role) c.has }

      behind : IsClaimed (map site_claim f.sites ++ map again_claim f.again) j → IsClaimed (other_claims f) j
      behind c = record { role = c.role; has = has-right (places_claims 0 f.places) (map site_claim f.sites ++ map again_claim f.again) (claim j c.role) c.has }

      by_case : (u : Use) → IsUse f j u → (u ≡ TestOf → ⊥) → IsClaimed (occs_claims 0 f.occs ++ other_claims f) j
      by_case _ (AsPart whole form is has) n = first (whole-claimed whole form is has)
      by_case _ (AsBranch whole c x y side is e) n = first (if-claimed whole c x y side is e)
      by_case _ (AsDefiner p b call has e) n = second (in-definer p (Plain b j) has (record { role = Definer p; has = record { index = 0; is = refl } }))
      by_case _ (AsSlope p b resets call has e) n = second (in-definer p (Der b j resets) has (record { role = Slope p; has = record { index = 0; is = refl } }))
      by_case _ (AsEvent p b slope resets arm call has within same e) n =
          second (in-arm p b slope within.index resets arm has within.is (record { role = Event p; has = record { index = 0; is = ap (λ k. Some (claim k (Event p))) same } }))
      by_case _ (AsStart p b call has e) n = second (in-definer p (Init b j) has (record { role = Start p; has = record { index = 0; is = refl } }))
      by_case _ (AsReset p b slope m resets arm call has is same e) n =
          second (in-arm p b slope m resets arm has is (record { role = Reset p m; has = record { index = 1; is = ap (λ k. Some (claim k (Reset p m))) same } }))
      by_case _ (AsTest test) n = absurd (n refl)
      by_case _ (AsArgument m site is e) n =
          second (behind (record { role = Argument; has = has-left (map site_claim f.sites) (map again_claim f.again) (claim j Argument) (subst (λ k. Has (map site_claim f.sites) (claim k Argument)) e (has-map site_claim f.sites site (record { index = m; is = is }))) }))
      by_case _ (AsAgain has) n = second (behind (record { role = Again; has = has-right (map site_claim f.sites) (map again_claim f.again) (claim j Again) (has-map again_claim f.again j has) }))
