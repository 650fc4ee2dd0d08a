-- The first claims on the occurrences of a form are their roles.
use Rattle.std.proofs.Common.{◌≡◌, ◌⊎◌, inl, inr, ℕ, zero, suc, ◌<◌, true, false, List, [], ◌∷◌, ◌++◌, length, slice_get, replicate, Option, Some, None, refl, sym, ap, subst, ◌∙◌, arith}
use Rattle.std.proofs.lemmas.Option.{slice_get_within, slice_get-get_or, get_or_from_slice_get}
use Rattle.std.proofs.lemmas.List.{get_or-replicate, length-replicate}
use Rattle.zl_value.specs.Lists.{Has}
use Rattle.zl_meaning.specs.FlatForm.{FlatForm}
use Rattle.zl_meaning.specs.WellFormed.{IsWellFormed}
use Rattle.zl_meaning.specs.Uses.{Use, PartOf, TestOf, IsUse, AsPart, AsTest, IsTest, uses_of}
use Rattle.zl_meaning.specs.Single.{IsSingle, IsOneUse}
use Rattle.zl_meaning.specs.declared.occurrence.Occ.{Occ}
use Rattle.zl_meaning.proofs.Members.{has-append_case}
use Rattle.zl_meaning.proofs.UseCases.{use-of-listed}
use Rattle.zl_normal.specs.declared.role.Role.{Role}
use Rattle.zl_normal.specs.declared.role.Role.TheVariants.{Unused, Part, Branch, Both}
use Rattle.zl_normal.specs.MainBlock.{IsMain}
use Rattle.zl_normal.specs.Roles.{IsRole, AreRoles}
use Rattle.zl_normal.specs.Claims.{Claim, claim, is_free, claim_all, occs_claims, other_claims}
use Rattle.zl_normal.proofs.Claims.ClaimLaws.{claim_all-append}
use Rattle.zl_normal.proofs.Claims.Claiming.{all-size, all-stays, all-there, all-from, all-taken}
use Rattle.zl_normal.proofs.Claims.FormClaims.{Sound, IsOfWhole, sound-taken, occs-sound, others-sound}
use Rattle.zl_normal.proofs.Claims.UsesClaimed.{whole-claimed, use-claimed}
use Rattle.zl_normal.proofs.Claims.FirstClaims.{no-test, none-of, role-of-sound}

whole_or_not : (role : Role) → IsOfWhole role ⊎ (IsOfWhole role → ⊥)
whole_or_not (Part w) = inl tt
whole_or_not (Branch w c side) = inl tt
whole_or_not (Both w c) = inl tt
whole_or_not role = inr (λ no. no)

no_role : (n i : ℕ) (role : Role) → slice_get (replicate n Unused) i ≡ Some role → role ≡ Unused
no_role n i role is =
    let within : i < length (replicate n Unused) = slice_get_within (replicate n Unused) i role is in
    let inside : i < n = subst (λ m. i < m) (length-replicate n Unused) within in
    sym (get_or_from_slice_get (replicate n Unused) i role Unused is) ∙ get_or-replicate n i Unused Unused inside

tested : (f : FlatForm) (j : ℕ) (of : Use) → IsUse f j of → of ≡ TestOf → IsTest f j
tested f j _ (AsTest test) e = test
tested f j _ used e = absurd (cc)

same_role : (a b : Role) → Some a ≡ Some b → a ≡ b
same_role a b e = cc

none_within : (occs : List Occ) (j : ℕ) → j < length occs → slice_get occs j ≡ None → ⊥
none_within [] j l e = omega arith
none_within (occ ∷ occs) zero l e = cc
none_within (occ ∷ occs) (suc j) l e = none_within occs j (omega arith) e

module _ (f : FlatForm) (well : IsWellFormed f) (main : IsMain f) (single : IsSingle f) where
  abbrev none : List Role
  none = replicate (length f.occs) Unused

  abbrev middle : List Role
  middle = claim_all (occs_claims 0 f.occs) none

  abbrev final : List Role
  final = claim_all (other_claims f) middle

  final-size : length final ≡ length f.occs
  final-size = all-size (other_claims f) middle ∙ all-size (occs_claims 0 f.occs) none ∙ length-replicate (length f.occs) Unused

  module _ (j : ℕ) (role : Role) (is : slice_get final j ≡ Some role) where
    within : j < length f.occs
    within = subst (λ n. j < n) final-size (slice_get_within final j role is)

    first : slice_get none j ≡ Some Unused
    first =
        let inside : j < length none = subst (λ n. j < n) (sym (length-replicate (length f.occs) Unused)) within in
        slice_get-get_or none j Unused inside ∙ ap (λ (r : Role). Some r) (get_or-replicate (length f.occs) j Unused Unused within)

    -- what a whole has as a part has a role in it
    beside_whole : (w : ℕ) → IsUse f j (PartOf w) → IsOfWhole role
    beside_whole w (AsPart whole form there steady) =
        let claimed = whole-claimed f j whole form there steady in
        let sound = occs-sound f (claim j claimed.role) claimed.has in
        let has = all-there (occs_claims 0 f.occs) none j Unused first in
        let taken = all-taken (occs_claims 0 f.occs) none (claim j claimed.role) Unused has.0 claimed.has (sound-taken f j claimed.role sound.0) first has.1 in
        let stays = all-stays (other_claims f) middle j has.0 has.1 taken in
        let same : has.0 ≡ role = same_role has.0 role (sym stays ∙ is) in
        by_from has.0 same taken (all-from (occs_claims 0 f.occs) none j has.0 has.1)
      where
        clash : (r : Role) → r ≡ Unused → is_free (Some r) ≡ false → ⊥
        clash r e g = let bad : true ≡ false = sym (ap (λ x. is_free (Some x)) e) ∙ g in cc

        by_from : (r : Role) → r ≡ role → is_free (Some r) ≡ false → Has (occs_claims 0 f.occs) (claim j r) ⊎ (slice_get none j ≡ Some r) → IsOfWhole role
        by_from r e taken (inl g) = subst IsOfWhole e (occs-sound f (claim j r) g).1
        by_from r e taken (inr g) = absurd (clash r (no_role (length f.occs) j r g) taken)

    by_other : (one : IsOneUse f j (uses_of f j)) → Sound f j role → IsOfWhole role ⊎ (IsOfWhole role → ⊥) → IsRole f j role
    by_other one sound (inl of) = role-of-sound f well main j one role sound (inl of)
    by_other one sound (inr not) = role-of-sound f well main j one role sound (inr (λ w has. not (beside_whole w (use-of-listed f j (PartOf w) has))))

    -- what has no role has no use
    by_none : role ≡ Unused → IsRole f j role
    by_none e = subst (IsRole f j) (sym e) (none-of (uses_of f j) (λ of has. unused of (use-of-listed f j of has)))
      where
        sound_claim : (c : Claim) → Has (occs_claims 0 f.occs ++ other_claims f) c → Sound f c.occ c.role
        sound_claim c has = by_case (has-append_case (occs_claims 0 f.occs) (other_claims f) c has)
          where
            by_case : Has (occs_claims 0 f.occs) c ⊎ Has (other_claims f) c → Sound f c.occ c.role
            by_case (inl g) = (occs-sound f c g).0
            by_case (inr g) = others-sound f c g

        together : slice_get (claim_all (occs_claims 0 f.occs ++ other_claims f) none) j ≡ Some role
        together = ap (λ roles. slice_get roles j) (claim_all-append (occs_claims 0 f.occs) (other_claims f) none) ∙ is

        unused : (of : Use) → IsUse f j of → ⊥
        unused of used =
            let claimed = use-claimed f j of (λ test. no-test f main well j (tested f j of used test)) used in
            let taken = all-taken (occs_claims 0 f.occs ++ other_claims f) none (claim j claimed.role) Unused role claimed.has (sound-taken f j claimed.role (sound_claim (claim j claimed.role) claimed.has)) first together in
            let bad : true ≡ false = sym (ap (λ x. is_free (Some x)) e) ∙ taken in
            cc

    each : IsRole f j role
    each = by_other_claim (all-from (other_claims f) middle j role is)
      where
        one : IsOneUse f j (uses_of f j)
        one = has_one (slice_get f.occs j) refl
          where
            has_one : (o : Option Occ) → slice_get f.occs j ≡ o → IsOneUse f j (uses_of f j)
            has_one (Some occ) there = single.uses j occ there
            has_one None there = absurd (none_within f.occs j within there)

        by_occ_claim : Has (occs_claims 0 f.occs) (claim j role) ⊎ (slice_get none j ≡ Some role) → IsRole f j role
        by_occ_claim (inl g) = let sound = occs-sound f (claim j role) g in role-of-sound f well main j one role sound.0 (inl sound.1)
        by_occ_claim (inr g) = by_none (no_role (length f.occs) j role g)

        by_other_claim : Has (other_claims f) (claim j role) ⊎ (slice_get middle j ≡ Some role) → IsRole f j role
        by_other_claim (inl g) = by_other one (others-sound f (claim j role) g) (whole_or_not role)
        by_other_claim (inr g) = by_occ_claim (all-from (occs_claims 0 f.occs) none j role g)

  pub all_roles : AreRoles f final
  all_roles = record { size = final-size; each = each }
