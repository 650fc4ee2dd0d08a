use Rattle.std.proofs.Common.{◌≡◌, ap, subst, ◌∙◌, length, replicate, arith}
use Rattle.zl_meaning.specs.FlatForm.{FlatForm}
use Rattle.zl_meaning.specs.WellFormed.{IsWellFormed}
use Rattle.zl_normal.specs.declared.role.Role.TheVariants.{Unused}
use Rattle.zl_normal.specs.Roles.{AreRoles}
use Rattle.zl_normal.specs.Claims.{claim_all, occs_claims, other_claims}
use Rattle.zl_normal.proofs.Claims.AllRoles.{all_roles}
use Rattle.zl_normal.proofs.Claims.ClaimLaws.{claiming}
use Rattle.zl_normal.proofs.roles.roles_of.Goals as goal

pub returns : goal.returns
returns c =
    let f : FlatForm = c.args.flat.now in
    let well : IsWellFormed f = subst IsWellFormed c.flat.view_is c.flat.invariant in
    let occs = c.as_slice.ensures ∙ ap (λ (g : FlatForm). g.occs) c.flat.view_is in
    let places = c.as_slice-2.ensures ∙ ap (λ (g : FlatForm). g.places) c.flat.view_is in
    let sites = c.as_slice-3.ensures ∙ ap (λ (g : FlatForm). g.sites) c.flat.view_is in
    let again = c.as_slice-4.ensures ∙ ap (λ (g : FlatForm). g.again) c.flat.view_is in
    let len = c.len.ensures ∙ ap (λ (g : FlatForm). length g.occs) c.flat.view_is in
    let start : c.in_ok-roles.roles.items ≡ replicate (length f.occs) Unused = c.in_ok-roles.ensures.items_if_clones_equal (λ a e. e) ∙ ap (λ n. replicate n Unused) len in
    let same : claim_all (other_claims f) (claim_all (occs_claims 0 f.occs) (replicate (length f.occs) Unused)) ≡ c.claim_again.new.roles.items =
    grind (arith, claiming, start, occs, places, sites, again, c.claim_occs.ensures, c.in_ok-claim_occs.ensures, c.claim_places.ensures, c.in_ok-claim_places.ensures, c.claim_sites.ensures, c.claim_again.ensures) in
    subst (AreRoles f) same (all_roles f well c.requires.main c.requires.single)
